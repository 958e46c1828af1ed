-- Objects that moved are opened, until none is left.
use Rattle.std.proofs.Common.{◌≡◌, ◌≢◌, ℕ, ◌+◌, ◌-◌, ◌<◌, ◌⊎◌, Bool, true, false, IsTrue, List, [], ◌∷◌, map, length, refl, sym, ap, ◌∙◌, subst, inl, inr, arith}
use Rattle.std.specs.Prelude.{◌||◌, not}
use Rattle.std.proofs.lemmas.List.{length-append}
use Rattle.type_table.specs.declared.info.TypeInfo.{TypeInfo}
use Rattle.type_table.specs.Table.{Table}
use Rattle.object_view.specs.Views.{HasObject, view_at}
use Rattle.object_view.specs.declared.fields.ObjView.{ObjView}
use Rattle.object_model.specs.Object.{object_at}
use Rattle.object_model.specs.Layout.{Layout}
use Rattle.object_model.specs.Sets.{is_in}
use Rattle.object_model.specs.ObjectWords.{layout_at}
use Rattle.object_model.specs.Holds.{HoldsObjects}
use Rattle.object_model.proofs.Members.{is_in-head, is_in-tail, is_in-cases, is_in-named, and_first, and_second, and_both}
use Rattle.store_model.specs.Store.{Store}
use Rattle.store_model.specs.Roots.{is_kept, referents_in}
use Rattle.store_model.specs.Reach.{refers}
use Rattle.store_model.specs.MinorCollection.{is_unsettled, refers_unsettled}
use Rattle.store_model.proofs.FieldChanges.{item-referent, referent-item}
use Rattle.store_model.proofs.Rounds.{LeadsTo-step}
use Rattle.heap_parts.specs.Parts.{HeapParts, word_in, pinned_places}
use Rattle.heap_parts.specs.Places.{is_young, old_places}
use Rattle.frame_laws.proofs.PlaceLaws.{old-is_in, named-by}
use Rattle.minor_collect.specs.declared.work.Moving.{Moving}
use Rattle.minor_collect.specs.Midway.{Follows, Owes, IsDone, is_lasting}
use Rattle.minor_collect.specs.Calls.{Stage, Spot, MayLead, Standing, FollowedItems, CanFollowItems, CanOpen, CanDrain, Drained, AreTodo, item_word, ref_count_at}
use Rattle.minor_collect.proofs.CountLaws.{words_moved}
use Rattle.minor_collect.proofs.EndStands.{item-word}
use Rattle.minor_collect.proofs.FollowLaws.{grows_none}
use Rattle.minor_collect.proofs.GrowLaws.{grows_twice, member-append}
use Rattle.minor_collect.proofs.ItemSteps.{seen}
use Rattle.minor_collect.proofs.OpenStep.{midway_follows}

-- what an object that is to be opened refers to may be found
pub opened_may : {stage : Stage} {now : HeapParts} {moving : Moving} {spot : Spot} (p i : ℕ) → Standing stage now moving spot → IsTrue (is_in p spot.todo) → MayLead stage (spot.placing.name p) i
opened_may {stage = stage} {spot = spot} p i s t y item unsettled =
    let name : ℕ → ℕ = spot.placing.name in
    let f = s.middle.mid.follows in
    let found : IsTrue (is_in (name p) spot.placing.found) = f.trace.opened (name p) (is_in-named name p spot.todo t) in
    let refers : IsTrue (refers stage.store.kept (name p) y) = and_both (is_in y (referents_in (object_at stage.store.kept (name p)))) (is_kept stage.store.kept y)
    (item-referent stage.store.kept (name p) i y item) (and_first (is_kept stage.store.kept y) _ unsettled) in
    LeadsTo-step _ (refers_unsettled stage.store) (name p) y (f.trace.led (name p) found) (and_both (refers_of) (is_unsettled stage.store y) refers unsettled)
  where
    refers_of : Bool
    refers_of = refers stage.store.kept (spot.placing.name p) y

pub open_there : {stage : Stage} {now : HeapParts} {moving : Moving} {spot : Spot} (p : ℕ) → Standing stage now moving spot → IsTrue (is_in p spot.todo) → IsTrue (is_in p (old_places spot.placing.places))
open_there p s t = s.middle.mid.follows.todo_old p t

pub open_object_whole : (now : HeapParts) (moving : Moving) (p : ℕ) → CanOpen now moving p → HasObject now.memory now.setup.types p
open_object_whole now moving p c =
    subst (λ (h : HeapParts). HasObject now.memory h.setup.types p) (sym c.standing.middle.rest) (c.standing.middle.mid.words.whole p (old-is_in c.spot.placing.places p (open_there p c.standing c.there)).0)

pub can_open_items : (now : HeapParts) (moving : Moving) (p to : ℕ) → CanOpen now moving p → CanFollowItems now moving p 0 to
can_open_items now moving p to c = record { stage = c.stage; spot = c.spot; standing = c.standing; there = open_there p c.standing c.there; may = λ i low high. opened_may p i c.standing c.there }

pub open_count : {stage : Stage} {now : HeapParts} {moving : Moving} {spot : Spot} (v : ObjView) (p : ℕ) → Standing stage now moving spot → v ≡ view_at now.setup.types (word_in now) p → v.ref_count ≡ ref_count_at stage now p
open_count v p s is = ap (λ (x : ObjView). x.ref_count) (seen v p s.middle is)

-- an object all of whose references were followed is opened
follows-opened : {types : Table TypeInfo} {store : Store} {remembered : ℕ → ℕ → Bool} {pins : List ℕ} {w name : ℕ → ℕ} {met places found todo less held left : List ℕ} {owes : Owes} (p : ℕ)
    → HoldsObjects types w met places name store.kept → IsTrue (is_in p places)
    → ((q : ℕ) → IsTrue (is_in q less) → IsTrue (is_in q todo)) → ((q : ℕ) → IsTrue (is_in q todo) → (q ≡ p) ⊎ IsTrue (is_in q less))
    → ((j : ℕ) → j < (layout_at types w p).ref_count → IsDone pins places held p (w ((layout_at types w p).ref_start + j)))
    → Follows types store remembered pins w met places name found todo held left owes → Follows types store remembered pins w met places name found less held left owes
follows-opened {types = types} {store = store} {pins = pins} {w = w} {name = name} {places = places} {found = found} {todo = todo} {less = less} {held = held} {left = left} p h t fewer cases done f = record {
  trace = record {
    entered = f.trace.entered;
    followed = λ x y u s. elim (f.trace.followed x y u s) [
      | inl g ↦ gray x y g s
      | inr rest ↦ inr rest
    ];
    opened = λ x u. let n = named-by name x less u in subst (λ (k : ℕ). IsTrue (is_in k found)) (sym n.is) (f.trace.opened (name n.place) (is_in-named name n.place todo (fewer n.place n.there)));
    led = f.trace.led;
    may = f.trace.may;
  };
  todo_old = λ q u. f.todo_old q (fewer q u);
  lasts = f.lasts;
  waits = f.waits;
  gone = f.gone;
  looked = λ q j u l b. elim (f.looked q j u l b) [
    | inl g ↦ elim (cases q g) [
      | inl e ↦ inr (inr (inr (
          let P : ℕ → Type 0 = λ k. j < (layout_at types w k).ref_count → IsDone pins places held k (w ((layout_at types w k).ref_start + j)) in subst P (sym e) (done j) b)))
      | inr v ↦ inl v
    ]
    | inr rest ↦ inr rest
  ];
}
  where
    lasting-found : (z : ℕ) → IsTrue (is_in z places) → IsTrue (is_lasting pins z) → IsTrue (is_unsettled store (name z)) → IsTrue (is_in (name z) found)
    lasting-found z u l un = f.lasts z u l un

    done-found : (z : ℕ) → z ≢ 0 → IsTrue (is_unsettled store (name z)) → IsDone pins places held p z → IsTrue (is_in (name z) found)
    done-found z ne un (inl e) = absurd (ne e)
    done-found z ne un (inr (inl old)) = lasting-found z old.0 (rw old.1 refl) un
    done-found z ne un (inr (inr pin)) = lasting-found z pin.0 (lasts (is_young z) (is_in z pins) pin.1.0) un
      where
        lasts : (young pinned : Bool) → IsTrue pinned → IsTrue (not young || pinned)
        lasts true pinned u = u
        lasts false pinned u = refl

    step-found : (y : ℕ) → IsTrue (refers_unsettled store (name p) y) → IsTrue (is_in y found)
    step-found y s =
        let unsettled = and_second (refers store.kept (name p) y) (is_unsettled store y) s in
        let item = referent-item store.kept (name p) y (and_first (is_in y (referents_in (object_at store.kept (name p)))) (is_kept store.kept y) (and_first (refers store.kept (name p) y) (is_unsettled store y) s)) in
        let word = item-word p item.0 y h t item.1 in
        let z : ℕ = w ((layout_at types w p).ref_start + item.0) in
        subst (λ (k : ℕ). IsTrue (is_in k found)) word.named (done-found z word.some (subst (λ (k : ℕ). IsTrue (is_unsettled store k)) (sym word.named) unsettled) (done item.0 word.within))

    gray : (x y : ℕ) → IsTrue (is_in x (map name todo)) → IsTrue (refers_unsettled store x y) → IsTrue (is_in x (map name less)) ⊎ (IsTrue (is_in y found) ⊎ IsTrue (is_in y left))
    gray x y u s =
        let n = named-by name x todo u in
        elim (cases n.place n.there) [
          | inl e ↦ inr (inl (step-found y (subst (λ (k : ℕ). IsTrue (refers_unsettled store k y)) (n.is ∙ ap name e) s)))
          | inr v ↦ inl (subst (λ (k : ℕ). IsTrue (is_in k (map name less))) (sym n.is) (is_in-named name n.place less v))
        ]

-- so far, what the code lists is to be opened
pub record DrainsTo (old now : HeapParts) (moving_old moving_now : Moving) : Type 0 where
  pub each : (stage : Stage) (spot : Spot) → Standing stage old moving_old spot → AreTodo spot moving_old → Drained stage old now moving_now spot

pub drain_begin : (now : HeapParts) (moving : Moving) → DrainsTo now now moving moving
drain_begin now moving = record {
  each = λ stage spot s todo. record { after = spot; standing = s; grows = grows_none stage spot; todo = todo; owes_same = refl; only = refl };
}

-- the counts of the code are all that a middle asks of it
pub with_counts : {stage : Stage} {now : HeapParts} {moving more : Moving} {spot : Spot} → more.objects ≡ moving.objects → more.words ≡ moving.words → Standing stage now moving spot → Standing stage now more spot
with_counts objects words s = record {
  middle = s.middle;
  counted = record { objects = objects ∙ s.counted.objects; words = words ∙ s.counted.words };
  lists = s.lists;
  linked = s.linked;
  held = s.held;
}

module _ {stage : Stage} {old now new : HeapParts} {moving popped more : Moving} {spot : Spot} {p : ℕ} (d : Drained stage old now moving spot)
    (items : moving.todo.items ≡ p ∷ popped.todo.items) (f : FollowedItems stage now new popped more d.after p 0 (ref_count_at stage now p)) where
  abbrev less : List ℕ
  less = more.todo.items

  told : (q : ℕ) → is_in q f.after.todo ≡ (is_in q (p ∷ popped.todo.items) || is_in q f.adds.added)
  told q = f.adds.told q ∙ (member-append q d.after.todo f.adds.added ∙ ap (λ (b : Bool). b || is_in q f.adds.added) (d.todo q ∙ ap (is_in q) items))

  code : (q : ℕ) → is_in q less ≡ (is_in q popped.todo.items || is_in q f.adds.added)
  code q = ap (is_in q) f.adds.in_code ∙ member-append q popped.todo.items f.adds.added

  or-left : (a b : Bool) → IsTrue (a || b) → IsTrue a ⊎ IsTrue b
  or-left true b t = inl refl
  or-left false b t = inr t

  or-first : (a b : Bool) → IsTrue a → IsTrue (a || b)
  or-first true b t = refl
  or-first false b t = absurd (let no : ⊥ = cc in no)

  or-second : (a b : Bool) → IsTrue b → IsTrue (a || b)
  or-second true b t = refl
  or-second false b t = t

  fewer : (q : ℕ) → IsTrue (is_in q less) → IsTrue (is_in q f.after.todo)
  fewer q t = told q ∙ elim (or-left (is_in q popped.todo.items) (is_in q f.adds.added) (sym (code q) ∙ t)) [
    | inl u ↦ or-first (is_in q (p ∷ popped.todo.items)) (is_in q f.adds.added) (is_in-tail q p popped.todo.items u)
    | inr u ↦ or-second (is_in q (p ∷ popped.todo.items)) (is_in q f.adds.added) u
  ]

  cases : (q : ℕ) → IsTrue (is_in q f.after.todo) → (q ≡ p) ⊎ IsTrue (is_in q less)
  cases q t = elim (or-left (is_in q (p ∷ popped.todo.items)) (is_in q f.adds.added) (sym (told q) ∙ t)) [
    | inl u ↦ elim (is_in-cases q p popped.todo.items u) [
      | inl e ↦ inl e
      | inr v ↦ inr (code q ∙ or-first (is_in q popped.todo.items) (is_in q f.adds.added) v)
    ]
    | inr u ↦ inr (code q ∙ or-second (is_in q popped.todo.items) (is_in q f.adds.added) u)
  ]

  abbrev last : Spot
  last = record f.after { todo = less }

  there : IsTrue (is_in p d.after.todo)
  there = d.todo p ∙ ap (is_in p) items ∙ is_in-head p popped.todo.items

  place : IsTrue (is_in p f.after.placing.places)
  place = let o = old-is_in d.after.placing.places p (open_there p d.standing there) in f.grows.stay p o.0 (rw o.1 refl)

  done-all : (j : ℕ) → j < (layout_at stage.start.setup.types (word_in new) p).ref_count → IsDone (pinned_places stage.start) f.after.placing.places f.after.held p (item_word stage new p j)
  done-all j l = let less : j < ref_count_at stage now p = subst (λ (k : Layout). j < k.ref_count) f.keeps.layout_stays l in f.done j (omega arith) less less

  -- one object more is opened
  pub drain_step : Drained stage old new more spot
  drain_step =
      let m = f.standing.middle in record {
        after = last;
        standing = record {
          middle = record { mid = midway_follows m.mid (follows-opened p m.mid.words.objects place fewer cases done-all m.mid.follows); rest = m.rest; sizes = m.sizes };
          counted = f.standing.counted;
          lists = f.standing.lists;
          linked = f.standing.linked;
          held = f.standing.held;
        };
        grows = grows_twice d.grows (record { met = f.grows.met; names = f.grows.names; stay = f.grows.stay; found = f.grows.found; held = f.grows.held });
        todo = λ q. refl;
        owes_same = f.owes_same ∙ d.owes_same;
        only = f.only ∙ ap (λ (h : HeapParts). record h { memory = new.memory; shadows = new.shadows; old_blocks = new.old_blocks; links = new.links; remembered = new.remembered }) d.only;
      }

  -- and the code has less to do
  pub drain_less : popped.words ≡ moving.words → (old.unsettled - more.words) + length more.todo.items < (old.unsettled - moving.words) + length moving.todo.items
  drain_less words_same =
      let moved = words_moved drain_step.standing.middle in
      let whole : old.unsettled ≡ stage.start.unsettled = sym (ap (λ (h : HeapParts). h.unsettled) drain_step.only) ∙ ap (λ (h : HeapParts). h.unsettled) drain_step.standing.middle.rest in
      let long : length more.todo.items ≡ length popped.todo.items + length f.adds.added = ap length f.adds.in_code ∙ length-append popped.todo.items f.adds.added in
      let before : length moving.todo.items ≡ length popped.todo.items + 1 = ap length items ∙ omega arith in
      omega (arith, moved, whole, long, before, f.adds.grown, words_same, drain_step.standing.counted.words)

-- what the code takes off is to be opened
pub popped_there : {stage : Stage} {old now : HeapParts} {moving : Moving} {spot : Spot} {p : ℕ} {rest : List ℕ} (d : Drained stage old now moving spot) → moving.todo.items ≡ p ∷ rest → IsTrue (is_in p d.after.todo)
popped_there {p = p} {rest = rest} d items = d.todo p ∙ ap (is_in p) items ∙ is_in-head p rest

pub can_open : {old now : HeapParts} {first moving popped : Moving} {p : ℕ} (c : CanDrain old first) → DrainsTo old now first moving → moving.todo.items ≡ p ∷ popped.todo.items
    → popped.objects ≡ moving.objects → popped.words ≡ moving.words → CanOpen now popped p
can_open {popped = popped} {p = p} c s items objects words =
    let d = s.each c.stage c.spot c.standing c.todo in
    record { stage = c.stage; spot = d.after; standing = with_counts objects words d.standing; there = popped_there d items }

-- nothing is left to do where the code lists nothing
pub drain_end : {stage : Stage} {old now : HeapParts} {moving more : Moving} {spot : Spot} → Drained stage old now moving spot → more.todo.items ≡ moving.todo.items → more.objects ≡ moving.objects → more.words ≡ moving.words
    → Drained stage old now more spot
drain_end d items objects words = record {
  after = d.after;
  standing = with_counts objects words d.standing;
  grows = d.grows;
  todo = λ q. d.todo q ∙ ap (is_in q) (sym items);
  owes_same = d.owes_same;
  only = d.only;
}
