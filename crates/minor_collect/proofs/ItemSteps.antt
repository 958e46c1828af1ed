-- The steps by which one reference is followed, joined.
use Rattle.std.proofs.Common.{◌≡◌, ◌≢◌, ℕ, ◌+◌, ◌<◌, Bool, true, false, IsTrue, List, [], ◌∷◌, Option, Some, refl, sym, ap, ◌∙◌, subst, inl, inr, arith}
use Rattle.std.specs.Prelude.{◌||◌, not, if◌then◌else◌, slice_get}
use Rattle.std.proofs.lemmas.Bool.{cases_Bool, ne_eqb}
use Rattle.type_table.specs.declared.info.TypeInfo.{TypeInfo}
use Rattle.type_table.specs.Table.{Table}
use Rattle.heap_space.specs.Places.{lies_in_one}
use Rattle.heap_space.specs.Memory.{Memory}
use Rattle.object_view.specs.Views.{HasView, view_at}
use Rattle.object_view.specs.declared.fields.ObjView.{ObjView}
use Rattle.object_view.proofs.LayoutLaws.{laid_out, SameAt, KeepsLayout, keeps-same}
use Rattle.object_view.proofs.FoundLaws.{found-at, ref-from}
use Rattle.object_model.specs.Layout.{Layout}
use Rattle.object_model.specs.Object.{Object}
use Rattle.object_model.specs.Fields.{refs_of}
use Rattle.object_model.specs.Sets.{is_in}
use Rattle.object_model.specs.ObjectWords.{renamed, words_at, layout_at, object_from}
use Rattle.object_model.specs.Holds.{HoldsObjects, IsPointer}
use Rattle.object_model.proofs.Members.{is_in-head, is_in-tail, is_in-cases}
use Rattle.store_model.specs.MarkingOrder.{IsItem}
use Rattle.remember_cards.specs.Remembered.{is_held_whole}
use Rattle.heap_parts.specs.Parts.{HeapParts, word_in, pinned_places}
use Rattle.heap_parts.specs.Places.{is_young, old_places}
use Rattle.heap_parts.specs.Effects.{with_word_at}
use Rattle.frame_laws.proofs.PlaceLaws.{old-is_in, is_in-old}
use Rattle.minor_collect.specs.declared.work.Moving.{Moving}
use Rattle.minor_collect.specs.Midway.{is_lasting, IsLasting, IsDone, FollowsLists}
use Rattle.minor_collect.specs.Calls.{Stage, Spot, Middle, MayBeFound, MayLead, Standing, Grows, Followed, FollowedItem, HeldFor, CanFollow, CanFollowItem, CanHold, leads_young, spot_held, item_word, linked_places}
use Rattle.minor_collect.proofs.Ended.{some-item}
use Rattle.minor_collect.proofs.ItemLaws.{middle_item, item_layouts, item_here, item_other}

-- an item that leads somewhere refers to the object there
pub item-of : {types : Table TypeInfo} {w name : ℕ → ℕ} {met places : List ℕ} {kept : List Object} (p i : ℕ) → HoldsObjects types w met places name kept → IsTrue (is_in p places)
    → i < (layout_at types w p).ref_count → w ((layout_at types w p).ref_start + i) ≢ 0 → IsItem kept (name p) i (name (w ((layout_at types w p).ref_start + i)))
item-of {types = types} {w = w} {name = name} p i h t l some =
    let o : Object = object_from types name w p in
    let x : ℕ = w ((layout_at types w p).ref_start + i) in
    let named : renamed name x ≡ Some (name x) = rw (ne_eqb x 0 some) refl in
    ap (λ (f : Option Object). slice_get (refs_of f) i) (found-at p h t) ∙ some-item o.refs i (name x) (ref-from types name w p i l ∙ named)

pub keeps-twice : {types : Table TypeInfo} {u v w : ℕ → ℕ} {p : ℕ} → KeepsLayout types u v p → KeepsLayout types v w p → KeepsLayout types u w p
keeps-twice a b = record {
  type_stays = a.type_stays ∙ b.type_stays;
  header = λ l. a.header (b.header l);
  birth_stays = a.birth_stays ∙ b.birth_stays;
  layout_stays = a.layout_stays ∙ b.layout_stays;
}

-- what is outside the nursery lasts
pub old_lasts : (pins : List ℕ) (p : ℕ) → is_young p ≡ false → IsTrue (is_lasting pins p)
old_lasts pins p e = rw e refl

pub old_stays : {stage : Stage} {before after : Spot} (p : ℕ) → Grows stage before after → IsTrue (is_in p (old_places before.placing.places)) → IsTrue (is_in p (old_places after.placing.places))
old_stays {stage = stage} {before = before} {after = after} p g t =
    let o = old-is_in before.placing.places p t in is_in-old after.placing.places p (g.stay p o.0 (old_lasts (pinned_places stage.start) p o.1)) o.1

-- an object with a view, in parts where it has the same layout
pub view_moves : {stage : Stage} (old : HeapParts) {new : HeapParts} {spot : Spot} (v : ObjView) (p : ℕ) → HasView old.memory v p → v ≡ view_at stage.start.setup.types (word_in old) p
    → KeepsLayout stage.start.setup.types (word_in new) (word_in old) p → Middle stage new spot [] → IsTrue (is_in p spot.placing.places) → HasView new.memory v p
view_moves {stage = stage} old {new = new} v p has is keeps middle t =
    let size : v.words ≡ words_at stage.start.setup.types (word_in new) p = ap (λ (x : ObjView). x.words) is ∙ sym (ap (λ (l : Layout). l.words) keeps.layout_stays) in
    record { whole = subst (λ (n : ℕ). IsTrue (lies_in_one new.memory.blocks p n)) (sym size) (middle.mid.words.whole p t).whole; fits = has.fits; begins = has.begins; ordered = has.ordered; ends = has.ends }

-- a view by the types with which the collection began
pub seen : {stage : Stage} {now : HeapParts} {spot : Spot} (v : ObjView) (p : ℕ) → Middle stage now spot [] → v ≡ view_at now.setup.types (word_in now) p → v ≡ view_at stage.start.setup.types (word_in now) p
seen {now = now} v p middle is = is ∙ ap (λ (h : HeapParts). view_at h.setup.types (word_in now) p) middle.rest

pub item_inside : (types : Table TypeInfo) (w : ℕ → ℕ) (v : ObjView) (p i : ℕ) → v ≡ view_at types w p → i < v.ref_count → v.ref_start + i < p + v.words
item_inside types w v p i is l =
    let laid = laid_out types w p in
    let start : v.ref_start ≡ (layout_at types w p).ref_start = ap (λ (x : ObjView). x.ref_start) is in
    let count : v.ref_count ≡ (layout_at types w p).ref_count = ap (λ (x : ObjView). x.ref_count) is in
    let size : v.words ≡ words_at types w p = ap (λ (x : ObjView). x.words) is in
    omega (arith, start, count, size, l, laid.pointers, laid.refs)

module _ {stage : Stage} {old : HeapParts} {moving : Moving} {spot : Spot} (s : Standing stage old moving spot) (v : ObjView) (p i : ℕ)
    (there : IsTrue (is_in p (old_places spot.placing.places))) (is : v ≡ view_at old.setup.types (word_in old) p) (l : i < v.ref_count) (may : MayLead stage (spot.placing.name p) i) where
  abbrev types : Table TypeInfo
  types = stage.start.setup.types

  abbrev pins : List ℕ
  pins = pinned_places stage.start

  abbrev w : ℕ → ℕ
  w = word_in old

  in-places : IsTrue (is_in p spot.placing.places) × (is_young p ≡ false)
  in-places = old-is_in spot.placing.places p there

  view : v ≡ view_at stage.start.setup.types (word_in old) p
  view = seen v p s.middle is

  start : v.ref_start ≡ (layout_at stage.start.setup.types (word_in old) p).ref_start
  start = ap (λ (x : ObjView). x.ref_start) view

  count : i < (layout_at stage.start.setup.types (word_in old) p).ref_count
  count = subst (λ (x : ObjView). i < x.ref_count) view l

  -- the reference can be followed
  pub item_pointer : IsPointer spot.placing.met (word_in old (v.ref_start + i))
  item_pointer = subst (λ (k : ℕ). IsPointer spot.placing.met (word_in old (k + i))) (sym start)
      (s.middle.mid.words.objects.closed p i in-places.0 (let laid = laid_out types w p in omega (arith, count, laid.refs)))

  pub item_may : word_in old (v.ref_start + i) ≢ 0 → MayBeFound stage (spot.placing.name (word_in old (v.ref_start + i)))
  item_may = subst (λ (k : ℕ). word_in old (k + i) ≢ 0 → MayBeFound stage (spot.placing.name (word_in old (k + i)))) (sym start)
      (λ some. may (spot.placing.name (word_in old ((layout_at types w p).ref_start + i))) (item-of p i s.middle.mid.words.objects in-places.0 count some))

  module _ {first : HeapParts} {more : Moving} {x y : ℕ} (x_is : x ≡ word_in old (v.ref_start + i)) (f : Followed stage old first moving more spot x y) where
    pub there_after : IsTrue (is_in p (old_places f.after.placing.places))
    there_after = old_stays p f.grows there

    same-p : SameAt stage.start.setup.types (word_in first) (word_in old) p
    same-p = f.same p in-places.0 (old_lasts pins p in-places.1)

    keeps-first : KeepsLayout stage.start.setup.types (word_in first) (word_in old) p
    keeps-first = keeps-same types (word_in first) w p same-p

    in-after : IsTrue (is_in p f.after.placing.places)
    in-after = (old-is_in f.after.placing.places p there_after).0

    module _ {second : HeapParts} (h : HeldFor stage first second f.after p y) where
      abbrev last : Spot
      last = spot_held f.after p y

      keeps-second : KeepsLayout stage.start.setup.types (word_in second) (word_in old) p
      keeps-second = keeps-twice (h.layouts p in-after) keeps-first

      pub view_second : HasView old.memory v p → HasView second.memory v p
      view_second has = view_moves old v p has view keeps-second h.after in-after

      start-second : v.ref_start ≡ (layout_at stage.start.setup.types (word_in second) p).ref_start
      start-second = start ∙ sym (ap (λ (k : Layout). k.ref_start) keeps-second.layout_stays)

      count-second : i < (layout_at stage.start.setup.types (word_in second) p).ref_count
      count-second = subst (λ (k : Layout). i < k.ref_count) (sym keeps-second.layout_stays) count

      -- words of the object behind its first one are as they were
      word-second : (b : ℕ) → p < b → b < p + words_at stage.start.setup.types (word_in old) p → word_in second b ≡ word_in old b
      word-second b low high = h.words b (λ e. omega (arith, e, low)) ∙ same-p.same b (omega (arith, low)) high

      abbrev at : ℕ
      at = (layout_at stage.start.setup.types (word_in old) p).ref_start + i

      at-low : p < at
      at-low = let laid = laid_out types w p in omega (arith, laid.begins, laid.ordered)

      at-high : at < p + words_at types w p
      at-high = let laid = laid_out types w p in omega (arith, count, laid.pointers, laid.refs)

      item-second : item_word stage second p i ≡ x
      item-second = ap (λ (k : Layout). word_in second (k.ref_start + i)) keeps-second.layout_stays ∙ (word-second at at-low at-high ∙ (ap (λ (k : ℕ). w (k + i)) (sym start) ∙ sym x_is))

      same-name : renamed f.after.placing.name y ≡ renamed f.after.placing.name x
      same-name = elim f.leads [ inl e ↦ ap (renamed f.after.placing.name) (e.1 ∙ sym e.0) | inr t ↦ t.same_name ]

      last-y : IsLasting pins f.after.placing.places y
      last-y = elim f.leads [ inl e ↦ inl e.1 | inr t ↦ t.lasts ]

      pointer-y : IsPointer f.after.placing.met y
      pointer-y = elim last-y [ inl e ↦ inl e | inr t ↦ inr (f.standing.middle.mid.words.moving.stay y t.0) ]

      held-young : leads_young y ≡ true → IsTrue (is_in p last.held)
      held-young e = subst (λ (b : Bool). IsTrue (is_in p (if b then p ∷ f.after.held else f.after.held))) (sym e) (is_in-head p f.after.held)

      young-pin : IsTrue (is_in y f.after.placing.places) → IsTrue (is_lasting pins y) → is_young y ≡ true → IsDone pins f.after.placing.places last.held p y
      young-pin t lasts e =
          let above = f.standing.middle.mid.words.objects.above y t in
          let pin : IsTrue (is_in y pins) = subst (λ (b : Bool). IsTrue (not b || is_in y pins)) e lasts in
          let leads : leads_young y ≡ true = rw (ne_eqb y 0 (λ z. omega (arith, z, above)), e) refl in
          inr (inr (t, (pin, held-young leads)))

      done-y : IsDone pins f.after.placing.places last.held p y
      done-y = elim last-y [
        | inl e ↦ inl e
        | inr t ↦ elim (cases_Bool (is_young y)) [
          | inl e ↦ young-pin t.0 t.1 e
          | inr o ↦ inr (inl (t.0, o))
        ]
      ]

      new-middle : Middle stage (with_word_at second ((layout_at types (word_in second) p).ref_start + i) y) last []
      new-middle = middle_item h.after p i y there_after count-second done-y pointer-y (same-name ∙ ap (renamed f.after.placing.name) (sym item-second))

      abbrev new : HeapParts
      new = with_word_at second ((layout_at stage.start.setup.types (word_in second) p).ref_start + i) y

      keeps-new : KeepsLayout types (word_in new) (word_in old) p
      keeps-new = keeps-twice (item_layouts h.after p i y there_after count-second done-y pointer-y (same-name ∙ ap (renamed f.after.placing.name) (sym item-second)) p in-after) keeps-second

      other-new : (b : ℕ) → b ≢ at → p < b → b < p + words_at types w p → word_in new b ≡ w b
      other-new b ne low high =
          item_other h.after p i y there_after count-second done-y pointer-y (same-name ∙ ap (renamed f.after.placing.name) (sym item-second)) b
          (λ e. ne (e ∙ ap (λ (k : Layout). k.ref_start + i) keeps-second.layout_stays)) ∙ word-second b low high

      here-new : item_word stage new p i ≡ y
      here-new = ap (λ (k : Layout). word_in new (k.ref_start + i)) (keeps-new.layout_stays ∙ sym keeps-second.layout_stays)
          ∙ item_here h.after p i y there_after count-second done-y pointer-y (same-name ∙ ap (renamed f.after.placing.name) (sym item-second))

      held-new : (q : ℕ) → IsTrue (is_in q last.held) → IsTrue (is_held_whole second.remembered q)
      held-new q t = elim (cases_Bool (leads_young y)) [
        | inl e ↦
            let listed : IsTrue (is_in q (p ∷ f.after.held)) = subst (λ (b : Bool). IsTrue (is_in q (if b then p ∷ f.after.held else f.after.held))) e t in
            elim (is_in-cases q p f.after.held listed) [
              | inl same ↦ subst (λ (k : ℕ). IsTrue (is_held_whole second.remembered k)) (sym same) (h.here e)
              | inr u ↦ h.keeps q (f.standing.held q u)
            ]
        | inr e ↦ h.keeps q (f.standing.held q (subst (λ (b : Bool). IsTrue (is_in q (if b then p ∷ f.after.held else f.after.held))) e t))
      ]

      held-more : (q : ℕ) → IsTrue (is_in q f.after.held) → IsTrue (is_in q last.held)
      held-more q t = elim (cases_Bool (leads_young y)) [
        | inl e ↦ subst (λ (b : Bool). IsTrue (is_in q (if b then p ∷ f.after.held else f.after.held))) (sym e) (is_in-tail q p f.after.held t)
        | inr e ↦ subst (λ (b : Bool). IsTrue (is_in q (if b then p ∷ f.after.held else f.after.held))) (sym e) t
      ]

      only-new : new ≡ record old { memory = new.memory; shadows = new.shadows; old_blocks = new.old_blocks; links = new.links; remembered = new.remembered }
      only-new =
          let n : Memory = new.memory in
          subst (λ (k : HeapParts). record k { memory = n } ≡ record old { memory = n; shadows = k.shadows; old_blocks = k.old_blocks; links = k.links; remembered = k.remembered }) (sym h.only)
          (ap (λ (k : HeapParts). record k { memory = n; remembered = second.remembered }) f.only)

      joined : FollowedItem stage old new moving more spot p i
      joined = record {
        after = last;
        standing = record {
          middle = new-middle;
          counted = f.standing.counted;
          lists = subst (λ (k : HeapParts). FollowsLists pins f.after.placing.places f.after.owes k.slots k.registered []) (sym h.only) f.standing.lists;
          linked = subst (λ (k : HeapParts). (q : ℕ) → IsTrue (is_in q (linked_places k.links)) → IsTrue (is_in q f.after.placing.places)) (sym h.only) f.standing.linked;
          held = held-new;
        };
        grows = record { met = f.grows.met; names = f.grows.names; stay = f.grows.stay; found = f.grows.found; held = λ q t. held-more q (f.grows.held q t) };
        adds = record { added = f.adds.added; in_code = f.adds.in_code; told = f.adds.told; grown = f.adds.grown };
        owes_same = f.owes_same;
        keeps = keeps-new;
        birth = let laid = laid_out types w p in other-new (p + 1) (λ e. omega (arith, e, laid.begins, laid.ordered)) (omega arith) (omega (arith, laid.header));
        others = λ j less ne.
            let laid = laid_out types w p in
            ap (λ (k : Layout). word_in new (k.ref_start + j)) keeps-new.layout_stays
            ∙ other-new ((layout_at types w p).ref_start + j) (λ e. ne (omega (arith, e))) (omega (arith, laid.begins, laid.ordered)) (omega (arith, less, laid.pointers, laid.refs));
        done = subst (IsDone pins f.after.placing.places last.held p) (sym here-new) done-y;
        only = only-new;
      }

      pub item_followed : FollowedItem stage old (with_word_at second (v.ref_start + i) y) moving more spot p i
      item_followed = subst (λ (k : ℕ). FollowedItem stage old (with_word_at second (k + i) y) moving more spot p i) (sym start-second) joined

-- what following the item asks for
pub pointer_of : {now : HeapParts} {moving : Moving} {v : ObjView} {p i x : ℕ} (c : CanFollowItem now moving v p i) → x ≡ word_in now (v.ref_start + i) → IsPointer c.spot.placing.met x
pointer_of {v = v} {p = p} {i = i} c is = subst (IsPointer c.spot.placing.met) (sym is) (item_pointer c.standing v p i c.there c.view c.item c.may)

pub may_of : {now : HeapParts} {moving : Moving} {v : ObjView} {p i x : ℕ} (c : CanFollowItem now moving v p i) → x ≡ word_in now (v.ref_start + i) → x ≢ 0 → MayBeFound c.stage (c.spot.placing.name x)
may_of {v = v} {p = p} {i = i} c is = subst (λ (k : ℕ). k ≢ 0 → MayBeFound c.stage (c.spot.placing.name k)) (sym is) (item_may c.standing v p i c.there c.view c.item c.may)

pub can_follow_item : {now : HeapParts} {moving : Moving} {v : ObjView} {p i x : ℕ} (c : CanFollowItem now moving v p i) → x ≡ word_in now (v.ref_start + i) → CanFollow now moving x
can_follow_item c is = record { stage = c.stage; spot = c.spot; standing = c.standing; pointer = pointer_of c is; may = may_of c is }

pub can_hold_after : {stage : Stage} {old first : HeapParts} {moving more : Moving} {spot : Spot} {x y : ℕ} (p : ℕ) → IsTrue (is_in p (old_places spot.placing.places)) → Followed stage old first moving more spot x y → CanHold first p
can_hold_after {stage = stage} p there f = record { stage = stage; spot = f.after; middle = f.standing.middle; there = old_stays p f.grows there }

pub view_after : {old first second : HeapParts} {moving more : Moving} {v : ObjView} {p i x y : ℕ} (c : CanFollowItem old moving v p i) → x ≡ word_in old (v.ref_start + i)
    → (f : Followed c.stage old first moving more c.spot x y) → HeldFor c.stage first second f.after p y → HasView old.memory v p → HasView second.memory v p
view_after {v = v} {p = p} {i = i} c is f h has = view_second c.standing v p i c.there c.view c.item c.may is f h has
