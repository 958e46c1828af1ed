-- An object moved out of the nursery, and its links with it.
use Rattle.std.proofs.Common.{◌≡◌, ◌≢◌, ℕ, ◌+◌, ◌<◌, ◌≤◌, Bool, true, false, IsTrue, List, [], ◌∷◌, ◌++◌, map, Some, refl, sym, ap, ◌∙◌, subst, inl, inr, arith}
use Rattle.std.proofs.lemmas.Bool.{ne_eqb, eq-eqb}
use Rattle.std.proofs.lemmas.Bool.Decides.{eqb_tells}
use Rattle.object_model.specs.Sets.{is_in}
use Rattle.object_model.specs.ObjectWords.{updated, words_at}
use Rattle.object_model.proofs.Members.{is_in-nil, is_in-head, is_in-tail, is_in-cases, is_in-last, is_in-before, is_in-append, not-in}
use Rattle.object_view.proofs.WordLaws.{updated-here, updated-other}
use Rattle.object_view.specs.Views.{HasObject}
use Rattle.object_view.proofs.LayoutLaws.{laid_out}
use Rattle.object_view.proofs.MoveLaws.{moved_to, moved-here, moved-there}
use Rattle.remember_cards.specs.Remembered.{is_held_whole}
use Rattle.rawref_links.specs.Conditions.{HasNoLink}
use Rattle.store_model.specs.Structs.{Structs, with_objects}
use Rattle.heap_parts.specs.Parts.{HeapParts, word_in, pinned_places}
use Rattle.heap_parts.specs.Places.{is_young}
use Rattle.frame_laws.proofs.PlaceLaws.{is_in-young, old-is_in, named-by}
use Rattle.minor_collect.specs.declared.work.Moving.{Moving}
use Rattle.minor_collect.specs.Midway.{FollowsLists, IsLasting, is_lasting}
use Rattle.minor_collect.specs.Calls.{Stage, Spot, Middle, MayBeFound, Waits, Settled, Standing, Followed, CanMoveOut, CanRelocate, relinked, after_move, linked_places, spot_settled}
use Rattle.minor_collect.proofs.Begins.{not-lasting}
use Rattle.minor_collect.proofs.CountLaws.{objects_few, words_few}
use Rattle.minor_collect.proofs.FollowCases.{renamed-some}
use Rattle.minor_collect.proofs.LinkSteps.{linked_renamed, no_link, links_by}
use Rattle.minor_collect.proofs.ListSteps.{midway_lists}

-- membership does not ask for an order
pub same_members : (xs : List ℕ) (a q : ℕ) → is_in q (a ∷ xs) ≡ is_in q (xs ++ a ∷ [])
same_members xs a q = same (is_in q (a ∷ xs)) (is_in q (xs ++ a ∷ []))
    (λ t. elim (is_in-cases q a xs t) [ inl e ↦ subst (λ (k : ℕ). IsTrue (is_in k (xs ++ a ∷ []))) (sym e) (is_in-last xs a) | inr u ↦ is_in-before xs a q u ])
    (λ t. elim (is_in-append xs a q t) [ inl e ↦ subst (λ (k : ℕ). IsTrue (is_in k (a ∷ xs))) (sym e) (is_in-head a xs) | inr u ↦ is_in-tail q a xs u ])
  where
    same : (b c : Bool) → (IsTrue b → IsTrue c) → (IsTrue c → IsTrue b) → b ≡ c
    same true c f g = sym (f refl)
    same false true f g = g refl
    same false false f g = refl

pub waits_for : {stage : Stage} {now : HeapParts} {moving : Moving} {spot : Spot} (p n : ℕ) → Standing stage now moving spot → IsTrue (is_in p spot.placing.places)
    → is_lasting (pinned_places stage.start) p ≡ false → MayBeFound stage (spot.placing.name p) → n ≡ words_at now.setup.types (word_in now) p → Waits stage now spot p n
waits_for {now = now} p n s there waits may size = record {
  there = there;
  waits = waits;
  size = size ∙ ap (λ (h : HeapParts). words_at h.setup.types (word_in now) p) s.middle.rest;
  may = may;
}

pub can_relocate : (now : HeapParts) (moving : Moving) (p n : ℕ) (c : CanMoveOut now moving p) → n ≡ words_at now.setup.types (word_in now) p → CanRelocate now p n
can_relocate now moving p n c size = record { stage = c.stage; spot = c.spot; middle = c.standing.middle; waits = waits_for p n c.standing c.there c.waits c.may size }

-- the object is whole, and its words can be counted
pub record CanCount (now : HeapParts) (moving : Moving) (p : ℕ) : Type 0 where
  pub object : HasObject now.memory now.setup.types p
  pub objects : moving.objects + 1 < 18446744073709551616
  pub words : moving.words + words_at now.setup.types (word_in now) p ≤ 16777216

pub can_count : (now : HeapParts) (moving : Moving) (p : ℕ) → CanMoveOut now moving p → CanCount now moving p
can_count now moving p c =
    let few = objects_few c.standing.middle in
    let room = words_few c.standing.middle p (is_in-young c.spot.placing.places p c.there (not-lasting (is_young p) _ c.waits).0) in
    let counted = c.standing.counted in
    let size : words_at now.setup.types (word_in now) p ≡ words_at c.stage.start.setup.types (word_in now) p = ap (λ (h : HeapParts). words_at h.setup.types (word_in now) p) c.standing.middle.rest in
    record {
      object = subst (λ (h : HeapParts). HasObject now.memory h.setup.types p) (sym c.standing.middle.rest) (c.standing.middle.mid.words.whole p c.there);
      objects = omega (arith, few, counted.objects);
      words = omega (arith, room, counted.words, size);
    }

module _ {stage : Stage} {now : HeapParts} {spot : Spot} {moving : Moving} (s : Standing stage now moving spot) where
  -- nothing is linked with a place to which nothing led
  pub no_link_there : (a : ℕ) → is_in a spot.placing.met ≡ false → HasNoLink now.links.structs a
  no_link_there a fresh = no_link now.links.structs a (λ p t e. not-in a spot.placing.met fresh
      (subst (λ (k : ℕ). IsTrue (is_in k spot.placing.met)) e (s.middle.mid.words.moving.stay p (s.linked p t))))

after-here : (p a x : ℕ) → x ≡ p → after_move p a x ≡ a
after-here p a x e = rw (eq-eqb x p e) refl

after-other : (p a x : ℕ) → x ≢ p → after_move p a x ≡ x
after-other p a x ne = rw (ne_eqb x p ne) refl

module _ {stage : Stage} {old middle : HeapParts} {spot : Spot} {moving : Moving} {p n a : ℕ} (s : Standing stage old moving spot) (w : Waits stage old spot p n)
    (m : Settled stage old middle spot p n a) where
  abbrev pins : List ℕ
  pins = pinned_places stage.start

  abbrev name : ℕ → ℕ
  name = updated spot.placing.name a (spot.placing.name p)

  abbrev places : List ℕ
  places = map (moved_to p a) spot.placing.places

  not-a : (x : ℕ) → IsTrue (is_in x spot.placing.met) → x ≢ a
  not-a x t e = not-in a spot.placing.met m.fresh (subst (λ (k : ℕ). IsTrue (is_in k spot.placing.met)) e t)

  p-met : IsTrue (is_in p spot.placing.met)
  p-met = s.middle.mid.words.moving.stay p w.there

  name-a : name a ≡ spot.placing.name p
  name-a = updated-here spot.placing.name a (spot.placing.name p) a refl

  name-other : (x : ℕ) → IsTrue (is_in x spot.placing.met) → name x ≡ spot.placing.name x
  name-other x t = updated-other spot.placing.name a (spot.placing.name p) x (not-a x t)

  here : IsTrue (is_in a places)
  here = moved-here spot.placing.places p a w.there

  stays : (q : ℕ) → IsTrue (is_in q spot.placing.places) → IsTrue (is_lasting pins q) → IsTrue (is_in q places)
  stays q t l = moved-there spot.placing.places p a q (λ e. let clash : true ≡ false = sym l ∙ (ap (is_lasting pins) e ∙ w.waits) in let no : ⊥ = cc in no) t

  after-same : (x : ℕ) → IsTrue (is_in x (a ∷ spot.placing.met)) → (name (after_move p a x) ≡ name x) × IsTrue (is_in (after_move p a x) (a ∷ spot.placing.met))
  after-same x t = elim (eqb_tells x p) [
    | inl e ↦ (ap name (after-here p a x e.1) ∙ (name-a ∙ (sym (name-other p p-met) ∙ ap name (sym e.1))), subst (λ (k : ℕ). IsTrue (is_in k (a ∷ spot.placing.met))) (sym (after-here p a x e.1)) (is_in-head a spot.placing.met))
    | inr e ↦ (ap name (after-other p a x e.1), subst (λ (k : ℕ). IsTrue (is_in k (a ∷ spot.placing.met))) (sym (after-other p a x e.1)) t)
  ]

  abbrev links : Structs
  links = record middle.links { structs = with_objects (after_move p a) middle.links.structs }

  links-same : middle.links ≡ old.links
  links-same = ap (λ (h : HeapParts). h.links) m.only

  new-middle : Middle stage (relinked middle p a) (spot_settled spot p n a) []
  new-middle = record {
    mid = midway_lists m.after.mid middle.slots middle.registered links m.after.mid.slots m.after.mid.registered_are (links_by (after_move p a) after-same m.after.mid.links_rise m.after.mid.links_are);
    rest = ap (λ (h : HeapParts). relinked h p a) m.after.rest;
    sizes = m.after.sizes;
  }

  last-place : (x : ℕ) → IsLasting pins spot.placing.places x → IsLasting pins places x
  last-place x (inl e) = inl e
  last-place x (inr t) = inr (stays x t.0 t.1, t.1)

  lists : FollowsLists pins places spot.owes old.slots old.registered []
  lists = record {
    slot = λ k x e. elim (s.lists.slot k x e) [ inl o ↦ inl o | inr l ↦ inr (last-place x l) ];
    entry = λ k x e. elim (s.lists.entry k x e) [ inl o ↦ inl o | inr l ↦ inr (last-place x.0 l) ];
    link = λ x t. absurd (is_in-nil x t);
  }

  linked : (x : ℕ) → IsTrue (is_in x (linked_places (relinked middle p a).links)) → IsTrue (is_in x places)
  linked x t =
      let renamed_list : linked_places (relinked middle p a).links ≡ map (after_move p a) (linked_places old.links) =
      linked_renamed (after_move p a) middle.links.structs ∙ ap (λ (l : Structs). map (after_move p a) (linked_places l)) links-same in
      let from = named-by (after_move p a) x (linked_places old.links) (subst (λ (l : List ℕ). IsTrue (is_in x l)) renamed_list t) in
      subst (λ (k : ℕ). IsTrue (is_in k places)) (sym from.is) (each from.place (s.linked from.place from.there))
    where
      each : (y : ℕ) → IsTrue (is_in y spot.placing.places) → IsTrue (is_in (after_move p a y) places)
      each y u = elim (eqb_tells y p) [
        | inl e ↦ subst (λ (k : ℕ). IsTrue (is_in k places)) (sym (after-here p a y e.1)) here
        | inr e ↦ subst (λ (k : ℕ). IsTrue (is_in k places)) (sym (after-other p a y e.1)) (moved-there spot.placing.places p a y e.1 u)
      ]

  far : is_young a ≡ false
  far = (old-is_in places a (m.after.mid.follows.todo_old a (is_in-head a spot.todo))).1

  pub moved_out : {more : Moving} → more.todo.items ≡ moving.todo.items ++ a ∷ [] → more.objects ≡ moving.objects + 1 → more.words ≡ moving.words + n
      → Followed stage old (relinked middle p a) moving more spot p a
  moved_out todo objects words = record {
    after = spot_settled spot p n a;
    standing = record {
      middle = new-middle;
      counted = record { objects = objects ∙ ap (λ (k : ℕ). k + 1) s.counted.objects; words = words ∙ ap (λ (k : ℕ). k + n) s.counted.words };
      lists = subst (λ (h : HeapParts). FollowsLists pins places spot.owes h.slots h.registered []) (sym m.only) lists;
      linked = linked;
      held = λ q t. subst (λ (h : HeapParts). IsTrue (is_held_whole h.remembered q)) (sym m.only) (s.held q t);
    };
    grows = record {
      met = λ x t. is_in-tail x a spot.placing.met t;
      names = name-other;
      stay = stays;
      found = λ x t. is_in-tail x (spot.placing.name p) spot.placing.found t;
      held = λ q t. t;
    };
    adds = record { added = a ∷ []; in_code = todo; told = λ q. same_members spot.todo a q; grown = let two = (laid_out stage.start.setup.types (word_in old) p).header in omega (arith, words, w.size, two) };
    owes_same = refl;
    held_same = refl;
    same = λ q t l. m.same q t (λ e. let clash : true ≡ false = sym l ∙ (ap (is_lasting pins) e ∙ w.waits) in let no : ⊥ = cc in no);
    only = ap (λ (h : HeapParts). record h { links = (relinked middle p a).links }) m.only;
    leads = inr (record {
      lasts = inr (here, rw far refl);
      same_name = renamed-some name a (m.after.mid.words.objects.above a here) ∙ (ap Some (name-a ∙ sym (name-other p p-met)) ∙ sym (renamed-some name p (s.middle.mid.words.moving.above p p-met)));
      known = inl (subst (λ (k : ℕ). IsTrue (is_in k (spot.placing.name p ∷ spot.placing.found))) (sym (name-other p p-met)) (is_in-head (spot.placing.name p) spot.placing.found));
    });
  }

-- nothing is linked yet with the place to which an object moved
pub no_link_moved : (old middle : HeapParts) (moving : Moving) (p n a : ℕ) (c : CanMoveOut old moving p) → Settled c.stage old middle c.spot p n a → HasNoLink middle.links.structs a
no_link_moved old middle moving p n a c m = subst (λ (h : HeapParts). HasNoLink h.links.structs a) (sym m.only) (no_link_there c.standing a m.fresh)
