-- What the passes over the dying objects choose is what the store chooses.
use Rattle.std.proofs.Common.{◌≡◌, ◌≢◌, ℕ, Bool, true, false, IsTrue, List, [], ◌∷◌, ◌++◌, map, refl, sym, ap, ap₂, ◌∙◌, subst, inl, inr}
use Rattle.std.specs.Prelude.{not, filter, ◌==◌, ◌||◌, IsFalse, cond, take_while}
use Rattle.std.proofs.lemmas.Bool.{cases_Bool, eq-eqb, ne_eqb}
use Rattle.std.proofs.lemmas.Bool.Decides.{eqb_tells}
use Rattle.std.proofs.lemmas.List.Sums.{take_while-cons}
use Rattle.type_table.specs.declared.info.TypeInfo.{TypeInfo}
use Rattle.type_table.specs.Table.{Table}
use Rattle.heap_space.specs.Places.{word_at}
use Rattle.heap_space.specs.Memory.{Memory}
use Rattle.object_model.specs.Sets.{is_in}
use Rattle.object_model.proofs.Members.{and_first, and_second, and_both, is_in-head, is_in-tail, is_in-named, not-true}
use Rattle.finalizer_order.specs.declared.entry.Entry.{Entry}
use Rattle.finalizer_order.specs.Finalizers.{placed}
use Rattle.finalizer_order.specs.Unvisited as unvisited
use Rattle.finalizer_order.specs.Choosing as choosing
use Rattle.text_model.specs.declared.line.Line.{Line}
use Rattle.text_model.specs.declared.line.Line.TheVariants.{Kept}
use Rattle.text_model.specs.declared.line.Phase.TheVariants.{Marking}
use Rattle.store_model.specs.Store.{Store, is_settled}
use Rattle.store_model.specs.Reach.{Reaches, is_registered}
use Rattle.store_model.specs.Roots.{registered_births}
use Rattle.store_model.specs.Marking.{IsMarked, IsChosen, is_white, is_dying, stands_before}
use Rattle.store_model.proofs.TestsExist.{saved_test}
use Rattle.store_model.proofs.ChosenTest.{found_births, finds_chosen}
use Rattle.weak_lists.specs.Targets.{ChangesTargets, kept_target}
use Rattle.heap_parts.specs.Parts.{HeapParts, word_in}
use Rattle.heap_parts.specs.NamedFinals.{NamedFinals}
use Rattle.heap_parts.specs.Places.{is_young, old_places}
use Rattle.heap_parts.specs.Lists.{named_entries}
use Rattle.heap_parts.specs.StandsFor.{PartsStandFor}
use Rattle.heap_parts.specs.Collects.{AreAllPinned}
use Rattle.frame_laws.proofs.MinorNeeds.{settled_place}
use Rattle.frame_laws.proofs.PlaceLaws.{is_in-old, named-by}
use Rattle.heap_phases.specs.EndOfMarking.{with_chosen_births}
use Rattle.heap_phases.specs.Ending.{CanEnd, CanChooseIn, ClearsWeaks, ChoosesFinals, registered_places, named_entry, with_memory}
use Rattle.heap_phases.proofs.EndLists.{names-entries}
use Rattle.heap_phases.proofs.EndMajor.{ChosenFor}
use Rattle.heap_phases.proofs.FinalPaths.{white_now, path_of, reach_of}
use Rattle.heap_phases.proofs.KeptWords.{same-bool, can_choose, marks_end, kept_told}
use Rattle.heap_phases.proofs.PlacePaths.{place_reaches}

-- names tell what stands in front of what
same-eq : (name : ℕ → ℕ) (p b : ℕ) → (name p ≡ name b → p ≡ b) → (name p == name b) ≡ (p == b)
same-eq name p b inj = elim (eqb_tells p b) [
  | inl e ↦ eq-eqb (name p) (name b) (ap name e.1) ∙ sym e.0
  | inr e ↦ ne_eqb (name p) (name b) (λ z. e.1 (inj z)) ∙ sym e.0
]

stands-first : (a b x : ℕ) (xs : List ℕ) → (x == b) ≡ true → stands_before a b (x ∷ xs) ≡ false
stands-first a b x xs e = ap (is_in a) (take_while-cons (λ y. not (y == b)) x xs ∙ ap (λ (t : Bool). cond (not t) (x ∷ take_while (λ y. not (y == b)) xs) []) e)

stands-next : (a b x : ℕ) (xs : List ℕ) → (x == b) ≡ false → stands_before a b (x ∷ xs) ≡ (x == a || stands_before a b xs)
stands-next a b x xs e = ap (is_in a) (take_while-cons (λ y. not (y == b)) x xs ∙ ap (λ (t : Bool). cond (not t) (x ∷ take_while (λ y. not (y == b)) xs) []) e)

before-named : (name : ℕ → ℕ) (all : List ℕ) → ((x y : ℕ) → IsTrue (is_in x all) → IsTrue (is_in y all) → name x ≡ name y → x ≡ y)
    → (a b : ℕ) → IsTrue (is_in a all) → IsTrue (is_in b all) → (ps : List ℕ) → ((p : ℕ) → IsTrue (is_in p ps) → IsTrue (is_in p all))
    → stands_before (name a) (name b) (map name ps) ≡ stands_before a b ps
before-named name all inj a b ta tb [] among = refl
before-named name all inj a b ta tb (p ∷ ps) among =
    let here = among p (is_in-head p ps) in
    let eb : (name p == name b) ≡ (p == b) = same-eq name p b (inj p b here tb) in
    let ea : (name p == name a) ≡ (p == a) = same-eq name p a (inj p a here ta) in
    let more = before-named name all inj a b ta tb ps (λ q t. among q (is_in-tail q p ps t)) in
    elim (cases_Bool (p == b)) [
      | inl e ↦ stands-first (name a) (name b) (name p) (map name ps) (eb ∙ e) ∙ sym (stands-first a b p ps e)
      | inr e ↦ stands-next (name a) (name b) (name p) (map name ps) (eb ∙ e) ∙ (ap₂ (λ (x y : Bool). x || y) ea more ∙ sym (stands-next a b p ps e))
    ]

-- births of entries that pass, by places
first-birth : List (ℕ × ℕ) → ℕ
first-birth [] = 0
first-birth (x ∷ xs) = x.0

behind-first : List (ℕ × ℕ) → List (ℕ × ℕ)
behind-first [] = []
behind-first (x ∷ xs) = xs

chosen-named : (name : ℕ → ℕ) (f g : ℕ → Bool) (es : List Entry) → map named_entry es ≡ named_entries name (placed es)
    → ((p : ℕ) → IsTrue (is_in p (map (λ (e : ℕ × ℕ). e.0) (placed es))) → f p ≡ g (name p))
    → map named_entry (filter (λ e. f e.place) es) ≡ filter (λ x. g x.0) (map named_entry es)
unfolding first-birth behind-first
chosen-named name f g [] named same = refl
chosen-named name f g (e ∷ es) named same =
    let birth : e.birth ≡ name e.place = ap first-birth named in
    let rest : map named_entry es ≡ named_entries name (placed es) = ap behind-first named in
    let test : g e.birth ≡ f e.place = ap g birth ∙ sym (same e.place (is_in-head e.place (map (λ (x : ℕ × ℕ). x.0) (placed es)))) in
    let more = chosen-named name f g es rest (λ p t. same p (is_in-tail p e.place (map (λ (x : ℕ × ℕ). x.0) (placed es)) t)) in
    elim (cases_Bool (f e.place)) [
      | inl y ↦ let too : g e.birth ≡ true = test ∙ y in rw (y, too) (ap (λ (xs : List (ℕ × ℕ)). named_entry e ∷ xs) more)
      | inr n ↦ let too : g e.birth ≡ false = test ∙ n in rw (n, too) more
    ]

-- What was chosen, and what is told.
pub record IsChosenFor (heap one : HeapParts) (before after : List Line) : Type 0 where
  pub kept : List ℕ
  pub chosen : ChosenFor heap one kept
  pub told : after ≡ before ++ map (λ b. Kept b) kept

module _ (heap : HeapParts) (marking : heap.phase ≡ Marking) (m : Memory) (changes : ChangesTargets heap.setup.types (kept_target heap.nursery.words (word_in heap)) heap.memory m heap.weaks)
    (one : HeapParts) (told0 told1 : List Line) (c : ChoosesFinals (with_memory heap m) one told0 told1) where
  abbrev types : Table TypeInfo
  types = heap.setup.types

  abbrev v : ℕ → ℕ
  v = word_at m.blocks

  abbrev n : ℕ
  n = heap.nursery.words

  abbrev R : List ℕ
  R = registered_places heap

  module _ (store : Store) (s : PartsStandFor heap store) (pinned : AreAllPinned store) (marked : IsMarked store) where
    registered-are : registered_births store ≡ map s.name (registered_places heap)
    registered-are = ap (map (λ (entry : ℕ × ℕ). entry.0)) s.finalizers.registered_are.named ∙ names-entries s.name heap.registered

    there : (p : ℕ) → IsTrue (is_in p R) → IsTrue (is_in p s.places)
    there p t = s.finalizers.registered_are.there p t

    white-old : (p : ℕ) → IsTrue (is_in p R) → is_white store (s.name p) ≡ true → IsTrue (is_in p (old_places s.places))
    white-old p t white = is_in-old s.places p (there p t) (not-true (is_young p) (sym (settled_place heap store s p (there p t)) ∙ and_first (is_settled store.settled (s.name p)) (not (is_in (s.name p) store.visited)) white))

    white-place : (p : ℕ) → IsTrue (is_in p R) → IsTrue (choosing.is_dying n (word_at m.blocks) R p) → is_white store (s.name p) ≡ true
    white-place p t d = sym (white_now heap store s pinned marked marking m changes p (there p t)) ∙ and_second (is_in p R) (unvisited.is_unvisited n (word_at m.blocks) p) d

    dying-name : (p : ℕ) → IsTrue (is_in p R) → is_white store (s.name p) ≡ true → IsTrue (is_dying store (s.name p))
    dying-name p t white = and_both (is_registered store (s.name p)) (is_white store (s.name p)) (subst (λ (xs : List ℕ). IsTrue (is_in (s.name p) xs)) (sym registered-are) (is_in-named s.name p R t)) white

    dying-place : (p : ℕ) → IsTrue (is_in p R) → is_white store (s.name p) ≡ true → IsTrue (choosing.is_dying n (word_at m.blocks) R p)
    dying-place p t white = and_both (is_in p R) (unvisited.is_unvisited n (word_at m.blocks) p) t (white_now heap store s pinned marked marking m changes p (there p t) ∙ white)

    same-order : (a b : ℕ) → IsTrue (is_in a R) → IsTrue (is_in b R) → stands_before (s.name a) (s.name b) (registered_births store) ≡ choosing.stands_before a b R
    same-order a b ta tb = ap (stands_before (s.name a) (s.name b)) registered-are ∙ before-named s.name s.places s.words.objects.differ a b (there a ta) (there b tb) R there

    to-names : (a b : ℕ) → IsTrue (is_in a R) → IsTrue (is_in b R) → is_white store (s.name a) ≡ true → is_white store (s.name b) ≡ true
        → unvisited.Reaches types n (word_at m.blocks) a b → Reaches store.kept (s.name a) (s.name b)
    to-names a b ta tb wa wb r = (place_reaches heap store s pinned marked a b (white-old a ta wa) (white-old b tb wb) wb).1 (path_of heap store s pinned marked marking m changes a b (there a ta) r)

    to-places : (a b : ℕ) → IsTrue (is_in a R) → IsTrue (is_in b R) → is_white store (s.name a) ≡ true → is_white store (s.name b) ≡ true
        → Reaches store.kept (s.name a) (s.name b) → unvisited.Reaches types n (word_at m.blocks) a b
    to-places a b ta tb wa wb r = reach_of heap store s pinned marked marking m changes a b (there a ta) ((place_reaches heap store s pinned marked a b (white-old a ta wa) (white-old b tb wb) wb).0 r)

    abbrev GivesWay : ℕ → ℕ → Type 0
    GivesWay p h = h ≢ s.name p → IsTrue (is_dying store h) → Reaches store.kept h (s.name p) → Reaches store.kept (s.name p) h × IsFalse (stands_before h (s.name p) (registered_births store))

    chosen-store : (p : ℕ) → IsTrue (is_in p R) → choosing.IsChosen types n (word_at m.blocks) R p → IsChosen store (s.name p)
    chosen-store p t ch = (
      dying-name p t white,
      λ h ne dying r.
          let nh = named-by s.name h R (subst (λ (xs : List ℕ). IsTrue (is_in h xs)) registered-are (and_first (is_registered store h) (is_white store h) dying)) in
          subst (GivesWay p) (sym nh.is) (gives nh.place nh.there) ne dying r,
    )
      where
        white : is_white store (s.name p) ≡ true
        white = white-place p t ch.dying

        gives : (h : ℕ) → IsTrue (is_in h R) → GivesWay p (s.name h)
        gives h u ne dying r =
            let wh : is_white store (s.name h) ≡ true = and_second (is_registered store (s.name h)) (is_white store (s.name h)) dying in
            let way = ch.gives_way h (λ e. ne (ap s.name e)) (dying-place h u wh) (to-places h p u t wh white r) in
            (to-names p h t u white wh way.0, same-order h p u t ∙ way.1)

    chosen-place : (p : ℕ) → IsTrue (is_in p R) → IsChosen store (s.name p) → choosing.IsChosen types n (word_at m.blocks) R p
    chosen-place p t ch = record {
      dying = dying-place p t white;
      gives_way = λ h ne dying r.
          let u : IsTrue (is_in h R) = and_first (is_in h R) (unvisited.is_unvisited n (word_at m.blocks) h) dying in
          let wh = white-place h u dying in
          let way = ch.1 (s.name h) (λ e. ne (s.words.objects.differ h p (there h u) (there p t) e)) (dying-name h u wh) (to-names h p u t wh white r) in
          (to-places p h t u white wh way.0, sym (same-order h p u t) ∙ way.1);
    }
      where
        white : is_white store (s.name p) ≡ true
        white = and_second (is_registered store (s.name p)) (is_white store (s.name p)) ch.0

    abbrev found : ℕ → Bool
    found x = is_in x (found_births store)

    takes : (p : ℕ) → IsTrue (is_in p (map (λ (e : ℕ × ℕ). e.0) heap.registered)) → c.taken p ≡ is_in (s.name p) (found_births store)
    takes p t = same-bool (c.taken p) (is_in (s.name p) (found_births store))
        (λ u. (finds_chosen heap.setup.settings store s.sound (s.name p)).1 (chosen-store p t ((c.tells p).0 u)))
        (λ u. (c.tells p).1 (chosen-place p t ((finds_chosen heap.setup.settings store s.sound (s.name p)).0 u)))

    births : one.finals ≡ with_chosen_births heap.finals (λ x. is_in x (found_births store))
    births =
        let stored : heap.finals.registered ≡ named_entries s.name heap.registered = ap (λ (f : NamedFinals). f.registered) s.finalizers.births_are ∙ s.finalizers.registered_are.named in
        let named : map named_entry c.entries ≡ named_entries s.name (placed c.entries) = sym c.named_are ∙ (stored ∙ ap (named_entries s.name) c.placed_are) in
        let tests : (p : ℕ) → IsTrue (is_in p (map (λ (e : ℕ × ℕ). e.0) (placed c.entries))) → c.taken p ≡ found (s.name p) =
        λ p t. takes p (subst (λ (es : List (ℕ × ℕ)). IsTrue (is_in p (map (λ (e : ℕ × ℕ). e.0) es))) (sym c.placed_are) t) in
        let left : map named_entry (filter (λ e. not (c.taken e.place)) c.entries) ≡ filter (λ x. not (found x.0)) heap.finals.registered =
        chosen-named s.name (λ p. not (c.taken p)) (λ x. not (found x)) c.entries named (λ p t. ap not (tests p t)) ∙ ap (filter (λ x. not (found x.0))) (sym c.named_are) in
        let taken : map named_entry (filter (λ e. c.taken e.place) c.entries) ≡ filter (λ x. found x.0) heap.finals.registered =
        chosen-named s.name c.taken found c.entries named tests ∙ ap (filter (λ x. found x.0)) (sym c.named_are) in
        c.finals ∙ ap₂ (λ (rs cs : List (ℕ × ℕ)). record heap.finals { registered = rs; chosen = heap.finals.chosen ++ cs }) left taken

  chosen-for : IsChosenFor heap one told0 told1
  chosen-for = record {
    kept = c.births;
    chosen = record {
      taken = c.taken;
      rest = c.rest;
      marks = λ store s pinned marked.
          marks_end heap store s pinned marked marking m changes (saved_test heap.setup.settings store s.sound).test (saved_test heap.setup.settings store s.sound).tells one.memory c.births c.keeps;
      takes = takes;
      births = births;
      kept_are = λ store s pinned marked.
          kept_told heap store s pinned marked marking m changes (saved_test heap.setup.settings store s.sound).test (saved_test heap.setup.settings store s.sound).tells one.memory c.births c.keeps;
    };
    told = c.lines;
  }

-- once targets were cleared, choosing may be asked for,
pub may_choose : (heap zero : HeapParts) (before told0 : List Line) → CanEnd heap → ClearsWeaks heap zero before told0 → CanChooseIn zero
may_choose heap zero before told0 can c = subst CanChooseIn (sym c.rest) (can_choose heap can.store can.stands can.pinned can.marked can.marking zero.memory c.targets)

-- and it chooses for every store that the parts stand for
pub is_chosen : (heap zero one : HeapParts) (before told0 told1 : List Line) → heap.phase ≡ Marking → ClearsWeaks heap zero before told0 → ChoosesFinals zero one told0 told1 → IsChosenFor heap one told0 told1
is_chosen heap zero one before told0 told1 marking c f =
    chosen-for heap marking zero.memory c.targets one told0 told1 (subst (λ (h : HeapParts). ChoosesFinals h one told0 told1) c.rest f)

-- and so where the parts are told in another way
pub chosen_shown : (heap zero one shown : HeapParts) (before told0 told1 : List Line) → CanEnd heap → ClearsWeaks heap zero before told0 → one ≡ shown → ChoosesFinals zero shown told0 told1 → IsChosenFor heap one told0 told1
chosen_shown heap zero one shown before told0 told1 can c same f = is_chosen heap zero one before told0 told1 can.marking c (subst (λ (h : HeapParts). ChoosesFinals zero h told0 told1) (sym same) f)
