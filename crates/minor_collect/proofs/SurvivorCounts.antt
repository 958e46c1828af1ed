-- What the code counts is how many survivors settled, with their words, and how many objects vanished.
use Rattle.std.proofs.Common.{◌≡◌, ℕ, ◌+◌, Bool, true, false, IsTrue, List, [], ◌∷◌, map, filter, length, refl, sym, ap, ◌∙◌, subst, inl, inr, arith}
use Rattle.std.specs.Prelude.{not, ◌&&◌, ◌||◌}
use Rattle.std.proofs.lemmas.Bool.{cases_Bool}
use Rattle.std.proofs.lemmas.List.Sums.{sum_by-cons}
use Rattle.object_model.specs.Object.{Object, kept_words, words_of}
use Rattle.object_model.specs.Sets.{is_in}
use Rattle.object_model.proofs.Members.{is_in-head, is_in-tail, filter-member, filter-part}
use Rattle.store_model.specs.Store.{Store, settled_words}
use Rattle.store_model.specs.MinorCollection.{settles}
use Rattle.store_model.specs.Reach.{births_where, objects_where}
use Rattle.heap_parts.specs.Parts.{HeapParts}
use Rattle.heap_parts.specs.Places.{old_places}
use Rattle.heap_parts.specs.StandsFor.{PartsStandButYoung}
use Rattle.birth_laws.proofs.BirthNames.{listed}
use Rattle.frame_laws.proofs.PlaceLaws.{placed_words}
use Rattle.minor_collect.specs.declared.work.Moving.{Moving}
use Rattle.minor_collect.specs.Calls.{Stage, Spot, Survived}
use Rattle.minor_collect.specs.Counts.{CountsSurvivors}
use Rattle.minor_collect.specs.Minor.{Separates}
use Rattle.minor_collect.specs.Vanished.{FindsVanished}
use Rattle.minor_collect.proofs.EndBirths.{settled_end}
use Rattle.minor_collect.proofs.Ended.{survivors_told, no_both}
use Rattle.minor_collect.proofs.Lines.{settled_count, dead_count}
use Rattle.minor_collect.proofs.Survivors.{survived_mid}

-- the births that pass are those of the objects that do
where-births : (test : ℕ → Bool) (os : List Object) → births_where os test ≡ filter test (map (λ (o : Object). o.birth) os)
where-births test [] = refl
where-births test (o ∷ os) = let more = where-births test os in elim (cases_Bool (test o.birth)) [
  | inl e ↦ rw e (ap (λ (xs : List ℕ). o.birth ∷ xs) more)
  | inr e ↦ rw e more
]

-- of births that are listed, those that pass
in-where : (test : ℕ → Bool) (os : List Object) (x : ℕ) → IsTrue (is_in x (map (λ (o : Object). o.birth) os)) → is_in x (births_where os test) ≡ test x
in-where test os x t = ap (is_in x) (where-births test os) ∙ elim (cases_Bool (test x)) [
  | inl e ↦ filter-member test (map (λ (o : Object). o.birth) os) x t e ∙ sym e
  | inr e ↦ elim (cases_Bool (is_in x (filter test (map (λ (o : Object). o.birth) os)))) [
    | inl u ↦ absurd (no_both (test x) (filter-part test (map (λ (o : Object). o.birth) os) x u).1 e)
    | inr u ↦ u ∙ sym e
  ]
]

-- tests that agree on listed births pass the same objects
where-agree : (f g : ℕ → Bool) (os : List Object) → ((x : ℕ) → IsTrue (is_in x (map (λ (o : Object). o.birth) os)) → f x ≡ g x) → objects_where os f ≡ objects_where os g
where-agree f g [] same = refl
where-agree f g (o ∷ os) same =
    let more = where-agree f g os (λ x t. same x (is_in-tail x o.birth (map (λ (y : Object). y.birth) os) t)) in
    let first : f o.birth ≡ g o.birth = same o.birth (is_in-head o.birth (map (λ (y : Object). y.birth) os)) in
    elim (cases_Bool (g o.birth)) [
      | inl e ↦ let e2 : f o.birth ≡ true = first ∙ e in rw (e, e2) (ap (λ (xs : List Object). o ∷ xs) more)
      | inr e ↦ let e2 : f o.birth ≡ false = first ∙ e in rw (e, e2) more
    ]

-- words of objects of two kinds that none shares
words-either : (os : List Object) (f g : ℕ → Bool) → ((x : ℕ) → f x ≡ true → g x ≡ false)
    → kept_words (objects_where os (λ x. f x || g x)) ≡ kept_words (objects_where os f) + kept_words (objects_where os g)
words-either [] f g apart = refl
words-either (o ∷ os) f g apart =
    let more = words-either os f g apart in
    elim (cases_Bool (f o.birth)) [
      | inl t ↦
          let a : kept_words (objects_where (o ∷ os) (λ x. f x || g x)) ≡ words_of o + kept_words (objects_where os (λ x. f x || g x)) = rw t (sum_by-cons words_of o (objects_where os (λ x. f x || g x))) in
          let b : kept_words (objects_where (o ∷ os) f) ≡ words_of o + kept_words (objects_where os f) = rw t (sum_by-cons words_of o (objects_where os f)) in
          let c : kept_words (objects_where (o ∷ os) g) ≡ kept_words (objects_where os g) = rw (apart o.birth t) refl in
          omega (arith, a, b, c, more)
      | inr e ↦
          let b : kept_words (objects_where (o ∷ os) f) ≡ kept_words (objects_where os f) = rw e refl in
          elim (cases_Bool (g o.birth)) [
            | inl u ↦
                let a : kept_words (objects_where (o ∷ os) (λ x. f x || g x)) ≡ words_of o + kept_words (objects_where os (λ x. f x || g x)) = rw (e, u) (sum_by-cons words_of o (objects_where os (λ x. f x || g x))) in
                let c : kept_words (objects_where (o ∷ os) g) ≡ words_of o + kept_words (objects_where os g) = rw u (sum_by-cons words_of o (objects_where os g)) in
                omega (arith, a, b, c, more)
            | inr u ↦
                let a : kept_words (objects_where (o ∷ os) (λ x. f x || g x)) ≡ kept_words (objects_where os (λ x. f x || g x)) = rw (e, u) refl in
                let c : kept_words (objects_where (o ∷ os) g) ≡ kept_words (objects_where os g) = rw u refl in
                omega (arith, a, b, c, more)
          ]
    ]

module _ {stage : Stage} {moved : HeapParts} {moving : Moving} (s : Survived stage moved moving) where
  abbrev spot : Spot
  spot = s.after

  abbrev finds : ℕ → Bool
  finds x = is_in x s.after.placing.found

  -- the words of what moved
  words_settled : kept_words (objects_where stage.store.kept (settles stage.store (λ x. is_in x s.after.placing.found))) ≡ moving.words
  words_settled =
      let mid = survived_mid s in
      let stands = stage.stands in
      let either : ℕ → Bool = λ x. is_in x stage.store.settled || settles stage.store (λ y. is_in y s.after.placing.found) x in
      let names = map s.after.placing.name (old_places s.after.placing.places) in
      let placed = placed_words (map s.after.placing.name (old_places s.after.placing.places)) mid.words.objects refl in
      let end : births_where stage.store.kept (λ x. is_in x stage.store.settled || settles stage.store (λ y. is_in y s.after.placing.found) x) ≡ map s.after.placing.name (old_places s.after.placing.places) =
      settled_end mid.words.objects mid.follows (listed mid.pins) stands.sound.pins.unsettled in
      let whole : settled_words stage.store.kept (map s.after.placing.name (old_places s.after.placing.places))
      ≡ kept_words (objects_where stage.store.kept (λ x. is_in x stage.store.settled || settles stage.store (λ y. is_in y s.after.placing.found) x)) =
      ap (settled_words stage.store.kept) (sym end)
      ∙ ap kept_words (where-agree (λ x. is_in x (births_where stage.store.kept (λ z. is_in z stage.store.settled || settles stage.store (λ y. is_in y s.after.placing.found) z)))
      (λ x. is_in x stage.store.settled || settles stage.store (λ y. is_in y s.after.placing.found) x) stage.store.kept
      (λ x t. in-where (λ z. is_in z stage.store.settled || settles stage.store (λ y. is_in y s.after.placing.found) z) stage.store.kept x t)) in
      let parts = words-either stage.store.kept (λ x. is_in x stage.store.settled) (settles stage.store (λ y. is_in y s.after.placing.found))
      (λ x e. ap (λ (b : Bool). not b && (is_in x s.after.placing.found && not (is_in x (map (λ (entry : ℕ × ℕ). entry.0) stage.store.pinned)))) e) in
      omega (arith, placed.settled_are, whole, parts, mid.moved_words, s.standing.counted.words)

  pub counts_survivors : {dead destroyed : List ℕ} → FindsVanished stage s.after moved dead destroyed
      → CountsSurvivors stage (record { settled = moving.objects; settled_words = moving.words; vanished = length dead })
  counts_survivors {dead = dead} f =
      let mid = survived_mid s in
      record {
        survives = λ x. is_in x s.after.placing.found;
        tells = survivors_told mid.words.objects mid.words.moving mid.follows s.none;
        settled_are = s.standing.counted.objects ∙ sym (settled_count stage.stands mid s.none);
        words_are = sym words_settled;
        vanished_are = sym (dead_count stage.stands mid s.none dead f.once f.just f.all);
      }

-- as the call answers
pub counts_told : {old new : HeapParts} {moving later : Moving} {dead destroyed : List ℕ} {vanished : ℕ} → Separates old new moving dead destroyed → later ≡ moving → vanished ≡ length dead
    → (store : Store) (stands : PartsStandButYoung old store)
    → CountsSurvivors (record { start = old; store = store; stands = stands }) (record { settled = later.objects; settled_words = later.words; vanished = vanished })
counts_told {old = old} {later = later} {dead = dead} s same many store stands =
    let stage : Stage = record { start = old; store = store; stands = stands } in
    let one = s.survived store stands in
    subst (λ (v : ℕ). CountsSurvivors stage (record { settled = later.objects; settled_words = later.words; vanished = v })) (sym many)
    (subst (λ (m : Moving). CountsSurvivors stage (record { settled = m.objects; settled_words = m.words; vanished = length dead })) (sym same)
    (counts_survivors one (s.finds stage one.after one.standing.middle)))
