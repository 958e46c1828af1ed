-- How many steps may come before a cycle ends: each block makes them fewer.
use Rattle.std.proofs.Common.{◌≡◌, ◌≢◌, ℕ, ◌+◌, ◌-◌, ◌*◌, ◌/◌, ◌<◌, ◌≤◌, Bool, true, false, IsTrue, List, [], ◌∷◌, ◌++◌, map, length, nat_eq, append-nil, append_assoc, refl, sym, ap, ◌∙◌, subst, inl, inr, arith}
use Rattle.std.specs.Prelude.{not, ◌&&◌, nat_le, suc, max}
use Rattle.std.specs.List.{IsDistinct}
use Rattle.std.proofs.Math.Nat.{div-le_self, div-mul-le_self}
use Rattle.std.proofs.lemmas.Nat.{le-div}
use Rattle.std.proofs.lemmas.List.Sums.{sum_by-cons}
use Rattle.std.proofs.lemmas.Bool.{cases_Bool}
use Rattle.std.proofs.lemmas.Bool.Decides.{eqb_tells, nat_tests}
use Rattle.text_model.specs.declared.line.Line.{Line}
use Rattle.text_model.specs.declared.line.Line.TheVariants as line
use Rattle.text_model.specs.declared.line.Phase.{Phase}
use Rattle.text_model.specs.declared.line.Phase.TheVariants.{Scanning, Marking, Sweeping, Finalizing}
use Rattle.object_model.specs.declared.settings.Settings.{Settings}
use Rattle.object_model.specs.Object.{Object, kept_words, words_of, object_at}
use Rattle.object_model.specs.Sets.{is_in}
use Rattle.object_model.proofs.Distinct.{apart-out}
use Rattle.object_model.proofs.Members.{and_first, and_second, is_in-head, is_in-tail, is_in-append, in-left, in-right, not-in, false-in, not-true}
use Rattle.store_model.specs.Store.{Store, is_settled}
use Rattle.store_model.specs.Reach.{objects_where}
use Rattle.store_model.specs.MinorCollection.{after_minor, vanishes, clear_target}
use Rattle.store_model.specs.Marking.{CanVisit, GoesOn, with_visited, visited_words, words_of_found}
use Rattle.store_model.specs.Sweeping.{MayEndIn, after_sweep}
use Rattle.store_model.specs.Collections.{StepFrom, Block, always}
use Rattle.store_model.specs.Sound.{IsSound, IsPhaseSound}
use Rattle.store_model.proofs.After.{left_objects}
use Rattle.store_model.proofs.Rounds.{list_all-is_in}

-- the words of the objects that are not among these births
abbrev pub unseen_words : List Object → List ℕ → ℕ
unseen_words kept visited = kept_words (objects_where kept (λ x. not (is_in x visited)))

-- the steps that sweeping has where it begins with so many objects and husks
abbrev pub sweeps_of : Settings → Store → ℕ
sweeps_of settings store = (length store.kept + length store.husks) / settings.sweep

-- The steps that may come, by the phase: one for each increment of words that are not visited, those that are left of sweeping,
-- and those between the phases.
abbrev pub steps_from : Settings → Phase → Store → ℕ
steps_from settings Scanning store = kept_words store.kept / settings.increment + sweeps_of settings store + 4
steps_from settings Marking store = unseen_words store.kept store.visited / settings.increment + sweeps_of settings store + 3
steps_from settings Sweeping store = max 1 store.left + 1
steps_from settings Finalizing store = 1

abbrev pub steps_ahead : Settings → Store → ℕ
steps_ahead settings store = steps_from settings store.phase store

-- quotients of numbers that are no greater, or smaller by the divisor
pub div-mono : (k a b : ℕ) → 0 < k → a ≤ b → a / k ≤ b / k
div-mono k a b some l = let low = div-mul-le_self a k in le-div (a / k) b k some (omega (arith, low, l))

div-less : (k a b : ℕ) → 0 < k → a + k ≤ b → a / k + 1 ≤ b / k
div-less k a b some l =
    let low = div-mul-le_self a k in
    let more : (a / k + 1) * k ≡ a / k * k + k = grind arith in le-div (a / k + 1) b k some (omega (arith, low, l, more))

-- the words of objects that pass a test, or a weaker one
pub all_words : (kept : List Object) (test : ℕ → Bool) → kept_words (objects_where kept test) ≤ kept_words kept
all_words [] test = omega arith
all_words (o ∷ os) test =
    let more = all_words os test in let all = sum_by-cons words_of o os in
    elim (cases_Bool (test o.birth)) [
      | inl e ↦ (let some : kept_words (objects_where (o ∷ os) test) ≡ words_of o + kept_words (objects_where os test) = rw e (sum_by-cons words_of o (objects_where os test)) in omega (arith, more, all, some))
      | inr e ↦ (let none : kept_words (objects_where (o ∷ os) test) ≡ kept_words (objects_where os test) = rw e refl in omega (arith, more, all, none))
    ]

passes : (o : Object) (os : List Object) (test : ℕ → Bool) → test o.birth ≡ true → kept_words (objects_where (o ∷ os) test) ≡ words_of o + kept_words (objects_where os test)
passes o os test e = rw e (sum_by-cons words_of o (objects_where os test))

fails : (o : Object) (os : List Object) (test : ℕ → Bool) → test o.birth ≡ false → kept_words (objects_where (o ∷ os) test) ≡ kept_words (objects_where os test)
fails o os test e = rw e refl

module _ (f g : ℕ → Bool) (weaker : (x : ℕ) → f x ≡ true → g x ≡ true) where
  words_fewer : (kept : List Object) → kept_words (objects_where kept f) ≤ kept_words (objects_where kept g)
  words_fewer [] = omega arith
  words_fewer (o ∷ os) =
      let more = words_fewer os in
      elim (cases_Bool (f o.birth)) [
        | inl e ↦ (let some = passes o os f e in let other = passes o os g (weaker o.birth e) in omega (arith, more, some, other))
        | inr e ↦
            let none = fails o os f e in
            elim (cases_Bool (g o.birth)) [
              | inl h ↦ (let other = passes o os g h in omega (arith, more, none, other))
              | inr h ↦ (let other = fails o os g h in omega (arith, more, none, other))
            ]
      ]

  -- and an object that passes only the weaker one
  words_one : (x : ℕ) → f x ≡ false → g x ≡ true → (kept : List Object) → words_of_found (object_at kept x) + kept_words (objects_where kept f) ≤ kept_words (objects_where kept g)
  words_one x out ok [] = omega arith
  words_one x out ok (o ∷ os) = elim (eqb_tells x o.birth) [
    | inl same ↦
        (let here : words_of_found (object_at (o ∷ os) x) ≡ words_of o = rw same.0 refl in
        let none = fails o os f (ap f (sym same.1) ∙ out) in let other = passes o os g (ap g (sym same.1) ∙ ok) in
        let more = words_fewer os in omega (arith, here, none, other, more))
    | inr differ ↦
        let there : words_of_found (object_at (o ∷ os) x) ≡ words_of_found (object_at os x) = rw differ.0 refl in
        let more = words_one x out ok os in
        elim (cases_Bool (f o.birth)) [
          | inl e ↦ (let some = passes o os f e in let other = passes o os g (weaker o.birth e) in omega (arith, more, there, some, other))
          | inr e ↦
              let none = fails o os f e in
              elim (cases_Bool (g o.birth)) [
                | inl h ↦ (let other = passes o os g h in omega (arith, more, there, none, other))
                | inr h ↦ (let other = fails o os g h in omega (arith, more, there, none, other))
              ]
        ]
  ]

-- what is left has no more words
left_words : (white gone test : ℕ → Bool) (kept : List Object) → kept_words (objects_where (left_objects white gone kept) test) ≤ kept_words (objects_where kept test)
left_words white gone test [] = omega arith
left_words white gone test (o ∷ os) =
    let more = left_words white gone test os in
    elim (cases_Bool (gone o.birth)) [
      | inl e ↦
          let left : kept_words (objects_where (left_objects white gone (o ∷ os)) test) ≡ kept_words (objects_where (left_objects white gone os) test) = rw e refl in
          elim (cases_Bool (test o.birth)) [
            | inl h ↦ (let all = passes o os test h in omega (arith, more, left, all))
            | inr h ↦ (let all = fails o os test h in omega (arith, more, left, all))
          ]
      | inr e ↦
          let same : left_objects white gone (o ∷ os) ≡ clear_target white o ∷ left_objects white gone os = rw e refl in
          let left : kept_words (objects_where (left_objects white gone (o ∷ os)) test) ≡ kept_words (objects_where (clear_target white o ∷ left_objects white gone os) test) =
          ap (λ (ks : List Object). kept_words (objects_where ks test)) same in
          elim (cases_Bool (test o.birth)) [
            | inl h ↦ (let all = passes o os test h in let one : kept_words (objects_where (clear_target white o ∷ left_objects white gone os) test) ≡ words_of o + kept_words (objects_where (left_objects white gone os) test) = passes (clear_target white o) (left_objects white gone os) test h in omega (arith, more, left, all, one))
            | inr h ↦ (let all = fails o os test h in let one = fails (clear_target white o) (left_objects white gone os) test h in omega (arith, more, left, all, one))
          ]
    ]

pub left_fewer : (white gone : ℕ → Bool) (kept : List Object) → length (left_objects white gone kept) ≤ length kept
left_fewer white gone [] = omega arith
left_fewer white gone (o ∷ os) =
    let more = left_fewer white gone os in let long : length (o ∷ os) ≡ suc (length os) = refl in
    elim (cases_Bool (gone o.birth)) [
      | inl e ↦ (let left : length (left_objects white gone (o ∷ os)) ≡ length (left_objects white gone os) = rw e refl in omega (arith, more, long, left))
      | inr e ↦ (let left : length (left_objects white gone (o ∷ os)) ≡ suc (length (left_objects white gone os)) = rw e refl in omega (arith, more, long, left))
    ]

pub left_all : (white gone : ℕ → Bool) (kept : List Object) → kept_words (left_objects white gone kept) ≤ kept_words kept
left_all white gone [] = omega arith
left_all white gone (o ∷ os) =
    let more = left_all white gone os in let all = sum_by-cons words_of o os in
    elim (cases_Bool (gone o.birth)) [
      | inl e ↦ (let left : kept_words (left_objects white gone (o ∷ os)) ≡ kept_words (left_objects white gone os) = rw e refl in omega (arith, more, all, left))
      | inr e ↦ (let left : kept_words (left_objects white gone (o ∷ os)) ≡ words_of o + kept_words (left_objects white gone os) = rw e (sum_by-cons words_of (clear_target white o) (left_objects white gone os)) in omega (arith, more, all, left))
    ]

-- what is visited is seen
visits_words : (kept : List Object) (visited births : List ℕ) → ((x : ℕ) → IsTrue (is_in x births) → is_in x visited ≡ false) → IsDistinct nat_eq births
    → visited_words kept births + unseen_words kept (visited ++ births) ≤ unseen_words kept visited
unfolding IsDistinct
visits_words kept visited [] new differ = subst (λ (vs : List ℕ). 0 + unseen_words kept vs ≤ unseen_words kept visited) (sym (append-nil visited)) (omega arith)
visits_words kept visited (x ∷ births) new differ =
    let apart = apart-out x births differ.0 in
    let rest = visits_words kept (visited ++ x ∷ []) births
    (λ y t. false-in y (visited ++ x ∷ []) (λ u. elim (is_in-append visited x y u) [
      | inl is ↦ not-in x births apart (subst (λ (k : ℕ). IsTrue (is_in k births)) is t)
      | inr old ↦ not-in y visited (new y (is_in-tail y x births t)) old
    ])) differ.1 in
    let one = words_one (λ y. not (is_in y (visited ++ x ∷ []))) (λ y. not (is_in y visited))
    (λ y e. elim (cases_Bool (is_in y visited)) [
      | inl t ↦ absurd (let all : is_in y (visited ++ x ∷ []) ≡ true = in-left y visited (x ∷ []) t in let f : not (is_in y (visited ++ x ∷ [])) ≡ false = ap not all in let no : ⊥ = cc in no)
      | inr f ↦ ap not f
    ])
    x (ap not (in-right x visited (x ∷ []) (is_in-head x []))) (ap not (new x (is_in-head x births))) kept in
    let all = sum_by-cons (λ (y : ℕ). words_of_found (object_at kept y)) x births in
    let same : unseen_words kept (visited ++ x ∷ [] ++ births) ≡ unseen_words kept (visited ++ (x ∷ births)) = ap (unseen_words kept) (append_assoc visited (x ∷ []) births) in
    omega (arith, rest, one, all, same)

module _ (settings : Settings) (sweeps : 0 < settings.sweep) (visits : 0 < settings.increment) where
  -- a minor collection lets no more of them come
  minor_ahead : (old : Store) (survives : ℕ → Bool) → steps_ahead settings (after_minor old survives) ≤ steps_ahead settings old
  minor_ahead old survives = go old.phase
    where
      gone : ℕ → Bool
      gone = vanishes old survives

      fewer : sweeps_of settings (after_minor old survives) ≤ sweeps_of settings old
      fewer = let less = left_fewer gone gone old.kept in div-mono settings.sweep (length (left_objects gone gone old.kept) + length old.husks) (length old.kept + length old.husks) sweeps (omega (arith, less))

      go : (phase : Phase) → steps_from settings phase (after_minor old survives) ≤ steps_from settings phase old
      go Scanning = let few = div-mono settings.increment _ _ visits (left_all gone gone old.kept) in let less = fewer in omega (arith, few, less)
      go Marking = let few = div-mono settings.increment _ _ visits (left_words gone gone (λ x. not (is_in x old.visited)) old.kept) in let less = fewer in omega (arith, few, less)
      go Sweeping = omega arith
      go Finalizing = omega arith

  -- what a step may visit was not visited
  not_visited : (store : Store) (births : List ℕ) → CanVisit settings.increment store births → (x : ℕ) → IsTrue (is_in x births) → is_in x store.visited ≡ false
  not_visited store births can x t =
      let test : IsTrue (is_settled store.settled x && (not (is_in x store.visited) && not (is_in x store.unreached))) =
      list_all-is_in (λ y. is_settled store.settled y && (not (is_in y store.visited) && not (is_in y store.unreached))) x births can.unvisited t in
      not-true (is_in x store.visited) (and_first (not (is_in x store.visited)) (not (is_in x store.unreached))
      (and_second (is_settled store.settled x) (not (is_in x store.visited) && not (is_in x store.unreached)) test))

  -- a major step makes them fewer, unless the cycle ends
  marking_ahead : (b : Bool) (store : Store) (births : List ℕ) (lines : List Line) (new : Store) → store.phase ≡ Marking
      → nat_le settings.increment (visited_words store.kept births) ≡ b → CanVisit settings.increment store births
      → GoesOn b settings (with_visited store births) (map (λ x. line.Visited x) births) lines new → steps_ahead settings new + 1 ≤ steps_from settings Marking store
  marking_ahead true store births lines new marking e can g =
      let less = visits_words store.kept store.visited births (not_visited store births can) can.differ in
      let enough : settings.increment ≤ visited_words store.kept births = grind (arith, nat_tests) in
      let fewer = div-less settings.increment (unseen_words store.kept (store.visited ++ births)) (unseen_words store.kept store.visited) visits (omega (arith, less, enough)) in
      subst (λ (n : Store). steps_ahead settings n + 1 ≤ steps_from settings Marking store) (sym g.1)
      (subst (λ (phase : Phase). steps_from settings phase (with_visited store births) + 1 ≤ steps_from settings Marking store) (sym marking) (omega (arith, fewer)))
  marking_ahead false store births lines new marking e can (rest, end, is) =
      subst (λ (n : Store). steps_ahead settings n + 1 ≤ steps_from settings Marking store) (sym end.leaves)
      (omega arith)

  sweep_ahead : (phase : Phase) (store : Store) (freed : ℕ → Bool) → MayEndIn phase (after_sweep store freed phase) → steps_from settings phase (after_sweep store freed phase) + 1 ≤ steps_from settings Sweeping store
  sweep_ahead Scanning store freed may = absurd may
  sweep_ahead Marking store freed may = absurd may
  sweep_ahead Sweeping store freed may = omega (arith, may)
  sweep_ahead Finalizing store freed may = omega arith

  major_ahead : (phase : Phase) (store : Store) (lines : List Line) (new : Store) → store.phase ≡ phase
      → StepFrom phase settings store lines new → new.phase ≢ Scanning → steps_ahead settings new + 1 ≤ steps_from settings phase store
  major_ahead Scanning store lines new is s goes_on =
      subst (λ (n : Store). steps_ahead settings n + 1 ≤ steps_from settings Scanning store) (sym s.leaves)
      (let fewer = div-mono settings.increment _ _ visits (all_words store.kept (λ x. not (is_in x []))) in omega (arith, fewer))
  major_ahead Marking store lines new is s goes_on =
      marking_ahead (nat_le settings.increment (visited_words store.kept s.births)) store s.births lines new is refl s.can s.goes_on
  major_ahead Sweeping store lines new is s goes_on =
      subst (λ (n : Store). steps_ahead settings n + 1 ≤ steps_from settings Sweeping store) (sym s.leaves) (sweep_ahead s.phase store s.freed (subst (MayEndIn s.phase) s.leaves s.may_end))
  major_ahead Finalizing store lines new is s goes_on = absurd (goes_on (ap (λ (n : Store). n.phase) s.1))

  -- and so does a block
  pub block_ahead : (old : Store) (lines : List Line) (new : Store) → Block always settings old lines new → new.phase ≢ Scanning → steps_ahead settings new + 1 ≤ steps_ahead settings old
  block_ahead old lines new b goes_on =
      let c = b.collected in
      let first : steps_ahead settings b.mid ≤ steps_ahead settings old = subst (λ (m : Store). steps_ahead settings m ≤ steps_ahead settings old) (sym c.leaves) (minor_ahead old c.survives) in
      let second = major_ahead b.mid.phase b.mid b.major new refl b.stepped goes_on in omega (arith, first, second)

-- a step is ahead
pub ahead_some : (settings : Settings) (store : Store) → 0 < steps_ahead settings store
ahead_some settings store = go store.phase
  where
    go : (phase : Phase) → 0 < steps_from settings phase store
    go Scanning = omega arith
    go Marking = omega arith
    go Sweeping = omega arith
    go Finalizing = omega arith

-- they are never more than that
pub ahead_most : (settings : Settings) (store : Store) → IsSound settings store → length store.kept + 1 ≤ store.next → steps_ahead settings store ≤ kept_words store.kept + store.next + 4
ahead_most settings store sound few = go store.phase refl
  where
    swept : store.husks ≡ [] → sweeps_of settings store ≤ store.next
    swept none = let low = div-le_self (length store.kept + length store.husks) settings.sweep in let nothing : length store.husks ≡ 0 = ap length none in omega (arith, low, nothing, few)

    go : (phase : Phase) → store.phase ≡ phase → steps_from settings phase store ≤ kept_words store.kept + store.next + 4
    go Scanning is =
        let p : IsPhaseSound Scanning settings.sweep store = subst (λ (ph : Phase). IsPhaseSound ph settings.sweep store) is sound.phase in
        let low = div-le_self (kept_words store.kept) settings.increment in let less = swept p.0 in omega (arith, low, less)
    go Marking is =
        let p : IsPhaseSound Marking settings.sweep store = subst (λ (ph : Phase). IsPhaseSound ph settings.sweep store) is sound.phase in
        let low = div-le_self (unseen_words store.kept store.visited) settings.increment in let all = all_words store.kept (λ x. not (is_in x store.visited)) in
        let less = swept p.0 in omega (arith, low, all, less)
    go Sweeping is =
        let p : IsPhaseSound Sweeping settings.sweep store = subst (λ (ph : Phase). IsPhaseSound ph settings.sweep store) is sound.phase in
        let low = div-le_self (store.next - 1) settings.sweep in let most = p.0 in omega (arith, low, most, few)
    go Finalizing is = omega arith
