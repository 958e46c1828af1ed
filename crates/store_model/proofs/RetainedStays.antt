-- Collections keep what is retained, with its words, and nothing becomes retained.
use Rattle.std.proofs.Common.{◌≡◌, ℕ, ◌+◌, ◌<◌, ◌⊎◌, Bool, true, false, IsTrue, List, [], ◌∷◌, ◌++◌, map, Option, Some, None, refl, sym, ap, ◌∙◌, subst, inl, inr, arith}
use Rattle.std.specs.Prelude.{not, ◌==◌, ◌&&◌, nat_le, filter, filter_map, option_map, option_and_then}
use Rattle.std.specs.List.{cons_option}
use Rattle.std.proofs.lemmas.Bool.{cases_Bool}
use Rattle.std.proofs.lemmas.List.{map-append}
use Rattle.std.proofs.lemmas.List.Sums.{sum_by-cons}
use Rattle.text_model.specs.declared.line.Line.{Line}
use Rattle.text_model.specs.declared.line.Fate.{Fate}
use Rattle.text_model.specs.declared.line.Fate.TheVariants as fate
use Rattle.text_model.specs.declared.line.Phase.{Phase}
use Rattle.text_model.specs.declared.line.Phase.TheVariants.{Scanning, Marking, Sweeping, Finalizing}
use Rattle.object_model.specs.declared.settings.Settings.{Settings}
use Rattle.object_model.specs.Object.{Object, object_at, kept_words, words_of}
use Rattle.object_model.specs.Sets.{is_in}
use Rattle.object_model.proofs.Members.{and_first, and_second, and_both, in-left, in-right, in-either, is_in-head, is_in-tail, is_in-cases, is_in-nil, not-true}
use Rattle.type_table.specs.Table.{Table}
use Rattle.store_model.specs.Store.{Store, Struct, Linked, Unlinked, Pending}
use Rattle.store_model.specs.Structs.{forced_object, forced_objects}
use Rattle.store_model.specs.Links.{entry_after, left_by, fate_of}
use Rattle.store_model.specs.Roots.{is_kept, roots_of, registered_births, referents_in}
use Rattle.store_model.specs.Reach.{Tells, objects_where, refers, IsReachedFrom, IsRetained}
use Rattle.store_model.specs.MinorCollection.{MinorCollection, AreAllPinned, after_minor, vanishes, clear_target}
use Rattle.store_model.specs.Marking.{EndOfMarking, GoesOn, with_visited, visited_words, after_marking, is_white, is_condemned}
use Rattle.store_model.specs.Sweeping.{after_finalizing}
use Rattle.store_model.specs.Collections.{StepFrom}
use Rattle.store_model.specs.Sound.{IsSound}
use Rattle.store_model.proofs.Rounds.{LeadsTo-start, LeadsTo-step, LeadsTo-least}
use Rattle.store_model.proofs.After.{left_objects, kept_left, referents_left, was_kept, was_referent}
use Rattle.store_model.proofs.RootLaws.{roots_each, are_roots, chosen_births, queued_births}
use Rattle.store_model.proofs.Survives.{root_stays as root_survives, registered_stays as registered_survives, referent_stays as referent_survives}
use Rattle.store_model.proofs.EndOfMarking.{root_stays, registered_stays, stays_refers}
use Rattle.store_model.proofs.MarkedSound.{is_in-option, option-is_in, given_before, root_before, entry_part}
use Rattle.store_model.proofs.FinalSound.{queued_before}
use Rattle.store_model.proofs.Times.{times, times_queued}
use Rattle.store_model.proofs.StepsSound.{few_births, sound_visits}

-- what retains something: roots, and registered objects
abbrev pub retainers : Store → List ℕ
retainers store = roots_of store ++ registered_births store

-- Both stores retain the same, with the same words.
pub record KeepsRetained (old new : Store) : Type 0 where
  pub forward : (x : ℕ) → IsRetained old x → IsRetained new x
  pub backward : (x : ℕ) → IsRetained new x → IsRetained old x
  pub words : (retained : ℕ → Bool) → Tells retained (IsRetained old)
      → kept_words (objects_where new.kept retained) ≡ kept_words (objects_where old.kept retained)

pub keeps_none : (store : Store) → KeepsRetained store store
keeps_none store = record { forward = λ x r. r; backward = λ x r. r; words = λ retained tells. refl }

pub keeps_both : {old mid new : Store} → KeepsRetained old mid → KeepsRetained mid new → KeepsRetained old new
keeps_both a b = record {
  forward = λ x r. b.forward x (a.forward x r);
  backward = λ x r. a.backward x (b.backward x r);
  words = λ retained tells.
      b.words retained (λ x. (λ t. a.forward x ((tells x).0 t), λ r. (tells x).1 (a.backward x r))) ∙ a.words retained tells;
}

-- what is retained is kept
pub retained_kept : (store : Store) (x : ℕ) → IsRetained store x → IsTrue (is_kept store.kept x)
retained_kept store x r = LeadsTo-least (λ y. is_in y (retainers store) && is_kept store.kept y) (refers store.kept) (λ y. IsTrue (is_kept store.kept y))
    (λ y t. and_second (is_in y (retainers store)) (is_kept store.kept y) t)
    (λ y z p t. and_second (is_in z (referents_in (object_at store.kept y))) (is_kept store.kept z) t) x r

-- the words of objects that pass, of one more
one_passes : (o : Object) (os : List Object) (test : ℕ → Bool) → test o.birth ≡ true → kept_words (objects_where (o ∷ os) test) ≡ words_of o + kept_words (objects_where os test)
one_passes o os test e = rw e (sum_by-cons words_of o (objects_where os test))

one_fails : (o : Object) (os : List Object) (test : ℕ → Bool) → test o.birth ≡ false → kept_words (objects_where (o ∷ os) test) ≡ kept_words (objects_where os test)
one_fails o os test e = rw e refl

module _ (white gone test : ℕ → Bool) (stays : (x : ℕ) → test x ≡ true → gone x ≡ false) where
  words_stay : (kept : List Object) → kept_words (objects_where (left_objects white gone kept) test) ≡ kept_words (objects_where kept test)
  words_stay [] = refl
  words_stay (o ∷ os) = go (words_stay os) (cases_Bool (gone o.birth)) (cases_Bool (test o.birth))
    where
      left : List Object
      left = left_objects white gone os

      there : gone o.birth ≡ false → kept_words (objects_where (left_objects white gone (o ∷ os)) test) ≡ kept_words (objects_where (clear_target white o ∷ left) test)
      there e = rw e refl

      go : kept_words (objects_where left test) ≡ kept_words (objects_where os test) → (gone o.birth ≡ true) ⊎ (gone o.birth ≡ false) → (test o.birth ≡ true) ⊎ (test o.birth ≡ false)
          → kept_words (objects_where (left_objects white gone (o ∷ os)) test) ≡ kept_words (objects_where (o ∷ os) test)
      go more (inl g) (inl t) = absurd (let f = stays o.birth t in let no : ⊥ = cc in no)
      go more (inl g) (inr t) =
          let none : kept_words (objects_where (left_objects white gone (o ∷ os)) test) ≡ kept_words (objects_where left test) = rw g refl in
          none ∙ (more ∙ sym (one_fails o os test t))
      go more (inr g) (inl t) =
          there g ∙ (one_passes (clear_target white o) left test t ∙ (ap (λ n. words_of o + n) more ∙ sym (one_passes o os test t)))
      go more (inr g) (inr t) = there g ∙ (one_fails (clear_target white o) left test t ∙ (more ∙ sym (one_fails o os test t)))

-- what births lead to, where none of them goes, nor what they refer to
module _ (kept : List Object) (white gone : ℕ → Bool) (before after : List ℕ)
    (on : (x : ℕ) → IsTrue (is_in x before) → IsTrue (is_in x after) × (gone x ≡ false)) (back : (x : ℕ) → IsTrue (is_in x after) → IsTrue (is_in x before))
    (referred : (x y : ℕ) → gone x ≡ false → IsTrue (is_in y (referents_in (object_at kept x))) → IsTrue (is_kept kept y) → gone y ≡ false) where
  abbrev left : List Object
  left = left_objects white gone kept

  led_on : (x : ℕ) → IsReachedFrom kept before x → IsReachedFrom left after x × (gone x ≡ false)
  led_on x led = LeadsTo-least (λ y. is_in y before && is_kept kept y) (refers kept) (λ y. IsReachedFrom left after y × (gone y ≡ false))
      (λ y t.
      let goes_on = on y (and_first (is_in y before) (is_kept kept y) t) in
      let there = and_second (is_in y before) (is_kept kept y) t in (
        LeadsTo-start (λ z. is_in z after && is_kept left z) (refers left) y
            (and_both (is_in y after) (is_kept left y) goes_on.0 (kept_left white gone y kept goes_on.1 ∙ there)),
        goes_on.1,
      ))
      (λ y z p t.
      let named = and_first (is_in z (referents_in (object_at kept y))) (is_kept kept z) t in
      let there = and_second (is_in z (referents_in (object_at kept y))) (is_kept kept z) t in
      let stays = referred y z p.1 named there in (
        LeadsTo-step (λ w. is_in w after && is_kept left w) (refers left) y z p.0
            (and_both (is_in z (referents_in (object_at left y))) (is_kept left z)
            (subst (λ (ys : List ℕ). IsTrue (is_in z ys)) (sym (referents_left white gone y kept p.1)) named) (kept_left white gone z kept stays ∙ there)),
        stays,
      )) x led

  led_back : (x : ℕ) → IsReachedFrom left after x → IsReachedFrom kept before x
  led_back x led = LeadsTo-least (λ y. is_in y after && is_kept left y) (refers left) (IsReachedFrom kept before)
      (λ y t. LeadsTo-start (λ z. is_in z before && is_kept kept z) (refers kept) y
      (and_both (is_in y before) (is_kept kept y) (back y (and_first (is_in y after) (is_kept left y) t)) (was_kept white gone y kept (and_second (is_in y after) (is_kept left y) t)).0))
      (λ y z p t. LeadsTo-step (λ w. is_in w before && is_kept kept w) (refers kept) y z p
      (and_both (is_in z (referents_in (object_at kept y))) (is_kept kept z)
      (was_referent white gone y z kept (and_first (is_in z (referents_in (object_at left y))) (is_kept left z) t)).1
      (was_kept white gone z kept (and_second (is_in z (referents_in (object_at left y))) (is_kept left z) t)).0)) x led

  words_led : (test : ℕ → Bool) → Tells test (IsReachedFrom kept before) → kept_words (objects_where left test) ≡ kept_words (objects_where kept test)
  words_led test tells = words_stay white gone test (λ x t. (led_on x ((tells x).0 t)).1) kept

-- what P links keep where links are cut
forced-back : (gone : ℕ → Bool) (x : ℕ) (e : ℕ × Struct) → option_and_then (λ (f : ℕ × Struct). forced_object f.1) (entry_after gone e) ≡ Some x → forced_object e.1 ≡ Some x
forced-back gone x (n, Linked p light b own) h = go (gone b) refl h
  where
    none : (f : Fate) → option_and_then (λ (g : ℕ × Struct). forced_object g.1) (option_map (λ (s : Struct). (n, s)) (left_by f own)) ≡ Some x → ⊥
    none fate.Unlinked e = let no : ⊥ = cc in no
    none fate.Pending e = let no : ⊥ = cc in no
    none fate.Released e = let no : ⊥ = cc in no

    go : (t : Bool) → gone b ≡ t → option_and_then (λ (e : ℕ × Struct). forced_object e.1) (entry_after gone (n, Linked p light b own)) ≡ Some x → forced_object (Linked p light b own) ≡ Some x
    go true t h = absurd (none (fate_of light own) (rw t at h))
    go false t h = rw t at h
forced-back gone x (n, Unlinked own) h = absurd (let no : ⊥ = cc in no)
forced-back gone x (n, Pending) h = absurd (let no : ⊥ = cc in no)

forced-on : (gone : ℕ → Bool) (x : ℕ) → gone x ≡ false → (e : ℕ × Struct) → forced_object e.1 ≡ Some x → option_and_then (λ (f : ℕ × Struct). forced_object f.1) (entry_after gone e) ≡ Some x
forced-on gone x stays (n, Linked true light b own) h = go (own == 0) refl h
  where
    go : (t : Bool) → (own == 0) ≡ t → forced_object (Linked true light b own) ≡ Some x → option_and_then (λ (f : ℕ × Struct). forced_object f.1) (entry_after gone (n, Linked true light b own)) ≡ Some x
    go true t h = absurd (let bad : None ≡ Some x = (let f : forced_object (Linked true light b own) ≡ None = rw t refl in sym f) ∙ h in let no : ⊥ = cc in no)
    go false t h =
        let same : Some b ≡ Some x = (let f : forced_object (Linked true light b own) ≡ Some b = rw t refl in sym f) ∙ h in
        let is : b ≡ x = cc in let left : gone b ≡ false = ap gone is ∙ stays in rw left h
forced-on gone x stays (n, Linked false light b own) h = absurd (let no : ⊥ = cc in no)
forced-on gone x stays (n, Unlinked own) h = absurd (let no : ⊥ = cc in no)
forced-on gone x stays (n, Pending) h = absurd (let no : ⊥ = cc in no)

-- a number that entries give is given by those that are left of them
given_after : {X : Type 0} → (f : X → Option ℕ) (g : X → Option X) (x : ℕ) → ((y : X) → f y ≡ Some x → option_and_then f (g y) ≡ Some x)
    → (es : List X) → IsTrue (is_in x (filter_map f es)) → IsTrue (is_in x (filter_map f (filter_map g es)))
given_after f g x into [] t = t
given_after {X = X} f g x into (y ∷ es) t = go (given_after f g x into es) (g y) (into y) (is_in-option f g x (f y) (filter_map f es) t)
  where
    go : (IsTrue (is_in x (filter_map f es)) → IsTrue (is_in x (filter_map f (filter_map g es)))) → (o : Option X) → (f y ≡ Some x → option_and_then f o ≡ Some x)
        → (f y ≡ Some x) ⊎ IsTrue (is_in x (filter_map f es)) → IsTrue (is_in x (filter_map f (cons_option o (filter_map g es))))
    go more None one (inl e) = absurd (let h = one e in let no : ⊥ = cc in no)
    go more None one (inr u) = more u
    go more (Some z) one (inl e) = option-is_in f g x (f z) (filter_map f (filter_map g es)) (inl (one e))
    go more (Some z) one (inr u) = option-is_in f g x (f z) (filter_map f (filter_map g es)) (inr (more u))

forced_later : (gone : ℕ → Bool) (structs : Table Struct) (x : ℕ) → gone x ≡ false → IsTrue (is_in x (forced_objects structs)) → IsTrue (is_in x (forced_objects (filter_map (entry_after gone) structs)))
forced_later gone structs x stays t = given_after (λ (e : ℕ × Struct). forced_object e.1) (entry_after gone) x (forced-on gone x stays) structs t

forced_before : (gone : ℕ → Bool) (structs : Table Struct) (x : ℕ) → IsTrue (is_in x (forced_objects (filter_map (entry_after gone) structs))) → IsTrue (is_in x (forced_objects structs))
forced_before gone structs x t = given_before (λ (e : ℕ × Struct). forced_object e.1) (entry_after gone) x (forced-back gone x) structs t

-- A minor collection.
pub minor_keeps : (settings : Settings) (old : Store) (lines : List Line) (new : Store) → IsSound settings old → MinorCollection old lines new → KeepsRetained old new
minor_keeps settings old lines new s c = subst (KeepsRetained old) (sym c.leaves) (record {
  forward = λ x r. (led_on old.kept gone gone (retainers old) (retainers later) on back referred x r).0;
  backward = λ x r. led_back old.kept gone gone (retainers old) (retainers later) on back referred x r;
  words = λ test tells. words_led old.kept gone gone (retainers old) (retainers later) on back referred test tells;
})
  where
    gone : ℕ → Bool
    gone = vanishes old c.survives

    later : Store
    later = after_minor old c.survives

    root-on : (x : ℕ) → gone x ≡ false → IsTrue (is_in x (roots_of old)) → IsTrue (is_in x (roots_of later))
    root-on x stays t = roots_each {store = old} {P = λ y. gone y ≡ false → IsTrue (is_in y (roots_of later))} (record {
      slot = λ y u e. (are_roots later).slot y u;
      pin = λ y u e. (are_roots later).pin y u;
      choice = λ y u e. (are_roots later).choice y u;
      queue = λ y u e. (are_roots later).queue y u;
      force = λ y u e. (are_roots later).force y (forced_later gone old.structs y e u);
    }) x t stays

    root-back : (x : ℕ) → IsTrue (is_in x (roots_of later)) → IsTrue (is_in x (roots_of old))
    root-back x t = roots_each {store = later} {P = λ y. IsTrue (is_in y (roots_of old))} (record {
      slot = λ y u. (are_roots old).slot y u;
      pin = λ y u. (are_roots old).pin y u;
      choice = λ y u. (are_roots old).choice y u;
      queue = λ y u. (are_roots old).queue y u;
      force = λ y u. (are_roots old).force y (forced_before gone old.structs y u);
    }) x t

    on : (x : ℕ) → IsTrue (is_in x (retainers old)) → IsTrue (is_in x (retainers later)) × (gone x ≡ false)
    on x t = elim (in-either x (roots_of old) (registered_births old) t) [
      | inl a ↦
          let stays = not-true (gone x) (root_survives old c.survives c.tells x (s.roots x a) a) in
          (in-left x (roots_of later) (registered_births later) (root-on x stays a), stays)
      | inr a ↦ (in-right x (roots_of later) (registered_births later) a, not-true (gone x) (registered_survives old c.survives c.tells x (s.registered x a) a))
    ]

    back : (x : ℕ) → IsTrue (is_in x (retainers later)) → IsTrue (is_in x (retainers old))
    back x t = elim (in-either x (roots_of later) (registered_births later) t) [
      | inl a ↦ in-left x (roots_of old) (registered_births old) (root-back x a)
      | inr a ↦ in-right x (roots_of old) (registered_births old) a
    ]

    referred : (x y : ℕ) → gone x ≡ false → IsTrue (is_in y (referents_in (object_at old.kept x))) → IsTrue (is_kept old.kept y) → gone y ≡ false
    referred x y stays t there = not-true (gone y) (referent_survives old c.survives c.tells x y there (ap not stays) t)

-- an entry that passes is among those that do
entry-in : (test : ℕ → Bool) (es : List (ℕ × ℕ)) (x : ℕ) → test x ≡ true → IsTrue (is_in x (map (λ e. e.0) es)) → IsTrue (is_in x (map (λ e. e.0) (filter (λ e. test e.0) es)))
entry-in test [] x p t = t
entry-in test (e ∷ es) x p t = go (entry-in test es x p) (cases_Bool (test e.0)) (is_in-cases x e.0 (map (λ (f : ℕ × ℕ). f.0) es) t)
  where
    go : (IsTrue (is_in x (map (λ (f : ℕ × ℕ). f.0) es)) → IsTrue (is_in x (map (λ (f : ℕ × ℕ). f.0) (filter (λ f. test f.0) es)))) → (test e.0 ≡ true) ⊎ (test e.0 ≡ false)
        → (x ≡ e.0) ⊎ IsTrue (is_in x (map (λ (f : ℕ × ℕ). f.0) es)) → IsTrue (is_in x (map (λ (f : ℕ × ℕ). f.0) (filter (λ f. test f.0) (e ∷ es))))
    go more (inl k) (inl is) = rw k (subst (λ (z : ℕ). IsTrue (is_in z (e.0 ∷ map (λ (f : ℕ × ℕ). f.0) (filter (λ f. test f.0) es)))) (sym is) (is_in-head e.0 (map (λ (f : ℕ × ℕ). f.0) (filter (λ f. test f.0) es))))
    go more (inl k) (inr u) = rw k (is_in-tail x e.0 (map (λ (f : ℕ × ℕ). f.0) (filter (λ f. test f.0) es)) (more u))
    go more (inr k) (inl is) = absurd (let f : test x ≡ false = ap test is ∙ k in let no : ⊥ = cc in no)
    go more (inr k) (inr u) = rw k (more u)

-- The end of marking.
module _ (settings : Settings) (sweeps : 0 < settings.sweep) (store : Store) (sound : IsSound settings store) (pinned : AreAllPinned store) (marking : store.phase ≡ Marking)
    (lines : List Line) (new : Store) (e : EndOfMarking settings store lines new) where
  abbrev lost : ℕ → Bool
  lost = is_condemned store e.saved

  abbrev ended : Store
  ended = after_marking settings store e.saved e.chosen

  end-root : (x : ℕ) → IsTrue (is_in x (roots_of store)) → lost x ≡ false → IsTrue (is_in x (roots_of ended))
  end-root x t stays = roots_each {store = store} {P = λ y. lost y ≡ false → IsTrue (is_in y (roots_of ended))} (record {
    slot = λ y u k. (are_roots ended).slot y u;
    pin = λ y u k. (are_roots ended).pin y u;
    choice = λ y u k. (are_roots ended).choice y (subst (λ (ys : List ℕ). IsTrue (is_in y ys))
        (sym (map-append (λ (f : ℕ × ℕ). f.0) store.chosen (filter (λ f. e.chosen f.0) store.registered)))
        (in-left y (chosen_births store) (map (λ (f : ℕ × ℕ). f.0) (filter (λ f. e.chosen f.0) store.registered)) u));
    queue = λ y u k. (are_roots ended).queue y u;
    force = λ y u k. (are_roots ended).force y (forced_later lost store.structs y k u);
  }) x t stays

  end-registered : (x : ℕ) → IsTrue (is_in x (registered_births store)) → IsTrue (is_in x (retainers ended))
  end-registered x t = elim (cases_Bool (e.chosen x)) [
    | inl c ↦ in-left x (roots_of ended) (registered_births ended) ((are_roots ended).choice x (subst (λ (ys : List ℕ). IsTrue (is_in x ys))
        (sym (map-append (λ (f : ℕ × ℕ). f.0) store.chosen (filter (λ f. e.chosen f.0) store.registered)))
        (in-right x (chosen_births store) (map (λ (f : ℕ × ℕ). f.0) (filter (λ f. e.chosen f.0) store.registered)) (entry-in e.chosen store.registered x c t))))
    | inr n ↦ in-right x (roots_of ended) (registered_births ended) (entry-in (λ y. not (e.chosen y)) store.registered x (ap not n) t)
  ]

  end-on : (x : ℕ) → IsTrue (is_in x (retainers store)) → IsTrue (is_in x (retainers ended)) × (lost x ≡ false)
  end-on x t = elim (in-either x (roots_of store) (registered_births store) t) [
    | inl a ↦
        let stays = root_stays settings store sound pinned e.marked e.saved e.tells_saved x a in
        (in-left x (roots_of ended) (registered_births ended) (end-root x a stays), stays)
    | inr a ↦ (end-registered x a, registered_stays settings store sound pinned e.marked e.saved e.tells_saved x a)
  ]

  end-back : (x : ℕ) → IsTrue (is_in x (retainers ended)) → IsTrue (is_in x (retainers store))
  end-back x t =
      let few = few_births settings store sound in
      elim (in-either x (roots_of ended) (registered_births ended) t) [
        | inl a ↦ elim (root_before settings store sound pinned e.marked e.saved e.tells_saved e.chosen e.tells_chosen marking sweeps (omega (arith, few)) x a) [
          | inl b ↦ in-left x (roots_of store) (registered_births store) b
          | inr b ↦ in-right x (roots_of store) (registered_births store) b.0
        ]
        | inr a ↦ in-right x (roots_of store) (registered_births store) (entry_part (λ y. not (e.chosen y)) store.registered x a).0
      ]

  end-referred : (x y : ℕ) → lost x ≡ false → IsTrue (is_in y (referents_in (object_at store.kept x))) → IsTrue (is_kept store.kept y) → lost y ≡ false
  end-referred x y stays t there = stays_refers settings store sound pinned e.marked e.saved e.tells_saved x y stays t

  end_keeps : KeepsRetained store new
  end_keeps = subst (KeepsRetained store) (sym e.leaves) (record {
    forward = λ x r. (led_on store.kept (is_white store) lost (retainers store) (retainers ended) end-on end-back end-referred x r).0;
    backward = λ x r. led_back store.kept (is_white store) lost (retainers store) (retainers ended) end-on end-back end-referred x r;
    words = λ test tells. words_led store.kept (is_white store) lost (retainers store) (retainers ended) end-on end-back end-referred test tells;
  })

-- a number stands in a list exactly where it stands there some times
in-times : (x : ℕ) (xs : List ℕ) → IsTrue (is_in x xs) → 0 < times x xs
in-times x [] t = absurd (is_in-nil x t)
in-times x (y ∷ ys) t = elim (cases_Bool (y == x)) [
  | inl e ↦ (let one : times x (y ∷ ys) ≡ 1 + times x ys = rw e refl in omega (arith, one))
  | inr e ↦ (let more = in-times x ys (rw e at t) in let same : times x (y ∷ ys) ≡ 0 + times x ys = rw e refl in omega (arith, more, same))
]

times-in : (x : ℕ) (xs : List ℕ) → 0 < times x xs → IsTrue (is_in x xs)
times-in x [] some = absurd (let no : ⊥ = omega (arith, some) in no)
times-in x (y ∷ ys) some = elim (cases_Bool (y == x)) [
  | inl e ↦ rw e refl
  | inr e ↦ (let same : times x (y ∷ ys) ≡ 0 + times x ys = rw e refl in rw e (times-in x ys (omega (arith, some, same))))
]

-- The last step of a cycle.
module _ (settings : Settings) (old : Store) (sound : IsSound settings old) where
  abbrev done : Store
  done = after_finalizing settings old

  queued-on : (x : ℕ) → IsTrue (is_in x (chosen_births old)) ⊎ IsTrue (is_in x (queued_births old)) → IsTrue (is_in x (queued_births done))
  queued-on x (inl t) = let all = times_queued x old.chosen old.queues sound.queues_rise in let some = in-times x (chosen_births old) t in times-in x (queued_births done) (omega (arith, all, some))
  queued-on x (inr t) = let all = times_queued x old.chosen old.queues sound.queues_rise in let some = in-times x (queued_births old) t in times-in x (queued_births done) (omega (arith, all, some))

  final-on : (x : ℕ) → IsTrue (is_in x (roots_of old)) → IsTrue (is_in x (roots_of done))
  final-on x t = roots_each {store = old} {P = λ y. IsTrue (is_in y (roots_of done))} (record {
    slot = λ y u. (are_roots done).slot y u;
    pin = λ y u. (are_roots done).pin y u;
    choice = λ y u. (are_roots done).queue y (queued-on y (inl u));
    queue = λ y u. (are_roots done).queue y (queued-on y (inr u));
    force = λ y u. (are_roots done).force y u;
  }) x t

  final-back : (x : ℕ) → IsTrue (is_in x (roots_of done)) → IsTrue (is_in x (roots_of old))
  final-back x t = roots_each {store = done} {P = λ y. IsTrue (is_in y (roots_of old))} (record {
    slot = λ y u. (are_roots old).slot y u;
    pin = λ y u. (are_roots old).pin y u;
    choice = λ y u. absurd (is_in-nil y u);
    queue = λ y u. elim (queued_before old.chosen old.queues y u) [ inl a ↦ (are_roots old).choice y a | inr a ↦ (are_roots old).queue y a ];
    force = λ y u. (are_roots old).force y u;
  }) x t

  -- more births lead to more
  led-more : (kept : List Object) (before after : List ℕ) → ((x : ℕ) → IsTrue (is_in x before) → IsTrue (is_in x after)) → (x : ℕ) → IsReachedFrom kept before x → IsReachedFrom kept after x
  led-more kept before after on x (y, start, path, leads) =
      (y, and_both (is_in y after) (is_kept kept y) (on y (and_first (is_in y before) (is_kept kept y) start)) (and_second (is_in y before) (is_kept kept y) start), path, leads)

  retainer : (roots more registered : List ℕ) → ((x : ℕ) → IsTrue (is_in x roots) → IsTrue (is_in x more)) → (x : ℕ) → IsTrue (is_in x (roots ++ registered)) → IsTrue (is_in x (more ++ registered))
  retainer roots more registered on x t = elim (in-either x roots registered t) [ inl a ↦ in-left x more registered (on x a) | inr a ↦ in-right x more registered a ]

  final_keeps : KeepsRetained old done
  final_keeps = record {
    forward = λ x r. led-more old.kept (retainers old) (retainers done) (retainer (roots_of old) (roots_of done) (registered_births old) final-on) x r;
    backward = λ x r. led-more old.kept (retainers done) (retainers old) (retainer (roots_of done) (roots_of old) (registered_births old) final-back) x r;
    words = λ test tells. refl;
  }

-- A major step right after a minor collection.
module _ (settings : Settings) (sweeps : 0 < settings.sweep) where
  marking_keeps : (b : Bool) (old : Store) (visits lines : List Line) (new : Store) → old.phase ≡ Marking → AreAllPinned old → IsSound settings old → GoesOn b settings old visits lines new → KeepsRetained old new
  marking_keeps true old visits lines new marking pinned s g = subst (KeepsRetained old) (sym g.1) (keeps_none old)
  marking_keeps false old visits lines new marking pinned s (rest, e, is) = end_keeps settings sweeps old s pinned marking rest new e

  pub step_keeps : (phase : Phase) (old : Store) (lines : List Line) (new : Store) → old.phase ≡ phase → AreAllPinned old → IsSound settings old → StepFrom phase settings old lines new → KeepsRetained old new
  step_keeps Scanning old lines new is pinned s m =
      subst (KeepsRetained old) (sym m.leaves) (record { forward = λ x r. r; backward = λ x r. r; words = λ retained tells. refl })
  step_keeps Marking old lines new is pinned s m =
      let k = marking_keeps (nat_le settings.increment (visited_words old.kept m.births)) (with_visited old m.births) _ lines new is pinned (sound_visits settings old lines new is s m) m.goes_on in
      record { forward = λ x r. k.forward x r; backward = λ x r. k.backward x r; words = λ retained tells. k.words retained tells }
  step_keeps Sweeping old lines new is pinned s m =
      subst (KeepsRetained old) (sym m.leaves) (record { forward = λ x r. r; backward = λ x r. r; words = λ retained tells. refl })
  step_keeps Finalizing old lines new is pinned s m = subst (KeepsRetained old) (sym m.1) (final_keeps settings old s)
