-- The homes of objects: which ones were told, and what telling them leaves.
use Rattle.std.proofs.Common.{◌≡◌, ◌≢◌, ℕ, ◌+◌, ◌<◌, ◌⊎◌, Bool, true, false, cond, IsTrue, nat_eq, List, [], ◌∷◌, ◌++◌, map, Option, Some, None, refl, sym, ap, ◌∙◌, subst, inl, inr, arith}
use Rattle.std.specs.Prelude.{IsFalse, ◌==◌}
use Rattle.std.specs.List.{IsDistinct, AllByRecursion}
use Rattle.std.proofs.lemmas.Bool.{cases_Bool}
use Rattle.std.proofs.lemmas.Bool.Decides.{eqb_tells, nat_tests}
use Rattle.type_table.specs.Table.{Table, KeysRise, value_at, with_value}
use Rattle.type_table.proofs.TableLaws.{value_at-with_value, KeysRise-with_value, KeysRise-tail}
use Rattle.object_model.proofs.Members.{is_in-head, is_in-tail, is_in-cases, is_in-nil, in-either}
use Rattle.rawref_links.proofs.Tables.{same_table, value_at-first, value_at-behind_first}
use Rattle.object_model.specs.Object.{Object}
use Rattle.object_model.specs.Sets.{is_in}
use Rattle.store_model.specs.Store.{Store}
use Rattle.store_model.specs.Identity.{home_places, MayTell, TellsHome}
use Rattle.heap_parts.specs.Parts.{HeapParts, word_in, place_in, home_in}
use Rattle.heap_parts.specs.Places.{is_young, old_places}
use Rattle.heap_parts.specs.OldSpace.{husk_at}
use Rattle.heap_parts.specs.StandsFor.{PartsStandFor}
use Rattle.frame_laws.proofs.PlaceLaws.{young-is_in, old-is_in, is_in-old}
use Rattle.frame_laws.proofs.StandLaws.{in_slot}
use Rattle.store_model.proofs.BirthSound.{kept-in}
use Rattle.frame_laws.proofs.ReviveStands.{named-kept}
use Rattle.command_laws.proofs.HomeStands.{settled_home_free, tell_settled_stands}

-- a value that a key has is written again
pub with_value-same : (table : Table ℕ) (key value : ℕ) → KeysRise table → value_at table key ≡ Some value → with_value table key value ≡ table
with_value-same table key value rises e =
    same_table (with_value table key value) table (KeysRise-with_value table key value rises) rises (λ q. elim (eqb_tells q key) [
      | inl is ↦ value_at-with_value table key q value ∙ (ap (λ (b : Bool). cond b (Some value) (value_at table q)) is.0 ∙ (sym e ∙ ap (value_at table) (sym is.1)))
      | inr is ↦ value_at-with_value table key q value ∙ ap (λ (b : Bool). cond b (Some value) (value_at table q)) is.0
    ])

-- what is in neither part of a list of births that differ twice
all-out : (z : ℕ) (xs ys : List ℕ) → AllByRecursion (λ y. nat_eq z y ≡ false) (xs ++ ys) → IsFalse (is_in z ys)
all-out z (x ∷ xs) ys all = all-out z xs ys all.1
all-out z [] [] all = refl
all-out z [] (y ∷ ys) all = let f = all.0 in let out : (y == z) ≡ false = grind (arith, nat_tests) in rw out (all-out z [] ys all.1)

distinct-apart : (xs ys : List ℕ) → IsDistinct nat_eq (xs ++ ys) → (x : ℕ) → IsTrue (is_in x xs) → IsFalse (is_in x ys)
unfolding IsDistinct
distinct-apart [] ys d x t = absurd (is_in-nil x t)
distinct-apart (z ∷ xs) ys d x t = elim (is_in-cases x z xs t) [
  | inl e ↦ subst (λ (k : ℕ). IsFalse (is_in k ys)) (sym e) (all-out z xs ys d.0)
  | inr u ↦ distinct-apart xs ys d.1 x u
]

husk-key : (f : ℕ → ℕ × ℕ) (husks : List ℕ) (p : ℕ) → IsTrue (is_in p husks) → IsTrue (is_in (f p).0 (map (λ entry. entry.0) (map f husks)))
husk-key f [] p t = absurd (is_in-nil p t)
husk-key f (q ∷ husks) p t = elim (is_in-cases p q husks t) [
  | inl e ↦ (let P : ℕ → Type 0 = λ k. IsTrue (is_in (f p).0 ((f k).0 ∷ map (λ (entry : ℕ × ℕ). entry.0) (map f husks))) in subst P e (is_in-head (f p).0 (map (λ (entry : ℕ × ℕ). entry.0) (map f husks))))
  | inr u ↦ is_in-tail (f p).0 (f q).0 (map (λ (entry : ℕ × ℕ). entry.0) (map f husks)) (husk-key f husks p u)
]

-- no husk has the name of an object
husk_unnamed : {heap : HeapParts} {store : Store} (s : PartsStandFor heap store) (p at : ℕ) → IsTrue (is_in p s.places) → IsTrue (is_in at s.husks) → s.name at ≡ s.name p → ⊥
husk_unnamed {heap = heap} {store = store} s p at t u e =
    let w : ℕ → ℕ = word_in heap in
    let key : IsTrue (is_in (w (at + 1)) (map (λ entry. entry.0) (map (husk_at heap.setup.types w) s.husks))) = husk-key (husk_at heap.setup.types w) s.husks at u in
    let there : IsTrue (is_in (s.name p) (map (λ entry. entry.0) store.husks)) =
    subst (λ (es : List (ℕ × ℕ)). IsTrue (is_in (s.name p) (map (λ entry. entry.0) es))) (sym s.words.husk.reads)
    (subst (λ (k : ℕ). IsTrue (is_in k (map (λ entry. entry.0) (map (husk_at heap.setup.types w) s.husks)))) (sym (s.words.husk.named at u) ∙ e) key) in
    let out = distinct-apart (map (λ (o : Object). o.birth) store.kept) (map (λ (h : ℕ × ℕ). h.0) store.husks) s.sound.births.differ (s.name p) (kept-in store.kept (s.name p) (named-kept s p t)) in
    let no : ⊥ = cc in no

-- the home of an object that was told is its place, if it is settled, and else what is reserved for it
pub home_told : {heap : HeapParts} {store : Store} (s : PartsStandFor heap store) (p at : ℕ) → IsTrue (is_in p s.places) → value_at store.homes (s.name p) ≡ Some at
    → ((is_young p ≡ false) × (at ≡ p)) ⊎ ((is_young p ≡ true) × (home_in heap p ≡ Some at))
home_told {heap = heap} {store = store} s p at t e = elim (s.homes.told (s.name p) at e) [
  | inl o ↦ elim (in-either at (old_places s.places) s.husks o.there) [
    | inl u ↦ (let old = old-is_in s.places at u in let same : at ≡ p = s.words.objects.differ at p old.0 t o.named in inl (ap is_young (sym same) ∙ old.1, same))
    | inr u ↦ absurd (husk_unnamed s p at t u o.named)
  ]
  | inr r ↦ (let young = young-is_in s.places r.place r.there in let same : r.place ≡ p = s.words.objects.differ r.place p young.0 t r.named in inr (ap is_young (sym same) ∙ young.1, ap (home_in heap) (sym same) ∙ r.reserved))
]

-- a home that is listed is that of some birth
listed-home : (homes : Table ℕ) (place : ℕ) → KeysRise homes → ((other : ℕ) → value_at homes other ≡ Some place → ⊥) → IsTrue (is_in place (home_places homes)) → ⊥
listed-home [] place rises free t = is_in-nil place t
listed-home (entry ∷ homes) place rises free t = elim (is_in-cases place entry.1 (home_places homes) t) [
  | inl e ↦ free entry.0 (value_at-first entry homes ∙ ap Some (sym e))
  | inr u ↦ listed-home homes place (KeysRise-tail entry homes rises) (λ other f. elim (eqb_tells other entry.0) [
    | inl is ↦ (let none : value_at homes other ≡ None = ap (value_at homes) is.1 ∙ value_at-behind_first entry homes rises in let no : ⊥ = cc in no)
    | inr is ↦ free other (ap (λ (b : Bool). cond b (Some entry.1) (value_at homes other)) is.0 ∙ f)
  ]) u
]

-- what nobody has for a home is not listed
pub free-home : (homes : Table ℕ) (place : ℕ) → KeysRise homes → ((other : ℕ) → value_at homes other ≡ Some place → ⊥) → IsFalse (is_in place (home_places homes))
free-home homes place rises free = elim (cases_Bool (is_in place (home_places homes))) [ inl t ↦ absurd (listed-home homes place rises free t) | inr f ↦ f ]

-- the home of the object in a slot is told again
pub known_tells : (heap : HeapParts) (store : Store) (root at : ℕ) (s : PartsStandFor heap store) → place_in heap root ≢ 0
    → value_at store.homes (s.name (place_in heap root)) ≡ Some at → TellsHome store root at store
known_tells heap store root at s full e =
    let birth : ℕ = s.name (place_in heap root) in record {
      birth = birth;
      is_held = (in_slot heap store root s full).named;
      may = subst (λ (found : Option ℕ). MayTell found store.homes at) (sym e) refl;
      leaves = ap (λ (homes : Table ℕ). record store { homes = homes }) (sym (with_value-same store.homes birth at s.sound.births.homes_rise e));
    }

-- and for the first time, if it is nobody else's
pub new_tells : (heap : HeapParts) (store : Store) (root at : ℕ) (s : PartsStandFor heap store) → place_in heap root ≢ 0
    → value_at store.homes (s.name (place_in heap root)) ≡ None → 0 < at → ((other : ℕ) → value_at store.homes other ≡ Some at → ⊥)
    → TellsHome store root at (record store { homes = with_value store.homes (s.name (place_in heap root)) at })
new_tells heap store root at s full none above free = record {
  birth = s.name (place_in heap root);
  is_held = (in_slot heap store root s full).named;
  may = subst (λ (found : Option ℕ). MayTell found store.homes at) (sym none) (above, free-home store.homes at s.sound.births.homes_rise free);
  leaves = refl;
}

-- The home of a settled object is its place.
pub settled_tells : (heap : HeapParts) (store : Store) (root : ℕ) (found : Option ℕ) (s : PartsStandFor heap store) → place_in heap root ≢ 0 → is_young (place_in heap root) ≡ false
    → value_at store.homes (s.name (place_in heap root)) ≡ found
    → (later : Store) × TellsHome store root (place_in heap root) later × PartsStandFor heap later
settled_tells heap store root None s full old e =
    let p : ℕ = place_in heap root in let there = (in_slot heap store root s full).there in
    let t : IsTrue (is_in p (old_places s.places)) = is_in-old s.places p there old in (
      record store { homes = with_value store.homes (s.name p) p },
      new_tells heap store root p s full e (omega (arith, full))
          (λ other f. let same = settled_home_free s p t other f in let none : value_at store.homes other ≡ None = ap (value_at store.homes) same ∙ e in let no : ⊥ = cc in no),
      tell_settled_stands heap store p s t e,
    )
settled_tells heap store root (Some at) s full old e =
    let p : ℕ = place_in heap root in
    let is : at ≡ p = elim (home_told s p at (in_slot heap store root s full).there e) [ inl o ↦ o.1 | inr y ↦ absurd (let yes = y.0 in let no : ⊥ = cc in no) ] in
    (store, subst (λ (k : ℕ). TellsHome store root k store) is (known_tells heap store root at s full e), s)
