-- A hash table from numbers to numbers as a finite map.
use Rattle.std.proofs.Common.{◌≡◌, ℕ, Bool, true, false, cond, nat_eq, List, [], ◌∷◌, ◌++◌, length, Option, Some, None, refl, sym, ap, ◌∙◌, subst, arith, option_to_list, IfSome}
use Rattle.std.proofs.lemmas.Bool.{eq-eqb}
use Rattle.std.proofs.lemmas.Bool.Decides.{nat_tests}
use Rattle.std.specs.Ordering.{nat_cmp, eq_by_cmp}
use Rattle.std.specs.Cmp.{nat_cmp_total}
use Rattle.std.specs.FinMap as map
use Rattle.std.specs.FinMap.{FinMap, find, nat_cmp-IsAntisymmetric, get-from_entries, get-insert, get-remove, same_map, from_entries_push}
use Rattle.std.specs.Map.{lookup}
use Rattle.indexmap.specs.IndexMap.{IndexMap, get, Updates, index_map_len}

-- what a contract sees of a table
abbrev pub seen : {S : Type 0} → IndexMap ℕ ℕ S → FinMap nat_cmp ℕ
seen table = map.from_entries table.entries

-- the order of numbers tells just the equal ones alike
same_number : (m n : ℕ) → eq_by_cmp nat_cmp m n ≡ nat_eq m n
same_number m n = grind (arith, nat_tests)

same_number-turned : (m n : ℕ) → eq_by_cmp nat_cmp m n ≡ nat_eq n m
same_number-turned m n = grind (arith, nat_tests)

find-lookup : (key : ℕ) (entries : List (ℕ × ℕ)) → find nat_cmp key entries ≡ lookup (nat_eq key) entries
find-lookup key [] = refl
find-lookup key (entry ∷ entries) =
    ap (λ test. cond test (Some entry.1) (find nat_cmp key entries)) (same_number key entry.0)
    ∙ ap (cond (nat_eq key entry.0) (Some entry.1)) (find-lookup key entries)

-- both answer a look-up alike
pub get-seen : {S : Type 0} (table : IndexMap ℕ ℕ S) (key : ℕ) → map.get (seen table) key ≡ get nat_eq table key
get-seen table key = get-from_entries nat_cmp_total table.entries key ∙ find-lookup key table.entries

pub seen-insert : {S : Type 0} (old new : IndexMap ℕ ℕ S) (key value : ℕ) → Updates nat_eq old new key (Some value)
    → seen new ≡ map.insert (seen old) key value
seen-insert old new key value updates =
    same_map nat_cmp_total nat_cmp-IsAntisymmetric (seen new) (map.insert (seen old) key value)
    (λ at. get-seen new at ∙ updates.0 at
    ∙ ap (λ test. cond test (Some value) (get nat_eq old at)) (sym (same_number-turned at key))
    ∙ ap (cond (eq_by_cmp nat_cmp at key) (Some value)) (sym (get-seen old at))
    ∙ sym (get-insert nat_cmp_total (seen old) key value at))

pub seen-remove : {S : Type 0} (old new : IndexMap ℕ ℕ S) (key : ℕ) → Updates nat_eq old new key None
    → seen new ≡ map.remove (seen old) key
seen-remove old new key updates =
    same_map nat_cmp_total nat_cmp-IsAntisymmetric (seen new) (map.remove (seen old) key)
    (λ at. get-seen new at ∙ updates.0 at
    ∙ ap (λ test. cond test None (get nat_eq old at)) (sym (same_number-turned at key))
    ∙ ap (cond (eq_by_cmp nat_cmp at key) None) (sym (get-seen old at))
    ∙ sym (get-remove nat_cmp_total (seen old) key at))

-- what is popped was the value at its key, which the table then lacks
pub popped-home : {S : Type 0} (old new : IndexMap ℕ ℕ S) (popped : Option (ℕ × ℕ))
    → old.entries ≡ new.entries ++ option_to_list popped → IfSome popped (λ pair. Updates nat_eq old new pair.0 None)
    → IfSome popped (λ pair. map.get (seen old) pair.0 ≡ Some pair.1)
popped-home old new None split updates = tt
popped-home old new (Some pair) split updates =
    let absent : find nat_cmp pair.0 new.entries ≡ None = find-lookup pair.0 new.entries ∙ updates.1 in
    let pushed : seen old ≡ map.insert (seen new) pair.0 pair.1 =
    ap map.from_entries split ∙ from_entries_push nat_cmp_total nat_cmp-IsAntisymmetric new.entries pair.0 pair.1 absent
    in
    ap (λ shadows. map.get shadows pair.0) pushed ∙ get-insert nat_cmp_total (seen new) pair.0 pair.1 pair.0
    ∙ ap (λ test. cond test (Some pair.1) (map.get (seen new) pair.0)) (same_number pair.0 pair.0 ∙ eq-eqb pair.0 pair.0 refl)

pub popped-removed : {S : Type 0} (old new : IndexMap ℕ ℕ S) (popped : Option (ℕ × ℕ))
    → IfSome popped (λ pair. Updates nat_eq old new pair.0 None)
    → IfSome popped (λ pair. seen new ≡ map.remove (seen old) pair.0)
popped-removed old new None updates = tt
popped-removed old new (Some pair) updates = seen-remove old new pair.0 updates

no-entries : {A : Type 0} (entries : List A) → length entries ≡ 0 → entries ≡ []
no-entries [] none = refl
no-entries (entry ∷ entries) none = absurd (omega (arith, none))

-- nothing is found in a table without entries
pub no-home : {S : Type 0} (table : IndexMap ℕ ℕ S) (now : FinMap nat_cmp ℕ) (key : ℕ) → seen table ≡ now → index_map_len table ≡ 0 → None ≡ map.get now key
no-home table now key view none =
    sym (ap (λ homes. map.get homes key) (sym view) ∙ get-seen table key ∙ ap (lookup (nat_eq key)) (no-entries table.entries none))

none-either : (test : Bool) → let none : Option ℕ = None in cond test none none ≡ none
none-either true = refl
none-either false = refl

-- nothing is taken off it
pub none-removed : {S : Type 0} (table : IndexMap ℕ ℕ S) (now : FinMap nat_cmp ℕ) (key : ℕ) → seen table ≡ now → index_map_len table ≡ 0 → now ≡ map.remove now key
none-removed table now key view none =
    subst (λ (homes : FinMap nat_cmp ℕ). homes ≡ map.remove homes key) view
    (same_map nat_cmp_total nat_cmp-IsAntisymmetric (seen table) (map.remove (seen table) key)
    (λ at. let absent : map.get (seen table) at ≡ None = sym (no-home table (seen table) at refl none) in
    absent ∙ sym (get-remove nat_cmp_total (seen table) key at ∙ ap (cond (eq_by_cmp nat_cmp at key) None) absent ∙ none-either (eq_by_cmp nat_cmp at key))))

-- what the steps of a table are to a map, for its methods
pub ruleset map_steps = (get-seen, seen-insert, seen-remove, popped-removed)
