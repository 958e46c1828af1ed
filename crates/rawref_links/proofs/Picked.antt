-- What is told of entries of a table by rising key is what a walk over the whole table tells.
use Rattle.std.proofs.Common.{◌≡◌, ℕ, suc, Bool, true, false, cond, ◌||◌, ◌==◌, ◌<◌, List, [], ◌∷◌, get_or, Option, Some, None, is_some, filter_map, Contains, sym, refl, ap, ◌∙◌, arith}
use Rattle.std.specs.List.{cons_option}
use Rattle.std.specs.List.Sorted.{IsStrictlyIncreasing, IsStrictlySortedBy}
use Rattle.std.specs.Ordering.{nat_cmp}
use Rattle.std.proofs.lemmas.Bool.{eqb-true, eq-eqb}
use Rattle.std.proofs.lemmas.Bool.Decides.{nat_tests}
use Rattle.std.proofs.lemmas.Map.Keys.{below_from_sorted, sorted_tail, sorted_from_strictly_increasing}
use Rattle.type_table.specs.Table.{Table, KeysRise, value_at}
use Rattle.type_table.proofs.TableLaws.{KeysRise-tail}
use Rattle.object_model.specs.Sets.{is_in, AreDifferent}
use Rattle.rawref_links.proofs.Tables.{value_at-first, value_at-behind_first, value_at-lower}
use Rattle.rawref_links.proofs.Numbers.{Contains-from_is_in}

-- each number is below those behind it
abbrev pub Rises : List ℕ → Type 0
Rises [] = Unit {0}
Rises (number ∷ numbers) = ((q : ℕ) → is_in q numbers ≡ true → number < q) × Rises numbers

or_true : (b : Bool) → (b || true) ≡ true
or_true true = refl
or_true false = refl

Rises-sorted : (numbers : List ℕ) → IsStrictlySortedBy nat_cmp numbers → Rises numbers
Rises-sorted [] sorted = tt
Rises-sorted (number ∷ numbers) sorted = (
  λ q there. let at : Contains numbers q = Contains-from_is_in q numbers there in
      let lower : number < get_or numbers at.0 q = below_from_sorted (number ∷ numbers) 0 (suc at.0) q sorted (omega arith) (omega (arith, at.1)) in
      rw at.2 at lower,
  Rises-sorted numbers (sorted_tail nat_cmp number numbers sorted),
)

pub Rises-increasing : (numbers : List ℕ) → IsStrictlyIncreasing numbers → Rises numbers
Rises-increasing numbers rising = Rises-sorted numbers (sorted_from_strictly_increasing numbers rising)

-- the first number is not among the others
first_alone : (number : ℕ) (numbers : List ℕ) → Rises (number ∷ numbers) → (found : Bool) → is_in number numbers ≡ found → found ≡ false
first_alone number numbers rises true there = absurd (omega (arith, rises.0 number there))
first_alone number numbers rises false absent = refl

pub AreDifferent-rising : (numbers : List ℕ) → Rises numbers → AreDifferent numbers
AreDifferent-rising [] rises = tt
AreDifferent-rising (number ∷ numbers) rises =
    (first_alone number numbers rises (is_in number numbers) refl, AreDifferent-rising numbers rises.1)

pub filter_map-same : {Y : Type 0} (h k : ℕ → Option Y) (numbers : List ℕ) → ((n : ℕ) → is_in n numbers ≡ true → h n ≡ k n)
    → filter_map h numbers ≡ filter_map k numbers
filter_map-same h k [] same = refl
filter_map-same h k (number ∷ numbers) same =
    let first : h number ≡ k number = same number (ap (λ t. t || is_in number numbers) (eq-eqb number number refl)) in
    let rest : filter_map h numbers ≡ filter_map k numbers =
    filter_map-same h k numbers (λ n there. same n (ap (λ t. (number == n) || t) there ∙ or_true (number == n)))
    in
    ap (λ r. cons_option r (filter_map h numbers)) first ∙ ap (cons_option (k number)) rest

module _ {X Y : Type 0} (g : ℕ → X → Option Y) where
  -- what the test gives of what was found
  abbrev pub found_by : ℕ → Option X → Option Y
  found_by n None = None
  found_by n (Some x) = g n x

  -- a first entry that gives nothing may be passed over
  skipped : (entry : ℕ × X) (table : Table X) → KeysRise (entry ∷ table) → g entry.0 entry.1 ≡ None → (n : ℕ)
      → found_by n (value_at (entry ∷ table) n) ≡ found_by n (value_at table n)
  skipped entry table rises none n = elim (n == entry.0) as (λ t. (n == entry.0) ≡ t
      → found_by n (cond t (Some entry.1) (value_at table n)) ≡ found_by n (value_at table n)) [
        | true ↦ λ is_entry. ap (λ m. g m entry.1) (eqb-true n entry.0 is_entry) ∙ none
            ∙ sym (ap (found_by n) (ap (value_at table) (eqb-true n entry.0 is_entry) ∙ value_at-behind_first entry table rises))
        | false ↦ λ differ. refl
      ] refl

  pub picked : (table : Table X) (numbers : List ℕ) → KeysRise table → Rises numbers
      → ((n : ℕ) → is_in n numbers ≡ is_some (found_by n (value_at table n)))
      → filter_map (λ n. found_by n (value_at table n)) numbers ≡ filter_map (λ entry. g entry.0 entry.1) table
  picked [] [] rises rising listed = refl
  picked [] (m ∷ ms) rises rising listed =
      let clash : true ≡ false = sym (ap (λ t. t || is_in m ms) (eq-eqb m m refl)) ∙ listed m in
      absurd (cc)
  picked (entry ∷ table) numbers rises rising listed =
      elim (g entry.0 entry.1) as (λ r. g entry.0 entry.1 ≡ r → filter_map (λ n. found_by n (value_at (entry ∷ table) n)) numbers
      ≡ cons_option r (filter_map (λ e. g e.0 e.1) table)) [
        | None ↦ λ none.
            (λ i. filter_map (λ n. skipped entry table rises none n i) numbers)
            ∙ picked table numbers (KeysRise-tail entry table rises) rising (λ n. listed n ∙ ap is_some (skipped entry table rises none n))
        | Some y ↦ λ some. chosen numbers rising listed y some (λ others up here. picked table others (KeysRise-tail entry table rises) up here)
      ] refl
    where
      -- a first entry that gives something has the first number
      chosen : (numbers : List ℕ) → Rises numbers → ((n : ℕ) → is_in n numbers ≡ is_some (found_by n (value_at (entry ∷ table) n)))
          → (y : Y) → g entry.0 entry.1 ≡ Some y
          → ((others : List ℕ) → Rises others → ((n : ℕ) → is_in n others ≡ is_some (found_by n (value_at table n)))
          → filter_map (λ n. found_by n (value_at table n)) others ≡ filter_map (λ e. g e.0 e.1) table)
          → filter_map (λ n. found_by n (value_at (entry ∷ table) n)) numbers ≡ y ∷ filter_map (λ e. g e.0 e.1) table
      chosen [] rising listed y some walk =
          let clash : false ≡ true = listed entry.0 ∙ ap (λ o. is_some (found_by entry.0 o)) (value_at-first entry table) ∙ ap is_some some in
          absurd (cc)
      chosen (m ∷ ms) rising listed y some walk =
          let first : m ≡ entry.0 = is_first (m == entry.0) refl in
          let head : found_by m (value_at (entry ∷ table) m) ≡ Some y =
          ap (λ n. found_by n (value_at (entry ∷ table) n)) first ∙ ap (found_by entry.0) (value_at-first entry table) ∙ some
          in
          let alone : is_in entry.0 ms ≡ false = ap (λ n. is_in n ms) (sym first) ∙ first_alone m ms rising (is_in m ms) refl in
          let rest : filter_map (λ n. found_by n (value_at (entry ∷ table) n)) ms ≡ filter_map (λ n. found_by n (value_at table n)) ms =
          filter_map-same (λ n. found_by n (value_at (entry ∷ table) n)) (λ n. found_by n (value_at table n)) ms
          (λ n there. behind n (λ same. let clash : true ≡ false = sym there ∙ ap (λ k. is_in k ms) same ∙ alone in absurd (cc)))
          in
          ap (λ r. cons_option r (filter_map (λ n. found_by n (value_at (entry ∷ table) n)) ms)) head
          ∙ ap (λ ys. y ∷ ys) (rest ∙ walk ms rising.1 (λ n. left first alone n (n == entry.0) refl))
        where
          -- the first number is the first key: a lower one has no entry
          is_first : (b : Bool) → (m == entry.0) ≡ b → m ≡ entry.0
          is_first true same = eqb-true m entry.0 same
          is_first false differ =
              let there : is_in entry.0 (m ∷ ms) ≡ true = listed entry.0 ∙ ap (λ o. is_some (found_by entry.0 o)) (value_at-first entry table) ∙ ap is_some some in
              let in_rest : is_in entry.0 ms ≡ true = sym (ap (λ t. t || is_in entry.0 ms) differ) ∙ there in
              let none : value_at (entry ∷ table) m ≡ None = value_at-lower entry table m rises (rising.0 entry.0 in_rest) in
              let clash : true ≡ false = sym (ap (λ t. t || is_in m ms) (eq-eqb m m refl)) ∙ listed m ∙ ap (λ o. is_some (found_by m o)) none in
              absurd (cc)

          -- behind the first entry stands what the rest has
          behind : (n : ℕ) → (n ≡ entry.0 → ⊥) → found_by n (value_at (entry ∷ table) n) ≡ found_by n (value_at table n)
          behind n differ = elim (n == entry.0) as (λ t. (n == entry.0) ≡ t → found_by n (cond t (Some entry.1) (value_at table n)) ≡ found_by n (value_at table n)) [
            | true ↦ λ same. absurd (differ (eqb-true n entry.0 same))
            | false ↦ λ other. refl
          ] refl

          left : m ≡ entry.0 → is_in entry.0 ms ≡ false → (n : ℕ) (b : Bool) → (n == entry.0) ≡ b → is_in n ms ≡ is_some (found_by n (value_at table n))
          left first alone n true same =
              let is_entry : n ≡ entry.0 = eqb-true n entry.0 same in
              ap (λ k. is_in k ms) is_entry ∙ alone ∙ sym (ap (λ o. is_some (found_by n o)) (ap (value_at table) is_entry ∙ value_at-behind_first entry table rises))
          left first alone n false other =
              let not_first : (m == n) ≡ false = ap (λ k. k == n) first ∙ grind (arith, nat_tests) in
              sym (ap (λ t. t || is_in n ms) not_first) ∙ listed n ∙ ap is_some (behind n (λ same. grind (arith, nat_tests)))
