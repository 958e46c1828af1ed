-- Where an entry stands in a table whose keys rise, and where a new one would go.
use Rattle.std.proofs.Common.{◌≡◌, ℕ, zero, suc, ◌<◌, ◌≤◌, [], ◌∷◌, length, get_or, Some, None, Result, Ok, Err, IfOk, IfErr, sym, refl, arith}
use Rattle.std.specs.List.{HoldsAt, insert}
use Rattle.std.specs.List.Sorted.{IsSearchInRange, IsBinarySearchResult, IsNonDecreasingBy}
use Rattle.std.specs.Ordering.{nat_cmp, ordering_index}
use Rattle.std.proofs.lemmas.Cmp.{ranked}
use Rattle.std.proofs.lemmas.Bool.Decides.{nat_tests}
use Rattle.type_table.specs.Table.{Table, KeysRise, value_at, with_value}
use Rattle.type_table.proofs.TableLaws.{KeysRise-tail}

module _ {X : Type 0} where
  -- a new key would go at this place: lower keys before it, and higher ones from it on
  pub record IsGap (table : Table X) (key at : ℕ) : Type 0 where
    pub in_range : at ≤ length table
    pub before : (k : ℕ) (d : ℕ × X) → k < at → (get_or table k d).0 < key
    pub behind : (k : ℕ) (d : ℕ × X) → at ≤ k → k < length table → key < (get_or table k d).0

  -- in the tail the place is lower by one
  IsGap-tail : (entry : ℕ × X) (table : Table X) (key at : ℕ) → IsGap (entry ∷ table) key (suc at) → IsGap table key at
  IsGap-tail entry table key at gap = record {
    in_range = omega (arith, gap.in_range);
    before = λ k d lower. gap.before (suc k) d (omega arith);
    behind = λ k d higher within. gap.behind (suc k) d (omega arith) (omega arith);
  }

  -- behind the first place too
  IsGap-behind : (entry : ℕ × X) (table : Table X) (key : ℕ) → IsGap (entry ∷ table) key zero → IsGap table key zero
  IsGap-behind entry table key gap = record {
    in_range = omega arith;
    before = λ k d lower. absurd (omega arith);
    behind = λ k d higher within. gap.behind (suc k) d (omega arith) (omega arith);
  }

  -- a key that has a gap is not there
  pub value_at-gap : (table : Table X) (key at : ℕ) → IsGap table key at → value_at table key ≡ None
  value_at-gap [] key at gap = refl
  value_at-gap (entry ∷ table) key zero gap =
      let first : key < entry.0 = gap.behind 0 entry (omega arith) (omega arith) in
      grind (arith, nat_tests, value_at-gap table key zero (IsGap-behind entry table key gap))
  value_at-gap (entry ∷ table) key (suc at) gap =
      let first : entry.0 < key = gap.before 0 entry (omega arith) in
      grind (arith, nat_tests, value_at-gap table key at (IsGap-tail entry table key at gap))

  -- an entry put into its gap is what a write of the key gives
  pub insert-gap : (table : Table X) (key at : ℕ) (value : X) → IsGap table key at → insert table at (key, value) ≡ with_value table key value
  insert-gap [] key zero value gap = refl
  insert-gap [] key (suc at) value gap = absurd (omega (arith, gap.in_range))
  insert-gap (entry ∷ table) key zero value gap =
      let first : key < entry.0 = gap.behind 0 entry (omega arith) (omega arith) in
      grind (arith, nat_tests)
  insert-gap (entry ∷ table) key (suc at) value gap =
      let first : entry.0 < key = gap.before 0 entry (omega arith) in
      grind (arith, nat_tests, insert-gap table key at value (IsGap-tail entry table key at gap))

  -- where keys rise, the entry that has the key gives what stands there
  pub value_at-place : (table : Table X) (key at : ℕ) (d : ℕ × X) → KeysRise table → at < length table → (get_or table at d).0 ≡ key → value_at table key ≡ Some (get_or table at d).1
  value_at-place [] key at d rises within is_key = absurd (omega arith)
  value_at-place (entry ∷ table) key zero d rises within is_key = grind (arith, nat_tests)
  value_at-place (entry ∷ table) key (suc at) d rises within is_key =
      let lower : entry.0 < (get_or table at d).0 = rises 0 (suc at) d (omega arith) within in
      grind (arith, nat_tests, value_at-place table key at d (KeysRise-tail entry table rises) (omega arith) is_key)

  module _ (table : Table X) (key : ℕ) (rises : KeysRise table) where
    -- the comparisons with the key rise along the table, as a binary search asks
    comparisons_rise : IsNonDecreasingBy (λ entry. ordering_index (nat_cmp entry.0 key)) table
    comparisons_rise = λ i j d ordered within.
        let keys : (get_or table i d).0 ≤ (get_or table j d).0 = grind (arith, rises i j d) in
        grind (arith, nat_tests)

    -- the place behind which a binary search stops is the key's gap
    gap_from_search : (at : ℕ) → at ≤ length table → IsBinarySearchResult (λ entry. nat_cmp entry.0 key) table (Err at) → IsGap table key at
    gap_from_search at within parted = record {
      in_range = within;
      before = λ k d lower. ranked _ key _ (sym ((parted comparisons_rise).0 k d (omega arith) lower));
      behind = λ k d higher inside. ranked _ key _ (sym ((parted comparisons_rise).1 k d higher inside));
    }

    -- a binary search ends at the entry of the key, or where it would go
    pub searched : (r : Result ℕ ℕ) → IsSearchInRange r (length table) → IsBinarySearchResult (λ entry. nat_cmp entry.0 key) table r → record {
      found : IfOk r (λ at. at < length table × HoldsAt (λ entry. value_at table key ≡ Some entry.1) table at);
      absent : IfErr r (λ at. at ≤ length table × value_at table key ≡ None);
      gap : IfErr r (λ at. (value : X) → insert table at (key, value) ≡ with_value table key value);
    }
    searched (Ok at) within equal = record {
      found = (within, λ d. value_at-place table key at d rises within (ranked _ key _ (sym (equal d))));
      absent = tt;
      gap = tt;
    }
    searched (Err at) within parted =
        let gap : IsGap table key at = gap_from_search at within parted in
        record { found = tt; absent = (within, value_at-gap table key at gap); gap = λ value. insert-gap table key at value gap }
