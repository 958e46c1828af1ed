-- Two tables whose keys rise are the same if they have the same at each key.
use Rattle.std.proofs.Common.{◌≡◌, ℕ, ◌<◌, true, false, cond, ◌==◌, [], ◌∷◌, Some, None, sym, refl, ap, ◌∙◌, arith}
use Rattle.std.specs.List.{All}
use Rattle.std.proofs.lemmas.Bool.{eqb-true}
use Rattle.std.proofs.lemmas.Bool.Decides.{nat_tests}
use Rattle.std.proofs.lemmas.List.Elements.{All-head, All-tail, All-weaker}
use Rattle.type_table.specs.Table.{Table, KeysRise, value_at, with_value, without_key}
use Rattle.type_table.proofs.TableLaws.{KeysRise-tail, first_key_below, KeysRise-with_value, KeysRise-entries_where, value_at-with_value, value_at-without_key}

module _ {X : Type 0} where
  -- a key below all others is not there
  pub value_at-below : (table : Table X) (key : ℕ) → All (λ later. key < later.0) table → value_at table key ≡ None
  value_at-below [] key below = refl
  value_at-below (entry ∷ table) key below =
      let first : key < entry.0 = All-head (λ later. key < later.0) entry table below in
      grind (arith, nat_tests, value_at-below table key (All-tail (λ later. key < later.0) entry table below))

  -- the first key has the first value
  pub value_at-first : (entry : ℕ × X) (table : Table X) → value_at (entry ∷ table) entry.0 ≡ Some entry.1
  value_at-first entry table = grind (arith, nat_tests)

  -- the first key is not among the others
  pub value_at-behind_first : (entry : ℕ × X) (table : Table X) → KeysRise (entry ∷ table) → value_at table entry.0 ≡ None
  value_at-behind_first entry table rises = value_at-below table entry.0 (first_key_below entry table rises)

  -- no lower key is there
  pub value_at-lower : (entry : ℕ × X) (table : Table X) (key : ℕ) → KeysRise (entry ∷ table) → key < entry.0 → value_at (entry ∷ table) key ≡ None
  value_at-lower entry table key rises lower =
      let below : All (λ later. key < later.0) table = All-weaker (λ later. entry.0 < later.0) (λ later. key < later.0) (λ later above. omega arith) table (first_key_below entry table rises) in
      grind (arith, nat_tests, value_at-below table key below)

  -- tables with the same at each key have the same first key
  same_first_key : (a b : ℕ × X) (xs ys : Table X) → KeysRise (a ∷ xs) → KeysRise (b ∷ ys) → ((key : ℕ) → value_at (a ∷ xs) key ≡ value_at (b ∷ ys) key) → a.0 < b.0 → ⊥
  same_first_key a b xs ys rises_a rises_b same lower =
      let there : value_at (a ∷ xs) a.0 ≡ Some a.1 = value_at-first a xs in
      let absent : value_at (b ∷ ys) a.0 ≡ None = value_at-lower b ys a.0 rises_b lower in
      let equal : value_at (a ∷ xs) a.0 ≡ value_at (b ∷ ys) a.0 = same a.0 in
      let clash : Some a.1 ≡ None = sym there ∙ equal ∙ absent in
      cc

  pub same_table : (a b : Table X) → KeysRise a → KeysRise b → ((key : ℕ) → value_at a key ≡ value_at b key) → a ≡ b
  same_table [] [] rises_a rises_b same = refl
  same_table [] (b ∷ ys) rises_a rises_b same =
      let clash : None ≡ Some b.1 = same b.0 ∙ value_at-first b ys in
      cc
  same_table (a ∷ xs) [] rises_a rises_b same =
      let clash : Some a.1 ≡ None = sym (value_at-first a xs) ∙ same a.0 in
      cc
  same_table (a ∷ xs) (b ∷ ys) rises_a rises_b same =
      let not_below : a.0 < b.0 → ⊥ = same_first_key a b xs ys rises_a rises_b same in
      let not_above : b.0 < a.0 → ⊥ = same_first_key b a ys xs rises_b rises_a (λ key. sym (same key)) in
      let one_key : a.0 ≡ b.0 = omega (arith, not_below, not_above) in
      let there : value_at (b ∷ ys) a.0 ≡ Some b.1 = ap (value_at (b ∷ ys)) one_key ∙ value_at-first b ys in
      let one_value : Some a.1 ≡ Some b.1 = sym (value_at-first a xs) ∙ same a.0 ∙ there in
      let rest : (key : ℕ) → value_at xs key ≡ value_at ys key =
      λ key. elim (key == a.0) as (λ t. (key == a.0) ≡ t → value_at xs key ≡ value_at ys key) [
        | true ↦ λ is_first.
            let is_key : key ≡ a.0 = grind (arith, nat_tests) in
            let none_a : value_at xs key ≡ None = ap (value_at xs) is_key ∙ value_at-behind_first a xs rises_a in
            let none_b : value_at ys key ≡ None = ap (value_at ys) (is_key ∙ one_key) ∙ value_at-behind_first b ys rises_b in
            none_a ∙ sym none_b
        | false ↦ λ not_first.
            let behind_a : value_at (a ∷ xs) key ≡ value_at xs key = ap (λ t. cond t (Some a.1) (value_at xs key)) not_first in
            let behind_b : value_at (b ∷ ys) key ≡ value_at ys key = ap (λ t. cond t (Some b.1) (value_at ys key)) (ap (λ k. key == k) (sym one_key) ∙ not_first) in
            sym behind_a ∙ same key ∙ behind_b
      ] refl
      in
      let tails : xs ≡ ys = same_table xs ys (KeysRise-tail a xs rises_a) (KeysRise-tail b ys rises_b) rest in
      let values : a.1 ≡ b.1 = cc in
      let heads : a ≡ b = λ i. (one_key i, values i) in
      cc

  -- a table with this value at one key, and all else as before, is the one after it was written
  pub written_table : (new old : Table X) (key : ℕ) (value : X) → KeysRise new → KeysRise old
      → ((q : ℕ) → value_at new q ≡ cond (q == key) (Some value) (value_at old q)) → new ≡ with_value old key value
  written_table new old key value rises_new rises_old at =
      same_table new (with_value old key value) rises_new (KeysRise-with_value old key value rises_old)
      (λ q. at q ∙ sym (value_at-with_value old key q value))

  -- a table with nothing at one key, and all else as before, is the one after it was taken off
  pub shortened_table : (new old : Table X) (key : ℕ) → KeysRise new → KeysRise old
      → ((q : ℕ) → value_at new q ≡ cond (q == key) None (value_at old q)) → new ≡ without_key old key
  shortened_table new old key rises_new rises_old at =
      same_table new (without_key old key) rises_new (KeysRise-entries_where _ old rises_old)
      (λ q. at q ∙ sym (value_at-without_key old key q))

  -- what was written under a new key and taken off again leaves the table as it was
  pub without_key-with_value : (table : Table X) (key : ℕ) (value : X) → KeysRise table → value_at table key ≡ None
      → without_key (with_value table key value) key ≡ table
  without_key-with_value table key value rises absent =
      same_table (without_key (with_value table key value) key) table
      (KeysRise-entries_where _ (with_value table key value) (KeysRise-with_value table key value rises)) rises
      (λ q. value_at-without_key (with_value table key value) key q ∙ ap (cond (q == key) None) (value_at-with_value table key q value)
      ∙ elim (q == key) as (λ t. (q == key) ≡ t → cond t None (cond t (Some value) (value_at table q)) ≡ value_at table q) [
        | true ↦ λ same. sym (ap (value_at table) (eqb-true q key same) ∙ absent)
        | false ↦ λ differ. refl
      ] refl)
