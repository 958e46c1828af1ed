-- Structures in a slab, as a table from their numbers.
use Rattle.std.proofs.Common.{◌≡◌, ℕ, Bool, true, false, cond, ◌&&◌, ◌||◌, ◌==◌, ◌++◌, nat_eq, List, [], ◌∷◌, Option, Some, None, IsSome, is_some, ◌⊎◌, inl, inr, sym, refl, ap, ◌∙◌, arith}
use Rattle.std.specs.Map.{lookup, keys_of}
use Rattle.std.proofs.lemmas.Bool.{eqb-true}
use Rattle.std.proofs.lemmas.List.Folds.{list_any-append}
use Rattle.std.proofs.lemmas.Bool.Decides.{nat_tests}
use Rattle.type_table.specs.Table.{Table, KeysRise, value_at, with_value, without_key}
use Rattle.type_table.proofs.TableLaws.{KeysRise-with_value, KeysRise-entries_where, value_at-with_value, value_at-without_key}
use Rattle.object_model.specs.Sets.{is_in}
use Rattle.store_model.specs.Store.{Struct}
use Rattle.store_model.specs.Structs.{with_struct}
use Rattle.rawref_links.specs.Structures.{slot_at, structs_in, AreKeyed, is_forcing}
use Rattle.rawref_links.proofs.Tables.{same_table}
use Rattle.rawref_links.proofs.Tabled.{nat_eq-turned}

-- what stands at each number once something was put at one
pub value_at-with_struct : (structs : Table Struct) (number : ℕ) (structure : Option Struct) (q : ℕ)
    → value_at (with_struct structs number structure) q ≡ cond (q == number) structure (value_at structs q)
value_at-with_struct structs number None q = value_at-without_key structs number q
value_at-with_struct structs number (Some structure) q = value_at-with_value structs number q structure

pub KeysRise-with_struct : (structs : Table Struct) (number : ℕ) (structure : Option Struct) → KeysRise structs
    → KeysRise (with_struct structs number structure)
KeysRise-with_struct structs number None rises = KeysRise-entries_where _ structs rises
KeysRise-with_struct structs number (Some structure) rises = KeysRise-with_value structs number structure rises

-- a table with this at one number, and all else as before, is the one after it was put there
pub put_at : (new old : Table Struct) (number : ℕ) (structure : Option Struct) → KeysRise new → KeysRise old
    → ((q : ℕ) → value_at new q ≡ cond (q == number) structure (value_at old q)) → new ≡ with_struct old number structure
put_at new old number structure rises_new rises_old at =
    same_table new (with_struct old number structure) rises_new (KeysRise-with_struct old number structure rises_old)
    (λ q. at q ∙ sym (value_at-with_struct old number structure q))

-- what stands at a key that may be there
abbrev pub at_key : List (Option Struct) → Option ℕ → Option Struct
at_key slots None = None
at_key slots (Some key) = slot_at slots key

pub value_at-structs_in : (slots : List (Option Struct)) (entries : List (ℕ × ℕ)) (q : ℕ)
    → value_at (structs_in slots entries) q ≡ at_key slots (lookup (nat_eq q) entries)
value_at-structs_in slots [] q = refl
value_at-structs_in slots (entry ∷ entries) q =
    value_at-with_struct (structs_in slots entries) entry.0 (slot_at slots entry.1) q
    ∙ elim (q == entry.0) as (λ t. cond t (slot_at slots entry.1) (value_at (structs_in slots entries) q)
    ≡ at_key slots (cond t (Some entry.1) (lookup (nat_eq q) entries))) [
      | true ↦ refl
      | false ↦ value_at-structs_in slots entries q
    ]

pub KeysRise-structs_in : (slots : List (Option Struct)) (entries : List (ℕ × ℕ)) → KeysRise (structs_in slots entries)
KeysRise-structs_in slots [] = λ i j d below within. absurd (omega arith)
KeysRise-structs_in slots (entry ∷ entries) =
    KeysRise-with_struct (structs_in slots entries) entry.0 (slot_at slots entry.1) (KeysRise-structs_in slots entries)

-- what a look-up of the key and then of the slot finds
pub value_at-seen : (slots : List (Option Struct)) (entries : List (ℕ × ℕ)) (seen : Table Struct) → structs_in slots entries ≡ seen
    → (number : ℕ) (key : Option ℕ) → lookup (nat_eq number) entries ≡ key → at_key slots key ≡ value_at seen number
value_at-seen slots entries seen view number key found =
    ap (at_key slots) (sym found) ∙ sym (value_at-structs_in slots entries number) ∙ ap (λ t. value_at t number) view

-- the new slots have the structure at the key, and all else as before
pub record PutsAt (slots now : List (Option Struct)) (key : ℕ) (structure : Struct) : Type 0 where
  pub here : slot_at now key ≡ Some structure
  pub elsewhere : (other : ℕ) → (other ≡ key → ⊥) → slot_at now other ≡ slot_at slots other

module _ (slots now : List (Option Struct)) (entries after : List (ℕ × ℕ)) (number key : ℕ) (structure : Struct) where
  module _ (keyed : AreKeyed slots entries) (puts : PutsAt slots now key structure) where
    -- written over what stood at the number's key
    pub value_at-set : lookup (nat_eq number) entries ≡ Some key → (q : ℕ)
        → at_key now (lookup (nat_eq q) entries) ≡ cond (q == number) (Some structure) (at_key slots (lookup (nat_eq q) entries))
    value_at-set found q =
        elim (q == number) as (λ t. (q == number) ≡ t → at_key now (lookup (nat_eq q) entries) ≡ cond t (Some structure) (at_key slots (lookup (nat_eq q) entries))) [
          | true ↦ λ same. let is_number : q ≡ number = grind (arith, nat_tests) in
              ap (λ n. at_key now (lookup (nat_eq n) entries)) is_number ∙ ap (at_key now) found ∙ puts.here
          | false ↦ λ differ.
              elim (lookup (nat_eq q) entries) as (λ r. lookup (nat_eq q) entries ≡ r → at_key now r ≡ at_key slots r) [
                | None ↦ λ absent. refl
                | Some other ↦ λ there. puts.elsewhere other (λ same_key.
                    let one : q ≡ number = keyed.apart q number key (there ∙ ap Some same_key) found in
                    grind (arith, nat_tests))
              ] refl
        ] refl

    pub structs_in-set : lookup (nat_eq number) entries ≡ Some key → structs_in now entries ≡ with_value (structs_in slots entries) number structure
    structs_in-set found =
        put_at (structs_in now entries) (structs_in slots entries) number (Some structure) (KeysRise-structs_in now entries) (KeysRise-structs_in slots entries)
        (λ q. value_at-structs_in now entries q ∙ value_at-set found q
        ∙ ap (cond (q == number) (Some structure)) (sym (value_at-structs_in slots entries q)))

    pub AreKeyed-set : AreKeyed now entries
    AreKeyed-set = record {
      held = λ n k found. elim (k == key) as (λ t. (k == key) ≡ t → IsSome (slot_at now k)) [
        | true ↦ λ same. let is_key : k ≡ key = grind (arith, nat_tests) in ap (λ j. is_some (slot_at now j)) is_key ∙ ap is_some puts.here
        | false ↦ λ differ. ap is_some (puts.elsewhere k (λ same. grind (arith, nat_tests))) ∙ keyed.held n k found
      ] refl;
      apart = keyed.apart;
    }

    module _ (vacant : slot_at slots key ≡ None)
        (found : (q : ℕ) → lookup (nat_eq q) after ≡ cond (nat_eq number q) (Some key) (lookup (nat_eq q) entries)) where
      -- a key that a number has is not the vacant one
      not_vacant : (n k : ℕ) → lookup (nat_eq n) entries ≡ Some k → k ≡ key → ⊥
      not_vacant n k there same =
          let held : IsSome (slot_at slots k) = keyed.held n k there in
          let none : slot_at slots k ≡ None = ap (slot_at slots) same ∙ vacant in
          let clash : false ≡ true = sym (ap is_some none) ∙ held in
          cc

      value_at-added : (q : ℕ) → at_key now (lookup (nat_eq q) after) ≡ cond (q == number) (Some structure) (at_key slots (lookup (nat_eq q) entries))
      value_at-added q =
          ap (at_key now) (found q ∙ ap (λ t. cond t (Some key) (lookup (nat_eq q) entries)) (nat_eq-turned number q))
          ∙ elim (q == number) as (λ t. at_key now (cond t (Some key) (lookup (nat_eq q) entries)) ≡ cond t (Some structure) (at_key slots (lookup (nat_eq q) entries))) [
            | true ↦ puts.here
            | false ↦ elim (lookup (nat_eq q) entries) as (λ r. lookup (nat_eq q) entries ≡ r → at_key now r ≡ at_key slots r) [
              | None ↦ λ absent. refl
              | Some other ↦ λ there. puts.elsewhere other (not_vacant q other there)
            ] refl
          ]

      pub structs_in-add : structs_in now after ≡ with_value (structs_in slots entries) number structure
      structs_in-add =
          put_at (structs_in now after) (structs_in slots entries) number (Some structure) (KeysRise-structs_in now after) (KeysRise-structs_in slots entries)
          (λ q. value_at-structs_in now after q ∙ value_at-added q
          ∙ ap (cond (q == number) (Some structure)) (sym (value_at-structs_in slots entries q)))

      -- the key of a number is the new one, or the one it had
      key_after : (n k : ℕ) → lookup (nat_eq n) after ≡ Some k → ((n ≡ number) × (k ≡ key)) ⊎ (lookup (nat_eq n) entries ≡ Some k)
      key_after n k there =
          elim (nat_eq number n) as (λ t. nat_eq number n ≡ t → cond t (Some key) (lookup (nat_eq n) entries) ≡ Some k → ((n ≡ number) × (k ≡ key)) ⊎ (lookup (nat_eq n) entries ≡ Some k)) [
            | true ↦ λ same is_key. inl (let is_number : n ≡ number = grind (arith, nat_tests) in is_number, let same_key : k ≡ key = cc in same_key)
            | false ↦ λ differ kept. inr kept
          ] refl (sym (found n) ∙ there)

      pub AreKeyed-add : AreKeyed now after
      AreKeyed-add = record {
        held = λ n k there. elim (key_after n k there) [
          | inl new ↦ ap (λ j. is_some (slot_at now j)) new.1 ∙ ap is_some puts.here
          | inr old ↦ ap is_some (puts.elsewhere k (not_vacant n k old)) ∙ keyed.held n k old
        ];
        apart = λ m n k at_m at_n. elim (key_after m k at_m) [
          | inl new_m ↦ elim (key_after n k at_n) [
            | inl new_n ↦ new_m.0 ∙ sym new_n.0
            | inr old_n ↦ absurd (not_vacant n k old_n new_m.1)
          ]
          | inr old_m ↦ elim (key_after n k at_n) [
            | inl new_n ↦ absurd (not_vacant m k old_m new_n.1)
            | inr old_n ↦ keyed.apart m n k old_m old_n
          ]
        ];
      }

module _ (slots now : List (Option Struct)) (entries after : List (ℕ × ℕ)) (number key : ℕ) (keyed : AreKeyed slots entries)
    (there : lookup (nat_eq number) entries ≡ Some key)
    (elsewhere : (other : ℕ) → (other ≡ key → ⊥) → slot_at now other ≡ slot_at slots other)
    (found : (q : ℕ) → lookup (nat_eq q) after ≡ cond (nat_eq number q) None (lookup (nat_eq q) entries)) where
  -- the key of another number is not the one that is taken off
  key_of_other : (q other : ℕ) → (q == number) ≡ false → lookup (nat_eq q) entries ≡ Some other → other ≡ key → ⊥
  key_of_other q other differ at_q same_key =
      let one : q ≡ number = keyed.apart q number key (at_q ∙ ap Some same_key) there in
      grind (arith, nat_tests)

  value_at-removed : (q : ℕ) → at_key now (lookup (nat_eq q) after) ≡ cond (q == number) None (at_key slots (lookup (nat_eq q) entries))
  value_at-removed q =
      ap (at_key now) (found q ∙ ap (λ t. cond t None (lookup (nat_eq q) entries)) (nat_eq-turned number q))
      ∙ elim (q == number) as (λ t. (q == number) ≡ t → at_key now (cond t None (lookup (nat_eq q) entries)) ≡ cond t None (at_key slots (lookup (nat_eq q) entries))) [
        | true ↦ λ same. refl
        | false ↦ λ differ. elim (lookup (nat_eq q) entries) as (λ r. lookup (nat_eq q) entries ≡ r → at_key now r ≡ at_key slots r) [
          | None ↦ λ absent. refl
          | Some other ↦ λ at_q. elsewhere other (key_of_other q other differ at_q)
        ] refl
      ] refl

  pub structs_in-remove : structs_in now after ≡ without_key (structs_in slots entries) number
  structs_in-remove =
      put_at (structs_in now after) (structs_in slots entries) number None (KeysRise-structs_in now after) (KeysRise-structs_in slots entries)
      (λ q. value_at-structs_in now after q ∙ value_at-removed q
      ∙ ap (cond (q == number) None) (sym (value_at-structs_in slots entries q)))

  -- a number that is left is another, with the key that it had
  left_key : (n k : ℕ) → lookup (nat_eq n) after ≡ Some k → ((n == number) ≡ false) × (lookup (nat_eq n) entries ≡ Some k)
  left_key n k at_n =
      elim (nat_eq number n) as (λ t. nat_eq number n ≡ t → cond t None (lookup (nat_eq n) entries) ≡ Some k → ((n == number) ≡ false) × (lookup (nat_eq n) entries ≡ Some k)) [
        | true ↦ λ same none. absurd (cc)
        | false ↦ λ differ kept. (sym (nat_eq-turned number n) ∙ differ, kept)
      ] refl (sym (found n) ∙ at_n)

  pub AreKeyed-remove : AreKeyed now after
  AreKeyed-remove = record {
    held = λ n k at_n. let left = left_key n k at_n in ap is_some (elsewhere k (key_of_other n k left.0 left.1)) ∙ keyed.held n k left.1;
    apart = λ m n k at_m at_n. keyed.apart m n k (left_key m k at_m).1 (left_key n k at_n).1;
  }

-- a number at which a structure stands has a key
pub has_key : (slots : List (Option Struct)) (entries : List (ℕ × ℕ)) (seen : Table Struct) → structs_in slots entries ≡ seen
    → (number : ℕ) → IsSome (value_at seen number) → IsSome (lookup (nat_eq number) entries)
has_key slots entries seen view number there =
    let seen_there : at_key slots (lookup (nat_eq number) entries) ≡ value_at seen number = value_at-seen slots entries seen view number _ refl in
    elim (lookup (nat_eq number) entries) as (λ r. at_key slots r ≡ value_at seen number → IsSome r) [
      | None ↦ λ none. ap is_some none ∙ there
      | Some key ↦ λ some. refl
    ] seen_there

-- a number is listed exactly if it has a key
listed : (entries : List (ℕ × ℕ)) (number : ℕ) → is_in number (keys_of entries) ≡ is_some (lookup (nat_eq number) entries)
listed [] number = refl
listed (entry ∷ entries) number =
    elim (entry.0 == number) as (λ t. (entry.0 == number) ≡ t → (t || is_in number (keys_of entries)) ≡ is_some (cond (nat_eq number entry.0) (Some entry.1) (lookup (nat_eq number) entries))) [
      | true ↦ λ same. sym (ap (λ t. is_some (cond t (Some entry.1) (lookup (nat_eq number) entries))) (nat_eq-turned number entry.0 ∙ same))
      | false ↦ λ differ. listed entries number ∙ sym (ap (λ t. is_some (cond t (Some entry.1) (lookup (nat_eq number) entries))) (nat_eq-turned number entry.0 ∙ differ))
    ] refl

and_true : (b : Bool) → (b && true) ≡ b
and_true true = refl
and_true false = refl

-- what keeps an object is listed
pub forcing_listed : (slots : List (Option Struct)) (entries : List (ℕ × ℕ)) (seen : Table Struct) → structs_in slots entries ≡ seen
    → (number : ℕ) → (is_forcing (value_at seen number) && is_in number (keys_of entries)) ≡ is_forcing (value_at seen number)
forcing_listed slots entries seen view number =
    let at : at_key slots (lookup (nat_eq number) entries) ≡ value_at seen number = value_at-seen slots entries seen view number _ refl in
    elim (lookup (nat_eq number) entries) as (λ r. lookup (nat_eq number) entries ≡ r → at_key slots r ≡ value_at seen number
    → (is_forcing (value_at seen number) && is_in number (keys_of entries)) ≡ is_forcing (value_at seen number)) [
      | None ↦ λ absent none. grind (arith, ap is_forcing none)
      | Some key ↦ λ there some. let is_listed : is_in number (keys_of entries) ≡ true = listed entries number ∙ ap is_some there in
          rw is_listed (and_true (is_forcing (value_at seen number)))
    ] refl at

-- the tests on a number once one more was looked at
told_yes : (told here left forces : Bool) → (here ≡ true → forces ≡ true) → (told || (forces && (here || left))) ≡ forces
    → ((told || (here || false)) || (forces && left)) ≡ forces
told_yes true here left forces same so_far = so_far
told_yes false true left forces same so_far = sym (same refl)
told_yes false false left forces same so_far = so_far

told_no : (told here left forces : Bool) → (here ≡ true → forces ≡ false) → (told || (forces && (here || left))) ≡ forces
    → (told || (forces && left)) ≡ forces
told_no true here left forces same so_far = so_far
told_no false true left true same so_far = let clash : true ≡ false = same refl in absurd (cc)
told_no false true left false same so_far = refl
told_no false false left forces same so_far = so_far

-- one number more was looked at, and is told where it keeps an object
module _ (numbers rest : List ℕ) (forces : ℕ → Bool) (number : ℕ)
    (so_far : (n : ℕ) → (is_in n numbers || (forces n && is_in n (number ∷ rest))) ≡ forces n) where
  pub told_more : forces number ≡ true → (n : ℕ) → (is_in n (numbers ++ number ∷ []) || (forces n && is_in n rest)) ≡ forces n
  told_more is n =
      ap (λ t. t || (forces n && is_in n rest)) (list_any-append (λ y. y == n) numbers (number ∷ []))
      ∙ told_yes (is_in n numbers) (number == n) (is_in n rest) (forces n) (λ same. ap forces (sym (eqb-true number n same)) ∙ is) (so_far n)

  pub told_no_more : forces number ≡ false → (n : ℕ) → (is_in n numbers || (forces n && is_in n rest)) ≡ forces n
  told_no_more is n = told_no (is_in n numbers) (number == n) (is_in n rest) (forces n) (λ same. ap forces (sym (eqb-true number n same)) ∙ is) (so_far n)
