-- A home that was reserved for an object that is gone is given back.
use Rattle.std.proofs.Common.{◌≡◌, ◌≢◌, ℕ, ◌-◌, ◌*◌, ◌/◌, ◌<◌, ◌≤◌, true, false, IsTrue, List, [], ◌∷◌, ◌++◌, map, Option, Some, None, refl, sym, ap, ◌∙◌, subst, inl, inr, arith}
use Rattle.std.specs.Prelude.{option_map, ◌==◌, if◌then◌else◌, nat_lt}
use Rattle.std.specs.List.{cons_option}
use Rattle.std.specs.List.Sorted.{IsPermutation}
use Rattle.std.proofs.lemmas.Bool.{cases_Bool, cases_lt, ne_eqb, eq-eqb}
use Rattle.std.proofs.lemmas.Nat.{div_below}
use Rattle.size_pages.specs.Calls.{page_of}
use Rattle.std.proofs.lemmas.Bool.Decides.{eqb_tells}
use Rattle.std.proofs.lemmas.List.Sorted.{IsPermutation-refl, IsPermutation-cons, IsPermutation-middle, IsPermutation-trans, IsPermutation-append}
use Rattle.type_table.specs.declared.info.TypeInfo.{TypeInfo}
use Rattle.type_table.specs.Table.{Table}
use Rattle.heap_space.specs.Memory.{Memory}
use Rattle.heap_space.specs.Extents.{Extent}
use Rattle.large_objects.specs.Blocks.{without_place}
use Rattle.object_model.proofs.Members.{is_in-cases, is_in-nil, filter_map-agree, not-in}
use Rattle.old_space.specs.HasBlocks.{HasBlocks}
use Rattle.old_space.specs.Calls.{still_waiting}
use Rattle.old_space.specs.declared.Old.{Old}
use Rattle.old_space.proofs.JoinLaws.{HasBlocks_permuted}
use Rattle.object_model.specs.Sets.{is_in, AreDifferent}
use Rattle.object_model.specs.ObjectWords.{words_at}
use Rattle.heap_parts.specs.Places.{block_at}
use Rattle.heap_parts.specs.OldSpace.{reserved_block, reserved_blocks, blocks_of, unit_at, is_waiting}

-- the homes without that of one object
abbrev pub without_home : (ℕ → Option ℕ) → ℕ → ℕ → Option ℕ
without_home home p q = if q == p then None else home q

module _ (types : Table TypeInfo) (w : ℕ → ℕ) (home : ℕ → Option ℕ) (p at : ℕ) (is : home p ≡ Some at) where
  none-here : reserved_block types w (without_home home p) p ≡ None
  none-here = rw (eq-eqb p p refl) refl

  same-there : (q : ℕ) → q ≢ p → reserved_block types w (without_home home p) q ≡ reserved_block types w home q
  same-there q ne = rw (ne_eqb q p ne) refl

  rest-same : (ys : List ℕ) → is_in p ys ≡ false → reserved_blocks types w (without_home home p) ys ≡ reserved_blocks types w home ys
  rest-same ys out = filter_map-agree (reserved_block types w (without_home home p)) (reserved_block types w home) ys
      (λ q t. same-there q (λ e. not-in p ys out (subst (λ (k : ℕ). IsTrue (is_in k ys)) e t)))

  add-block : (o : Option Extent) (xs ys : List Extent) (x : Extent) → IsPermutation xs (x ∷ ys) → IsPermutation (cons_option o xs) (x ∷ cons_option o ys)
  add-block None xs ys x same = same
  add-block (Some b) xs ys x same = IsPermutation-trans (b ∷ xs) (b ∷ (x ∷ ys)) (x ∷ (b ∷ ys)) (IsPermutation-cons b xs (x ∷ ys) same) (IsPermutation-middle (b ∷ []) x ys)

  -- the reserved blocks are that of the object, and those of others
  reserved-taken : (young : List ℕ) → AreDifferent young → IsTrue (is_in p young)
      → IsPermutation (reserved_blocks types w home young) ((at, words_at types w p) ∷ reserved_blocks types w (without_home home p) young)
  reserved-taken [] d t = absurd (is_in-nil p t)
  reserved-taken (q ∷ young) d t = elim (eqb_tells q p) [
    | inl e ↦
        let out : is_in p young ≡ false = subst (λ (k : ℕ). is_in k young ≡ false) e.1 d.0 in
        let whole : reserved_blocks types w home (q ∷ young) ≡ (at, words_at types w p) ∷ reserved_blocks types w home young =
        ap (λ (k : ℕ). cons_option (reserved_block types w home k) (reserved_blocks types w home young)) e.1
        ∙ ap (λ (o : Option ℕ). cons_option (option_map (λ (a : ℕ). (a, words_at types w p)) o) (reserved_blocks types w home young)) is in
        let less : reserved_blocks types w (without_home home p) (q ∷ young) ≡ reserved_blocks types w home young =
        ap (λ (k : ℕ). cons_option (reserved_block types w (without_home home p) k) (reserved_blocks types w (without_home home p) young)) e.1
        ∙ (ap (λ (o : Option Extent). cons_option o (reserved_blocks types w (without_home home p) young)) none-here ∙ rest-same young out) in
        let P : List Extent → List Extent → Type 0 = λ xs ys. IsPermutation xs ((at, words_at types w p) ∷ ys) in
        subst (λ (xs : List Extent). P xs (reserved_blocks types w (without_home home p) (q ∷ young))) (sym whole)
        (subst (λ (ys : List Extent). P ((at, words_at types w p) ∷ reserved_blocks types w home young) ys) (sym less) (IsPermutation-refl _))
    | inr e ↦
        let there : IsTrue (is_in p young) = elim (is_in-cases p q young t) [ inl is_q ↦ absurd (e.1 (sym is_q)) | inr u ↦ u ] in
        let more = reserved-taken young d.1 there in
        subst (λ (o : Option Extent). IsPermutation (cons_option (reserved_block types w home q) (reserved_blocks types w home young))
        ((at, words_at types w p) ∷ cons_option o (reserved_blocks types w (without_home home p) young))) (sym (same-there q e.1))
        (add-block (reserved_block types w home q) _ _ _ more)
  ]

  pub blocks-taken : (young settled husks : List ℕ) (spare : List Extent) → AreDifferent young → IsTrue (is_in p young)
      → IsPermutation (blocks_of types w home young settled husks spare) ((at, words_at types w p) ∷ blocks_of types w (without_home home p) young settled husks spare)
  blocks-taken young settled husks spare d t =
      let x : Extent = (at, words_at types w p) in
      let S : List Extent = map (block_at types w) settled in let H : List Extent = map (block_at types w) husks in
      let R : List Extent = reserved_blocks types w home young ++ spare in let Q : List Extent = reserved_blocks types w (without_home home p) young ++ spare in
      let homes : IsPermutation R (x ∷ Q) = IsPermutation-append (reserved_blocks types w home young) (x ∷ reserved_blocks types w (without_home home p) young) spare spare
      (reserved-taken young d t) (IsPermutation-refl spare) in
      let first : IsPermutation (H ++ R) (x ∷ (H ++ Q)) = IsPermutation-trans (H ++ R) (H ++ x ∷ Q) (x ∷ (H ++ Q))
      (IsPermutation-append H H R (x ∷ Q) (IsPermutation-refl H) homes) (IsPermutation-middle H x Q) in
      IsPermutation-trans (S ++ (H ++ R)) (S ++ x ∷ (H ++ Q)) (x ∷ (S ++ (H ++ Q)))
      (IsPermutation-append S S (H ++ R) (x ∷ (H ++ Q)) (IsPermutation-refl S) first) (IsPermutation-middle S x (H ++ Q))

  -- The home is given back: what `give_back` says of the blocks, of the objects, husks and homes that are left.
  pub home_given_back : (old new : Old) (m after : Memory) (young settled husks waiting : List ℕ) → AreDifferent young → IsTrue (is_in p young)
      → HasBlocks old m (blocks_of types w home young settled husks []) waiting
      → ((live : List Extent) (waits : List ℕ) → HasBlocks old m ((at, words_at types w p) ∷ live) waits → HasBlocks new after live (still_waiting at waits))
      → HasBlocks new after (blocks_of types w (without_home home p) young settled husks []) (still_waiting at waiting)
  home_given_back old new m after young settled husks waiting d t has given =
      given (blocks_of types w (without_home home p) young settled husks []) waiting
      (HasBlocks_permuted old m _ _ waiting has (blocks-taken young settled husks [] d t))

-- units that wait after a block was given back at another place
without-other : (a u : ℕ) (xs : List ℕ) → u ≢ a → is_in u (without_place a xs) ≡ is_in u xs
without-other a u [] ne = refl
without-other a u (x ∷ xs) ne = elim (eqb_tells x a) [
  | inl e ↦ rw (e.0, ne_eqb x u (λ z. ne (sym z ∙ e.1))) (without-other a u xs ne)
  | inr e ↦ elim (eqb_tells x u) [
    | inl f ↦ rw (e.0, f.0) refl
    | inr f ↦ rw (e.0, f.0) (without-other a u xs ne)
  ]
]

pub waits_after : (page at q : ℕ) (waiting : List ℕ) → (1099511627776 ≤ at → unit_at page q ≢ at) → is_waiting page (still_waiting at waiting) q ≡ is_waiting page waiting q
waits_after page at q waiting ne = elim (cases_Bool (nat_lt at 1099511627776)) [
  | inl e ↦ rw e refl
  | inr e ↦ rw e (without-other at (unit_at page q) waiting (ne (search (arith, e))))
]

-- the page of a block of the arenas lies below the large blocks
page_below : (page q : ℕ) → 0 < page → 4294967296 ≤ q → q < 1099511627776 → page_of page q < 1099511627776
page_below page q some low high =
    let k : ℕ = (q - 4294967296) / page in
    let whole : k * page ≤ q - 4294967296 = elim (cases_lt (q - 4294967296) (k * page)) [
      | inl more ↦ absurd (let less : k < k = div_below (q - 4294967296) page k some more in omega (arith, less))
      | inr fits ↦ fits
    ] in
    omega (arith, whole, low, high)

pub unit_other : (page at q : ℕ) → 0 < page → 4294967296 ≤ q → q ≢ at → 1099511627776 ≤ at → unit_at page q ≢ at
unit_other page at q some low ne large e = elim (cases_lt q 1099511627776) [
  | inl small ↦
      let below = page_below page q some low small in
      let unit : unit_at page q ≡ page_of page q = rw (lt-leb-true q 1099511627776 small) refl in
      absurd (omega (arith, below, unit, e, large))
  | inr high ↦
      let unit : unit_at page q ≡ q = rw (lt-false q 1099511627776 high) refl in ne (sym unit ∙ e)
]
  where
    lt-leb-true : (a b : ℕ) → a < b → nat_lt a b ≡ true
    lt-leb-true a b l = search (arith, l)

    lt-false : (a b : ℕ) → b ≤ a → nat_lt a b ≡ false
    lt-false a b l = search (arith, l)
