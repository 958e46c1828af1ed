-- The blocks outside the nursery where an object moved into a block that was taken, or into its reserved home.
use Rattle.std.proofs.Common.{◌≡◌, ◌≢◌, ℕ, true, false, IsTrue, List, [], ◌∷◌, ◌++◌, map, Option, None, refl, sym, ap, ap₂, ◌∙◌, subst, inl, inr}
use Rattle.std.specs.Prelude.{option_map}
use Rattle.std.specs.List.{cons_option}
use Rattle.std.specs.List.Sorted.{IsPermutation}
use Rattle.std.proofs.lemmas.Bool.{cases_Bool}
use Rattle.std.proofs.lemmas.Bool.Decides.{eqb_tells}
use Rattle.std.proofs.lemmas.List.Sorted.{IsPermutation-refl, IsPermutation-cons, IsPermutation-middle, IsPermutation-trans, IsPermutation-append, IsPermutation-sym}
use Rattle.type_table.specs.declared.info.TypeInfo.{TypeInfo}
use Rattle.type_table.specs.Table.{Table}
use Rattle.heap_space.specs.Extents.{Extent}
use Rattle.object_model.proofs.Members.{map-same, is_in-head, is_in-tail, is_in-cases, is_in-nil, filter_map-agree, not-in}
use Rattle.object_view.proofs.MoveLaws.{moved_to, moved_to-here, moved_to-other}
use Rattle.object_model.specs.Sets.{is_in, AreDifferent}
use Rattle.object_model.specs.ObjectWords.{words_at}
use Rattle.heap_parts.specs.Places.{is_young, young_places, old_places, block_at}
use Rattle.heap_parts.specs.OldSpace.{reserved_block, reserved_blocks, blocks_of}
use Rattle.minor_collect.proofs.EndBlocks.{without_home}

module _ (types : Table TypeInfo) (v w : ℕ → ℕ) (p a : ℕ) (young : is_young p ≡ true) (far : is_young a ≡ false) (size : words_at types v a ≡ words_at types w p) where
  -- other objects have the words that they had
  abbrev SameSizes : List ℕ → Type 0
  SameSizes ps = (q : ℕ) → IsTrue (is_in q ps) → q ≢ p → words_at types v q ≡ words_at types w q

  less : (q : ℕ) (ps : List ℕ) → ((k : ℕ) → IsTrue (is_in k (q ∷ ps)) → k ≢ p → words_at types v k ≡ words_at types w k) → (k : ℕ) → IsTrue (is_in k ps) → k ≢ p → words_at types v k ≡ words_at types w k
  less q ps same k t = same k (is_in-tail k q ps t)

  old-without : (ps : List ℕ) → ((k : ℕ) → IsTrue (is_in k ps) → k ≢ p → words_at types v k ≡ words_at types w k) → is_in p ps ≡ false
      → map (block_at types v) (old_places (map (moved_to p a) ps)) ≡ map (block_at types w) (old_places ps)
  old-without [] same out = refl
  old-without (q ∷ ps) same out = elim (eqb_tells q p) [
    | inl e ↦ absurd (not-in p (q ∷ ps) out (subst (λ (k : ℕ). IsTrue (is_in k (q ∷ ps))) e.1 (is_in-head q ps)))
    | inr e ↦
        let out_rest : is_in p ps ≡ false = (let f : is_in p ps ≡ is_in p (q ∷ ps) = rw e.0 refl in f) ∙ out in
        let more = old-without ps (less q ps same) out_rest in
        let first : moved_to p a q ≡ q = moved_to-other p a q e.1 in
        elim (cases_Bool (is_young q)) [
          | inl y ↦ rw (first, y) more
          | inr o ↦ rw (first, o) (ap₂ (λ (n : ℕ) (xs : List Extent). (q, n) ∷ xs) (same q (is_in-head q ps) e.1) more)
        ]
  ]

  -- the blocks of settled objects, and one more
  old-moved : (ps : List ℕ) → AreDifferent ps → IsTrue (is_in p ps) → ((k : ℕ) → IsTrue (is_in k ps) → k ≢ p → words_at types v k ≡ words_at types w k)
      → IsPermutation ((a, words_at types w p) ∷ map (block_at types w) (old_places ps)) (map (block_at types v) (old_places (map (moved_to p a) ps)))
  old-moved [] d t same = absurd (is_in-nil p t)
  old-moved (q ∷ ps) d t same = elim (eqb_tells q p) [
    | inl e ↦
        let first : moved_to p a q ≡ a = moved_to-here p a q e.1 in
        let yq : is_young q ≡ true = ap is_young e.1 ∙ young in
        let out : is_in p ps ≡ false = subst (λ (k : ℕ). is_in k ps ≡ false) e.1 d.0 in
        let after : map (block_at types v) (old_places (map (moved_to p a) (q ∷ ps))) ≡ (a, words_at types w p) ∷ map (block_at types w) (old_places ps) =
        rw (first, far) (ap₂ (λ (n : ℕ) (xs : List Extent). (a, n) ∷ xs) size (old-without ps (less q ps same) out)) in
        let before : map (block_at types w) (old_places (q ∷ ps)) ≡ map (block_at types w) (old_places ps) = rw yq refl in
        subst (λ (xs : List Extent). IsPermutation ((a, words_at types w p) ∷ xs) (map (block_at types v) (old_places (map (moved_to p a) (q ∷ ps))))) (sym before)
        (subst (λ (ys : List Extent). IsPermutation ((a, words_at types w p) ∷ map (block_at types w) (old_places ps)) ys) (sym after) (IsPermutation-refl _))
    | inr e ↦
        let there : IsTrue (is_in p ps) = elim (is_in-cases p q ps t) [ inl is ↦ absurd (e.1 (sym is)) | inr u ↦ u ] in
        let more = old-moved ps d.1 there (less q ps same) in
        let first : moved_to p a q ≡ q = moved_to-other p a q e.1 in
        elim (cases_Bool (is_young q)) [
          | inl y ↦
              let after : map (block_at types v) (old_places (map (moved_to p a) (q ∷ ps))) ≡ map (block_at types v) (old_places (map (moved_to p a) ps)) = rw (first, y) refl in
              let before : map (block_at types w) (old_places (q ∷ ps)) ≡ map (block_at types w) (old_places ps) = rw y refl in
              subst (λ (xs : List Extent). IsPermutation ((a, words_at types w p) ∷ xs) (map (block_at types v) (old_places (map (moved_to p a) (q ∷ ps))))) (sym before)
              (subst (λ (ys : List Extent). IsPermutation ((a, words_at types w p) ∷ map (block_at types w) (old_places ps)) ys) (sym after) more)
          | inr o ↦
              let x : Extent = (a, words_at types w p) in let b : Extent = (q, words_at types w q) in
              let after : map (block_at types v) (old_places (map (moved_to p a) (q ∷ ps))) ≡ (q, words_at types w q) ∷ map (block_at types v) (old_places (map (moved_to p a) ps)) =
              rw (first, o) (ap (λ (n : ℕ). (q, n) ∷ map (block_at types v) (old_places (map (moved_to p a) ps))) (same q (is_in-head q ps) e.1)) in
              let before : map (block_at types w) (old_places (q ∷ ps)) ≡ (q, words_at types w q) ∷ map (block_at types w) (old_places ps) = rw o refl in
              let swapped : IsPermutation (x ∷ (b ∷ map (block_at types w) (old_places ps))) (b ∷ map (block_at types v) (old_places (map (moved_to p a) ps))) =
              IsPermutation-trans (x ∷ (b ∷ map (block_at types w) (old_places ps))) (b ∷ (x ∷ map (block_at types w) (old_places ps))) (b ∷ map (block_at types v) (old_places (map (moved_to p a) ps)))
              (IsPermutation-sym (b ∷ (x ∷ map (block_at types w) (old_places ps))) (x ∷ (b ∷ map (block_at types w) (old_places ps))) (IsPermutation-middle (b ∷ []) x (map (block_at types w) (old_places ps))))
              (IsPermutation-cons b (x ∷ map (block_at types w) (old_places ps)) (map (block_at types v) (old_places (map (moved_to p a) ps))) more) in
              subst (λ (xs : List Extent). IsPermutation (x ∷ xs) (map (block_at types v) (old_places (map (moved_to p a) (q ∷ ps))))) (sym before)
              (subst (λ (ys : List Extent). IsPermutation (x ∷ (b ∷ map (block_at types w) (old_places ps))) ys) (sym after) swapped)
        ]
  ]

  -- the reserved blocks, where those of others stay
  reserved-moved : (home after : ℕ → Option ℕ) (ps : List ℕ) → ((q : ℕ) → q ≢ p → after q ≡ home q) → ((k : ℕ) → IsTrue (is_in k ps) → k ≢ p → words_at types v k ≡ words_at types w k)
      → reserved_blocks types w (without_home home p) (young_places ps) ≡ reserved_blocks types v after (young_places (map (moved_to p a) ps))
  reserved-moved home after [] others same = refl
  reserved-moved home after (q ∷ ps) others same =
      let more = reserved-moved home after ps others (less q ps same) in
      elim (eqb_tells q p) [
        | inl e ↦
            let first : moved_to p a q ≡ a = moved_to-here p a q e.1 in
            let yq : is_young q ≡ true = ap is_young e.1 ∙ young in
            rw (first, far, yq, e.0) more
        | inr e ↦
            let first : moved_to p a q ≡ q = moved_to-other p a q e.1 in
            elim (cases_Bool (is_young q)) [
              | inl y ↦
                  let one : reserved_block types w (without_home home p) q ≡ reserved_block types v after q =
                  ap (λ (o : Option ℕ). option_map (λ (k : ℕ). (k, words_at types w q)) o) (let f : without_home home p q ≡ home q = rw e.0 refl in f ∙ sym (others q e.1))
                  ∙ ap (λ (n : ℕ). option_map (λ (k : ℕ). (k, n)) (after q)) (sym (same q (is_in-head q ps) e.1)) in
                  let left : reserved_blocks types w (without_home home p) (young_places (q ∷ ps)) ≡ cons_option (reserved_block types w (without_home home p) q) (reserved_blocks types w (without_home home p) (young_places ps)) = rw y refl in
                  let right : reserved_blocks types v after (young_places (map (moved_to p a) (q ∷ ps))) ≡ cons_option (reserved_block types v after q) (reserved_blocks types v after (young_places (map (moved_to p a) ps))) = rw (first, y) refl in
                  left ∙ (ap₂ (λ (o : Option Extent) (xs : List Extent). cons_option o xs) one more ∙ sym right)
              | inr o ↦ rw (first, o) more
            ]
      ]

  -- All blocks after the move: those of before without the home of p, and the one where p is now.
  pub blocks_moved : (home after : ℕ → Option ℕ) (ps husks : List ℕ) → AreDifferent ps → IsTrue (is_in p ps) → ((q : ℕ) → q ≢ p → after q ≡ home q)
      → ((k : ℕ) → IsTrue (is_in k ps) → k ≢ p → words_at types v k ≡ words_at types w k) → ((q : ℕ) → IsTrue (is_in q husks) → words_at types v q ≡ words_at types w q)
      → IsPermutation ((a, words_at types w p) ∷ blocks_of types w (without_home home p) (young_places ps) (old_places ps) husks [])
      (blocks_of types v after (young_places (map (moved_to p a) ps)) (old_places (map (moved_to p a) ps)) husks [])
  blocks_moved home after ps husks d t others same husk_same =
      let x : Extent = (a, words_at types w p) in
      let S : List Extent = map (block_at types w) (old_places ps) in
      let T : List Extent = map (block_at types v) (old_places (map (moved_to p a) ps)) in
      let H : List Extent = map (block_at types w) husks in
      let R : List Extent = reserved_blocks types w (without_home home p) (young_places ps) ++ [] in
      let husks_same : map (block_at types w) husks ≡ map (block_at types v) husks = map-same (block_at types w) (block_at types v) husks (λ q u. ap (λ (n : ℕ). (q, n)) (sym (husk_same q u))) in
      let rest : H ++ R ≡ map (block_at types v) husks ++ (reserved_blocks types v after (young_places (map (moved_to p a) ps)) ++ []) =
      ap₂ (λ (xs ys : List Extent). xs ++ ys) husks_same (ap (λ (xs : List Extent). xs ++ []) (reserved-moved home after ps others same)) in
      subst (λ (zs : List Extent). IsPermutation (x ∷ (S ++ (H ++ R))) (T ++ zs)) rest
      (IsPermutation-append (x ∷ S) T (H ++ R) (H ++ R) (old-moved ps d t same) (IsPermutation-refl (H ++ R)))

-- where no home was reserved, nothing is taken off
pub no_home : (types : Table TypeInfo) (w : ℕ → ℕ) (home : ℕ → Option ℕ) (p : ℕ) (young settled husks : List ℕ) → home p ≡ None
    → blocks_of types w (without_home home p) young settled husks [] ≡ blocks_of types w home young settled husks []
no_home types w home p young settled husks none =
    ap (λ (xs : List Extent). map (block_at types w) settled ++ (map (block_at types w) husks ++ (xs ++ [])))
    (filter_map-agree (reserved_block types w (without_home home p)) (reserved_block types w home) young
    (λ q t. ap (λ (o : Option ℕ). option_map (λ (k : ℕ). (k, words_at types w q)) o) (elim (eqb_tells q p) [
      | inl e ↦ rw e.0 (sym (ap home e.1 ∙ none))
      | inr e ↦ rw e.0 refl
    ])))
