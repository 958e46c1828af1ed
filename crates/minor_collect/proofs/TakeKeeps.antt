-- What `take` and `give_back` of the old space say of words is what the middle of a collection asks for.
use Rattle.std.proofs.Common.{◌≡◌, ℕ, ◌+◌, ◌<◌, ◌≤◌, IsTrue, List, [], ◌∷◌, ◌++◌, map, Option, Some, None, sym, ap, ◌∙◌, subst, inl, inr, arith}
use Rattle.std.specs.Prelude.{option_map}
use Rattle.std.specs.List.{cons_option}
use Rattle.std.proofs.lemmas.Bool.{cases_Bool}
use Rattle.type_table.specs.declared.info.TypeInfo.{TypeInfo}
use Rattle.type_table.specs.Table.{Table}
use Rattle.heap_space.specs.Places.{word_at}
use Rattle.heap_space.specs.Memory.{Memory}
use Rattle.heap_space.specs.Extents.{Extent, Each, IsInside, IsApart, KeepsWords, KeepsOutside}
use Rattle.object_model.proofs.Members.{is_in-cases, is_in-nil}
use Rattle.object_view.proofs.LayoutLaws.{laid_out}
use Rattle.old_space.specs.HasBlocks.{HasBlocks}
use Rattle.old_space.specs.declared.Old.{Old}
use Rattle.old_space.proofs.JoinLaws.{HasBlocks-apart, HasBlocks-first}
use Rattle.object_model.specs.Sets.{is_in}
use Rattle.object_model.specs.ObjectWords.{words_at}
use Rattle.heap_parts.specs.Places.{is_young, young_places, old_places, block_at}
use Rattle.heap_parts.specs.OldSpace.{blocks_of, reserved_blocks}
use Rattle.frame_laws.proofs.Members.{each-left, each-right}
use Rattle.heap_parts.proofs.BlockLaws.{each-member}
use Rattle.frame_laws.proofs.TakeLaws.{spare_taken}
use Rattle.frame_laws.proofs.PlaceLaws.{is_in-young, is_in-old}
use Rattle.minor_collect.proofs.EndStands.{given-by}
use Rattle.minor_collect.specs.Homes.{KeepsAll}

pub reserved-one : (P : Extent → Type 0) (types : Table TypeInfo) (w : ℕ → ℕ) (home : ℕ → Option ℕ) (young : List ℕ) (q at : ℕ)
    → Each P (reserved_blocks types w home young) → IsTrue (is_in q young) → home q ≡ Some at → P (at, words_at types w q)
reserved-one P types w home [] q at all t e = absurd (is_in-nil q t)
reserved-one P types w home (p ∷ young) q at all t e = elim (is_in-cases q p young t) [
  | inl is ↦
      let here : home p ≡ Some at = ap home (sym is) ∙ e in
      let first : reserved_blocks types w home (p ∷ young) ≡ (at, words_at types w p) ∷ reserved_blocks types w home young =
      ap (λ (o : Option ℕ). cons_option (option_map (λ (k : ℕ). (k, words_at types w p)) o) (reserved_blocks types w home young)) here in
      subst (λ (k : ℕ). P (at, words_at types w k)) (sym is) (subst (Each P) first all).0
  | inr u ↦ reserved-one P types w home young q at (rest (home p) all) u e
]
  where
    rest : (o : Option ℕ) → Each P (cons_option (option_map (λ (k : ℕ). (k, words_at types w p)) o) (reserved_blocks types w home young)) → Each P (reserved_blocks types w home young)
    rest None all = all
    rest (Some k) all = all.1

pub keeps_all : (types : Table TypeInfo) (m new : Memory) (home : ℕ → Option ℕ) (places husks : List ℕ) (most : ℕ)
    → ((q : ℕ) → IsTrue (is_in q (young_places places)) → q + words_at types (word_at m.blocks) q ≤ most + 1) → most ≤ 1048576
    → KeepsWords m new (blocks_of types (word_at m.blocks) home (young_places places) (old_places places) husks [])
    → KeepsOutside 4294967296 9223372036854775808 m new
    → KeepsAll types (word_at new.blocks) (word_at m.blocks) home places husks
keeps_all types m new home places husks most inside small kept outside =
    let w : ℕ → ℕ = word_at m.blocks in
    let P : Extent → Type 0 = λ x. (a : ℕ) → IsInside x a → word_at new.blocks a ≡ word_at m.blocks a in
    let S : List Extent = map (block_at types (word_at m.blocks)) (old_places places) in
    let H : List Extent = map (block_at types (word_at m.blocks)) husks in
    let R : List Extent = reserved_blocks types (word_at m.blocks) home (young_places places) ++ [] in
    let settled : Each P S = each-left P S (H ++ R) kept in
    let others : Each P (H ++ R) = each-right P S (H ++ R) kept in
    let low : (b : ℕ) → b < 4294967296 → word_at new.blocks b ≡ word_at m.blocks b = λ b l. outside.below.words b (omega arith) l tt in
    record {
      objects = λ q t. record {
        same = λ b l r. elim (cases_Bool (is_young q)) [
          | inl y ↦ let i = inside q (is_in-young places q t y) in low b (omega (arith, i, small, r))
          | inr o ↦ each-member P (block_at types (word_at m.blocks)) (old_places places) q settled (is_in-old places q t o) b (l, r)
        ];
      };
      husk = λ q t. record { same = λ b l r. each-member P (block_at types (word_at m.blocks)) husks q (each-left P H R others) t b (l, r) };
      shadow = λ q t.
          let g = given-by home (young_places places) q t in
          reserved-one P types (word_at m.blocks) home (young_places places) g.place q (each-left P (reserved_blocks types (word_at m.blocks) home (young_places places)) [] (each-right P H R others)) g.there g.gives q
          (omega arith, omega (arith, (laid_out types (word_at m.blocks) g.place).header));
      low = low;
    }

-- the block that was taken shares no word with settled objects, and lies outside the nursery
pub taken_apart : (old : Old) (m : Memory) (types : Table TypeInfo) (w : ℕ → ℕ) (home : ℕ → Option ℕ) (places husks waiting : List ℕ) (a n : ℕ)
    → HasBlocks old m (blocks_of types w home (young_places places) (old_places places) husks ((a, n) ∷ [])) waiting
    → (4294967296 ≤ a) × Each (IsApart (a, n)) (map (block_at types w) (old_places places))
taken_apart old m types w home places husks waiting a n has =
    let first = spare_taken old m (map (block_at types w) (old_places places)) (map (block_at types w) husks) (reserved_blocks types w home (young_places places)) (a, n) waiting has in (
      (HasBlocks-first old m (a, n) _ waiting first).low,
      each-left (IsApart (a, n)) (map (block_at types w) (old_places places)) _ (HasBlocks-apart old m _ waiting first).0,
    )
