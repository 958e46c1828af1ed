-- The blocks outside the nursery, one for each object there: what leaves them, and one more.
use Rattle.std.proofs.Common.{◌≡◌, ℕ, ◌+◌, ◌<◌, ◌≤◌, ◌⊎◌, true, IsTrue, List, [], ◌∷◌, ◌++◌, length, map, refl, sym, ap, ◌∙◌, subst, inl, inr, arith}
use Rattle.std.specs.List.{filter}
use Rattle.std.proofs.lemmas.Bool.Decides.{nat_tests}
use Rattle.std.proofs.lemmas.List.{map-append}
use Rattle.std.proofs.lemmas.List.Sorted.{IsPermutation-sym, IsPermutation-to_front}
use Rattle.type_table.specs.declared.info.TypeInfo.{TypeInfo}
use Rattle.type_table.specs.Table.{Table}
use Rattle.heap_space.specs.Places.{Placed, lies_in_one, word_at, with_run}
use Rattle.heap_space.specs.Memory.{Memory}
use Rattle.heap_space.specs.Extents.{Extent, Each, IsOutside, extent_of, begins_between, extents_between, lies_within}
use Rattle.heap_space.proofs.ExtentLaws.{lies_in_one-extents, lies_in_one-between}
use Rattle.heap_space.proofs.Blocks.{length-overwritten, word_at-before_run, word_at-after_run}
use Rattle.object_view.proofs.InitLaws.{with_blocks}
use Rattle.object_model.proofs.Members.{is_in-cases, is_in-nil, map-same}
use Rattle.old_space.specs.HasBlocks.{HasBlocks}
use Rattle.old_space.specs.declared.Old.{Old}
use Rattle.old_space.proofs.JoinLaws.{HasBlocks_untouched, HasBlocks_permuted}
use Rattle.object_model.specs.Layout.{Layout}
use Rattle.object_model.specs.Sets.{is_in}
use Rattle.parts_model.specs.Places.{block_at}
use Rattle.parts_model.proofs.SameLayouts.{SameLayouts}

-- what holds of the block of each place holds of that of one of them
pub each-member : (P : Extent → Type 0) (f : ℕ → Extent) (ps : List ℕ) (q : ℕ) → Each P (map f ps) → IsTrue (is_in q ps) → P (f q)
each-member P f [] q all t = absurd (is_in-nil q t)
each-member P f (p ∷ ps) q all t = elim (is_in-cases q p ps t) [
  | inl e ↦ subst (λ (k : ℕ). P (f k)) (sym e) all.0
  | inr u ↦ each-member P f ps q all.1 u
]

-- objects whose layouts stay have the same blocks
pub blocks-same : (types : Table TypeInfo) (v w : ℕ → ℕ) (places : List ℕ) → SameLayouts types v w places
    → map (block_at types w) places ≡ map (block_at types v) places
blocks-same types v w places same =
    map-same (block_at types w) (block_at types v) places (λ p t. ap (λ (l : Layout). (p, l.words)) (sym (same p t).layout_stays))

-- the blocks of a memory in which a run of words is written
pub extents-with_run : (ps : List Placed) (a : ℕ) (xs : List ℕ) → map extent_of (with_run ps a xs) ≡ map extent_of ps
extents-with_run [] a xs = refl
extents-with_run (p ∷ ps) a xs =
    ap (λ (n : ℕ). (p.base, n) ∷ map extent_of (with_run ps a xs)) (length-overwritten a xs p) ∙ ap (λ (es : List Extent). extent_of p ∷ es) (extents-with_run ps a xs)

word-unwritten : (ps : List Placed) (a : ℕ) (xs : List ℕ) (b : ℕ) → (b < a) ⊎ (a + length xs ≤ b) → word_at (with_run ps a xs) b ≡ word_at ps b
word-unwritten ps a xs b (inl l) = word_at-before_run ps a xs b l
word-unwritten ps a xs b (inr l) = word_at-after_run ps a xs b l

-- A run of words is written that lies in the nursery, or in live blocks: the same blocks are live.
pub blocks-written : (old : Old) (m : Memory) (a : ℕ) (xs : List ℕ) (live : List Extent) (waiting : List ℕ) → HasBlocks old m live waiting
    → ((b : ℕ) → 4294967296 ≤ b → IsOutside live b → (b < a) ⊎ (a + length xs ≤ b))
    → HasBlocks old (with_blocks m (with_run m.blocks a xs)) live waiting
blocks-written old m a xs live waiting h out =
    HasBlocks_untouched old m (with_blocks m (with_run m.blocks a xs)) live waiting h refl refl (record {
      blocks = ap (filter (begins_between 4294967296 9223372036854775808)) (extents-with_run m.blocks a xs);
      words = λ b low high o. word-unwritten m.blocks a xs b (out b low o);
    })

-- the block that is told first can be told last
pub blocks-last : (old : Old) (m : Memory) (f : ℕ → Extent) (ps : List ℕ) (a n : ℕ) (waiting : List ℕ) → f a ≡ (a, n)
    → HasBlocks old m ((a, n) ∷ map f ps) waiting → HasBlocks old m (map f (ps ++ a ∷ [])) waiting
blocks-last old m f ps a n waiting e h =
    subst (λ (live : List Extent). HasBlocks old m live waiting) (sym (map-append f ps (a ∷ []) ∙ ap (λ (x : Extent). map f ps ++ x ∷ []) e))
    (HasBlocks_permuted old m ((a, n) ∷ map f ps) (map f ps ++ (a, n) ∷ []) waiting h
    (IsPermutation-sym (map f ps ++ (a, n) ∷ []) ((a, n) ∷ map f ps) (IsPermutation-to_front (map f ps) (a, n))))

-- what lies in one extent lies in one that begins before an end behind it
within-below : (xs : List Extent) (high a n : ℕ) → a < high → lies_within xs a n ≡ true → lies_within (filter (begins_between 0 high) xs) a n ≡ true
within-below [] high a n l h = h
within-below (x ∷ xs) high a n l h = grind (arith, nat_tests, within-below xs high a n l)

-- words that lie in one block lie in one still where the blocks that begin before an end behind them stay
pub lies-kept : (old new : Memory) (high a n : ℕ) → extents_between 0 high new ≡ extents_between 0 high old → a < high
    → lies_in_one old.blocks a n ≡ true → lies_in_one new.blocks a n ≡ true
lies-kept old new high a n same l lies =
    lies_in_one-between new 0 high a n (ap (λ (xs : List Extent). lies_within xs a n) same
    ∙ within-below (map extent_of old.blocks) high a n l (sym (lies_in_one-extents old.blocks a n) ∙ lies))
