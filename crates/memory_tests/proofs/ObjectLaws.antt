-- The header and the birth of an object, written into its live block.
use Rattle.std.proofs.Common.{◌≡◌, ◌≢◌, ℕ, ◌+◌, ◌<◌, ◌≤◌, true, false, IsTrue, List, [], ◌∷◌, inl, inr, arith, refl, sym, ◌∙◌, ap, subst}
use Rattle.heap_space.specs.Places.{has, with_word}
use Rattle.heap_space.specs.Memory.{Memory}
use Rattle.heap_space.specs.Extents.{Extent, Each, IsApart}
use Rattle.heap_space.proofs.ExtentLaws.{has-by_extents}
use Rattle.heap_space.proofs.Blocks.{has-with_word, lies-each, word_at-elsewhere, word_at-here}
use Rattle.object_header.specs.Words.{has_flag, IsHeader}
use Rattle.object_header.specs.declared.flags.Flag.TheVariants.{Free}
use Rattle.size_pages.specs.PageWords.{word_in, IsInArenas}
use Rattle.size_pages.specs.PageLists.{IsIn}
use Rattle.size_pages.specs.Sweeping.{CanSweep}
use Rattle.size_pages.specs.HasBlocks.{HasBlocks, IsLive}
use Rattle.size_pages.specs.Headers.{IsHeaded}
use Rattle.size_pages.specs.declared.Pages.{Pages}
use Rattle.size_pages.proofs.FrameLaws.{HasBlocks_write, HasBlocks_first, not_outside}

has_words : (pages : Pages) (m : Memory) (a n j : ℕ) → IsLive pages m (a, n) → j < n → IsTrue (has m.blocks (a + j))
has_words pages m a n j l small = lies-each m.blocks a n j (HasBlocks_first pages m a n l.others l.waiting l.fits).lies small

-- the place of the header is there
pub has_header : (pages : Pages) (m : Memory) (a n : ℕ) → IsLive pages m (a, n) → 2 ≤ n → IsTrue (has m.blocks a)
has_header pages m a n l wide = subst (λ (b : ℕ). has m.blocks b ≡ true) (omega arith) (has_words pages m a n 0 l (omega (arith, wide)))

-- and that of the birth, where the header was written
pub has_birth : (pages : Pages) (m m1 : Memory) (a n header : ℕ) → IsLive pages m (a, n) → 2 ≤ n → m1 ≡ record m { blocks = with_word m.blocks a header } → IsTrue (has m1.blocks (a + 1))
has_birth pages m m1 a n header l wide e1 = ap (λ (k : Memory). has k.blocks (a + 1)) e1 ∙ has-with_word m.blocks a header (a + 1) ∙ has_words pages m a n 1 l (omega (arith, wide))

module _ (pages : Pages) (m m1 m2 : Memory) (a n header birth : ℕ) (l : IsLive pages m (a, n)) (wide : 2 ≤ n) (e1 : m1 ≡ record m { blocks = with_word m.blocks a header }) (e2 : m2 ≡ record m1 { blocks = with_word m1.blocks (a + 1) birth }) where
  pub object_blocks : (live : List Extent) (waiting : List ℕ) → HasBlocks pages m ((a, n) ∷ live) waiting → HasBlocks pages m2 ((a, n) ∷ live) waiting
  object_blocks live waiting f =
      let first = subst (λ (k : Memory). HasBlocks pages k ((a, n) ∷ live) waiting) (sym e1) (HasBlocks_write pages m ((a, n) ∷ live) waiting a header f (not_outside (a, n) live a (omega arith, omega (arith, wide)))) in
      subst (λ (k : Memory). HasBlocks pages k ((a, n) ∷ live) waiting) (sym e2) (HasBlocks_write pages m1 ((a, n) ∷ live) waiting (a + 1) birth first (not_outside (a, n) live (a + 1) (omega arith, omega (arith, wide))))

  pub object_header : word_in m2 a ≡ header
  object_header = ap (λ (k : Memory). word_in k a) e2 ∙ word_at-elsewhere m1.blocks (a + 1) birth a (omega arith) ∙ ap (λ (k : Memory). word_in k a) e1 ∙ word_at-here m.blocks a header (has_header pages m a n l wide)

  pub object_rest : (e : ℕ) → e ≢ a → e ≢ a + 1 → word_in m2 e ≡ word_in m e
  object_rest e n1 n2 = ap (λ (k : Memory). word_in k e) e2 ∙ word_at-elsewhere m1.blocks (a + 1) birth e n2 ∙ ap (λ (k : Memory). word_in k e) e1 ∙ word_at-elsewhere m.blocks a header e n1

-- headers of the type 7, and of no type

not_free_plain : has_flag 7 Free ≡ false
unfolding has_flag
not_free_plain = refl

not_free_visited : has_flag 131079 Free ≡ false
unfolding has_flag
not_free_visited = refl

not_free_zero : has_flag 0 Free ≡ false
unfolding has_flag
not_free_zero = refl

headed_by : (m : Memory) (x : Extent) (w : ℕ) → IsHeader w → has_flag w Free ≡ false → word_in m x.0 ≡ w → IsHeaded m x
headed_by m x w small free e = record { header = subst (λ (v : ℕ). IsHeader v) (sym e) small; live = subst (λ (v : ℕ). has_flag v Free ≡ false) (sym e) free }

pub headed_plain : (m : Memory) (x : Extent) → word_in m x.0 ≡ 7 → IsHeaded m x
headed_plain m x e = headed_by m x 7 (omega arith) not_free_plain e

pub headed_visited : (m : Memory) (x : Extent) → word_in m x.0 ≡ 131079 → IsHeaded m x
headed_visited m x e = headed_by m x 131079 (omega arith) not_free_visited e

pub headed_zero : (m : Memory) (x : Extent) → word_in m x.0 ≡ 0 → IsHeaded m x
headed_zero m x e = headed_by m x 0 (omega arith) not_free_zero e

pub has_later : (m new : Memory) (a : ℕ) → IsInArenas m new → IsTrue (has m.blocks a) → IsTrue (has new.blocks a)
has_later m new a s h = has-by_extents new.blocks m.blocks s.extents a ∙ h

-- where two blocks of 10 words are apart, the first words of the one are not in the other
pub words_apart : (a b : ℕ) → IsApart (a, 10) (b, 10) → (b ≢ a) × (b ≢ a + 1)
words_apart a b h = elim h [ inl l ↦ (λ e. omega (arith, l, e), λ e. omega (arith, l, e)) | inr r ↦ (λ e. omega (arith, r, e), λ e. omega (arith, r, e)) ]

-- some page waits
pub can_sweep : (pages : Pages) (m : Memory) (live : List Extent) (p : ℕ) (ws : List ℕ) → IsIn p ws → HasBlocks pages m live ws → Each (IsHeaded m) live → CanSweep pages m
can_sweep pages m live p [] i f h = absurd i
can_sweep pages m live p (w ∷ ws) i f h = record { live = live; page = w; rest = ws; has = record { fits = f; headed = h } }
