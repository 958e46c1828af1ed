-- Changes of words in arenas.
use Rattle.std.proofs.Common.{◌≡◌, ℕ, ◌<◌, ◌≤◌, inl, inr, refl, sym, ◌∙◌, ap, subst, arith}
use Rattle.heap_space.specs.Places.{with_word}
use Rattle.heap_space.specs.Memory.{Memory}
use Rattle.heap_space.proofs.Blocks.{word_at-elsewhere, word_at-with_word}
use Rattle.heap_space.proofs.ExtentLaws.{has-by_extents, extents-with_word}
use Rattle.size_pages.specs.PageWords.{word_in, IsStored, CanStore, IsInArenas, HasAll}

pub arenas_same : (m : Memory) → IsInArenas m m
arenas_same m = record { extents = refl; arena_words = refl; next_arena = refl; next_large = refl; words = λ e out. refl }

pub arenas_then : (a b c : Memory) → IsInArenas a b → IsInArenas b c → IsInArenas a c
arenas_then a b c h g = record {
  extents = g.extents ∙ h.extents;
  arena_words = g.arena_words ∙ h.arena_words;
  next_arena = g.next_arena ∙ h.next_arena;
  next_large = g.next_large ∙ h.next_large;
  words = λ e out. g.words e out ∙ h.words e out;
}

pub can_store_after : (old new : Memory) (a : ℕ) → IsInArenas old new → CanStore old a → CanStore new a
can_store_after old new a s h = record {
  place = has-by_extents new.blocks old.blocks s.extents a ∙ h.place;
  low = h.low;
  high = h.high;
}

pub stored_in_arenas : (old new : Memory) (a v : ℕ) → CanStore old a → new ≡ record old { blocks = with_word old.blocks a v } → IsInArenas old new
stored_in_arenas old new a v h e =
    let low : 4294967296 ≤ a = h.low in
    let high : a < 1099511627776 = h.high in
    let P : Memory → Type 0 = λ m. IsInArenas old m in
    subst P (sym e) (record {
      extents = extents-with_word old.blocks a v;
      arena_words = refl;
      next_arena = refl;
      next_large = refl;
      words = λ b out. word_at-elsewhere old.blocks a v b (elim out [ inl x ↦ (omega arith) | inr y ↦ (omega arith) ]);
    })

pub stored_word : (old new : Memory) (a v : ℕ) → CanStore old a → new ≡ record old { blocks = with_word old.blocks a v } → IsStored (word_in old) (word_in new) a v
stored_word old new a v h e b =
    ap (λ (m : Memory). word_in m b) e ∙ word_at-with_word old.blocks a v b h.place

pub all_after : (old new : Memory) (low high : ℕ) → IsInArenas old new → HasAll old low high → HasAll new low high
all_after old new low high s h b from upto = can_store_after old new b s (h b from upto)
