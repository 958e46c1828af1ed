-- A fresh memory, and blocks whose words are 0.
use Rattle.std.proofs.Common.{◌≡◌, ℕ, ◌*◌, false, refl, sym, ap, ◌∙◌, arith, subst}
use Rattle.heap_space.specs.Memory.{Memory, fresh_memory}
use Rattle.heap_space.specs.Extents.{Extent}
use Rattle.object_header.specs.Words.{has_flag, IsHeader}
use Rattle.object_header.specs.declared.flags.Flag.TheVariants.{Free}
use Rattle.size_pages.specs.Headers.{IsHeaded}
use Rattle.size_pages.specs.PageWords.{word_in}
use Rattle.object_model.specs.declared.settings.Settings.{Settings}
use Rattle.large_objects.proofs.LargeLaws.{larges-fresh}
use Rattle.old_space.specs.Calls.{IsEmptyFor}

pub empty-fresh : (settings : Settings) (m : Memory) (nursery words : ℕ) → words ≡ settings.page * settings.arena → m ≡ fresh_memory nursery words
    → IsEmptyFor settings m
empty-fresh settings m nursery words size e = record {
  arenas = ap (λ (k : Memory). k.next_arena) e;
  arena_words = ap (λ (k : Memory). k.arena_words) e ∙ size;
  larges = larges-fresh m nursery words e;
}

free-zero : has_flag 0 Free ≡ false
unfolding has_flag
free-zero = refl

pub headed-zero : (m : Memory) (x : Extent) → word_in m x.0 ≡ 0 → IsHeaded m x
headed-zero m x e = record {
  header = subst (λ (w : ℕ). IsHeader w) (sym e) (omega arith);
  live = subst (λ (w : ℕ). has_flag w Free ≡ false) (sym e) free-zero;
}
