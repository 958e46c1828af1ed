use Rattle.std.proofs.Common.{refl, arith, ◌∙◌, ap, slice_index, List, [], ℕ}
use Rattle.size_pages.proofs.Pages.new.Goals as goal

pub returns : goal.returns
returns c = record {
  empty = λ m end size. record {
    setup = record { size_high = c.requires.page.1; arena_low = c.requires.arena.0; arena_high = c.requires.arena.1; small_low = c.requires.small.0; small_high = c.requires.small.1; arena_size = size };
    arenas = record { end = end ∙ omega arith; below = omega arith; placed = λ k below. absurd (omega arith) };
    blocks = record { size_low = c.requires.page.0; pages = λ k below. absurd (omega arith); inside = tt; apart = tt };
    classes = record { small = λ k below. absurd (omega arith); within = omega arith; used = λ k below. absurd (omega arith); last = λ k below. absurd (omega arith) };
    lists = record {
      lists = λ s. [];
      none = refl;
      waits = refl;
      heads_are = λ s. ap (λ (xs : List ℕ). slice_index xs s) c.new.ensures.items;
      linked = λ s. tt;
      distinct = λ s. tt;
      pages = λ s. tt;
      right = λ s. tt;
      listed = λ k below used n. absurd (omega arith);
      rightly = λ k below n. absurd (omega arith);
    };
    heads = λ some. absurd (omega arith);
    waits = refl;
    rising = tt;
    room = omega arith;
  };
  page = refl;
  arena = refl;
  small = refl;
}
