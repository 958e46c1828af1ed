use Rattle.std.proofs.Common.{◌∙◌, ◌+◌, ◌*◌, ◌-◌, ◌≡◌, ◌≤◌, ap, arith, List, ℕ, slice_index, vec_len, length}
use Rattle.size_pages.proofs.GrowLaws.{padded}
use Rattle.size_pages.proofs.Pages.grow_heads.Goals as goal

pub returns-in_ok-resize-clause-keeps : goal.returns-in_ok-resize-clause-keeps
returns-in_ok-resize-clause-keeps c m live waiting f =
    let heads = c.args.self.now.heads in
    record {
      setup = f.setup;
      arenas = f.arenas;
      blocks = f.blocks;
      classes = f.classes;
      lists = record {
        lists = f.lists.lists;
        none = f.lists.none;
        waits = f.lists.waits;
        heads_are = λ s. ap (λ (xs : List ℕ). slice_index xs s) c.in_ok-resize.ensures.items ∙ padded heads.items (2 * c.args.self.now.small + 2) (2 * c.args.self.now.small + 2 - vec_len heads) s (omega (arith, heads.ok, c.len.ensures, c.if-len-wanted.true)) ∙ f.lists.heads_are s;
        linked = f.lists.linked;
        distinct = f.lists.distinct;
        pages = f.lists.pages;
        right = f.lists.right;
        listed = f.lists.listed;
        rightly = f.lists.rightly;
      };
      heads = λ some. let long : 2 * c.args.self.now.small + 2 ≤ length heads.items = f.heads some in let now : length c.resize.new.self.items ≡ 2 * c.args.self.now.small + 2 = omega (arith, c.in_ok-resize.ensures.len, c.resize.new.self.ok) in omega arith;
      waits = f.waits;
      rising = f.rising;
      room = f.room;
    }
