use Rattle.std.proofs.Common.{◌≡◌, ◌≤◌, ℕ, slice_index, arith, subst}
use Rattle.size_pages.proofs.TakeLaws.{first_with_room, can_take}
use Rattle.size_pages.proofs.ListedLaws.{can_take_open}
use Rattle.size_pages.proofs.Pages.open_page.Goals as goal

pub first-page-requires : goal.first-page-requires
first-page-requires c = let small : c.args.n ≤ c.args.self.now.small = c.requires.n.1 in omega (arith, c.list-list.ensures, c.requires.heads, small)

pub keeps_room-requires-clause-can : goal.keeps_room-requires-clause-can
keeps_room-requires-clause-can c =
    let open_ = first_with_room c.args.self.now c.args.space.now c.first-page.result c.args.n c.requires.stands c.requires.n.0 c.if-page-eq0.false
    (subst (λ (t : ℕ). c.first-page.result ≡ slice_index c.args.self.now.heads.items t) c.list-list.ensures c.first-page.ensures) in
    can_take c.args.self.now c.args.space.now c.first-page.result c.args.n (can_take_open c.args.self.now c.args.space.now c.first-page.result c.args.n open_ c.requires.n.0 c.requires.n.1)

pub returns-then-keeps_room : goal.returns-then-keeps_room
returns-then-keeps_room c some =
    record {
      listed = first_with_room c.args.self.now c.args.space.now c.first-page.result c.args.n c.requires.stands c.requires.n.0 c.if-page-eq0.false
          (subst (λ (t : ℕ). c.first-page.result ≡ slice_index c.args.self.now.heads.items t) c.list-list.ensures c.first-page.ensures);
      low = c.requires.n.0;
      small = c.requires.n.1;
      keeps = c.keeps_room.ensures c.if-keeps_room.true;
    }
