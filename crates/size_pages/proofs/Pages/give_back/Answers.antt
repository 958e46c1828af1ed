use Rattle.std.proofs.Common.{ℕ, subst}
use Rattle.size_pages.specs.PageWords.{word_in}
use Rattle.size_pages.specs.Calls.{ChangesAround}
use Rattle.size_pages.proofs.Pages.give_back.Goals as goal

pub returns-clause-stands : goal.returns-clause-stands
returns-clause-stands c = let l = c.requires in record { live = l.others; waiting = l.waiting; fits = c.give.ensures.given l.others l.waiting l.fits }

pub returns-clause-around : goal.returns-clause-around
returns-clause-around c =
    subst (λ (p : ℕ). ChangesAround (word_in c.args.space.now) (word_in c.give.new.space) c.args.self.now.page c.args.self.now.count p c.args.a) c.page_of-page.ensures c.give.ensures.around
