use Rattle.std.proofs.Common.{◌∙◌, arith, refl, sym}
use Rattle.size_pages.specs.PageWords.{word_in}
use Rattle.size_pages.proofs.GrowthLaws.{page_can, used_more}
use Rattle.size_pages.proofs.Pages.find_unused.Goals as goal
use Rattle.size_pages.proofs.Pages.find_unused.Goals.{then-loop-number-test+else-class-ne0, else-loop-number-test}

pub loop-number-init : goal.loop-number-init
loop-number-init c = (c.requires.fits.classes.used, c.requires.fits.classes.within)

pub class-requires : goal.class-requires
class-requires c = page_can c.args.self.now c.args.space.now c.loop-number.number c.requires c.loop-number-test.true

pub loop-number-preserved : goal.loop-number-preserved
loop-number-preserved c = (used_more (word_in c.args.space.now) c.args.self.now.page c.loop-number.number c.loop-number.invariant.0 (λ z. c.if-class-ne0.true (c.class.ensures ∙ z)), omega (arith, c.loop-number-test.true))

pub returns : goal.returns
returns c = record {
  is = refl;
  within = c.loop-number.invariant.1;
  used = c.loop-number.invariant.0;
  unused = λ n. elim c.loop-number-test.branch [
    | then-loop-number-test+else-class-ne0 w ↦ sym w.class.ensures ∙ w.if-class-ne0.false
    | else-loop-number-test w ↦ absurd (n (omega (arith, w.loop-number-test.false, c.loop-number.invariant.1)))
  ];
}
