use Rattle.std.proofs.Common.{◌∙◌, ap, sym}
use Rattle.std.specs.Option.{option_copied}
use Rattle.std.specs.declared.option.Option.TheVariants.{Some}
use Rattle.back_verdict.specs.Searches.{stands_against}
use Rattle.back_verdict.proofs.Leasts.{next_least}
use Rattle.back_verdict.proofs.least.least_against.Goals as goal

pub loop-at-preserved-then-branch : goal.loop-at-preserved-then-branch
loop-at-preserved-then-branch c =
    ap Some c.lesser.ensures
    ∙ next_least (stands_against c.args.against c.args.old.now) c.args.entries.now c.loop-at.at c.index-entries-at.result (option_copied c.loop-at.least) c.loop-at-test.true c.loop-at.auto.at (sym c.index-entries-at.is) (sym c.in_ok-stands_against.ensures ∙ c.if-branch.true) c.loop-at.invariant
