use Rattle.std.proofs.Common.{arith}
use Rattle.build_env.proofs.Steps.{all_named, one_member, one_named}
use Rattle.build_env.proofs.members.by_name.Goals as goal

pub loop-pkg-preserved : goal.loop-pkg-preserved
loop-pkg-preserved c = record {
  found = one_member c.loop-pkg.named.entries c.note.new.named.entries c.args.members.now c.loop-pkg.pkg-index c.pkg-item.result
      c.loop-pkg-test.true c.pkg-item.is c.in_ok-note.ensures.found c.loop-pkg.invariant.found;
  valid = one_named c.args.members.now c.loop-pkg.pkg-index c.pkg-item.result c.loop-pkg-test.true c.pkg-item.is
      c.loop-pkg.invariant.valid c.in_ok-note.ensures.valid;
}

pub returns-clause-valid : goal.returns-clause-valid
returns-clause-valid c = all_named c.args.members.now c.loop-pkg.pkg-index (omega (arith, c.loop-pkg-test.false)) c.loop-pkg.invariant.valid
