use Rattle.std.proofs.Common.{arith}
use Rattle.change_front.proofs.Fitting.{part_few, reinstalled_among}
use Rattle.change_front.proofs.Judged.{part_of}
use Rattle.change_front.proofs.fronts.reinstall.Goals as goal

pub judge-requires-clause-small : goal.judge-requires-clause-small
judge-requires-clause-small c =
    let among = reinstalled_among c.args.installed.now c.args.names.now c.args.roots.now c.in_ok-target.target c.in_ok-target.ensures.target in
    let few = part_few c.args.installed.now c.in_ok-target.target.members c.in_ok-target.ensures.rises among in
    let small = c.requires.small in
    omega (arith, few, small)

pub returns-clause-own : goal.returns-clause-own
returns-clause-own c =
    let among = reinstalled_among c.args.installed.now c.args.names.now c.args.roots.now c.in_ok-target.target c.in_ok-target.ensures.target in
    part_of c.args.installed.now c.in_ok-target.target c.in_ok-target.told c.judge.result c.in_ok-target.ensures.rises among
    (part_few c.args.installed.now c.in_ok-target.target.members c.in_ok-target.ensures.rises among) c.judge.ensures
