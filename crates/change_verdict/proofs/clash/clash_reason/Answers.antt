use Rattle.std.proofs.Common.{sym}
use Rattle.change_verdict.proofs.LeastMet.{earlier_reason, owned_reason, owner_there}
use Rattle.change_verdict.proofs.clash.clash_reason.Goals as goal

pub returns-in-Earlier : goal.returns-in-Earlier
returns-in-Earlier c =
    earlier_reason c.args.owners.now.owned c.args.pkg.now c.args.paths.now c.args.clash c.in-Earlier.place c.index-paths-clash.result c.index-paths-place.result c.met_reason.result
    c.requires c.in-Earlier.is c.index-paths-clash.is c.index-paths-place.is c.met_reason.ensures

pub unreachable-requires : goal.unreachable-requires
unreachable-requires c =
    owner_there c.args.owners.now.owned c.at.result.1.now c.args.paths.now c.args.clash c.in-Owned.place c.at.result.0.now c.requires c.in-Owned.is c.at.ensures (sym c.in-None.ensures)

pub returns-in-Some : goal.returns-in-Some
returns-in-Some c =
    owned_reason c.args.owners.now.owned c.args.pkg.now c.in-Some.owner.now c.at.result.1.now c.args.paths.now c.args.clash c.in-Owned.place c.index-paths-clash.result c.at.result.0.now c.met_reason-in-Some.result
    c.requires c.in-Owned.is c.index-paths-clash.is c.at.ensures (sym c.in-Some.ensures) c.met_reason-in-Some.ensures
