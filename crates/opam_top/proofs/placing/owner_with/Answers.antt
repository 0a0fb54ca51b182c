use Rattle.std.proofs.Common.{◌∙◌, sym}
use Rattle.opam_top.specs.Owners.{owners_of}
use Rattle.opam_top.proofs.Owned.{owned_as_before, owned_if_among}
use Rattle.opam_top.proofs.placing.owner_with.Goals as goal

pub returns-then-are_among : goal.returns-then-are_among
returns-then-are_among c = owned_if_among (owners_of c.args.owners.now) c.args.pkg.now c.args.files.now c.args.path.now (sym c.are_among.ensures ∙ c.if-are_among.true)

pub returns : goal.returns
returns c = c.owner_of.ensures ∙ owned_as_before (owners_of c.args.owners.now) c.args.pkg.now c.args.files.now c.args.path.now (sym c.are_among.ensures ∙ c.if-are_among.false)
