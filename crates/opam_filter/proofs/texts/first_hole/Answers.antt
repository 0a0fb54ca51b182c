use Rattle.opam_filter.specs.Texts.{Cut}
use Rattle.opam_filter.proofs.Cuts.{one_hole, hole_shorter}
use Rattle.opam_filter.proofs.texts.first_hole.Goals as goal

pub returns-clause-some : goal.returns-clause-some
returns-clause-some c =
    let opening : Cut = record { before = c.in_ok-before.before.now; after = c.in_ok-before.rest.now } in
    let closing : Cut = record { before = c.in_ok-inside.inside.now; after = c.in_ok-inside.after.now } in
    one_hole c.args.text.now opening closing c.in_ok-before.ensures c.in_ok-inside.ensures

pub returns-clause-shorter : goal.returns-clause-shorter
returns-clause-shorter c =
    let opening : Cut = record { before = c.in_ok-before.before.now; after = c.in_ok-before.rest.now } in
    let closing : Cut = record { before = c.in_ok-inside.inside.now; after = c.in_ok-inside.after.now } in
    hole_shorter c.args.text.now opening closing c.in_ok-before.ensures c.in_ok-inside.ensures
