use Rattle.std.proofs.Common.{◌∙◌, sym, ap, not, Some, None}
use Rattle.opam_top.specs.declared.decision.Reason.TheVariants.{Foreign}
use Rattle.opam_top.specs.Owners.{owners_of}
use Rattle.opam_top.specs.Placements.{way_barred}
use Rattle.opam_top.specs.Switches.{with_owner}
use Rattle.opam_top.proofs.Clashes.{way_by_stands}
use Rattle.opam_top.proofs.Owned.{more_in_bin, not_among, not_owned, owned_in_bin}
use Rattle.opam_top.proofs.placing.in_the_way.Goals as goal

pub returns-in-Ok-true-clause-unowned : goal.returns-in-Ok-true-clause-unowned
returns-in-Ok-true-clause-unowned g c = λ free. not_owned (owners_of c.args.owners.now) c.args.pkg.now c.args.before.now c.args.path.now (sym c.in_default.ensures)

pub returns-in-Ok-true-clause-apart : goal.returns-in-Ok-true-clause-apart
returns-in-Ok-true-clause-apart g c = λ free. not_among (owners_of c.args.owners.now) c.args.pkg.now c.args.before.now c.args.path.now (sym c.in_default.ensures)

pub returns-in-Ok-true-clause-told : goal.returns-in-Ok-true-clause-told
returns-in-Ok-true-clause-told g c = λ s told bare.
    let own = with_owner (owners_of c.args.owners.now) c.args.pkg.now c.args.before.now in
    let in_bin = more_in_bin (owners_of c.args.owners.now) c.args.pkg.now c.args.before.now (owned_in_bin c.args.owners.now c.requires.owned) c.requires.paths in
    sym (way_by_stands s.files own c.args.path.now c.in-Ok-true.field-0 in_bin bare c.requires.path (sym c.in_default.ensures) (c.in-Ok-true.ensures.told s told)
    ∙ ap (λ b. way_barred c.args.path.now None (not b)) c.in-Ok-true.field-0-test)

pub returns-in_ok-copy-in-Ok-false-clause-told : goal.returns-in_ok-copy-in-Ok-false-clause-told
returns-in_ok-copy-in-Ok-false-clause-told g c = λ s told bare.
    let own = with_owner (owners_of c.args.owners.now) c.args.pkg.now c.args.before.now in
    let in_bin = more_in_bin (owners_of c.args.owners.now) c.args.pkg.now c.args.before.now (owned_in_bin c.args.owners.now c.requires.owned) c.requires.paths in
    sym (way_by_stands s.files own c.args.path.now c.in-Ok-false.field-0 in_bin bare c.requires.path (sym c.in_default.ensures) (c.in-Ok-false.ensures.told s told)
    ∙ ap (λ b. way_barred c.args.path.now None (not b)) c.in-Ok-false.field-0-test
    ∙ ap (λ p. Some (Foreign p)) (sym c.in_ok-copy-in-Ok-false.ensures))
