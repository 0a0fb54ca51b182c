use Rattle.std.proofs.Common.{ℕ, ◌+◌, sym, ◌∙◌, subst}
use Rattle.opam_names.specs.Faults.{IsBadAt}
use Rattle.opam_names.specs.Packages.{IsPkg}
use Rattle.opam_names.specs.Names.{IsName}
use Rattle.opam_names.proofs.Dots.{pkg_made, no_dot_bad, no_dot_at_all, name_fault, version_fault}
use Rattle.opam_names.proofs.packages.Pkg.read.Goals as goal

pub returns-in-Ok-read-clause-ok : goal.returns-in-Ok-read-clause-ok
returns-in-Ok-read-clause-ok c = record {
  name = c.in-Ok.ensures.valid;
  version = c.in-Ok-read.ensures.valid;
  text = pkg_made c.args.bytes.now c.in-Some.dot c.in-Ok.name c.in-Ok-read.version (sym c.in-Some.ensures) c.in-Ok.ensures.ok c.in-Ok-read.ensures.ok;
}

pub returns-in_default-clause-err : goal.returns-in_default-clause-err
returns-in_default-clause-err c = no_dot_bad c.args.bytes.now c.name_end.result (no_dot_at_all c.args.bytes.now (sym c.first_dot.ensures ∙ c.in_default.is)) c.name_end.ensures

pub returns-in-Err-Bad-clause-err : goal.returns-in-Err-Bad-clause-err
returns-in-Err-Bad-clause-err c =
    let P : ℕ → Type 0 = λ at. IsBadAt IsPkg c.args.bytes.now at in
    subst P (sym c.in-Err-Bad.at-is)
    (name_fault c.args.bytes.now c.in-Some.dot c.in-Err-Bad.at (sym c.in-Some.ensures) (rw c.in-Err-Bad.field-0-is at c.in-Err-Bad.ensures.err))

pub returns-in-Err-Bad-read-clause-err : goal.returns-in-Err-Bad-read-clause-err
returns-in-Err-Bad-read-clause-err c =
    let P : ℕ → Type 0 = λ at. IsBadAt IsPkg c.args.bytes.now (c.in-Some.dot + 1 + at) in
    subst P (sym c.in-Err-Bad-read.at-is)
    (version_fault c.args.bytes.now c.in-Some.dot c.in-Err-Bad-read.at (sym c.in-Some.ensures) (subst IsName c.in-Ok.ensures.ok c.in-Ok.ensures.valid)
    (rw c.in-Err-Bad-read.field-0-is at c.in-Err-Bad-read.ensures.err))
