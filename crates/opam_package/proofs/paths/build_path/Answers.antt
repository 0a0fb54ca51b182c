use Rattle.std.proofs.Common.{ℕ, List, sym, subst, ◌∙◌}
use Rattle.opam_names.specs.Paths.{IsPath}
use Rattle.opam_package.specs.Relatives.{shortened}
use Rattle.opam_package.proofs.SafePaths.{safe_test}
use Rattle.opam_package.proofs.paths.build_path.Goals as goal

pub unreachable-requires : goal.unreachable-requires
unreachable-requires c =
    let fault = rw c.in-Err-Bad.field-0-is at c.in-Err-Bad.ensures.err in
    let same = c.as_bytes.ensures.value ∙ c.in_ok-path.ensures in
    let test = safe_test c.args.text.now c.args.span c.requires in
    let path = (c.tests_say_the_same.ensures.paths (shortened c.args.text.now)).0 test in
    let P : List ℕ → Type 0 = λ bytes. IsPath bytes in
    fault.no_value (subst P (sym same) path)
