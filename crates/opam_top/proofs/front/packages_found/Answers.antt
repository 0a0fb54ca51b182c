use Rattle.std.proofs.Common.{ℕ, List, Some, length, ap, sym, ◌∙◌, arith}
use Rattle.opam_top.specs.Fronts.{lock_limit}
use Rattle.opam_top.proofs.FoundTexts.{stood_bytes, lock_of_bytes}
use Rattle.opam_top.proofs.front.packages_found.Goals as goal

pub returns-else-len-gt4194304-clause-told : goal.returns-else-len-gt4194304-clause-told
returns-else-len-gt4194304-clause-told c = λ stood found. lock_of_bytes c.args.file.now stood c.as_slice.result.now c.packages_bound.result (stood_bytes stood lock_limit c.args.found.now c.in-Bytes.bytes c.in-Bytes.is found ∙ ap (λ (l : List ℕ). Some l) (sym c.as_slice.ensures)) (omega (arith, ap length c.as_slice.ensures)) c.packages_bound.ensures.told
