use Rattle.std.proofs.Common.{rules}
use Rattle.opam_names.proofs.ByteSort.{sorted_is}
use Rattle.opam_lint.specs.Findings.{finding_key}
use Rattle.opam_lint.proofs.findings.sort.Goals as goal

pub returns : goal.returns
returns c =
    sorted_is finding_key c.args.findings.now.items c.sort_by.new.self.items c.in_ok-sort_by.ensures.sorted c.in_ok-sort_by.ensures.stable (λ a r q k. search rules)
