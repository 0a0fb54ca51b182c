use Rattle.std.proofs.Common.{◌<◌, ◌∙◌, ap, sym, length, arith}
use Rattle.change_verdict.proofs.Near.{here_above}
use Rattle.change_verdict.proofs.foreign.is_file_above.Goals as goal

pub returns-then-branch-clause-told : goal.returns-then-branch-clause-told
returns-then-branch-clause-told g c = λ s told.
    let path = c.args.path.now in
    let within : c.loop-at.at < length path = let lt = c.loop-at-test.true in let size = ap length c.as_str-at-end.ensures.value in omega (arith, lt, size) in
    let here = c.in_ok-is_file_at.ensures.told s (c.loop-at.invariant.reads.same ∙ told) in
    sym (here_above s.files path c.loop-at.at (length path) within (sym here ∙ c.if-branch.true))
