use Rattle.switch_state.specs.OpamTexts.{SaysAccepted}
use Rattle.switch_state.proofs.Accepted.{if_ok_more, opam_refused, says_refused}
use Rattle.switch_state.proofs.kept_files.is_accepted.Goals as goal

pub returns : goal.returns
returns c =
    if_ok_more c.refused.result (SaysAccepted c.args.pkg.now c.args.opam.now) c.refused.ensures
    (λ is so. says_refused c.args.pkg.now c.args.opam.now c.in-Err.fault is (opam_refused c.one_tree_for_bytes.ensures c.args.pkg.now c.args.opam.now c.in-Err.fault c.in-Err.ensures.err) so)
