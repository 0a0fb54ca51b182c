use Rattle.switch_state.specs.Recovery.{IsReadOf}
use Rattle.switch_state.proofs.Accepted.{if_ok_more}
use Rattle.switch_state.proofs.Recovered.{refused_read}
use Rattle.switch_state.proofs.recovery.read_member.Goals as goal

pub returns : goal.returns
returns c =
    if_ok_more c.refuse.result (IsReadOf c.args.globals.now c.args.entry) c.refuse.ensures
    (λ read so. refused_read c.one_tree_for_bytes.ensures c.args.globals.now c.args.entry c.as_slice.result.now c.in-Err.fault read c.as_slice.ensures c.in-Err.ensures.err so)
