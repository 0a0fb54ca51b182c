use Rattle.lock_check.proofs.Ordered.{ok_on}
use Rattle.lock_check.proofs.Removed.{not_named_once}
use Rattle.lock_check.proofs.targets.not_named.Goals as goal

pub returns : goal.returns
returns c =
    ok_on c.not_named_in.result (λ others is. not_named_once c.texts_rise.ensures c.args.installed.now c.args.names.now c.in_ok-named.named.keys others c.in_ok-named.ensures is)
    c.not_named_in.ensures
