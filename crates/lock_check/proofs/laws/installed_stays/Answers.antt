use Rattle.lock_check.proofs.TargetLaws.{installed_same}
use Rattle.lock_check.proofs.laws.installed_stays.Goals as goal

pub returns : goal.returns
returns c = λ chased installed differ rises held known unknown ends. installed_same c.order_is_stable.ensures.rising chased installed differ held known unknown ends
