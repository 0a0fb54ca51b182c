use Rattle.std.proofs.Common.{sym, subst}
use Rattle.path_order.specs.Apart.{AreApart}
use Rattle.path_order.proofs.Lists.{apart_none}
use Rattle.owner_map.specs.Owning.{paths_of}
use Rattle.owner_map.proofs.owners.Owners.empty.Goals as goal

pub invariant_of-result : goal.invariant_of-result
invariant_of-result c = subst (λ xs. AreApart (paths_of xs)) (sym c.new.ensures) apart_none
