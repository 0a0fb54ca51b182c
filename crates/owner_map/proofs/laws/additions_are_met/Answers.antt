use Rattle.path_order.specs.Apart.{meets}
use Rattle.owner_map.specs.Owning.{path_of}
use Rattle.owner_map.proofs.Gathering.{any_put}
use Rattle.owner_map.proofs.laws.additions_are_met.Goals as goal

pub returns : goal.returns
returns c = λ path entry owned. any_put path_of (meets path) entry owned
