use Rattle.opam_top.proofs.Answered.{few_members}
use Rattle.opam_top.proofs.repository.members_in_repository.Goals as goal

pub returns-in-Ok-clause-few : goal.returns-in-Ok-clause-few
returns-in-Ok-clause-few g c = few_members _ _ c.members_of.result c.in-Ok.ensures.each c.members_of.ensures.all
