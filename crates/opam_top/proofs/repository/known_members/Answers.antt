use Rattle.opam_top.specs.Fronts.{member_of}
use Rattle.opam_top.proofs.Answered.{gathered}
use Rattle.opam_top.proofs.repository.known_members.Goals as goal

pub loop-answer-preserved : goal.loop-answer-preserved
loop-answer-preserved c = gathered member_of c.loop-answer.members c.push_known.new.members c.loop-answer.yielded c.in-Some.answer c.loop-answer.invariant c.in_ok-push_known.ensures
