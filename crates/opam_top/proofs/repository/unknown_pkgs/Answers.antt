use Rattle.opam_top.specs.Fronts.{unknown_of}
use Rattle.opam_top.proofs.Answered.{gathered_at}
use Rattle.opam_top.proofs.repository.unknown_pkgs.Goals as goal

pub loop-answer-preserved : goal.loop-answer-preserved
loop-answer-preserved c =
    gathered_at unknown_of c.loop-answer.pkgs c.push_unknown.new.pkgs c.args.answers.now c.loop-answer.answer-index c.answer-item.result c.loop-answer-test.true c.answer-item.is c.loop-answer.invariant
    c.in_ok-push_unknown.ensures
