use Rattle.opam_queries.proofs.Known.{blames_disk, blames_host, blames_locked, blames_output, locked_known, locked_told, says_locked}
use Rattle.run_answers.specs.Ends.{end_of, out_of}
use Rattle.opam_queries.proofs.queries.opam_query.Goals as goal

pub returns-clause-host : goal.returns-clause-host
returns-clause-host g c = blames_host c.ask-answer.result c.answer_with.ensures.broken c.answer_with.ensures.ends c.ask-answer.ensures.host

pub returns-clause-disk : goal.returns-clause-disk
returns-clause-disk g c = blames_disk c.ask-answer.result c.answer_with.ensures.broken c.answer_with.ensures.ends c.ask-answer.ensures.disk

pub returns-clause-held : goal.returns-clause-held
returns-clause-held g c = blames_locked c.ask-answer.result c.answer_with.ensures.broken c.answer_with.ensures.ends c.ask-answer.ensures.held

pub returns-clause-out : goal.returns-clause-out
returns-clause-out g c = blames_output (end_of c.ask-answer.result) c.answer_with.ensures.broken (out_of c.ask-answer.result) c.answer_with.ensures.told c.answer_with.ensures.ends

pub returns-clause-taken : goal.returns-clause-taken
returns-clause-taken g c = λ opens. says_locked c.ask-answer.result c.answer_with.ensures.broken c.answer_with.ensures.ends (g.D.Disk.taken c.args.disk.now) c.ask-answer.ensures.disk (c.ask-answer.ensures.taken opens)

pub returns-clause-locked : goal.returns-clause-locked
returns-clause-locked g c = λ locked. c.ask-answer.ensures.locked (locked_known c.ask-answer.result c.answer_with.ensures.broken c.answer_with.ensures.ends locked)

pub returns-clause-touches : goal.returns-clause-touches
returns-clause-touches g c = λ apart. c.ask-answer.ensures.touches (λ is. apart (locked_told c.ask-answer.result c.answer_with.ensures.broken c.answer_with.ensures.ends is))

pub returns-clause-answered : goal.returns-clause-answered
returns-clause-answered g c = record { answer = c.ask-answer.result; is = c.ask-answer.ensures.told; delivered = c.answer_with.ensures }
