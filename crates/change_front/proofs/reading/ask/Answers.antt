use Rattle.std.specs.FinMap.{get}
use Rattle.folder_repo.specs.OpamPaths.{path_in_repo}
use Rattle.change_front.proofs.Answered.{answered_at, refused_at}
use Rattle.change_front.proofs.reading.ask.Goals as goal

pub returns-in-Ok-clause-told : goal.returns-in-Ok-clause-told
returns-in-Ok-clause-told g c = λ files is.
    answered_at c.args.pkg.now c.args.room c.args.globals.now (get files (path_in_repo c.args.repo.now c.args.pkg.now)) c.in-Ok.found c.answer_of.result c.answer_of.ensures
    (c.in-Ok.ensures.told files is)

pub returns-in-Ok-refusal_of-clause-told : goal.returns-in-Ok-refusal_of-clause-told
returns-in-Ok-refusal_of-clause-told g c = λ files is.
    refused_at c.args.pkg.now c.args.room c.args.globals.now (path_in_repo c.args.repo.now c.args.pkg.now) (get files (path_in_repo c.args.repo.now c.args.pkg.now)) c.in-Err.fault
    c.in-Ok-refusal_of.refusal (c.in-Err.ensures.told files is) c.in-Ok-refusal_of.ensures.refusal
