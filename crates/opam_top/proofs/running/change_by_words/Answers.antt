use Rattle.std.proofs.Common.{Result, map, string_bytes, subst, sym}
use Rattle.opam_top.specs.Answers.{IsRunOf, of_front}
use Rattle.opam_top.specs.Changes.{IsPartOf}
use Rattle.opam_top.specs.Fronts.{front, of_request}
use Rattle.opam_top.specs.Requests.{request_of}
use Rattle.opam_top.specs.declared.request.Request.{Request}
use Rattle.opam_top.specs.declared.stops.Refusal.{Refusal}
use Rattle.opam_top.proofs.Ends.{run_refused}
use Rattle.opam_top.proofs.Fronted.{refused_words}
use Rattle.opam_top.proofs.running.change_by_words.Goals as goal

pub returns-in-Ok-clause-run : goal.returns-in-Ok-clause-run
returns-in-Ok-clause-run g c = λ outside is goes.
    subst (λ (answer : Result Request Refusal). IsRunOf (of_front (of_request answer outside.files outside.disk.files) outside) outside.disk.files c.change_by_request.result c.change_by_request.new.progress (g.D.Disk.told c.change_by_request.new.disk))
    (sym c.in-Ok.ensures.told) (c.change_by_request.ensures.run outside is goes)

pub returns-in-Ok-clause-halted : goal.returns-in-Ok-clause-halted
returns-in-Ok-clause-halted g c = λ outside is ended.
    subst (λ (answer : Result Request Refusal). IsPartOf c.change_by_request.new.progress (of_front (of_request answer outside.files outside.disk.files) outside).change) (sym c.in-Ok.ensures.told)
    (c.change_by_request.ensures.halted outside is ended)

pub returns-in-Err-clause-run : goal.returns-in-Err-clause-run
returns-in-Err-clause-run g c = λ outside is goes.
    let words = map string_bytes c.args.words.now in
    run_refused (front words outside.files outside.disk.files) outside c.in-Err.stop c.args.progress.now (g.D.Disk.told c.args.disk.now)
    (refused_words (request_of words) outside.files outside.disk.files c.in-Err.stop c.in-Err.ensures.told) goes c.requires.undecided c.requires.unheard c.requires.uncommitted is.disk
