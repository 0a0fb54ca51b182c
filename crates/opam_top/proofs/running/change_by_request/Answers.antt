use Rattle.opam_top.specs.Answers.{run_of}
use Rattle.opam_top.specs.Fronts.{members_for}
use Rattle.opam_top.proofs.Dates.{dated_none}
use Rattle.std.proofs.Common.{◌∙◌, ap, sym, List, Ok}
use Rattle.opam_top.specs.declared.member.Member.{Member}
use Rattle.opam_top.proofs.Committed.{keeps_same}
use Rattle.opam_top.proofs.Ends.{part_of_run, receipts_from, run_refused, run_whole, dated_of_run}
use Rattle.opam_top.proofs.Fronted.{request_fresh}
use Rattle.opam_top.proofs.running.change_by_request.Goals as goal

pub returns-in-Ok-clause-kept : goal.returns-in-Ok-clause-kept
returns-in-Ok-clause-kept g c = λ s told. c.install_and_sum_up.ensures.kept s (c.members_to_install.ensures.same ∙ told)

pub returns-in-Ok-clause-receipts : goal.returns-in-Ok-clause-receipts
returns-in-Ok-clause-receipts g c =
    let D = g.D.Disk in
    receipts_from (D.moment c.args.disk.now) (D.moment c.members_to_install.new.disk) (D.moment c.install_and_sum_up.new.disk) c.install_and_sum_up.new.progress.receipts.items c.members_to_install.ensures.time.later c.install_and_sum_up.ensures.receipts

pub returns-in-Ok-clause-run : goal.returns-in-Ok-clause-run
returns-in-Ok-clause-run g c = λ outside is goes.
    let members = c.in-Ok.members in
    let request = c.args.request.now in
    let answer = members_for request outside.files outside.disk.files in
    let found = c.in-Ok.ensures.told outside.files outside.disk is.files is.disk in
    let fresh = request_fresh request outside.files outside.disk.files members found in
    let disk = c.members_to_install.ensures.same ∙ is.disk in
    run_whole answer outside c.as_slice.result.now c.install_and_sum_up.result c.install_and_sum_up.new.progress (g.D.Disk.told c.install_and_sum_up.new.disk) (found ∙ ap (λ (l : List Member). Ok l) (sym c.as_slice.ensures)) c.install_and_sum_up.ensures.host c.install_and_sum_up.ensures.refusal goes
    (c.install_and_sum_up.ensures.done outside.shop outside.disk is.shop disk fresh) (c.install_and_sum_up.ensures.left outside.shop outside.disk is.shop disk fresh) (c.install_and_sum_up.ensures.heard outside.shop outside.disk is.shop disk fresh)

pub returns-in-Ok-clause-halted : goal.returns-in-Ok-clause-halted
returns-in-Ok-clause-halted g c = λ outside is ended.
    let members = c.in-Ok.members in
    let request = c.args.request.now in
    let answer = members_for request outside.files outside.disk.files in
    let found = c.in-Ok.ensures.told outside.files outside.disk is.files is.disk in
    let fresh = request_fresh request outside.files outside.disk.files members found in
    let disk = c.members_to_install.ensures.same ∙ is.disk in
    part_of_run answer outside c.as_slice.result.now c.install_and_sum_up.new.progress (found ∙ ap (λ (l : List Member). Ok l) (sym c.as_slice.ensures)) (c.install_and_sum_up.ensures.halted outside.shop outside.disk is.shop disk fresh ended)

pub returns-in-Err-clause-kept : goal.returns-in-Err-clause-kept
returns-in-Err-clause-kept g c = λ s told. (s, c.members_to_install.ensures.same ∙ told, keeps_same s.files)

pub returns-in-Err-clause-run : goal.returns-in-Err-clause-run
returns-in-Err-clause-run g c = λ outside is goes.
    run_refused (members_for c.args.request.now outside.files outside.disk.files) outside c.in-Err.stop c.args.progress.now (g.D.Disk.told c.members_to_install.new.disk) (c.in-Err.ensures.told outside.files outside.disk is.files is.disk) goes c.requires.undecided c.requires.unheard c.requires.uncommitted
    (c.members_to_install.ensures.same ∙ is.disk)

pub returns-in-Ok-clause-dated : goal.returns-in-Ok-clause-dated
returns-in-Ok-clause-dated g c = λ outside is short.
    let members = c.in-Ok.members in
    let request = c.args.request.now in
    let answer = members_for request outside.files outside.disk.files in
    let found = c.in-Ok.ensures.told outside.files outside.disk is.files is.disk in
    let fresh = request_fresh request outside.files outside.disk.files members found in
    let disk = c.members_to_install.ensures.same ∙ is.disk in
    dated_of_run answer outside c.as_slice.result.now (g.D.Disk.past c.install_and_sum_up.new.disk) c.install_and_sum_up.new.progress.receipts.items (found ∙ ap (λ (l : List Member). Ok l) (sym c.as_slice.ensures))
    (c.install_and_sum_up.ensures.dated outside.shop outside.disk is.shop disk fresh short)

pub returns-in-Err-clause-dated : goal.returns-in-Err-clause-dated
returns-in-Err-clause-dated g c = λ outside is short.
    dated_none (g.D.Disk.past c.members_to_install.new.disk) (run_of c.args.request.now outside).change.records c.args.progress.now.receipts.items c.requires.uncommitted
