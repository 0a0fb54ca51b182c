use Rattle.std.proofs.Common.{List, subst}
use Rattle.opam_top.proofs.Commits.{settled_by, file_is_of, sync_touches, then_synced, touches_more, touches_then}
use Rattle.opam_top.specs.Commits.{Becomes, TouchesOnly, is_among, is_of_commit, with_files}
use Rattle.opam_top.specs.declared.records.Placed.{Placed}
use Rattle.opam_top.proofs.commit.place_files.Goals as goal

pub returns-in_err-put_files-clause-touches : goal.returns-in_err-put_files-clause-touches
returns-in_err-put_files-clause-touches g c =
    let D = g.D.Disk in let ready = c.args.ready.now in
    let only = subst (λ (files : List Placed). TouchesOnly (is_among files) (D.told c.args.disk.now) (D.told c.put_files.new.disk)) c.as_slice.ensures c.put_files.ensures.touches in
    touches_more (is_among ready.puts) (is_of_commit ready) (D.told c.args.disk.now) (D.told c.put_files.new.disk) (file_is_of ready) only

pub returns-clause-touches : goal.returns-clause-touches
returns-clause-touches g c =
    let D = g.D.Disk in let ready = c.args.ready.now in
    let only = subst (λ (files : List Placed). TouchesOnly (is_among files) (D.told c.args.disk.now) (D.told c.put_files.new.disk)) c.as_slice.ensures c.put_files.ensures.touches in
    touches_then (is_of_commit ready) (D.told c.args.disk.now) (D.told c.put_files.new.disk) (D.told c.sync.new.self)
    (touches_more (is_among ready.puts) (is_of_commit ready) (D.told c.args.disk.now) (D.told c.put_files.new.disk) (file_is_of ready) only)
    (sync_touches (is_of_commit ready) (D.told c.put_files.new.disk) (D.told c.sync.new.self) c.sync.result c.sync.ensures.synced)

pub returns-clause-done : goal.returns-clause-done
returns-clause-done g c =
    let D = g.D.Disk in let ready = c.args.ready.now in
    let so_far = subst (λ (files : List Placed). Becomes (λ tree. with_files tree files) (D.told c.args.disk.now) (D.told c.put_files.new.disk)) c.as_slice.ensures c.in_ok-put_files.ensures.done in
    then_synced (λ tree. with_files tree ready.puts) (D.told c.args.disk.now) (D.told c.put_files.new.disk) (D.told c.sync.new.self) c.sync.result so_far c.sync.ensures.synced

pub returns-clause-settled : goal.returns-clause-settled
returns-clause-settled g c =
    let D = g.D.Disk in settled_by (D.told c.put_files.new.disk) (D.told c.sync.new.self) c.sync.result c.sync.ensures.synced
