use Rattle.opam_top.proofs.Commits.{becomes_then, then_done, touches_then}
use Rattle.opam_top.specs.Commits.{is_of_commit, opened, recorded, with_files}
use Rattle.opam_top.proofs.commit.commit.Goals as goal

pub returns-in_err-open_gate-clause-touches : goal.returns-in_err-open_gate-clause-touches
returns-in_err-open_gate-clause-touches g c =
    let D = g.D.Disk in
    touches_then (is_of_commit c.args.ready.now) (D.told c.args.disk.now) (D.told c.write_record.new.disk) (D.told c.open_gate.new.disk) c.write_record.ensures.touches c.open_gate.ensures.touches

pub returns-clause-touches : goal.returns-clause-touches
returns-clause-touches g c =
    let D = g.D.Disk in let touched = is_of_commit c.args.ready.now in
    touches_then touched (D.told c.args.disk.now) (D.told c.open_gate.new.disk) (D.told c.place_files.new.disk)
    (touches_then touched (D.told c.args.disk.now) (D.told c.write_record.new.disk) (D.told c.open_gate.new.disk) c.write_record.ensures.touches c.open_gate.ensures.touches)
    c.place_files.ensures.touches

pub returns-clause-done : goal.returns-clause-done
returns-clause-done g c =
    let D = g.D.Disk in let ready = c.args.ready.now in
    then_done (λ tree. opened ready (recorded ready tree)) (λ tree. with_files tree ready.puts) (D.told c.args.disk.now) (D.told c.open_gate.new.disk) (D.told c.place_files.new.disk) c.place_files.result
    (becomes_then (recorded ready) (opened ready) (D.told c.args.disk.now) (D.told c.write_record.new.disk) (D.told c.open_gate.new.disk) c.in_ok-write_record.ensures.done c.in_ok-open_gate.ensures.done)
    c.place_files.ensures.done
