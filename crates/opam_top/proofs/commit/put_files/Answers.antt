use Rattle.std.proofs.Common.{◌∙◌, Some, Ok}
use Rattle.opam_top.proofs.Passed.{passes_then}
use Rattle.opam_top.proofs.Commits.{all_put, change_becomes, change_touches, one_more_put, put_is_among, touches_then}
use Rattle.opam_top.specs.Commits.{is_among, kept}
use Rattle.opam_top.proofs.commit.put_files.Goals as goal

pub returns-in_err-put_file-clause-touches : goal.returns-in_err-put_file-clause-touches
returns-in_err-put_file-clause-touches g c =
    let D = g.D.Disk in let files = c.args.files.now in let file = c.file-item.result in
    touches_then (is_among files) (D.told c.args.disk.now) (D.told c.loop-file.disk) (D.told c.put_file.new.disk) c.loop-file.invariant.touches
    (change_touches (is_among files) file.path (Some (kept file)) (D.told c.loop-file.disk) (D.told c.put_file.new.disk) c.put_file.result
    (put_is_among files c.loop-file.file-index file c.loop-file-test.true c.file-item.is) c.put_file.ensures.put)

pub loop-file-preserved : goal.loop-file-preserved
loop-file-preserved g c =
    let D = g.D.Disk in let files = c.args.files.now in let file = c.file-item.result in
    record {
      quiet = c.in_ok-put_file.ensures.cause.ok ∙ c.loop-file.invariant.quiet;
      time = passes_then (D.moment c.args.disk.now) (D.moment c.loop-file.disk) (D.moment c.put_file.new.disk) (D.past c.args.disk.now) (D.past c.loop-file.disk) (D.past c.put_file.new.disk) c.loop-file.invariant.time c.put_file.ensures.time;
      held = c.put_file.ensures.held ∙ c.loop-file.invariant.held;
      touches =
          touches_then (is_among files) (D.told c.args.disk.now) (D.told c.loop-file.disk) (D.told c.put_file.new.disk) c.loop-file.invariant.touches
          (change_touches (is_among files) file.path (Some (kept file)) (D.told c.loop-file.disk) (D.told c.put_file.new.disk) (Ok c.in_ok-put_file.field-0)
          (put_is_among files c.loop-file.file-index file c.loop-file-test.true c.file-item.is) c.in_ok-put_file.ensures.put);
      done =
          one_more_put files c.loop-file.file-index file (D.told c.args.disk.now) (D.told c.loop-file.disk) (D.told c.put_file.new.disk) c.loop-file-test.true c.file-item.is c.loop-file.invariant.done
          (change_becomes file.path (Some (kept file)) (D.told c.loop-file.disk) (D.told c.put_file.new.disk) c.in_ok-put_file.field-0 c.in_ok-put_file.ensures.put);
    }

pub returns-clause-done : goal.returns-clause-done
returns-clause-done g c =
    let D = g.D.Disk in
    all_put c.args.files.now c.loop-file.file-index (D.told c.args.disk.now) (D.told c.loop-file.disk) c.loop-file-test.false c.loop-file.invariant.done
