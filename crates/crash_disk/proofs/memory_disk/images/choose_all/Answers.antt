use Rattle.std.proofs.Common.{◌≡◌, List, arith, subst, if◌then◌else◌}
use Rattle.std.proofs.lemmas.List.{take_all}
use Rattle.crash_disk.specs.Log.{until}
use Rattle.crash_disk.specs.Spots.{image_file, spot_after, spot_at}
use Rattle.crash_disk.specs.Traces.{is_touched}
use Rattle.crash_disk.specs.declared.changes.Change.TheVariants.{Synced}
use Rattle.crash_disk.specs.declared.changes.Entry.{Entry}
use Rattle.crash_disk.proofs.Images.{chosen_all, firm_all}
use Rattle.crash_disk.proofs.Order.{one_later}
use Rattle.crash_disk.proofs.memory_disk.images.choose_all.Goals as goal

pub returns-clause-chosen : goal.returns-clause-chosen
returns-clause-chosen c q spot same =
    let whole = take_all c.loop-entry.entry-index c.args.log.now c.loop-entry-test.false in
    chosen_all c.args.choice c.args.first.now c.args.log.now c.loop-entry.made c.push.new.self c.args.moment q spot c.in_ok-push.ensures.ok
    (subst (λ (es : List Entry). (spot_after c.loop-entry.made q spot).here ≡ (if is_touched es q then image_file c.args.choice (spot_at c.args.first.now (until c.args.moment c.args.log.now) q) else spot.here)) whole
    (c.loop-entry.invariant.chosen q spot)) same

pub returns-clause-firm : goal.returns-clause-firm
returns-clause-firm c s = firm_all c.loop-entry.made c.push.new.self s c.in_ok-push.ensures.ok

pub returns-clause-start : goal.returns-clause-start
returns-clause-start c = rw c.in_ok-push.ensures.ok (one_later 0 c.loop-entry.made (record { moment = 0; change = Synced }) (omega arith) c.loop-entry.invariant.start)
