use Rattle.std.proofs.Common.{◌≡◌, List, true, subst}
use Rattle.std.specs.List.{list_all}
use Rattle.crash_disk.proofs.Effects.{touches_both, touches_front}
use Rattle.crash_disk.proofs.Stops.{began, if_ok, wrote}
use Rattle.crash_disk.specs.Writes.{paths_of}
use Rattle.crash_disk.specs.declared.batch.Write.{Write}
use Rattle.switch_journal.specs.Commits.{is_outside}
use Rattle.switch_journal.proofs.RedoStops.{rests_again, stops_again, stops_sync}
use Rattle.switch_journal.proofs.commits.redo.Goals as goal

pub returns-in_err-sync-clause-crash : goal.returns-in_err-sync-clause-crash
returns-in_err-sync-clause-crash g c = λ j begins.
    stops_sync g.D.Disk g.met.D.Disk.now_is j (subst (λ (ws : List Write). list_all is_outside ws ≡ true) begins.is begins.apart) begins.tells c.sync.ensures.touches

pub returns-clause-crash : goal.returns-clause-crash
returns-clause-crash g c = λ j begins.
    stops_again g.D.Disk g.met.D.Disk.now_is j (subst (λ (ws : List Write). list_all is_outside ws ≡ true) begins.is begins.apart) begins.tells c.sync.ensures.touches c.in_ok-sync.ensures.done
    (began begins.is c.write_all.ensures.touches)

pub returns-clause-done : goal.returns-clause-done
returns-clause-done g c = if_ok c.write_all.result c.write_all.ensures.done (λ leaves j begins.
    rests_again g.D.Disk g.met.D.Disk.now_is j (subst (λ (ws : List Write). list_all is_outside ws ≡ true) begins.is begins.apart) begins.tells c.in_ok-sync.ensures.done
    (wrote g.D.Disk begins.is c.write_all.ensures.touches leaves).leaves)

pub returns-in_err-sync-clause-touches : goal.returns-in_err-sync-clause-touches
returns-in_err-sync-clause-touches g c = touches_front (paths_of c.args.last.now) c.sync.ensures.touches

pub returns-clause-touches : goal.returns-clause-touches
returns-clause-touches g c = touches_both c.sync.ensures.touches c.write_all.ensures.touches
