use Rattle.std.proofs.Common.{◌≡◌, ℕ, List, IsTrue, take, if◌then◌else◌}
use Rattle.crash_disk.specs.Log.{all_until, until}
use Rattle.crash_disk.specs.Spots.{Spot, image_file, spot_after, spot_at}
use Rattle.crash_disk.specs.Traces.{is_touched}
use Rattle.crash_disk.proofs.memory_disk.images.choose_all.Given as goal

-- the paths of the changes so far have what the image has, and the others what they had
abbrev pub invariant-loop-entry : goal.invariant-loop-entry
invariant-loop-entry l = record {
  chosen : (q : List ℕ) (spot : Spot) → (spot_after l.made q spot).here ≡ (if is_touched (take l.entry-index l.log) q then image_file l.choice (spot_at l.first (until l.moment l.log) q) else spot.here);
  start : IsTrue (all_until 0 l.made);
}
