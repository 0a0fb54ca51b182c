use Rattle.std.proofs.Common.{◌≡◌, take}
use Rattle.change_jobs.proofs.package_jobs.copy_updates.Given as goal

-- those so far are copied
abbrev pub invariant-loop-update : goal.invariant-loop-update
invariant-loop-update l = l.copies ≡ take l.update-index l.updates
