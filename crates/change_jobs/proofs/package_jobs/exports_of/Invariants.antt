use Rattle.std.proofs.Common.{◌≡◌, take}
use Rattle.change_jobs.specs.PackageJobs.{exports_in}
use Rattle.change_jobs.proofs.package_jobs.exports_of.Given as goal

-- what those so far set
abbrev pub invariant-loop-member : goal.invariant-loop-member
invariant-loop-member l = l.exports ≡ exports_in (take l.member-index l.members) l.view
