use Rattle.std.proofs.Common.{◌≡◌, take}
use Rattle.change_jobs.specs.Abreast.{all_names}
use Rattle.change_jobs.proofs.jobs.names_of.Given as goal

-- the packages of those so far
abbrev pub invariant-loop-member : goal.invariant-loop-member
invariant-loop-member l = l.names.items ≡ all_names (take l.member-index l.members)
