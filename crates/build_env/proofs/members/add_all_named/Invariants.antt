use Rattle.std.proofs.Common.{◌≡◌, ◌++◌, take}
use Rattle.build_env.specs.Seen.{members_at}
use Rattle.build_env.proofs.members.add_all_named.Given as goal

-- the packages so far
abbrev pub invariant-loop-name : goal.invariant-loop-name
invariant-loop-name l = l.found ≡ l.initial.found ++ members_at l.named.entries (take l.name-index l.names)
