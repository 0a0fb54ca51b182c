use Rattle.std.proofs.Common.{◌≡◌, drop, take}
use Rattle.build_env.specs.Seen.{AreNamed, by_name, with_members}
use Rattle.build_env.proofs.members.by_name.Given as goal

-- the packages so far, and then those that are left
abbrev pub invariant-loop-pkg : goal.invariant-loop-pkg
invariant-loop-pkg l = record {
  found : with_members l.named.entries (drop l.pkg-index l.members) ≡ by_name l.members;
  valid : AreNamed (take l.pkg-index l.members);
}
