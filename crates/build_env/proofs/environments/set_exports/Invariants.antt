use Rattle.std.proofs.Common.{◌≡◌, drop}
use Rattle.build_env.specs.Seen.{with_exports_seen}
use Rattle.build_env.proofs.environments.set_exports.Given as goal

-- the environment so far, and then the exports that are left
abbrev pub invariant-loop-export : goal.invariant-loop-export
invariant-loop-export l =
    with_exports_seen l.facts l.named.entries l.env.entries (drop l.export-index l.exports) ≡ with_exports_seen l.facts l.named.entries l.initial.env.entries l.exports
