use Rattle.std.proofs.Common.{◌≡◌, ◌++◌, drop}
use Rattle.std.specs.List.{flat_map}
use Rattle.action_report.specs.Queries.{path_line}
use Rattle.action_report.proofs.queries.add_paths.Given as goal

-- the lines so far, and then those that are left
abbrev pub invariant-loop-path : goal.invariant-loop-path
invariant-loop-path l = l.text.items ++ flat_map path_line (drop l.path-index l.paths) ≡ l.initial.text.items ++ flat_map path_line l.paths
