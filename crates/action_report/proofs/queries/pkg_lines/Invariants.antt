use Rattle.std.proofs.Common.{◌≡◌, ◌++◌, drop}
use Rattle.std.specs.List.{flat_map}
use Rattle.action_report.specs.Queries.{pkg_line}
use Rattle.action_report.proofs.queries.pkg_lines.Given as goal

-- the lines so far, and then those that are left
abbrev pub invariant-loop-pkg : goal.invariant-loop-pkg
invariant-loop-pkg l = l.text.items ++ flat_map pkg_line (drop l.pkg-index l.pkgs) ≡ flat_map pkg_line l.pkgs
