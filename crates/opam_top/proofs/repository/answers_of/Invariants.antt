use Rattle.std.proofs.Common.{◌≡◌, Some, length, map, take, true}
use Rattle.std.specs.List.{filter_map, list_all}
use Rattle.outside_io.specs.Counts.{Files}
use Rattle.opam_top.specs.Fronts.{answer_of, is_short, member_of}
use Rattle.opam_top.proofs.repository.answers_of.Given as goal

abbrev pub invariant-loop-pkg : goal.invariant-loop-pkg
invariant-loop-pkg g l = record {
  faults : g.H.Host.faults l.host ≡ g.H.Host.faults l.fn.host;
  same : g.H.Host.files l.host ≡ g.H.Host.files l.fn.host;
  told : (files : Files) → g.H.Host.files l.fn.host ≡ Some files → l.answers ≡ map (answer_of files l.repo) (take l.pkg-index l.pkgs);
  each : length l.answers ≡ l.pkg-index;
  short : list_all is_short (filter_map member_of l.answers) ≡ true;
}
