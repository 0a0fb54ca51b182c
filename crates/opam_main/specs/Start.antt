-- How a run ends that did not begin.
use Rattle.std.specs.Prelude.{ℕ}
use Rattle.opam_main.specs.declared.start.StartError.{StartError}
use Rattle.opam_main.specs.declared.start.StartError.TheVariants.{Streams, Arguments, Variable, Folder, Memory}

-- the number that a run ends with which did not begin
abbrev pub start_number : StartError → ℕ
start_number (Streams error) = 40
start_number (Arguments error) = 2
start_number (Variable name) = 2
start_number (Folder error) = 40
start_number Memory = 98
