-- What the words of a command line ask for, as far as it is built. This project's own.
use Rattle.std.specs.Prelude.{ℕ, List, [], ◌∷◌, Result, Ok, Err}
use Rattle.command_words.specs.Readings.{read_words}
use Rattle.command_words.specs.declared.command.Change.{Change as AChange}
use Rattle.command_words.specs.declared.command.Change.TheVariants.{Install, Remove, Reinstall}
use Rattle.command_words.specs.declared.command.Command.{Command}
use Rattle.command_words.specs.declared.command.Command.TheVariants.{Change, Query}
use Rattle.command_words.specs.declared.fault.WordFault.{WordFault}
use Rattle.opam_top.specs.Refusals.{bad_words, not_built}
use Rattle.opam_top.specs.declared.request.Request.{Request}
use Rattle.opam_top.specs.declared.stops.Refusal.{Refusal}

-- to install all that a lock binds is built, and nothing else
abbrev pub built_names : List ℕ → List ℕ → ℕ → List (List ℕ) → Result Request Refusal
built_names lock_file repo jobs [] = Ok (record { lock_file = lock_file; repo = repo; jobs = jobs })
built_names lock_file repo jobs (name ∷ names) = Err not_built

-- what a change asks for: only installs are built
abbrev pub built_change : AChange → Result Request Refusal
built_change (Install lock_file repo jobs names) = built_names lock_file repo jobs names
built_change (Remove jobs names) = Err not_built
built_change (Reinstall jobs names) = Err not_built

-- what a command asks for: only changes are built
abbrev pub built_command : Command → Result Request Refusal
built_command (Change change) = built_change change
built_command (Query query) = Err not_built

-- what words ask for that were read so
abbrev pub request_by : Result Command WordFault → Result Request Refusal
request_by (Ok command) = built_command command
request_by (Err fault) = Err (bad_words fault)

-- words that are no command are refused before what is not built
abbrev pub request_of : List (List ℕ) → Result Request Refusal
request_of words = request_by (read_words words)
