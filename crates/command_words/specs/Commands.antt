-- What holds of every command that is read. This project's own.
use Rattle.std.specs.Prelude.{ℕ, Bool, IsTrue, nat_le, ◌&&◌}
use Rattle.command_words.specs.Laws.{Rises}
use Rattle.command_words.specs.Readings.{is_path}
use Rattle.command_words.specs.declared.command.Change.{Change as AChange}
use Rattle.command_words.specs.declared.command.Change.TheVariants.{Install, Remove, Reinstall}
use Rattle.command_words.specs.declared.command.Command.{Command}
use Rattle.command_words.specs.declared.command.Command.TheVariants.{Change, Query}
use Rattle.command_words.specs.declared.command.Query.{Query as AQuery}
use Rattle.command_words.specs.declared.command.Query.TheVariants.{List, Show, Lint}

-- 1 to 64
abbrev pub is_number_of_jobs : ℕ → Bool
is_number_of_jobs jobs = nat_le 1 jobs && nat_le jobs 64

-- files and folders have names, there are 1 to 64 jobs, and names rise in the order of bytes
abbrev pub IsReadChange : AChange → Type 0
IsReadChange (Install lock_file repo jobs names) = IsTrue (is_path lock_file) × IsTrue (is_path repo) × IsTrue (is_number_of_jobs jobs) × Rises names
IsReadChange (Remove jobs names) = IsTrue (is_number_of_jobs jobs) × Rises names
IsReadChange (Reinstall jobs names) = IsTrue (is_number_of_jobs jobs) × Rises names

-- files and folders have names
abbrev pub IsReadQuery : AQuery → Type 0
IsReadQuery List = Unit {0}
IsReadQuery (Show repo what) = IsTrue (is_path repo)
IsReadQuery (Lint file) = IsTrue (is_path file)

-- the same of a change and of a query
abbrev pub IsReadCommand : Command → Type 0
IsReadCommand (Change change) = IsReadChange change
IsReadCommand (Query query) = IsReadQuery query
