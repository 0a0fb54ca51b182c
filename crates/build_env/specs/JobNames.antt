-- The names of packages that a job asks for: those with which its commands and the updates that it sees look up variables.
-- This project's own.
use Rattle.std.specs.Prelude.{ℕ, List, [], ◌++◌}
use Rattle.std.specs.List.{flat_map}
use Rattle.std.specs.declared.option.Option.{Option}
use Rattle.std.specs.declared.option.Option.TheVariants.{None, Some}
use Rattle.opam_filter.specs.Asked.{asked, asked_in}
use Rattle.opam_filter.specs.declared.filter.Filter.{Filter}
use Rattle.opam_filter.specs.declared.filter.Filter.TheVariants as filters
use Rattle.opam_package.specs.declared.package.Arg.{Arg}
use Rattle.opam_package.specs.declared.package.Command.{Command}
use Rattle.opam_package.specs.declared.package.EnvUpdate.{EnvUpdate}
use Rattle.opam_package.specs.declared.package.Package.{Package}
use Rattle.opam_package.specs.declared.package.Word.{Word}
use Rattle.opam_package.specs.declared.package.Word.TheVariants.{Text, Var}
use Rattle.build_env.specs.declared.export.Export.{Export}

-- by a filter, where there is one
abbrev pub asked_by_filter : Option Filter → List (List ℕ)
asked_by_filter None = []
asked_by_filter (Some filter) = asked filter

-- by a text with variables in it
abbrev pub asked_by_text : List ℕ → List (List ℕ)
asked_by_text text = asked_in text

-- by a text or by a variable
abbrev pub asked_by_word : Word → List (List ℕ)
asked_by_word (Text text) = asked_by_text text
asked_by_word (Var variable) = asked (filters.Var variable)

-- by an argument and its filter
abbrev pub asked_by_arg : Arg → List (List ℕ)
asked_by_arg arg = asked_by_filter arg.filter ++ asked_by_word arg.word

-- by a command, its filter and its arguments
abbrev pub asked_by_command : Command → List (List ℕ)
asked_by_command command = asked_by_filter command.filter ++ flat_map asked_by_arg command.args

-- by the value of an update
abbrev pub asked_by_update : EnvUpdate → List (List ℕ)
asked_by_update update = asked_by_text update.value

-- by the updates of an export
abbrev pub asked_by_export : Export → List (List ℕ)
asked_by_export export = flat_map asked_by_update export.updates

-- by the commands of a package, its own updates, and the exports that it sees
abbrev pub asked_by_job : Package → List Export → List (List ℕ)
asked_by_job built exports =
    flat_map asked_by_command built.commands ++ flat_map asked_by_update built.build_env ++ flat_map asked_by_export exports
