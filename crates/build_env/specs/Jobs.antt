-- The job of a package: its commands under its variables, and their environment (opam manual, file format: opam, build).
use Rattle.std.specs.Prelude.{ℕ, List, [], ◌∷◌, map, filter, Bool, true, false}
use Rattle.std.specs.declared.option.Option.{Option}
use Rattle.std.specs.declared.option.Option.TheVariants.{None, Some}
use Rattle.opam_filter.specs.Scopes.{value_at}
use Rattle.opam_filter.specs.Texts.{expanded, shown}
use Rattle.opam_filter.specs.Truths.{is_yes}
use Rattle.opam_filter.specs.Values.{filter_truth}
use Rattle.opam_filter.specs.Variables.{Values}
use Rattle.opam_filter.specs.declared.filter.Filter.{Filter}
use Rattle.opam_package.specs.declared.package.Arg.{Arg}
use Rattle.opam_package.specs.declared.package.Command.{Command}
use Rattle.opam_package.specs.declared.package.Package.{Package}
use Rattle.opam_package.specs.declared.package.Word.{Word}
use Rattle.opam_package.specs.declared.package.Word.TheVariants.{Text, Var}
use Rattle.outside_io.specs.declared.workshop.Job.{Job}
use Rattle.package_vars.specs.declared.facts.Facts.{Facts}
use Rattle.package_vars.specs.declared.facts.View.{View}
use Rattle.build_env.specs.Environments.{environment_of, variables_for}
use Rattle.build_env.specs.JobNames.{asked_by_job}
use Rattle.build_env.specs.declared.export.Export.{Export}

-- without a filter, or where it is Yes
abbrev pub is_taken : Values → Option Filter → Bool
is_taken values None = true
is_taken values (Some filter) = is_yes (filter_truth values filter)

-- a text is expanded; a variable gives its value, and nothing where it has none
abbrev pub arg_text : Values → Word → List ℕ
arg_text values (Text text) = expanded values text
arg_text values (Var variable) = shown (value_at values variable)

-- the arguments that are taken
abbrev pub words_of : Values → List Arg → List (List ℕ)
words_of values args = map (λ arg. arg_text values arg.word) (filter (λ arg. is_taken values arg.filter) args)

-- a command of no words is none
abbrev pub is_started : List (List ℕ) → Bool
is_started [] = false
is_started (word ∷ words) = true

-- the commands that are taken and have a word
abbrev pub job_commands : Values → List Command → List (List (List ℕ))
job_commands values commands =
    filter is_started (map (λ command. words_of values command.args) (filter (λ command. is_taken values command.filter) commands))

-- the job of a package, whose variables and exports are those of the view
abbrev pub build_job : Package → View → List Export → Facts → Job
build_job built view exports facts =
    let asked = asked_by_job built exports in
    record {
      pkg = built.pkg;
      source = built.source;
      commands = job_commands (variables_for facts view asked built.pkg) built.commands;
      env = environment_of facts view asked built.pkg exports built.build_env;
    }
