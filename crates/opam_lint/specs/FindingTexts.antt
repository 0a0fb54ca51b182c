-- What is said of faults and findings, a line for each finding. This project's own.
use Rattle.std.specs.Prelude.{ℕ, List, [], ◌∷◌, ◌++◌, Bool, codes, decimal, nat_lt}
use Rattle.std.specs.List.{flat_map}
use Rattle.syntax_trees.specs.declared.fault.SyntaxFault.{SyntaxFault}
use Rattle.syntax_trees.specs.declared.fault.SyntaxFault.TheVariants as syntax
use Rattle.opam_filter.specs.declared.fault.FilterFault.{FilterFault}
use Rattle.opam_filter.specs.declared.fault.FilterFault.TheVariants as filters
use Rattle.opam_package.specs.declared.fault.PackageFault.{PackageFault}
use Rattle.opam_package.specs.declared.fault.PackageFault.TheVariants as faults
use Rattle.opam_lint.specs.declared.finding.Finding.{Finding}
use Rattle.opam_lint.specs.declared.finding.Problem.{Problem}
use Rattle.opam_lint.specs.declared.finding.Problem.TheVariants.{Fault, NoFormat, Refused, Unknown, NoSynopsis, NoMaintainer, EmptyCommand}

-- why bytes are no file; want of memory is never told
abbrev pub syntax_text : SyntaxFault → List ℕ
syntax_text (syntax.Ended at) = codes "unexpected end"
syntax_text (syntax.Stray at) = codes "unexpected byte"
syntax_text (syntax.Deep at) = codes "nested too deep"
syntax_text (syntax.Doubled at) = codes "doubled item"
syntax_text syntax.Memory = []

-- why a value is no filter or no formula
abbrev pub filter_text : FilterFault → List ℕ
filter_text (filters.NotAFilter span) = codes "not a filter"
filter_text (filters.NotAFormula span) = codes "not a formula"
filter_text (filters.NotText span) = codes "not a text"
filter_text (filters.BadName span) = codes "bad package name"
filter_text (filters.NegatedVersion span) = codes "negated version"
filter_text filters.Memory = []

-- why a text is no opam file of a package
abbrev pub fault_text : PackageFault → List ℕ
fault_text (faults.Syntax fault) = syntax_text fault
fault_text (faults.Filter fault) = filter_text fault
fault_text (faults.WrongKind span) = codes "wrong kind of value"
fault_text (faults.NotText span) = codes "not a text"
fault_text (faults.Mismatch span) = codes "does not match the folder"
fault_text (faults.OpamVersion span) = codes "unknown opam version"
fault_text (faults.TooMany span) = codes "too many"
fault_text (faults.EnvOperator span) = codes "bad update"
fault_text (faults.Unsafe span) = codes "unsafe path"
fault_text faults.Memory = []

-- what is wrong
abbrev pub problem_text : Problem → List ℕ
problem_text (Fault fault) = fault_text fault
problem_text NoFormat = codes "no opam-version"
problem_text Refused = codes "refused field"
problem_text Unknown = codes "unknown field"
problem_text NoSynopsis = codes "no synopsis"
problem_text NoMaintainer = codes "no maintainer"
problem_text EmptyCommand = codes "empty command"

-- codes below 20 are those of errors
abbrev pub is_error : Finding → Bool
is_error found = nat_lt found.code 20

-- the line of a finding in a file of this name
abbrev pub finding_line : List ℕ → Finding → List ℕ
finding_line file found =
    file ++ codes ": " ++ decimal found.code ++ codes " at " ++ decimal found.at ++ codes ": " ++ problem_text found.problem ++ codes "\n"

-- a line for each finding, or one that says that there is none
abbrev pub findings_text : List ℕ → List Finding → List ℕ
findings_text file [] = file ++ codes ": no findings\n"
findings_text file (found ∷ more) = flat_map (finding_line file) (found ∷ more)
