-- The forms of values that several fields have (opam manual, file format: opam): texts, lists of them, filters, formulas.
use Rattle.std.specs.Prelude.{ℕ, List, [], ◌∷◌, map, if◌then◌else◌}
use Rattle.std.specs.List.{flat_map}
use Rattle.std.specs.Option.{unwrap_or}
use Rattle.std.specs.declared.option.Option.{Option}
use Rattle.std.specs.declared.option.Option.TheVariants.{None, Some}
use Rattle.syntax_trees.specs.declared.tree.Node.{Node}
use Rattle.syntax_trees.specs.declared.tree.Span.{Span}
use Rattle.opam_filter.specs.Faults.{is_text, judged}
use Rattle.opam_package.specs.declared.fault.PackageFault.{PackageFault}
use Rattle.opam_package.specs.declared.fault.PackageFault.TheVariants.{WrongKind, NotText}
use Rattle.opam_package.specs.PackageFaults.{inner_faults}
use Rattle.opam_package.specs.Views.{text_in, values_of}

-- a text that is used is UTF-8 without a zero byte
abbrev pub text_of_bytes : List ℕ → Option (List ℕ)
text_of_bytes bytes = if is_text bytes then Some bytes else None

-- bytes that are none have this fault
abbrev pub bytes_faults : List ℕ → Span → List PackageFault
bytes_faults bytes span = if is_text bytes then [] else NotText span ∷ []

-- any value but a text is of the wrong kind
abbrev pub text_faults_of : Option (List ℕ) → Span → List PackageFault
text_faults_of None span = WrongKind span ∷ []
text_faults_of (Some bytes) span = bytes_faults bytes span

-- a text
abbrev pub text_faults : Node → List PackageFault
text_faults node = text_faults_of (text_in node) node.span

-- the bytes of a text
abbrev pub text_of : Node → List ℕ
text_of node = unwrap_or (text_in node) []

-- one text, or a list of texts
abbrev pub texts_faults : Node → List PackageFault
texts_faults node = flat_map text_faults (values_of node)

-- the texts of these
abbrev pub texts_of : Node → List (List ℕ)
texts_of node = map text_of (values_of node)

-- a filter, with the first of its faults
abbrev pub filter_faults : Node → List PackageFault
filter_faults node = inner_faults (judged node).filter

-- a formula, with the first of its faults
abbrev pub formula_faults : Node → List PackageFault
formula_faults node = inner_faults (judged node).formula

-- one formula, or a list of them
abbrev pub formulas_faults : Node → List PackageFault
formulas_faults node = flat_map formula_faults (values_of node)
