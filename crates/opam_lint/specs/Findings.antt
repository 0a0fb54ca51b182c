-- What is found in an opam file, a line for each code. The codes, and what each is about, are this project's own; the fields are
-- those of the opam manual (file format: opam).
use Rattle.std.specs.Prelude.{ℕ, List, [], ◌∷◌, ◌++◌, Bool, false, not, drop, codes, is_none, ◌&&◌, if◌then◌else◌}
use Rattle.std.specs.declared.option.Option.{Option}
use Rattle.std.specs.declared.option.Option.TheVariants.{None, Some}
use Rattle.opam_names.specs.ByteOrders.{in_order_by}
use Rattle.opam_names.specs.Names.{is_name, is_version}
use Rattle.opam_names.specs.declared.packages.Pkg.{Pkg}
use Rattle.syntax_trees.specs.Files.{Contents, FieldContents, SectionContents}
use Rattle.syntax_trees.specs.declared.tree.Node.{Node}
use Rattle.syntax_trees.specs.declared.tree.Span.{Span}
use Rattle.opam_package.specs.FieldFaults.{file_faults, section_faults}
use Rattle.opam_package.specs.Fields.{FileItems, field_of, listed}
use Rattle.opam_package.specs.Forms.{text_of}
use Rattle.opam_package.specs.PackageFaults.{fault_start, first_fault}
use Rattle.opam_package.specs.Packages.{is_refused}
use Rattle.opam_package.specs.declared.fault.PackageFault.{PackageFault}
use Rattle.opam_lint.specs.declared.finding.Finding.{Finding}
use Rattle.opam_lint.specs.declared.finding.Problem.{Problem}
use Rattle.opam_lint.specs.declared.finding.Problem.TheVariants.{Fault, NoFormat, Refused, Unknown, NoSynopsis, NoMaintainer}
use Rattle.opam_lint.specs.EmptyCommands.{empty_commands}
use Rattle.opam_lint.specs.KnownFields.{is_known}

-- a finding: its code, its place and what is wrong
abbrev pub finding : ℕ → ℕ → Problem → Finding
finding code at problem = record { code = code; at = at; problem = problem }

-- the text of a field where it is one of the kind, and else another
abbrev pub text_or : (List ℕ → Bool) → List ℕ → Option Node → List ℕ
text_or is_one other None = other
text_or is_one other (Some node) = if is_one (text_of node) then text_of node else other

-- the package that a file is taken for: that of its own name and version, `lint` and `0` where it gives none
abbrev pub told_package : FileItems → Pkg
told_package items = record {
  name = text_or is_name (codes "lint") (field_of (codes "name") items);
  version = text_or is_version (codes "0") (field_of (codes "version") items);
}

-- the fault that is told of a file is found at its place
abbrev pub fault_findings : Option PackageFault → List Finding
fault_findings None = []
fault_findings (Some fault) = finding 3 (fault_start fault) (Fault fault) ∷ []

-- a field that is missing is found at the beginning
abbrev pub missing_findings : List ℕ → ℕ → Problem → FileItems → List Finding
missing_findings name code problem items = if is_none (field_of name items) then finding code 0 problem ∷ [] else []

-- an item that is not done; a section that has a fault of its own is told by that alone
abbrev pub is_refused_item : List ℕ → Contents → Bool
is_refused_item name (FieldContents value) = is_refused name (FieldContents value)
is_refused_item name (SectionContents fields) =
    is_refused name (SectionContents fields) && is_none (first_fault (section_faults name fields))

-- a field whose name no rule knows; sections are not looked at
abbrev pub is_unknown_item : List ℕ → Contents → Bool
is_unknown_item name (FieldContents value) = not (is_known name)
is_unknown_item name (SectionContents fields) = false

-- what is found of an item that begins at this place
abbrev pub item_findings : List ℕ → Contents → ℕ → List Finding
item_findings name contents at =
    (if is_refused_item name contents then finding 5 at Refused ∷ [] else [])
    ++ (if is_unknown_item name contents then finding 21 at Unknown ∷ [] else [])

-- where the first of several items begins
abbrev pub first_start : List Span → ℕ
first_start [] = 0
first_start (span ∷ more) = span.start

-- what is found of items, each at its own place
abbrev pub items_findings : FileItems → List Span → List Finding
items_findings [] places = []
items_findings (item ∷ items) places =
    item_findings item.0.name item.1 (first_start places) ++ items_findings items (drop 1 places)

-- all that is found in a file, code by code: 3; 4; 5 and 21; 22; 23; 24
abbrev pub all_findings : FileItems → List Span → List Finding
all_findings items places =
    fault_findings (first_fault (file_faults (told_package items) items))
    ++ missing_findings (codes "opam-version") 4 NoFormat items
    ++ items_findings items places
    ++ missing_findings (codes "synopsis") 22 NoSynopsis items
    ++ missing_findings (codes "maintainer") 23 NoMaintainer items
    ++ listed empty_commands (field_of (codes "build") items)

-- what decides their order: the place, then the code
abbrev pub finding_key : Finding → List ℕ
finding_key found = found.at ∷ found.code ∷ []

-- all that is found in a file, in that order; what has place and code in common stays as it stands above
abbrev pub file_findings : FileItems → List Span → List Finding
file_findings items places = in_order_by finding_key (all_findings items places)
