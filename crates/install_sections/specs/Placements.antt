-- Which files an install file places, and what is wrong with it (opam manual, package definitions: `.install` files; the limit is
-- this project's own).
use Rattle.std.specs.Prelude.{ℕ, List, [], ◌∷◌, ◌++◌, drop, take, map, bytes_eq, codes, if◌then◌else◌}
use Rattle.std.specs.List.{flat_map}
use Rattle.std.specs.declared.option.Option.{Option}
use Rattle.std.specs.declared.option.Option.TheVariants.{None, Some}
use Rattle.syntax_trees.specs.Files.{Contents, FieldContents, SectionContents}
use Rattle.syntax_trees.specs.Trees.{items_of}
use Rattle.syntax_trees.specs.declared.file.File.{File}
use Rattle.syntax_trees.specs.declared.file.Key.{Key}
use Rattle.syntax_trees.specs.declared.tree.Node.{Node}
use Rattle.syntax_trees.specs.declared.tree.Span.{Span}
use Rattle.install_sections.specs.declared.fault.InstallFault.{InstallFault}
use Rattle.install_sections.specs.declared.fault.InstallFault.TheVariants.{Misc, TooMany, UnknownSection}
use Rattle.install_sections.specs.declared.limits.TheConstants.{ITEM_LIMIT}
use Rattle.install_sections.specs.declared.placement.Placement.{Placement}
use Rattle.install_sections.specs.declared.placement.Verdict.{Verdict}
use Rattle.install_sections.specs.declared.placement.Verdict.TheVariants.{Places, Fails}
use Rattle.install_sections.specs.declared.sections.Section.{Section}
use Rattle.install_sections.specs.Sections.{section_of}
use Rattle.install_sections.specs.Verdicts.{verdict}
use Rattle.install_sections.specs.Views.{list_in, values_of}

-- of files that belong nowhere below the prefix only an empty list is accepted
abbrev pub misc_verdicts : Option (List Node) → Span → List Verdict
misc_verdicts (Some []) place = []
misc_verdicts value place = Fails (Misc place) ∷ []

-- the items of a section, each by itself
abbrev pub item_verdicts : Section → List ℕ → List Node → List Verdict
item_verdicts section name nodes = map (verdict section name) nodes

-- what the value of a field gives: for each of its items a verdict, or one fault where the field is no section
abbrev pub section_verdicts : List ℕ → Option Section → Node → Span → List Verdict
section_verdicts name None value place = Fails (UnknownSection place) ∷ []
section_verdicts name (Some section) value place = item_verdicts section name (values_of value)

-- the same of a field by its name; `misc` takes an empty list alone
abbrev pub field_verdicts : List ℕ → List ℕ → Node → Span → List Verdict
field_verdicts name field value place =
    if bytes_eq field (codes "misc") then misc_verdicts (list_in value) place else section_verdicts name (section_of field) value place

-- a section with braces is none of an install file
abbrev pub entry_verdicts : List ℕ → List ℕ → Contents → Span → List Verdict
entry_verdicts name field (FieldContents value) place = field_verdicts name field value place
entry_verdicts name field (SectionContents fields) place = Fails (UnknownSection place) ∷ []

-- where the first of several items stands
abbrev pub first_place : List Span → Span
first_place [] = record { start = 0; end = 0 }
first_place (place ∷ more) = place

-- what comes of all items, in the order of the file
abbrev pub all_verdicts : List ℕ → List (Key × Contents) → List Span → List Verdict
all_verdicts name [] places = []
all_verdicts name (item ∷ items) places =
    entry_verdicts name item.0.name item.1 (first_place places) ++ all_verdicts name items (drop 1 places)

-- what a whole file gives, in its order
abbrev pub file_verdicts : List ℕ → File → List Verdict
file_verdicts name file = all_verdicts name (items_of file) file.places

-- the values of a field that is a section of the table
abbrev pub field_items : Option Section → Node → List Node
field_items None value = []
field_items (Some section) value = values_of value

-- the items of an entry
abbrev pub entry_items : List ℕ → Contents → List Node
entry_items field (FieldContents value) = field_items (section_of field) value
entry_items field (SectionContents fields) = []

-- the values of all these, as they are counted
abbrev pub items_in : List (Key × Contents) → List Node
items_in items = flat_map (λ item. entry_items item.0.name item.1) items

-- the one item more than there may be
abbrev pub excess_faults : List Node → List InstallFault
excess_faults nodes = map (λ (node : Node). TooMany node.span) (take 1 (drop ITEM_LIMIT nodes))

-- the placement of an item that has one
abbrev pub verdict_placements : Verdict → List Placement
verdict_placements (Places placement) = placement ∷ []
verdict_placements (Fails fault) = []

-- the fault of another
abbrev pub verdict_faults : Verdict → List InstallFault
verdict_faults (Places placement) = []
verdict_faults (Fails fault) = fault ∷ []

-- the files that an install file of this package places, in the order of the file
abbrev pub placements_in : List ℕ → File → List Placement
placements_in name file = flat_map verdict_placements (file_verdicts name file)

-- all that is wrong with it; of what begins at one place the one item too many is listed last
abbrev pub faults_in : List ℕ → File → List InstallFault
faults_in name file = flat_map verdict_faults (file_verdicts name file) ++ excess_faults (items_in (items_of file))
