-- The files of an install file lie below the folders of its sections, and are not too many.
use Rattle.std.proofs.Common.{◌≡◌, ℕ, ◌-◌, ◌≤◌, Bool, true, false, bytes_eq, codes, if◌then◌else◌, List, [], ◌∷◌, ◌++◌, length, take, drop, map, refl, subst, sym, ap, ◌∙◌, arith, length-append, length-drop}
use Rattle.std.proofs.lemmas.Grind.{flat_map-append}
use Rattle.std.proofs.lemmas.List.Elements.{All-append, All-cons, All-nil}
use Rattle.std.specs.List.{All, flat_map}
use Rattle.std.specs.declared.option.Option.{Option}
use Rattle.std.specs.declared.option.Option.TheVariants.{None, Some}
use Rattle.syntax_trees.specs.Files.{Contents, FieldContents, SectionContents}
use Rattle.syntax_trees.specs.Trees.{items_of}
use Rattle.syntax_trees.specs.declared.file.File.{File}
use Rattle.syntax_trees.specs.declared.file.Key.{Key}
use Rattle.syntax_trees.specs.declared.tree.Node.{Node}
use Rattle.syntax_trees.specs.declared.tree.Span.{Span}
use Rattle.install_sections.specs.declared.fault.InstallFault.{InstallFault}
use Rattle.install_sections.specs.declared.fault.InstallFault.TheVariants.{TooMany}
use Rattle.install_sections.specs.declared.placement.Placement.{Placement}
use Rattle.install_sections.specs.declared.placement.Verdict.{Verdict}
use Rattle.install_sections.specs.declared.placement.Verdict.TheVariants.{Places, Fails}
use Rattle.install_sections.specs.declared.sections.Section.{Section}
use Rattle.install_sections.specs.InstallFaults.{first_fault, sooner}
use Rattle.install_sections.specs.InstallLaws.{StaysBelow}
use Rattle.install_sections.specs.Placements.{all_verdicts, entry_items, entry_verdicts, excess_faults, faults_in, field_items, file_verdicts, first_place, items_in, misc_verdicts, placements_in, section_verdicts, verdict_faults, verdict_placements}
use Rattle.install_sections.specs.Sections.{folder_of, section_of}
use Rattle.install_sections.specs.Verdicts.{verdict}
use Rattle.install_sections.specs.Views.{list_in, values_of}
use Rattle.install_sections.proofs.ItemLaws.{items_stay_below}

-- a placement of some section
abbrev pub IsOfSection : List ℕ → Placement → Type 0
IsOfSection name placement = (field : List ℕ) × (section : Section) × (section_of field ≡ Some section) × StaysBelow (folder_of section name) placement

one_below : (name field : List ℕ) (section : Section) → section_of field ≡ Some section → (node : Node) (v : Verdict) → verdict section name node ≡ v
    → All (IsOfSection name) (verdict_placements v)
one_below name field section found node (Places placement) is =
    All-cons (IsOfSection name) placement [] (field, section, found, items_stay_below section name node placement is) (All-nil (IsOfSection name))
one_below name field section found node (Fails fault) is = All-nil (IsOfSection name)

nodes_below : (name field : List ℕ) (section : Section) → section_of field ≡ Some section → (nodes : List Node)
    → All (IsOfSection name) (flat_map verdict_placements (map (verdict section name) nodes))
nodes_below name field section found [] = All-nil (IsOfSection name)
nodes_below name field section found (node ∷ more) =
    All-append (IsOfSection name) (verdict_placements (verdict section name node)) (flat_map verdict_placements (map (verdict section name) more))
    (one_below name field section found node (verdict section name node) refl) (nodes_below name field section found more)

section_below : (name field : List ℕ) (value : Node) (place : Span) (section : Option Section) → section_of field ≡ section
    → All (IsOfSection name) (flat_map verdict_placements (section_verdicts name section value place))
section_below name field value place None found = All-nil (IsOfSection name)
section_below name field value place (Some section) found = nodes_below name field section found (values_of value)

misc_below : (name : List ℕ) (nodes : Option (List Node)) (place : Span) → All (IsOfSection name) (flat_map verdict_placements (misc_verdicts nodes place))
misc_below name None place = All-nil (IsOfSection name)
misc_below name (Some []) place = All-nil (IsOfSection name)
misc_below name (Some (node ∷ more)) place = All-nil (IsOfSection name)

entry_below : (name field : List ℕ) (contents : Contents) (place : Span) → All (IsOfSection name) (flat_map verdict_placements (entry_verdicts name field contents place))
entry_below name field (FieldContents value) place =
    elim (bytes_eq field (codes "misc")) as (λ t. All (IsOfSection name) (flat_map verdict_placements
    (if t then misc_verdicts (list_in value) place else section_verdicts name (section_of field) value place))) [
      | true ↦ misc_below name (list_in value) place
      | false ↦ section_below name field value place (section_of field) refl
    ]
entry_below name field (SectionContents fields) place = All-nil (IsOfSection name)

all_below : (name : List ℕ) (items : List (Key × Contents)) (places : List Span) → All (IsOfSection name) (flat_map verdict_placements (all_verdicts name items places))
all_below name [] places = All-nil (IsOfSection name)
all_below name (item ∷ items) places =
    let here = entry_verdicts name item.0.name item.1 (first_place places) in
    let rest = all_verdicts name items (drop 1 places) in
    subst (All (IsOfSection name)) (sym (flat_map-append verdict_placements here rest))
    (All-append (IsOfSection name) (flat_map verdict_placements here) (flat_map verdict_placements rest)
    (entry_below name item.0.name item.1 (first_place places)) (all_below name items (drop 1 places)))

pub files_stay_below : (name : List ℕ) (file : File) → All (IsOfSection name) (placements_in name file)
files_stay_below name file = all_below name (items_of file) file.places

-- of each item one file at most is placed
one_fits : (v : Verdict) → length (verdict_placements v) ≤ 1
one_fits (Places placement) = omega arith
one_fits (Fails fault) = omega arith

nodes_fit : (section : Section) (name : List ℕ) (nodes : List Node) → length (flat_map verdict_placements (map (verdict section name) nodes)) ≤ length nodes
nodes_fit section name [] = omega arith
nodes_fit section name (node ∷ more) =
    let both = length-append (verdict_placements (verdict section name node)) (flat_map verdict_placements (map (verdict section name) more)) in
    omega (arith, both, one_fits (verdict section name node), nodes_fit section name more)

misc_fits : (nodes : Option (List Node)) (place : Span) (n : ℕ) → length (flat_map verdict_placements (misc_verdicts nodes place)) ≤ n
misc_fits None place n = omega arith
misc_fits (Some []) place n = omega arith
misc_fits (Some (node ∷ more)) place n = omega arith

section_fits : (name : List ℕ) (section : Option Section) (value : Node) (place : Span)
    → length (flat_map verdict_placements (section_verdicts name section value place)) ≤ length (field_items section value)
section_fits name None value place = omega arith
section_fits name (Some section) value place = nodes_fit section name (values_of value)

entry_fits : (name field : List ℕ) (contents : Contents) (place : Span)
    → length (flat_map verdict_placements (entry_verdicts name field contents place)) ≤ length (entry_items field contents)
entry_fits name field (FieldContents value) place =
    elim (bytes_eq field (codes "misc")) as (λ t. length (flat_map verdict_placements
    (if t then misc_verdicts (list_in value) place else section_verdicts name (section_of field) value place)) ≤ length (field_items (section_of field) value)) [
      | true ↦ misc_fits (list_in value) place (length (field_items (section_of field) value))
      | false ↦ section_fits name (section_of field) value place
    ]
entry_fits name field (SectionContents fields) place = omega arith

all_fit : (name : List ℕ) (items : List (Key × Contents)) (places : List Span)
    → length (flat_map verdict_placements (all_verdicts name items places)) ≤ length (items_in items)
all_fit name [] places = omega arith
all_fit name (item ∷ items) places =
    let here = entry_verdicts name item.0.name item.1 (first_place places) in
    let rest = all_verdicts name items (drop 1 places) in
    let split = ap length (flat_map-append verdict_placements here rest) in
    let both = length-append (flat_map verdict_placements here) (flat_map verdict_placements rest) in
    let counted = length-append (entry_items item.0.name item.1) (items_in items) in
    omega (arith, split, both, counted, entry_fits name item.0.name item.1 (first_place places), all_fit name items (drop 1 places))

-- where no fault is first there is none
some_first : (fault : InstallFault) (other : Option InstallFault) → sooner (Some fault) other ≡ None → ⊥
some_first fault None is = cc
some_first fault (Some other) is = by_test _ is
  where
    by_test : (t : Bool) → (if t then Some other else Some fault) ≡ None → ⊥
    by_test true h = cc
    by_test false h = cc

pub no_fault : (faults : List InstallFault) → first_fault faults ≡ None → faults ≡ []
no_fault [] is = refl
no_fault (fault ∷ more) is = absurd (some_first fault (first_fault more) is)

right_empty : {X : Type 0} (one other : List X) → one ++ other ≡ [] → other ≡ []
right_empty [] other is = is
right_empty (x ∷ one) other is = absurd cc

-- where no item is too many the limit is kept
none_left : (nodes : List Node) → map (λ (node : Node). TooMany node.span) (take 1 nodes) ≡ [] → nodes ≡ []
none_left [] is = refl
none_left (node ∷ more) is = absurd cc

pub files_are_limited : (name : List ℕ) (file : File) → first_fault (faults_in name file) ≡ None → length (placements_in name file) ≤ 65536
files_are_limited name file none =
    let nodes = items_in (items_of file) in
    let excess : excess_faults nodes ≡ [] = right_empty (flat_map verdict_faults (file_verdicts name file)) (excess_faults nodes) (no_fault (faults_in name file) none) in
    let over : drop 65536 nodes ≡ [] = none_left (drop 65536 nodes) excess in
    let left : length nodes - 65536 ≡ 0 = sym (length-drop 65536 nodes) ∙ ap length over in
    omega (arith, left, all_fit name (items_of file) file.places)
