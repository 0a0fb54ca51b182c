-- What is wrong with an opam file: the faults of each field that is read (opam manual, file format: opam).
use Rattle.std.specs.Prelude.{ℕ, List, [], ◌∷◌, ◌++◌, codes, bytes_eq, if◌then◌else◌}
use Rattle.std.specs.List.{flat_map}
use Rattle.opam_names.specs.declared.packages.Pkg.{Pkg}
use Rattle.syntax_trees.specs.Files.{Contents, FieldContents, SectionContents}
use Rattle.syntax_trees.specs.Signs.{begins_with}
use Rattle.syntax_trees.specs.Trees.{items_of}
use Rattle.syntax_trees.specs.declared.file.File.{File}
use Rattle.syntax_trees.specs.declared.tree.Node.{Node}
use Rattle.opam_package.specs.declared.fault.PackageFault.{PackageFault}
use Rattle.opam_package.specs.declared.fault.PackageFault.TheVariants.{Mismatch, OpamVersion}
use Rattle.opam_package.specs.Commands.{commands_faults}
use Rattle.opam_package.specs.Fields.{FileItems, inner_field, listed}
use Rattle.opam_package.specs.Forms.{filter_faults, formula_faults, formulas_faults, text_faults, text_of, texts_faults}
use Rattle.opam_package.specs.Relatives.{substs_faults}
use Rattle.opam_package.specs.Updates.{updates_faults}

-- the version of the format begins with `2.`
abbrev pub old_faults : Node → List PackageFault
old_faults node = if begins_with (codes "2.") (text_of node) then [] else OpamVersion node.span ∷ []

-- a value that is no text is told as that
abbrev pub format_faults : Node → List PackageFault
format_faults node = text_faults node ++ old_faults node

-- a name or a version is that of the package
abbrev pub other_faults : List ℕ → Node → List PackageFault
other_faults text node = if bytes_eq (text_of node) text then [] else Mismatch node.span ∷ []

-- a value that is no text is told as that
abbrev pub same_faults : List ℕ → Node → List PackageFault
same_faults text node = text_faults node ++ other_faults text node

-- field by field; others are not looked at
abbrev pub field_faults : Pkg → List ℕ → Node → List PackageFault
field_faults pkg name node =
    if bytes_eq name (codes "opam-version") then format_faults node
    else (if bytes_eq name (codes "name") then same_faults pkg.name node
    else (if bytes_eq name (codes "version") then same_faults pkg.version node
    else (if bytes_eq name (codes "synopsis") then text_faults node
    else (if bytes_eq name (codes "depends") then formulas_faults node
    else (if bytes_eq name (codes "depopts") then formula_faults node
    else (if bytes_eq name (codes "conflicts") then formula_faults node
    else (if bytes_eq name (codes "conflict-class") then texts_faults node
    else (if bytes_eq name (codes "available") then filter_faults node
    else (if bytes_eq name (codes "build") then commands_faults node
    else (if bytes_eq name (codes "setenv") then updates_faults node
    else (if bytes_eq name (codes "build-env") then updates_faults node
    else (if bytes_eq name (codes "substs") then substs_faults node
    else []))))))))))))

-- of sections `src` in `url` alone is read, whatever the label is
abbrev pub section_faults : List ℕ → List (List ℕ × Node) → List PackageFault
section_faults name fields = if bytes_eq name (codes "url") then listed text_faults (inner_field (codes "src") fields) else []

-- the faults of an item
abbrev pub item_faults : Pkg → List ℕ → Contents → List PackageFault
item_faults pkg name (FieldContents value) = field_faults pkg name value
item_faults pkg name (SectionContents fields) = section_faults name fields

-- all faults of items that are to be those of a package
abbrev pub file_faults : Pkg → FileItems → List PackageFault
file_faults pkg items = flat_map (λ item. item_faults pkg item.0.name item.1) items

-- the same of a file
abbrev pub faults_of_file : Pkg → File → List PackageFault
faults_of_file pkg file = file_faults pkg (items_of file)
