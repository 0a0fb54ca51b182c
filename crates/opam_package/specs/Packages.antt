-- A package as its opam file has it, field by field (opam manual, file format: opam).
use Rattle.std.specs.Prelude.{ℕ, List, [], ◌∷◌, ◌++◌, Bool, true, false, not, drop, fold, filter, map, codes, bytes_eq, is_none, ◌||◌, if◌then◌else◌}
use Rattle.std.specs.FinMap.{insert}
use Rattle.std.specs.List.{list_any}
use Rattle.std.specs.Option.{option_and_then, option_map}
use Rattle.std.specs.declared.option.Option.{Option}
use Rattle.std.specs.declared.option.Option.TheVariants.{None, Some}
use Rattle.opam_names.specs.declared.packages.Pkg.{Pkg}
use Rattle.syntax_trees.specs.Files.{Contents, FieldContents, SectionContents}
use Rattle.syntax_trees.specs.Signs.{begins_with}
use Rattle.syntax_trees.specs.Trees.{items_of}
use Rattle.syntax_trees.specs.declared.file.File.{File}
use Rattle.syntax_trees.specs.declared.tree.Node.{Node}
use Rattle.opam_filter.specs.Reductions.{reduced}
use Rattle.opam_filter.specs.Scopes.{plain}
use Rattle.opam_filter.specs.Sets.{atoms}
use Rattle.opam_filter.specs.Trees.{read}
use Rattle.opam_filter.specs.Truths.{is_yes}
use Rattle.opam_filter.specs.Values.{filter_truth}
use Rattle.opam_filter.specs.Variables.{Values}
use Rattle.opam_filter.specs.declared.formula.Reduced.{Reduced}
use Rattle.opam_filter.specs.declared.truth.VarValue.TheVariants.{Flag, Text}
use Rattle.opam_package.specs.declared.package.Command.{Command}
use Rattle.opam_package.specs.declared.package.EnvUpdate.{EnvUpdate}
use Rattle.opam_package.specs.declared.package.Need.{Need}
use Rattle.opam_package.specs.declared.package.Package.{Package}
use Rattle.opam_package.specs.Commands.{commands_of}
use Rattle.opam_package.specs.Fields.{FileItems, field_of, inner_field, listed}
use Rattle.opam_package.specs.Forms.{text_of, text_of_bytes, texts_of}
use Rattle.opam_package.specs.Relatives.{substs_of}
use Rattle.opam_package.specs.Updates.{updates_of}
use Rattle.opam_package.specs.Views.{list_in, values_of}

-- the variables of filters and formulas: those of the whole run, and the package's own name and version
abbrev pub own_values : Pkg → Values → Values
own_values pkg globals = insert (insert globals (plain (codes "name")) (Text pkg.name)) (plain (codes "version")) (Text pkg.version)

-- the same with `build` and `post`, for formulas
abbrev pub reading_values : Bool → Bool → Values → Values
reading_values build post values = insert (insert values (plain (codes "build")) (Flag build)) (plain (codes "post")) (Flag post)

-- a value of `depends` under the variables of its three readings
abbrev pub need_by : Values → Values → Values → Node → Need
need_by runtime building full node = record {
  runtime = reduced runtime (read node).formula;
  building = reduced building (read node).formula;
  full = reduced full (read node).formula;
}

-- `build` and `post` as each of them has them
abbrev pub need_of : Values → Node → Need
need_of values = need_by (reading_values false false values) (reading_values true false values) (reading_values true true values)

-- the values of a list, or the one value
abbrev pub needs_of : Values → Node → List Need
needs_of values node = map (need_of values) (values_of node)

-- each atom alone
abbrev pub atoms_of : Values → Node → List Reduced
atoms_of values node = map (reduced values) (atoms (read node).formula)

-- anything but Yes is unavailable; an absent filter is Yes
abbrev pub is_available : Values → Option Node → Bool
is_available values None = true
is_available values (Some node) = is_yes (filter_truth values (read node).filter)

-- a path from the root, as it is or behind `file://`
abbrev pub source_path : List ℕ → Option (List ℕ)
source_path text =
    if begins_with (codes "/") text then Some text
    else (if begins_with (codes "file:///") text then Some (drop 7 text) else None)

-- the sources that `src` in a section `url` gives, which are a text
abbrev pub url_source : List (List ℕ × Node) → Option (List ℕ)
url_source fields = option_and_then text_of_bytes (option_and_then (λ node. source_path (text_of node)) (inner_field (codes "src") fields))

-- the sources of this section `url`, or else those of a later one
abbrev pub source_or : List ℕ → Contents → Option (List ℕ) → Option (List ℕ)
source_or name (FieldContents value) later = later
source_or name (SectionContents fields) later =
    if bytes_eq name (codes "url") then (if is_none (url_source fields) then later else url_source fields) else later

-- those of the first section that gives any
abbrev pub source_of : FileItems → Option (List ℕ)
source_of [] = None
source_of (item ∷ more) = source_or item.0.name item.1 (source_of more)

-- an empty list
abbrev pub is_empty_list : Option (List Node) → Bool
is_empty_list (Some []) = true
is_empty_list nodes = false

-- fields of which nothing is done
abbrev pub is_refused_field : List ℕ → Node → Bool
is_refused_field name node =
    if bytes_eq name (codes "install") || bytes_eq name (codes "remove") || bytes_eq name (codes "patches") then not (is_empty_list (list_in node))
    else bytes_eq name (codes "extra-files") || bytes_eq name (codes "substs")

-- a section `url` that gives no sources, and `extra-source`, whatever their labels are
abbrev pub is_refused_section : List ℕ → List (List ℕ × Node) → Bool
is_refused_section name fields =
    if bytes_eq name (codes "url") then is_none (url_source fields) else bytes_eq name (codes "extra-source")

-- an item that is not done
abbrev pub is_refused : List ℕ → Contents → Bool
is_refused name (FieldContents value) = is_refused_field name value
is_refused name (SectionContents fields) = is_refused_section name fields

-- one more at the end, unless it stands there
abbrev pub with_once : List (List ℕ) → List ℕ → List (List ℕ)
with_once names name = if list_any (bytes_eq name) names then names else names ++ name ∷ []

-- the names of such items in the order of the file, each once
abbrev pub with_refused : List (List ℕ) → FileItems → List (List ℕ)
with_refused names items = fold with_once names (map (λ item. item.0.name) (filter (λ item. is_refused item.0.name item.1) items))

-- of all items
abbrev pub refused_names : FileItems → List (List ℕ)
refused_names items = with_refused [] items

-- the needs of `depends`
abbrev pub depends_in : Values → FileItems → List Need
depends_in values items = listed (needs_of values) (field_of (codes "depends") items)

-- the atoms of a field, each alone
abbrev pub atoms_in : Values → List ℕ → FileItems → List Reduced
atoms_in values name items = listed (atoms_of values) (field_of name items)

-- the texts of `conflict-class`
abbrev pub classes_in : FileItems → List (List ℕ)
classes_in items = listed texts_of (field_of (codes "conflict-class") items)

-- the answer of `available`
abbrev pub availability_in : Values → FileItems → Bool
availability_in values items = is_available values (field_of (codes "available") items)

-- the commands of `build`
abbrev pub commands_in : FileItems → List Command
commands_in items = listed commands_of (field_of (codes "build") items)

-- the updates of a field
abbrev pub updates_in : List ℕ → FileItems → List EnvUpdate
updates_in name items = listed updates_of (field_of name items)

-- the paths of `substs`
abbrev pub substs_in : FileItems → List (List ℕ)
substs_in items = listed substs_of (field_of (codes "substs") items)

-- the text of `synopsis`
abbrev pub synopsis_in : FileItems → Option (List ℕ)
synopsis_in items = option_map text_of (field_of (codes "synopsis") items)

-- the package that items without faults are of
abbrev pub package_in : Pkg → Values → FileItems → Package
package_in pkg globals items =
    let values = own_values pkg globals in
    record {
      pkg = pkg;
      items = depends_in values items;
      depopts = atoms_in (reading_values true false values) (codes "depopts") items;
      conflicts = atoms_in (reading_values true true values) (codes "conflicts") items;
      classes = classes_in items;
      available = availability_in values items;
      refused = refused_names items;
      commands = commands_in items;
      exports = updates_in (codes "setenv") items;
      build_env = updates_in (codes "build-env") items;
      substs = substs_in items;
      source = source_of items;
      synopsis = synopsis_in items;
    }

-- the same of a file
abbrev pub package_of_file : Pkg → Values → File → Package
package_of_file pkg globals file = package_in pkg globals (items_of file)
