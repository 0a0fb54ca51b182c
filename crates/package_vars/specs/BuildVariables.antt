-- The variables that the build of a package sees, as a table (opam manual, package definitions: variables; which of them
-- there are, and what they say, is this project's own).
use Rattle.std.specs.Prelude.{ℕ, List, [], ◌∷◌, ◌++◌, map, reverse, Bool, true, false, bytes_eq, codes, if◌then◌else◌}
use Rattle.std.specs.FinMap.{from_entries}
use Rattle.std.specs.List.{flat_map}
use Rattle.opam_names.specs.declared.packages.Pkg.{Pkg}
use Rattle.syntax_trees.specs.declared.tree.Var.{Var}
use Rattle.opam_filter.specs.Scopes.{plain, scoped}
use Rattle.opam_filter.specs.Variables.{Values}
use Rattle.opam_filter.specs.declared.truth.VarValue.{VarValue}
use Rattle.opam_filter.specs.declared.truth.VarValue.TheVariants.{Flag, Text}
use Rattle.package_vars.specs.declared.facts.Facts.{Facts}
use Rattle.package_vars.specs.declared.facts.View.{View}

-- a row of the table: a variable and its value
abbrev pub VariableRow : Type 0
VariableRow = Var × VarValue

-- the map that a table gives: of several rows of one variable the last one counts
abbrev pub variables_of : List VariableRow → Values
variables_of rows = from_entries (reverse rows)

-- a path below the prefix
abbrev pub below_prefix : List ℕ → List ℕ → VarValue
below_prefix prefix path = Text (prefix ++ codes "/" ++ path)

-- each global variable as it is handed in
abbrev pub global_rows : List (List ℕ × VarValue) → List VariableRow
global_rows globals = map (λ global. (plain global.0, global.1)) globals

-- the package that is built, and the prefix of the switch
abbrev pub own_rows : List ℕ → Pkg → List VariableRow
own_rows prefix pkg =
    (plain (codes "name"), Text pkg.name)
    ∷ (plain (codes "version"), Text pkg.version)
    ∷ (plain (codes "pinned"), Flag false)
    ∷ (plain (codes "prefix"), Text prefix)
    ∷ []

-- a folder of the switch
abbrev pub folder_row : List ℕ → List ℕ → VariableRow
folder_row prefix folder = (plain folder, below_prefix prefix folder)

-- a folder in `lib`
abbrev pub library_row : List ℕ → List ℕ → VariableRow
library_row prefix folder = (plain folder, below_prefix prefix (codes "lib/" ++ folder))

-- the folders of the switch
abbrev pub folder_rows : List ℕ → List VariableRow
folder_rows prefix =
    map (folder_row prefix) (codes "bin" ∷ codes "sbin" ∷ codes "lib" ∷ codes "share" ∷ codes "doc" ∷ codes "etc" ∷ codes "man" ∷ [])
    ++ map (library_row prefix) (codes "stublibs" ∷ codes "toplevel" ∷ [])

-- whether a package is installed
abbrev pub installed_rows : List ℕ → Bool → List VariableRow
installed_rows scope installed =
    (scoped scope (codes "installed"), Flag installed)
    ∷ (scoped scope (codes "enable"), Text (if installed then codes "enable" else codes "disable"))
    ∷ []

-- a folder of the package of this name
abbrev pub package_folder_row : List ℕ → List ℕ → List ℕ → List ℕ → VariableRow
package_folder_row prefix scope name folder = (scoped scope folder, below_prefix prefix (folder ++ codes "/" ++ name))

-- a folder that all packages share
abbrev pub shared_folder_row : List ℕ → List ℕ → List ℕ → VariableRow
shared_folder_row prefix scope folder = (scoped scope folder, below_prefix prefix folder)

-- the folders of a package: four are its own, three are those of the switch
abbrev pub package_folder_rows : List ℕ → List ℕ → List ℕ → List VariableRow
package_folder_rows prefix scope name =
    map (package_folder_row prefix scope name) (codes "lib" ∷ codes "share" ∷ codes "doc" ∷ codes "etc" ∷ [])
    ++ map (shared_folder_row prefix scope) (codes "bin" ∷ codes "sbin" ∷ codes "man" ∷ [])

-- a package that is known, under a scope
abbrev pub package_rows : List ℕ → List ℕ → Pkg → Bool → List VariableRow
package_rows prefix scope pkg installed =
    (scoped scope (codes "name"), Text pkg.name)
    ∷ (scoped scope (codes "version"), Text pkg.version)
    ∷ (package_folder_rows prefix scope pkg.name ++ installed_rows scope installed)

-- it has its name as scope, and `_` where that is the name of the package that is built
abbrev pub member_rows : List ℕ → Pkg → Bool → Pkg → List VariableRow
member_rows prefix built installed pkg =
    package_rows prefix pkg.name pkg installed
    ++ (if bytes_eq pkg.name built.name then package_rows prefix (codes "_") pkg installed else [])

-- names that are asked for: none of them is installed
abbrev pub asked_rows : List (List ℕ) → List VariableRow
asked_rows asked = flat_map (λ name. installed_rows name false) asked

-- the packages of a view: all of them are
abbrev pub view_rows : List ℕ → Pkg → List Pkg → List VariableRow
view_rows prefix built members = flat_map (member_rows prefix built true) members

-- what the build of a package sees: the globals; itself, the prefix and the folders of the switch; the names that are asked
-- for; itself under its name, not installed; the packages of its view
abbrev pub build_rows : Facts → View → Pkg → List (List ℕ) → List VariableRow
build_rows facts view pkg asked =
    global_rows facts.globals
    ++ own_rows facts.prefix pkg
    ++ folder_rows facts.prefix
    ++ asked_rows asked
    ++ member_rows facts.prefix pkg false pkg
    ++ view_rows facts.prefix pkg view.members
