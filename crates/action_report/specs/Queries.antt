-- What is told of the packages of a switch: a line for each, or all of one. This project's own.
use Rattle.std.specs.Prelude.{ℕ, List, [], ◌∷◌, ◌++◌, map, take, Bool, true, false, codes, is_some, ◌==◌}
use Rattle.std.specs.List.{flat_map, position}
use Rattle.std.specs.declared.option.Option.{Option}
use Rattle.std.specs.declared.option.Option.TheVariants.{None, Some}
use Rattle.opam_names.specs.ByteOrders.{in_order_by}
use Rattle.opam_names.specs.Packages.{pkg_text}
use Rattle.opam_names.specs.declared.packages.Pkg.{Pkg}
use Rattle.opam_package.specs.declared.package.Member.{Member}
use Rattle.owner_map.specs.Owning.{Owning, paths_owned_by}

-- the packages alone
abbrev pub pkgs_of : List Member → List Pkg
pkgs_of members = map (λ (member : Member). member.package.pkg) members

-- the line of a package
abbrev pub pkg_line : Pkg → List ℕ
pkg_line pkg = pkg_text pkg ++ codes "\n"

-- a line for each entry, in byte order of their names
abbrev pub list_text : List Member → List ℕ
list_text entries = flat_map pkg_line (in_order_by (λ (pkg : Pkg). pkg.name) (pkgs_of entries))

-- a line of one value
abbrev pub labelled : List ℕ → List ℕ → List ℕ
labelled label value = label ++ value ++ codes "\n"

-- whether it is installed, in a word
abbrev pub state_text : Bool → List ℕ
state_text true = codes "installed"
state_text false = codes "available"

-- the byte that ends a line
abbrev pub is_newline : ℕ → Bool
is_newline b = b == 10

-- what stands before this place, or all where there is none
abbrev pub before_place : List ℕ → Option ℕ → List ℕ
before_place text None = text
before_place text (Some at) = take at text

-- the text up to its first newline
abbrev pub first_line : List ℕ → List ℕ
first_line text = before_place text (position is_newline text)

-- name, version and state
abbrev pub head_lines : Member → Bool → List ℕ
head_lines member installed =
    labelled (codes "name: ") member.package.pkg.name ++ labelled (codes "version: ") member.package.pkg.version ++ labelled (codes "state: ") (state_text installed)

-- the synopsis up to its first newline, where there is one
abbrev pub synopsis_line : Option (List ℕ) → List ℕ
synopsis_line None = []
synopsis_line (Some synopsis) = labelled (codes "synopsis: ") (first_line synopsis)

-- the line of a path that it owns
abbrev pub path_line : List ℕ → List ℕ
path_line path = labelled (codes "file: ") path

-- a line for each path that the package owns, in byte order
abbrev pub owned_lines : Pkg → Option Owning → List ℕ
owned_lines pkg None = []
owned_lines pkg (Some owners) = flat_map path_line (paths_owned_by pkg owners.owned)

-- all that is told of a package; it is installed where there are owners
abbrev pub show_text : Member → Option Owning → List ℕ
show_text member owners = head_lines member (is_some owners) ++ synopsis_line member.package.synopsis ++ owned_lines member.package.pkg owners
