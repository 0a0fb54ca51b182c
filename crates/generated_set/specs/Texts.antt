-- The texts of a generated set: its lock, the opam file and the install file of each package, and the one file that it brings. This
-- project's own.
use Rattle.std.specs.Prelude.{ℕ, zero, suc, List, [], ◌∷◌, ◌++◌, codes, decimal, length}
use Rattle.std.specs.List.{flat_map}

-- the name of the package at a place
abbrev pub name_text : ℕ → List ℕ
name_text place = codes "p" ++ decimal place

-- a need, in a list of texts
abbrev pub need_text : ℕ → List ℕ
need_text place = codes " \"p" ++ decimal place ++ codes "\""

-- the field of needs, left out where there are none
abbrev pub depends_text : List ℕ → List ℕ
depends_text [] = []
depends_text (need ∷ needs) = codes "depends: [" ++ flat_map need_text (need ∷ needs) ++ codes " ]\n"

-- an opam file: its build has one command
abbrev pub opam_text : List ℕ → List ℕ
opam_text needs = codes "opam-version: \"2.0\"\n" ++ depends_text needs ++ codes "build: [[\"make\" name]]\n"

-- the lock binds each of so many packages
abbrev pub binding_text : ℕ → List ℕ
binding_text place = codes "  \"p" ++ decimal place ++ codes "\" {= \"1\"}\n"

-- the items of the lock, in order
abbrev pub bindings_text : ℕ → List ℕ
bindings_text zero = []
bindings_text (suc count) = bindings_text count ++ binding_text count

-- the lock of so many packages
abbrev pub lock_text : ℕ → List ℕ
lock_text count = codes "opam-version: \"2.0\"\ndepends: [\n" ++ bindings_text count ++ codes "]\n"

-- each package brings one file
abbrev pub install_text : List ℕ
install_text = codes "lib: [\"f\"]\n"

-- it holds the place of the package
abbrev pub file_text : ℕ → List ℕ
file_text place = decimal place ++ codes "\n"

-- where the lock stands
abbrev pub lock_path : List ℕ
lock_path = codes "l"

-- where an opam file stands
abbrev pub opam_path : ℕ → List ℕ
opam_path place = codes "./packages/" ++ name_text place ++ codes "/" ++ name_text place ++ codes ".1/opam"
