-- Paths as they are written in opam files: empty parts and parts `.` do not count (opam manual, file format: opam, substs; the
-- limit is this project's own).
use Rattle.std.specs.Prelude.{ℕ, List, [], ◌∷◌, ◌++◌, length, filter, map, Bool, not, bytes_eq, codes, nat_lt, ◌&&◌, ◌||◌, if◌then◌else◌}
use Rattle.std.specs.List.{flat_map}
use Rattle.std.specs.declared.option.Option.{Option}
use Rattle.std.specs.declared.option.Option.TheVariants.{None, Some}
use Rattle.opam_names.specs.Paths.{is_relative_path, parts}
use Rattle.syntax_trees.specs.Signs.{begins_with}
use Rattle.syntax_trees.specs.declared.tree.Node.{Node}
use Rattle.syntax_trees.specs.declared.tree.Span.{Span}
use Rattle.opam_package.specs.declared.fault.PackageFault.{PackageFault}
use Rattle.opam_package.specs.declared.fault.PackageFault.TheVariants.{WrongKind, NotText, Unsafe}
use Rattle.opam_package.specs.declared.limits.TheConstants.{SUBST_LIMIT}
use Rattle.opam_package.specs.Forms.{text_of, text_of_bytes}
use Rattle.opam_package.specs.Views.{text_in, values_of}

-- a part that counts
abbrev pub counts : List ℕ → Bool
counts part = not (bytes_eq part []) && not (bytes_eq part (codes "."))

-- parts with a `/` between each two
abbrev pub slashed : List (List ℕ) → List ℕ
slashed [] = []
slashed (part ∷ []) = part
slashed (part ∷ more) = part ++ codes "/" ++ slashed more

-- the path that a text stands for
abbrev pub shortened : List ℕ → List ℕ
shortened text = slashed (filter counts (parts text))

-- it begins with `/`, is too long as it is written, or has no part left or a part `..`
abbrev pub is_unsafe : List ℕ → Bool
is_unsafe text = begins_with (codes "/") text || nat_lt SUBST_LIMIT (length text) || not (is_relative_path (shortened text))

-- an unsafe text has this fault
abbrev pub path_faults : List ℕ → Span → List PackageFault
path_faults text span = if is_unsafe text then Unsafe span ∷ [] else []

-- bytes that are no text are told as that
abbrev pub path_text_faults : Option (List ℕ) → Span → List PackageFault
path_text_faults None span = NotText span ∷ []
path_text_faults (Some text) span = path_faults text span

-- a text stands for a path below the folder of the sources
abbrev pub subst_faults_of : Option (List ℕ) → Span → List PackageFault
subst_faults_of None span = WrongKind span ∷ []
subst_faults_of (Some bytes) span = path_text_faults (text_of_bytes bytes) span

-- the same of a node
abbrev pub subst_faults : Node → List PackageFault
subst_faults node = subst_faults_of (text_in node) node.span

-- one such text, or a list of them
abbrev pub substs_faults : Node → List PackageFault
substs_faults node = flat_map subst_faults (values_of node)

-- the path that a node stands for
abbrev pub subst_of : Node → List ℕ
subst_of node = shortened (text_of node)

-- the paths of these
abbrev pub substs_of : Node → List (List ℕ)
substs_of node = map subst_of (values_of node)
