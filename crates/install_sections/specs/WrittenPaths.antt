-- Paths as they are written in install files: empty parts and parts `.` do not count (opam manual, package definitions: `.install`
-- files; the limit is this project's own).
use Rattle.std.specs.Prelude.{ℕ, List, [], ◌∷◌, ◌++◌, length, filter, Bool, not, bytes_eq, codes, nat_lt, ◌&&◌, ◌||◌, if◌then◌else◌}
use Rattle.std.specs.List.{after_last}
use Rattle.std.specs.declared.option.Option.{Option}
use Rattle.std.specs.declared.option.Option.TheVariants.{None, Some}
use Rattle.opam_names.specs.Paths.{is_relative_path, is_slash, parts}
use Rattle.opam_names.specs.declared.limits.TheConstants.{PATH_LIMIT}
use Rattle.syntax_trees.specs.Signs.{begins_with}

-- a part that counts
abbrev pub counts : List ℕ → Bool
counts part = not (bytes_eq part []) && not (bytes_eq part (codes "."))

-- parts with a `/` between each two
abbrev pub slashed : List (List ℕ) → List ℕ
slashed [] = []
slashed (part ∷ []) = part
slashed (part ∷ more) = part ++ codes "/" ++ slashed more

-- what is left of a text where the other parts are dropped
abbrev pub shortened : List ℕ → List ℕ
shortened text = slashed (filter counts (parts text))

-- it begins with `/`, is too long as it is written, or what is left is no path: it is empty, has a part `..` or a zero byte, or is
-- not UTF-8
abbrev pub is_unsafe : List ℕ → Bool
is_unsafe text = begins_with (codes "/") text || nat_lt PATH_LIMIT (length text) || not (is_relative_path (shortened text))

-- the path that a text stands for, unless it is unsafe
abbrev pub safe_path : List ℕ → Option (List ℕ)
safe_path text = if is_unsafe text then None else Some (shortened text)

-- bytes that are a path, as that
abbrev pub path_in : List ℕ → Option (List ℕ)
path_in bytes = if is_relative_path bytes then Some bytes else None

-- the last part of a path
abbrev pub last_part : List ℕ → List ℕ
last_part path = after_last is_slash path
