-- Paths below a folder, as bytes, and which stands above which. This project's own.
use Rattle.std.specs.Prelude.{◌≡◌, ℕ, ◌<◌, ◌≤◌, List, [], ◌∷◌, ◌++◌, length, Bool, false, IsTrue, not, bytes_eq, nat_lt, nat_le, ◌==◌, ◌&&◌, if◌then◌else◌}
use Rattle.std.specs.List.{list_all}
use Rattle.std.specs.Str.{IsUtf8, is_utf8}
use Rattle.opam_names.specs.declared.limits.TheConstants.{PATH_LIMIT}
use Rattle.opam_names.specs.declared.fault.ReadFault.{ReadFault}
use Rattle.opam_names.specs.declared.fault.ReadFault.TheVariants.{Bad, Memory}

-- the byte at the front of the first part
abbrev pub onto_first : ℕ → List (List ℕ) → List (List ℕ)
onto_first b [] = (b ∷ []) ∷ []
onto_first b (part ∷ more) = (b ∷ part) ∷ more

-- what stands between the slashes
abbrev pub parts : List ℕ → List (List ℕ)
parts [] = [] ∷ []
parts (b ∷ bytes) = if b == 47 then [] ∷ parts bytes else onto_first b (parts bytes)

-- a part is not empty, and neither `.` nor `..`
abbrev pub is_part : List ℕ → Bool
is_part part = not (bytes_eq part []) && not (bytes_eq part (46 ∷ [])) && not (bytes_eq part (46 ∷ 46 ∷ []))

-- any byte but zero
abbrev pub is_not_zero : ℕ → Bool
is_not_zero b = not (b == 0)

-- the byte `/`
abbrev pub is_slash : ℕ → Bool
is_slash b = b == 47

-- no zero byte, parts joined by `/`, and not too long (this project's limit)
pub record IsRelative (bytes : List ℕ) : Type 0 where
  pub no_zero : IsTrue (list_all is_not_zero bytes)
  pub good_parts : IsTrue (list_all is_part (parts bytes))
  pub short : length bytes ≤ PATH_LIMIT

-- the same as a test that computes
abbrev pub is_relative : List ℕ → Bool
is_relative bytes = nat_le (length bytes) PATH_LIMIT && list_all is_not_zero bytes && list_all is_part (parts bytes)

-- a path is such a text
abbrev pub IsPath : List ℕ → Type 0
IsPath bytes = IsUtf8 bytes × IsRelative bytes

-- the same as a test that computes
abbrev pub is_relative_path : List ℕ → Bool
is_relative_path bytes = is_utf8 bytes && is_relative bytes

-- a `/` and at least one byte more
abbrev pub is_more_after_slash : List ℕ → Bool
is_more_after_slash [] = false
is_more_after_slash (b ∷ []) = false
is_more_after_slash (b ∷ c ∷ bytes) = b == 47

-- the second is the first, a `/` and more
abbrev pub is_above : List ℕ → List ℕ → Bool
is_above [] below = is_more_after_slash below
is_above (x ∷ xs) [] = false
is_above (x ∷ xs) (y ∷ ys) = if x == y then is_above xs ys else false

-- the path of what stands below the first under the name of the second
abbrev pub joined : List ℕ → List ℕ → List ℕ
joined folder below = folder ++ 47 ∷ below

-- a joined path is refused exactly where it is too long
abbrev pub IsJoinFault : List ℕ → ReadFault → Type 0
IsJoinFault path (Bad at) = (at ≡ PATH_LIMIT) × (PATH_LIMIT < length path)
IsJoinFault path Memory = Unit {0}

-- an ASCII byte but zero
abbrev pub is_plain_byte : ℕ → Bool
is_plain_byte b = nat_lt 0 b && nat_lt b 128

-- a path of ASCII bytes, as a test that computes
abbrev pub is_plain_path : List ℕ → Bool
is_plain_path bytes = list_all is_plain_byte bytes && list_all is_part (parts bytes) && nat_le (length bytes) PATH_LIMIT
