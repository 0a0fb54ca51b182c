-- Names and versions of packages (opam manual, file format: package names and versions).
use Rattle.std.specs.Prelude.{ℕ, ◌<◌, ◌≤◌, List, length, Bool, IsTrue, nat_le, ◌==◌, ◌&&◌, ◌||◌}
use Rattle.std.specs.List.{list_all, list_any}
use Rattle.opam_names.specs.declared.limits.TheConstants.{NAME_LIMIT, VERSION_LIMIT}

-- letters are those of ASCII
abbrev pub is_letter : ℕ → Bool
is_letter b = (nat_le 65 b && nat_le b 90) || (nat_le 97 b && nat_le b 122)

abbrev pub is_digit : ℕ → Bool
is_digit b = nat_le 48 b && nat_le b 57

-- a letter, a digit, `-`, `_` or `+`
abbrev pub is_name_byte : ℕ → Bool
is_name_byte b = is_letter b || is_digit b || b == 45 || b == 95 || b == 43

-- one of these, `.` or `~`
abbrev pub is_version_byte : ℕ → Bool
is_version_byte b = is_name_byte b || b == 46 || b == 126

-- a name has at least one letter, and is not too long (this project's limit)
pub record IsName (bytes : List ℕ) : Type 0 where
  pub all : IsTrue (list_all is_name_byte bytes)
  pub letter : IsTrue (list_any is_letter bytes)
  pub short : length bytes ≤ NAME_LIMIT

-- a version is not empty, and not too long (this project's limit)
pub record IsVersion (bytes : List ℕ) : Type 0 where
  pub all : IsTrue (list_all is_version_byte bytes)
  pub some : 0 < length bytes
  pub short : length bytes ≤ VERSION_LIMIT

-- the same as tests that compute
abbrev pub is_name : List ℕ → Bool
is_name bytes = list_all is_name_byte bytes && list_any is_letter bytes && nat_le (length bytes) NAME_LIMIT

abbrev pub is_version : List ℕ → Bool
is_version bytes = list_all is_version_byte bytes && nat_le 1 (length bytes) && nat_le (length bytes) VERSION_LIMIT
