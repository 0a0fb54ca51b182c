-- A word of private clauses alone: how a path grows, part after part.
use Rattle.std.specs.Prelude.{ℕ, List, [], ◌∷◌, ◌++◌, codes, fold, if◌then◌else◌}
use Rattle.opam_package.specs.Relatives.{counts}

-- a part stands behind those that are there
abbrev pub put_behind : List ℕ → List ℕ → List ℕ
put_behind [] part = part
put_behind (b ∷ path) part = (b ∷ path) ++ codes "/" ++ part

-- where it counts
abbrev pub with_part : List ℕ → List ℕ → List ℕ
with_part path part = if counts part then put_behind path part else path

-- parts put behind one another
abbrev pub put_all : List (List ℕ) → List ℕ
put_all parts = fold with_part [] parts
