-- Where a path stands.
use Rattle.std.specs.Prelude.{ℕ, List, [], ◌∷◌, Option, Some, None}
use Rattle.std.specs.Path.{rsplit_once}

-- `.` where there is no `/` before the last part, `/` where nothing else stands before it, and else what stands before it
abbrev pub folder_before : Option (List ℕ × List ℕ) → List ℕ
folder_before None = 46 ∷ []
folder_before (Some ([], name)) = 47 ∷ []
folder_before (Some (b ∷ bytes, name)) = b ∷ bytes

-- the folder of a path: what stands before its last `/`, or `/` where nothing does, or `.` where it has no `/`
abbrev pub folder_of : List ℕ → List ℕ
folder_of path = folder_before (rsplit_once 47 path)
