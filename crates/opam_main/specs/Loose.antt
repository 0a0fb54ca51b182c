-- What a set of paths has after a change.
use Rattle.std.specs.Prelude.{◌≡◌, ℕ, List, IsTrue, false, bytes_eq}
use Rattle.std.specs.BTreeSet.{BTreeSet, contains_text}
use Rattle.std.specs.declared.string.String.{String}

-- the set has the path
abbrev pub Has : {Y : Type 0} → BTreeSet (String Y) → List ℕ → Type 0
Has paths path = IsTrue (contains_text paths path)

-- each path of the first is in the second
abbrev pub KeepsAll : {Y : Type 0} → BTreeSet (String Y) → BTreeSet (String Y) → Type 0
KeepsAll before after = (other : List ℕ) → Has before other → Has after other

-- each path of the first but this one is in the second
abbrev pub KeepsOthers : {Y : Type 0} → List ℕ → BTreeSet (String Y) → BTreeSet (String Y) → Type 0
KeepsOthers path before after = (other : List ℕ) → bytes_eq path other ≡ false → Has before other → Has after other
