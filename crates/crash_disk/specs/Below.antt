-- Files that stand below a path. This project's own.
use Rattle.std.specs.Prelude.{◌≡◌, ℕ, List, [], ◌∷◌, IsTrue, IsSome}
use Rattle.std.specs.declared.option.Option.TheVariants.{None}
use Rattle.opam_names.specs.Paths.{is_above}
use Rattle.crash_disk.specs.Log.{Listed, stored_at}
use Rattle.crash_disk.specs.declared.changes.Change.{Change}
use Rattle.crash_disk.specs.declared.changes.Change.TheVariants.{Put, Removed, FailedPut, FailedRemoval, Loosened, Synced}
use Rattle.crash_disk.specs.declared.changes.Entry.{Entry}

-- some path below has a file
abbrev pub IsBelow : List Listed → List Entry → List ℕ → Type 0
IsBelow first log path = (q : List ℕ) × IsTrue (is_above path q) × IsSome (stored_at first log q)

-- at the path of this file there is none, if it is below
abbrev pub IsOut : List Listed → List Entry → List ℕ → Listed → Type 0
IsOut first log path f = IsTrue (is_above path f.0) → stored_at first log f.0 ≡ None

-- the same of each file of a list
abbrev pub NoneOf : List Listed → List Listed → List Entry → List ℕ → Type 0
NoneOf [] first log path = Unit {0}
NoneOf (f ∷ fs) first log path = IsOut first log path f × NoneOf fs first log path

-- the same of the file that a change put
abbrev pub IsOutPut : List Listed → List Entry → List ℕ → Change → Type 0
IsOutPut first log path (Put f) = IsOut first log path f
IsOutPut first log path (Removed p) = Unit {0}
IsOutPut first log path (FailedPut f) = Unit {0}
IsOutPut first log path (FailedRemoval p) = Unit {0}
IsOutPut first log path (Loosened p) = Unit {0}
IsOutPut first log path Synced = Unit {0}

-- the same of each change of a list
abbrev pub NonePut : List Entry → List Listed → List Entry → List ℕ → Type 0
NonePut [] first log path = Unit {0}
NonePut (e ∷ es) first log path = IsOutPut first log path e.change × NonePut es first log path
