-- How far a change has come. This project's own.
use Rattle.std.specs.Prelude.{◌≡◌, ◌≤◌, ◌+◌, ◌⊎◌, ◌++◌, ℕ, List, [], ◌∷◌, length, take, count_by, Bool, true, false, IsTrue}
use Rattle.std.specs.List.{list_all}
use Rattle.std.specs.FinMap.{len}
use Rattle.std.specs.declared.option.Option.{Option}
use Rattle.std.specs.declared.option.Option.TheVariants.{Some}
use Rattle.opam_names.specs.declared.packages.Pkg.{Pkg}
use Rattle.opam_top.specs.Reports.{is_installed}
use Rattle.outside_io.specs.declared.workshop.Fate.{Fate}
use Rattle.outside_io.specs.Counts.{Rose}
use Rattle.outside_io.specs.Sinks.{Got, GotPrefix}
use Rattle.crash_disk.specs.Disks.{State, Tree}
use Rattle.opam_top.specs.Holdings.{Holds}
use Rattle.opam_top.specs.Outcomes.{Leaves, Outcome}
use Rattle.opam_top.specs.Owners.{is_owned_in_bin, owners_of}
use Rattle.opam_top.specs.declared.change.Progress.{Progress}
use Rattle.opam_top.specs.declared.records.Rec.{Rec}
use Rattle.opam_top.specs.declared.status.Receipt.{Receipt}

-- receipts that are counted from a number on, and whose moments never fall from one on up to another
abbrev pub InOrder : ℕ → ℕ → ℕ → List Receipt → Type 0
InOrder index from to [] = from ≤ to
InOrder index from to (receipt ∷ receipts) = (receipt.index ≡ index) × (from ≤ receipt.moment) × InOrder (index + 1) receipt.moment to receipts

-- receipts of commits between two moments
pub record AreReceipts (from to : ℕ) (receipts : List Receipt) : Type 0 where
  pub order : InOrder 0 from to receipts

-- at this moment these records stood in the journal, the gate after their last was absent, and nothing was loose
abbrev pub IsDated : (ℕ → Option State) → List Rec → ℕ → Type 0
IsDated past records moment = (s : State) × (past moment ≡ Some s) × (s.loose ≡ []) × Holds records s.files

-- after the records that are done, each receipt is of a moment at which its own record was the last
abbrev pub AreDatedFrom : (ℕ → Option State) → List Rec → List Rec → List Receipt → Type 0
AreDatedFrom past done records [] = Unit {0}
AreDatedFrom past done [] (receipt ∷ receipts) = ⊥
AreDatedFrom past done (entry ∷ records) (receipt ∷ receipts) = IsDated past (done ++ entry ∷ []) receipt.moment × AreDatedFrom past (done ++ entry ∷ []) records receipts

-- each receipt is of a moment at which its own record and those before it were durable, and the next gate was absent
pub record AreDated (past : ℕ → Option State) (records : List Rec) (receipts : List Receipt) : Type 0 where
  pub each : AreDatedFrom past [] records receipts

-- what holds of it at any time: each owned path is `bin/` and an item, no path is owned twice, and each installed package has
-- a receipt
pub record IsRegular (progress : Progress) : Type 0 where
  pub in_bin : IsTrue (list_all is_owned_in_bin progress.owners.items)
  pub apart : len (owners_of progress.owners.items) ≡ length progress.owners.items
  pub number : length progress.receipts.items ≡ count_by is_installed progress.decisions.items

-- what was decided and committed is as in this outcome
pub record Tracks (progress : Progress) (o : Outcome) : Type 0 where
  pub decisions : progress.decisions.items ≡ o.decisions
  pub number : length progress.receipts.items ≡ length o.records
  pub owners : owners_of progress.owners.items ≡ o.switch.owners

-- it ended within this outcome: the first decisions were made, and at least their jobs, from the first on, were taken in
pub record IsPartOf (progress : Progress) (o : Outcome) : Type 0 where
  pub decisions : progress.decisions.items ≡ take (length progress.decisions.items) o.decisions
  pub few : length progress.decisions.items ≤ length o.decisions
  pub heard : progress.heard.items ≡ take (length progress.heard.items) o.heard
  pub all_heard : length progress.decisions.items ≤ length progress.heard.items

-- a disk that tells is as this outcome leaves it
abbrev pub Stands : Option State → Outcome → Tree → Type 0
Stands told o start = (s : State) × (told ≡ Some s) × Leaves o start s.files

-- what a teller was told between two moments, and what its sink has got of it
pub record Says (was_stopped stopped : Bool) (before now : ℕ) (old new : Option (List ℕ)) (bytes : List ℕ) : Type 0 where
  pub later : before ≤ now
  pub all : stopped ≡ false → Got old new bytes
  pub quiet : stopped ≡ false → now ≡ before
  pub rose : was_stopped ≡ false → stopped ≡ true → Rose before now
  pub part : GotPrefix old new bytes
  pub stays : was_stopped ≡ true → stopped ≡ true
  pub silent : was_stopped ≡ true → new ≡ old
  pub unmoved : was_stopped ≡ true → now ≡ before

-- one job more was taken in, or none
abbrev pub HeardOrNot : Pkg × Fate → List (Pkg × Fate) → List (Pkg × Fate) → Type 0
HeardOrNot one old new = (new ≡ old) ⊎ (new ≡ old ++ one ∷ [])
