-- What a journal holds, read back from the files of a disk (format 1). This project's own.
use Rattle.std.specs.Prelude.{◌≡◌, ℕ, ◌+◌, List, [], ◌∷◌, Bool, IsFalse, IsSome, codes}
use Rattle.std.specs.FinMap.{get}
use Rattle.std.specs.declared.option.Option.TheVariants.{None, Some}
use Rattle.opam_names.specs.Paths.{is_above}
use Rattle.crash_disk.specs.Disks.{Tree}
use Rattle.opam_top.specs.Commits.{gate_text, plain}
use Rattle.opam_top.specs.Journals.{gate_path, record_path}
use Rattle.opam_top.specs.Records.{record_bytes}
use Rattle.opam_top.specs.declared.records.Rec.{Rec}

-- these records stand from number k on, each with an open gate, and the next gate is absent
abbrev pub HoldsFrom : ℕ → List Rec → Tree → Type 0
HoldsFrom k [] tree = get tree (gate_path k) ≡ None
HoldsFrom k (entry ∷ entries) tree = (get tree (record_path k) ≡ Some (plain (record_bytes entry))) × (get tree (gate_path k) ≡ Some (plain gate_text)) × HoldsFrom (k + 1) entries tree

-- these records stand from number 1 on, each with an open gate, and the gate after their last is absent
abbrev pub Holds : List Rec → Tree → Type 0
Holds entries tree = HoldsFrom 1 entries tree

-- whether a path lies in the journal's folder
abbrev pub is_in_journal : List ℕ → Bool
is_in_journal q = is_above (codes ".opam-switch/journal") q

-- each file outside the journal that stood there stands there still
abbrev pub KeepsOthers : Tree → Tree → Type 0
KeepsOthers old new = (q : List ℕ) → IsFalse (is_in_journal q) → IsSome (get old q) → get new q ≡ get old q
