-- What a source gives, whatever a workshop tells. Words of this crate's own proofs: no public clause cites them.
use Rattle.std.specs.Prelude.{◌≡◌, ℕ, ◌≤◌, length}
use Rattle.install_sections.specs.declared.placement.Placement.{Placement}
use Rattle.change_verdict.specs.declared.sources.Source.{Source}
use Rattle.change_verdict.specs.declared.sources.Source.TheVariants.{File, Passed, Lacks}

-- its file stands where the placement says, and there is room for its bytes
abbrev pub IsOfSource : Placement → ℕ → Source → Type 0
IsOfSource placement room (File file) = (file.path ≡ placement.dst) × (length file.bytes ≤ room)
IsOfSource placement room Passed = Unit {0}
IsOfSource placement room (Lacks reason) = Unit {0}
