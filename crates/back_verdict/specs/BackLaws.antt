-- What holds of a package that is put back, whatever the disk tells. This project's own.
use Rattle.std.specs.Prelude.{◌≡◌, ℕ, ◌+◌, ◌≤◌, List, false, length}
use Rattle.std.specs.List.{list_any}
use Rattle.std.specs.declared.option.Option.TheVariants.{None}
use Rattle.opam_package.specs.declared.package.Member.{Member}
use Rattle.owner_map.specs.Clashes.{NoneClash}
use Rattle.owner_map.specs.Owning as owning
use Rattle.owner_map.specs.declared.owned.OwnedPath.{OwnedPath}
use Rattle.journal_text.specs.Parts.{paths_of}
use Rattle.journal_text.specs.declared.record.Placed.{Placed}
use Rattle.switch_journal.specs.declared.request.TheConstants.{OWNED_LIMIT}
use Rattle.change_verdict.specs.Verdicts.{meets_owner}
use Rattle.back_verdict.specs.Backs.{is_text_full, why_unfit, with_last}

-- a package for whose files and opam text the switch has room, and of whose files none meets an owned path or an earlier one
pub record CanBePutBack (owned : List OwnedPath) (entries : List Member) (old : Member) (files : List Placed) : Type 0 where
  pub roomy : length owned + length files ≤ OWNED_LIMIT
  pub short : is_text_full (with_last entries old) ≡ false
  pub unmet : list_any (meets_owner owned) (paths_of files) ≡ false
  pub apart : NoneClash (owning.paths_of owned) (paths_of files) (length files)

-- a package that can come back: no entry has anything against it either
pub record CanComeBack (owned : List OwnedPath) (entries : List Member) (old : Member) (files : List Placed) : Type 0 where
  pub fit : why_unfit entries old ≡ None
  pub room : CanBePutBack owned entries old files
