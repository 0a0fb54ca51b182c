-- The records of actions can be spelled: they are not too long. This project's own.
use Rattle.std.specs.Prelude.{◌≡◌, ◌≤◌, List, length}
use Rattle.std.specs.declared.option.Option.TheVariants.{Some}
use Rattle.opam_package.specs.declared.limits.TheConstants.{OPAM_LIMIT}
use Rattle.opam_package.specs.declared.package.Member.{Member}
use Rattle.owner_map.specs.declared.owned.OwnedPath.{OwnedPath}
use Rattle.journal_text.specs.Parts.{IsComingValid}
use Rattle.journal_text.specs.declared.record.KeptFiles.{KeptFiles}
use Rattle.journal_text.specs.declared.record.Placed.{Placed}
use Rattle.switch_state.specs.Actions.{CanBeSpelled, Installs, PutsBack, Removes}
use Rattle.switch_state.specs.Sound.{member_pkg}
use Rattle.change_verdict.specs.Verdicts.{CanBePlaced}

-- the install of a member whose files can be placed, where its opam text is no longer than that of a package may be
abbrev pub InstallsAreSpelled : Type 0
InstallsAreSpelled = (owned : List OwnedPath) (member : Member) (files : List Placed) → IsComingValid (member_pkg member) files → length member.opam ≤ OPAM_LIMIT → CanBePlaced owned files → CanBeSpelled (Installs member files)

-- and the return of a member with the opam text and the files that the record of its removal keeps
abbrev pub PutBacksAreSpelled : Type 0
PutBacksAreSpelled = (member : Member) (kept : KeptFiles) → member.opam ≡ kept.opam → CanBeSpelled (Removes (member_pkg member) (Some kept)) → CanBeSpelled (PutsBack member kept.files)
