-- Whether a package that a request removed is put back, once the new one did not come: the first of what stands against it. This
-- project's own.
use Rattle.std.specs.Prelude.{ℕ, List, [], ◌∷◌, ◌++◌, map, filter, length, Bool, not, bytes_eq, find, nat_le, ◌||◌, if◌then◌else◌}
use Rattle.std.specs.List.{list_any, slice_get}
use Rattle.std.specs.Option.{option_and_then, option_map, option_or}
use Rattle.std.specs.declared.option.Option.{Option}
use Rattle.std.specs.declared.option.Option.TheVariants.{None, Some}
use Rattle.opam_names.specs.ByteOrders.{in_order_by}
use Rattle.opam_package.specs.Dependencies.{is_edge, is_forbidden}
use Rattle.opam_package.specs.declared.package.Member.{Member}
use Rattle.owner_map.specs.declared.owned.OwnedPath.{OwnedPath}
use Rattle.journal_text.specs.Parts.{paths_of}
use Rattle.journal_text.specs.declared.record.Placed.{Placed}
use Rattle.crash_disk.specs.Disks.{Tree}
use Rattle.switch_journal.specs.Applying.{text_total}
use Rattle.switch_journal.specs.declared.request.TheConstants.{TEXT_LIMIT}
use Rattle.switch_state.specs.Sound.{member_pkg, member_pkgs, name_of, runs_on, share_class}
use Rattle.switch_state.specs.State.{member_entry}
use Rattle.change_verdict.specs.Clash.{first_clash_of}
use Rattle.change_verdict.specs.Verdicts.{would_be_full}
use Rattle.back_verdict.specs.declared.why.Why.{Why}
use Rattle.back_verdict.specs.declared.why.Why.TheVariants.{NotKept, Unmet, Conflict, Class, Late, Full, Clash}

-- the entries with the package, which comes last
abbrev pub with_last : List Member → Member → List Member
with_last entries old = entries ++ old ∷ []

-- what it depends on when it runs holds of these
abbrev pub is_met : List Member → Member → Bool
is_met entries old = runs_on (member_pkgs (with_last entries old)) old.package

-- it forbids the entry, or the entry forbids it
abbrev pub conflicts : Member → Member → Bool
conflicts old entry = is_forbidden old.package (member_pkg entry) || is_forbidden entry.package (member_pkg old)

-- it shares a class with the entry
abbrev pub shares : Member → Member → Bool
shares old entry = share_class old.package entry.package

-- the entry needs it when it runs
abbrev pub is_needed_by : Member → Member → Bool
is_needed_by old entry = is_edge entry.package (member_pkg old)

-- of members the one whose name is the least
abbrev pub least_named : List Member → Option Member
least_named members = slice_get (in_order_by name_of members) 0

-- the first of its classes that the entry has too
abbrev pub first_shared : Member → Member → Option (List ℕ)
first_shared old entry = find (λ class. list_any (bytes_eq class) entry.package.classes) old.package.classes

-- ---- each cause alone

abbrev pub why_unmet : List Member → Member → Option Why
why_unmet entries old = if is_met entries old then None else Some Unmet

-- of those with which it conflicts, the least by name
abbrev pub why_conflict : List Member → Member → Option Why
why_conflict entries old = option_map (λ entry. Conflict (member_pkg entry)) (least_named (filter (conflicts old) entries))

-- it shares this class with the entry
abbrev pub class_with : Member → Member → Option Why
class_with old entry = option_map (λ class. Class class (member_pkg entry)) (first_shared old entry)

-- of those with which it shares a class, the least by name
abbrev pub why_class : List Member → Member → Option Why
why_class entries old = option_and_then (class_with old) (least_named (filter (shares old) entries))

-- of those that need it, the least by name
abbrev pub why_late : List Member → Member → Option Why
why_late entries old = option_map (λ entry. Late (member_pkg entry)) (least_named (filter (is_needed_by old) entries))

-- the opam texts of members together have more bytes than a switch may have
abbrev pub is_text_full : List Member → Bool
is_text_full members = not (nat_le (text_total (map member_entry members)) TEXT_LIMIT)

-- the switch would own too many paths, or have too long opam texts
abbrev pub why_full : List OwnedPath → List Member → Member → List Placed → Option Why
why_full owned entries old files = if would_be_full owned files || is_text_full (with_last entries old) then Some Full else None

-- something stands in the way of one of its files
abbrev pub why_clash : Tree → List OwnedPath → Member → List Placed → Option Why
why_clash tree owned old files = option_map Clash (first_clash_of tree owned (member_pkg old) (paths_of files))

-- ---- the first of them

-- what the entries have against it
abbrev pub why_unfit : List Member → Member → Option Why
why_unfit entries old = option_or (why_unmet entries old) (option_or (why_conflict entries old) (option_or (why_class entries old) (why_late entries old)))

-- why a package with these files is not put back: the first that fits
abbrev pub why_away : Tree → List OwnedPath → List Member → Member → List Placed → Option Why
why_away tree owned entries old files = option_or (why_unfit entries old) (option_or (why_full owned entries old files) (why_clash tree owned old files))

-- the same of what was kept of a package: the package with its opam text, and its files
abbrev pub why_of : Tree → List OwnedPath → List Member → Option (Member × List Placed) → Option Why
why_of tree owned entries None = Some NotKept
why_of tree owned entries (Some kept) = why_away tree owned entries kept.0 kept.1
