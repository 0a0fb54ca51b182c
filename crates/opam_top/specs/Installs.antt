-- What comes of an install of a package, as far as it is built: the files that it places, or why it fails. This project's
-- own.
use Rattle.std.specs.Prelude.{ℕ, List, [], ◌∷◌, ◌++◌, Bool, true, false, codes, filter, is_none, length, nat_le, Result, Ok, Err, if◌then◌else◌}
use Rattle.std.specs.FinMap.{get}
use Rattle.std.specs.declared.option.Option.{Option}
use Rattle.std.specs.declared.option.Option.TheVariants.{None, Some}
use Rattle.opam_names.specs.declared.packages.Pkg.{Pkg}
use Rattle.opam_top.specs.declared.decision.Reason.{Reason}
use Rattle.opam_top.specs.declared.decision.Reason.TheVariants.{Step, InstallUnreadable, InstallTooLong, InstallNotBuilt, SwitchFull}
use Rattle.outside_io.specs.Counts.{ByPath}
use Rattle.outside_io.specs.Shops.{Told}
use Rattle.outside_io.specs.declared.workshop.Fate.{Fate}
use Rattle.outside_io.specs.declared.workshop.Fate.TheVariants.{Stopped, Built}
use Rattle.outside_io.specs.declared.workshop.Job.{Job}
use Rattle.crash_disk.specs.Disks.{Tree}
use Rattle.opam_top.specs.InstallTexts.{read_items}
use Rattle.opam_top.specs.Placements.{first_clash, first_room, in_byte_order, is_too_full, placed_from}
use Rattle.opam_top.specs.declared.member.Member.{Member}
use Rattle.opam_top.specs.declared.records.Placed.{Placed}

-- a command has at least one word
abbrev pub has_words : List (List ℕ) → Bool
has_words [] = false
has_words (word ∷ words) = true

-- the job of a package: its commands, but those without words
abbrev pub job_of : Member → Job
job_of member = record { pkg = member.pkg; source = None; commands = filter has_words member.commands; env = [] }

-- the install text of a package stands in its build folder under this name
abbrev pub install_name : Pkg → List ℕ
install_name pkg = pkg.name ++ codes ".install"

-- 1 MiB
abbrev pub install_limit : ℕ
install_limit = 1048576

-- the items of an install text, where it is built
abbrev pub items_read : Option (List (List ℕ)) → Result (List (List ℕ)) Reason
items_read None = Err InstallNotBuilt
items_read (Some items) = Ok items

-- an absent install text places nothing
abbrev pub items_of : Option (Option (List ℕ)) → Result (List (List ℕ)) Reason
items_of None = Ok []
items_of (Some None) = Err InstallUnreadable
items_of (Some (Some text)) = if nat_le (length text) install_limit then items_read (read_items text) else Err InstallTooLong

-- files in the order of their paths, where the switch has room for their paths
abbrev pub if_room : ByPath Pkg → List Placed → Result (List Placed) Reason
if_room owners files = if is_too_full owners files then Err SwitchFull else Ok (in_byte_order files)

-- what comes, where nothing stands in the way
abbrev pub unless_barred : Option Reason → Result (List Placed) Reason → Result (List Placed) Reason
unless_barred None later = later
unless_barred (Some reason) later = Err reason

-- files are placed where nothing stands in the way of any, in the order of their paths
abbrev pub if_free : Tree → ByPath Pkg → Pkg → Result (List Placed) Reason → Result (List Placed) Reason
if_free tree owners pkg (Err reason) = Err reason
if_free tree owners pkg (Ok files) = unless_barred (first_clash tree owners pkg files) (if_room owners files)

-- the files of the items of an install text, or why there are none
abbrev pub files_of_items : Told → Tree → ByPath Pkg → Job → Result (List (List ℕ)) Reason → Result (List Placed) Reason
files_of_items told tree owners job (Err reason) = Err reason
files_of_items told tree owners job (Ok items) = if_free tree owners job.pkg (placed_from (told.files job) first_room items)

-- the files that a job's package places over a tree with these owners, where the job came to this; or why it fails
abbrev pub placed_by : Told → Tree → ByPath Pkg → Job → Fate → Result (List Placed) Reason
placed_by told tree owners job (Stopped step ending) = Err (Step step ending)
placed_by told tree owners job Built = files_of_items told tree owners job (items_of (get (told.files job) (install_name job.pkg)))

-- nothing stands where this file is placed
abbrev pub is_vacant : Tree → Placed → Bool
is_vacant tree file = is_none (get tree file.path)
