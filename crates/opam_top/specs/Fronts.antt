-- From the words to what is to be installed, with the first refusal. This project's own.
use Rattle.std.specs.Prelude.{ℕ, List, [], ◌∷◌, ◌++◌, Bool, true, false, codes, length, map, nat_le, ◌&&◌, Result, Ok, Err, if◌then◌else◌}
use Rattle.std.specs.List.{filter_map, list_all}
use Rattle.std.specs.FinMap.{get}
use Rattle.std.specs.declared.option.Option.{Option}
use Rattle.std.specs.declared.option.Option.TheVariants.{None, Some}
use Rattle.opam_names.specs.Packages.{pkg_text}
use Rattle.opam_names.specs.declared.packages.Pkg.{Pkg}
use Rattle.outside_io.specs.Counts.{Files}
use Rattle.crash_disk.specs.Disks.{Tree}
use Rattle.opam_top.specs.Journals.{is_fresh}
use Rattle.opam_top.specs.Locks.{read_lock}
use Rattle.opam_top.specs.OpamFiles.{read_opam}
use Rattle.opam_top.specs.Refusals.{not_built, not_found, not_in_repository}
use Rattle.opam_top.specs.Requests.{request_of}
use Rattle.opam_top.specs.declared.request.Request.{Request}
use Rattle.opam_top.specs.declared.member.Answer.{Answer}
use Rattle.opam_top.specs.declared.member.Answer.TheVariants.{Known, Unknown, NotBuilt}
use Rattle.opam_top.specs.declared.member.Member.{Member}
use Rattle.opam_top.specs.declared.stops.Refusal.{Refusal}

-- 4 MiB
abbrev pub lock_limit : ℕ
lock_limit = 4194304

-- 1 MiB
abbrev pub opam_limit : ℕ
opam_limit = 1048576

-- a package's opam file in the repository of a folder (opam manual, repositories)
abbrev pub opam_path : List ℕ → Pkg → List ℕ
opam_path repo pkg = repo ++ codes "/packages/" ++ pkg.name ++ codes "/" ++ pkg_text pkg ++ codes "/opam"

-- a package with its opam text and commands, where the text is built
abbrev pub with_commands : Pkg → List ℕ → Option (List (List (List ℕ))) → Answer
with_commands pkg opam None = NotBuilt
with_commands pkg opam (Some commands) = Known (record { pkg = pkg; opam = opam; commands = commands })

-- what the repository has of a package, where this stands at its path
abbrev pub answer_by : Pkg → Option (List ℕ) → Answer
answer_by pkg None = Unknown pkg
answer_by pkg (Some opam) = if nat_le (length opam) opam_limit then with_commands pkg opam (read_opam opam) else NotBuilt

-- what the repository in a folder has of a package
abbrev pub answer_of : Files → List ℕ → Pkg → Answer
answer_of files repo pkg = answer_by pkg (get files (opam_path repo pkg))

-- the package, where the repository lacks it
abbrev pub unknown_of : Answer → Option Pkg
unknown_of (Known member) = None
unknown_of (Unknown pkg) = Some pkg
unknown_of NotBuilt = None

-- the package with its text, where the repository has it and it is built
abbrev pub member_of : Answer → Option Member
member_of (Known member) = Some member
member_of (Unknown pkg) = None
member_of NotBuilt = None

-- the repository has the package, and its text is built
abbrev pub is_known : Answer → Bool
is_known (Known member) = true
is_known (Unknown pkg) = false
is_known NotBuilt = false

-- packages that are lacked come before any other refusal
abbrev pub unless_unknown : List Pkg → Result (List Member) Refusal → Result (List Member) Refusal
unless_unknown [] later = later
unless_unknown (pkg ∷ pkgs) later = Err (not_in_repository (pkg ∷ pkgs))

-- the packages, once the repository was asked for each: all that it lacks are named, and then each has to be built
abbrev pub members_of : List Answer → Result (List Member) Refusal
members_of answers = unless_unknown (filter_map unknown_of answers) (if list_all is_known answers then Ok (filter_map member_of answers) else Err not_built)

-- what a lock binds, or the refusal of one that is not built
abbrev pub if_built : Option (List Pkg) → Result (List Pkg) Refusal
if_built None = Err not_built
if_built (Some pkgs) = Ok pkgs

-- what the lock binds
abbrev pub bound_in_lock : List ℕ → Option (List ℕ) → Result (List Pkg) Refusal
bound_in_lock file None = Err (not_found file)
bound_in_lock file (Some bytes) = if nat_le (length bytes) lock_limit then if_built (read_lock bytes) else Err not_built

-- the packages that are bound, once each was asked for in the repository
abbrev pub in_repository : Files → List ℕ → Result (List Pkg) Refusal → Result (List Member) Refusal
in_repository files repo (Err refusal) = Err refusal
in_repository files repo (Ok pkgs) = members_of (map (answer_of files repo) pkgs)

-- what a request installs; a disk that has a journal is not built
abbrev pub members_for : Request → Files → Tree → Result (List Member) Refusal
members_for request files tree =
    if is_fresh tree then in_repository files request.repo (bound_in_lock request.lock_file (get files request.lock_file)) else Err not_built

-- what the request installs, where the words are no refusal
abbrev pub of_request : Result Request Refusal → Files → Tree → Result (List Member) Refusal
of_request (Err refusal) files tree = Err refusal
of_request (Ok request) files tree = members_for request files tree

-- what is to be installed, in the order of names
abbrev pub front : List (List ℕ) → Files → Tree → Result (List Member) Refusal
front words files tree = of_request (request_of words) files tree

-- its opam file has at most 1 MiB, and it has at most 64 commands
abbrev pub is_short : Member → Bool
is_short member = nat_le (length member.opam) opam_limit && nat_le (length member.commands) 64
