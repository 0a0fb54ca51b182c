-- What is installed for a request, and that it is only where there is no journal.
use Rattle.std.proofs.Common.{◌≡◌, Bool, true, false, List, Result, Ok, Err, refl, ap, if◌then◌else◌}
use Rattle.std.specs.FinMap.{get}
use Rattle.outside_io.specs.Counts.{Files}
use Rattle.crash_disk.specs.Disks.{Tree}
use Rattle.opam_top.specs.Fronts.{bound_in_lock, in_repository, members_for, of_request}
use Rattle.opam_top.specs.Journals.{is_fresh}
use Rattle.opam_top.specs.Refusals.{Gives, not_built}
use Rattle.opam_top.specs.declared.member.Member.{Member}
use Rattle.opam_top.specs.declared.request.Request.{Request}
use Rattle.opam_top.specs.declared.stops.Refusal.{Refusal}
use Rattle.opam_top.specs.declared.stops.Stop.{Stop}
use Rattle.opam_top.specs.declared.stops.Stop.TheVariants.{Host, Disk, Memory, Refused}

fresh_by : (fresh : Bool) (later : Result (List Member) Refusal) (members : List Member) → (if fresh then later else Err not_built) ≡ Ok members → fresh ≡ true
fresh_by true later members is = refl
fresh_by false later members is = absurd (cc)

pub request_fresh : (request : Request) (files : Files) (tree : Tree) (members : List Member) → members_for request files tree ≡ Ok members → is_fresh tree ≡ true
request_fresh request files tree members is =
    fresh_by (is_fresh tree) (in_repository files request.repo (bound_in_lock request.lock_file (get files request.lock_file))) members is

-- words that are refused install nothing
pub refused_words : (answer : Result Request Refusal) (files : Files) (tree : Tree) (stop : Stop) → Gives {X = Request} (λ (request : Request). request) (Err stop) answer
    → Gives {X = List Member} (λ (members : List Member). members) (Err stop) (of_request answer files tree)
refused_words answer files tree Host gives = tt
refused_words answer files tree Disk gives = tt
refused_words answer files tree Memory gives = tt
refused_words answer files tree (Refused refusal) gives = ap (λ (a : Result Request Refusal). of_request a files tree) gives
