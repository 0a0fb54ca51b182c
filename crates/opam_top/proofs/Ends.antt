-- How a run ends, and what it then has said and left.
use Rattle.std.proofs.Common.{◌≡◌, inl, inr, ℕ, ◌≤◌, List, [], ◌∷◌, length, take, Bool, true, false, Option, Some, Result, Ok, Err, OnOk, OnErr, refl, sym, ◌∙◌, ap, subst, arith}
use Rattle.std.specs.Prelude.{count_by, if◌then◌else◌}
use Rattle.std.specs.List.{flat_map, list_all}
use Rattle.std.proofs.Math.Nat.{le_trans}
use Rattle.std.proofs.lemmas.Bool.{cases_Bool}
use Rattle.std.proofs.lemmas.List.{append-nil}
use Rattle.opam_top.specs.Reports.{is_done, is_installed, line_of, report, summary}
use Rattle.opam_top.specs.declared.decision.Decision.{Decision}
use Rattle.outside_io.specs.Counts.{Quiet, Rose}
use Rattle.outside_io.specs.Sinks.{Got, GotPrefix}
use Rattle.crash_disk.specs.Disks.{State, Tree}
use Rattle.opam_top.specs.Answers.{IsHalted, IsRunOf, LeftBy, Outside, changed, goes_through, of_front, out_at_end, status_at_end, status_by, with_output}
use Rattle.opam_top.specs.Changes.{AreReceipts, IsPartOf, Says, Stands, Tracks, AreDated}
use Rattle.opam_top.specs.Outcomes.{Outcome, outcome}
use Rattle.opam_top.specs.Refusals.{Gives, status_of}
use Rattle.opam_top.specs.Switches.{empty_switch}
use Rattle.opam_top.specs.declared.change.Progress.{Progress}
use Rattle.opam_top.specs.declared.member.Member.{Member}
use Rattle.opam_top.specs.declared.status.Ended.{Ended}
use Rattle.opam_top.specs.declared.status.Receipt.{Receipt}
use Rattle.opam_top.specs.declared.status.Status.{Status}
use Rattle.opam_top.specs.declared.status.Status.TheVariants.{Done, Actions, HostFailed, DiskFailed, Memory}
use Rattle.opam_top.specs.declared.stops.Cause.{Cause}
use Rattle.opam_top.specs.declared.stops.Cause.TheVariants as cause
use Rattle.opam_top.specs.declared.stops.Refusal.{Refusal}
use Rattle.opam_top.specs.declared.stops.Stop.{Stop}
use Rattle.opam_top.specs.declared.stops.Stop.TheVariants.{Host, Disk, Memory as NoMemory, Refused}
use Rattle.opam_top.proofs.Looped.{says_then}

-- ---- the summary

pub sum_says : {T : Type 0} (s t u : Bool) (m n p : ℕ) (a b c : Option (List ℕ)) (result : Result T Stop) (decisions : List Decision) → Says s t m n a b (flat_map line_of decisions)
    → OnOk result (Says t u n p b c (summary decisions)) → OnErr result (Says t u n p b c []) → Says s u m p a c (out_at_end result decisions)
sum_says s t u m n p a b c (Ok x) decisions one two none = says_then s t u m n p a b c (flat_map line_of decisions) (summary decisions) one two
sum_says s t u m n p a b c (Err e) decisions one two none =
    subst (λ (l : List ℕ). Says s u m p a c l) (append-nil (flat_map line_of decisions)) (says_then s t u m n p a b c (flat_map line_of decisions) [] one none)

-- ---- receipts

pub receipts_from : (earlier from to : ℕ) (receipts : List Receipt) → earlier ≤ from → AreReceipts from to receipts → AreReceipts earlier to receipts
receipts_from earlier from to [] le are = record { order = le_trans le are.order }
receipts_from earlier from to (receipt ∷ receipts) le are = record { order = (are.order.0, le_trans le are.order.1, are.order.2) }

-- ---- the run of the definition

leaves_by : (o : Outcome) (start : Tree) (disk : Option State) → Stands disk o start → (s : State) × (disk ≡ Some s) × LeftBy (changed o) start s.files
leaves_by o start disk stands =
    let leaves = stands.2 in (stands.0, stands.1, record { journal = λ whole. leaves.journal; others = leaves.others; idle = leaves.idle })

pub run_whole : (answer : Result (List Member) Refusal) (outside : Outside) (members : List Member) (result : Result (Unit {0}) Stop) (progress : Progress) (disk : Option State) → answer ≡ Ok members → (result ≡ Err Host → ⊥) → ((refusal : Refusal) → result ≡ Err (Refused refusal) → ⊥)
    → goes_through result ≡ true → OnOk result (Tracks progress (outcome outside.shop (empty_switch outside.disk.files) members)) → OnOk result (Stands disk (outcome outside.shop (empty_switch outside.disk.files) members) outside.disk.files)
    → OnOk result (progress.heard.items ≡ (outcome outside.shop (empty_switch outside.disk.files) members).heard) → IsRunOf (of_front answer outside) outside.disk.files result progress disk
run_whole answer outside members (Ok x) progress disk is host refusal goes tracks stands heard =
    let o = outcome outside.shop (empty_switch outside.disk.files) members in
    let P : Result (List Member) Refusal → Type 0 = λ f. IsRunOf {T = Unit {0}} (of_front f outside) outside.disk.files (Ok x) progress disk in
    subst P (sym is) (record {
      status = ap status_by (sym tracks.decisions);
      out = ap report (sym tracks.decisions);
      err = refl;
      heard = heard;
      number = tracks.number;
      left = leaves_by o outside.disk.files disk stands;
    })
run_whole answer outside members (Err Host) progress disk is host refusal goes tracks stands heard = absurd (host refl)
run_whole answer outside members (Err Disk) progress disk is host refusal goes tracks stands heard = absurd (cc)
run_whole answer outside members (Err NoMemory) progress disk is host refusal goes tracks stands heard = absurd (cc)
run_whole answer outside members (Err (Refused r)) progress disk is host refusal goes tracks stands heard = absurd (refusal r refl)

pub run_refused : (answer : Result (List Member) Refusal) (outside : Outside) (stop : Stop) (progress : Progress) (disk : Option State) → Gives {X = List Member} (λ (members : List Member). members) (Err stop) answer
    → goes_through {T = Unit {0}} (Err stop) ≡ true → progress.decisions.items ≡ [] → progress.heard.items ≡ [] → progress.receipts.items ≡ [] → disk ≡ Some outside.disk → IsRunOf {T = Unit {0}} (of_front answer outside) outside.disk.files (Err stop) progress disk
run_refused answer outside Host progress disk gives goes decisions heard receipts same = absurd (cc)
run_refused answer outside Disk progress disk gives goes decisions heard receipts same = absurd (cc)
run_refused answer outside NoMemory progress disk gives goes decisions heard receipts same = absurd (cc)
run_refused answer outside (Refused refusal) progress disk gives goes decisions heard receipts same =
    let P : Result (List Member) Refusal → Type 0 = λ f. IsRunOf {T = Unit {0}} (of_front f outside) outside.disk.files (Err (Refused refusal)) progress disk in
    subst P (sym gives) (record {
      status = refl;
      out = sym (ap (flat_map line_of) decisions);
      err = refl;
      heard = heard;
      number = ap length receipts;
      left = (outside.disk, same, record { journal = λ whole. absurd (cc); others = λ q apart. refl; idle = λ none. refl });
    })

pub part_of_run : (answer : Result (List Member) Refusal) (outside : Outside) (members : List Member) (progress : Progress) → answer ≡ Ok members → IsPartOf progress (outcome outside.shop (empty_switch outside.disk.files) members) → IsPartOf progress (of_front answer outside).change
part_of_run answer outside members progress is part =
    let P : Result (List Member) Refusal → Type 0 = λ f. IsPartOf progress (of_front f outside).change in subst P (sym is) part

pub dated_of_run : (answer : Result (List Member) Refusal) (outside : Outside) (members : List Member) (past : ℕ → Option State) (receipts : List Receipt) → answer ≡ Ok members → AreDated past (outcome outside.shop (empty_switch outside.disk.files) members).records receipts → AreDated past (of_front answer outside).change.records receipts
dated_of_run answer outside members past receipts is dated =
    let P : Result (List Member) Refusal → Type 0 = λ f. AreDated past (of_front f outside).change.records receipts in subst P (sym is) dated

pub part_of_any : (progress : Progress) (o : Outcome) → progress.decisions.items ≡ [] → progress.heard.items ≡ [] → IsPartOf progress o
part_of_any progress o decisions heard =
    let none : length progress.decisions.items ≡ 0 = ap length decisions in
    let no_job : length progress.heard.items ≡ 0 = ap length heard in
    record {
      decisions = decisions ∙ sym (ap (λ n. take n o.decisions) none);
      few = omega (arith, none);
      heard = heard ∙ sym (ap (λ n. take n o.heard) no_job);
      all_heard = omega (arith, none, no_job);
    }

-- ---- how it ends

pub quiet_rose : (before now : ℕ) → Quiet before now → Rose before now → ⊥
quiet_rose before now quiet rose = omega arith

pub goes : {T : Type 0} (end : Result T Stop) → (end ≡ Err Host → ⊥) → (end ≡ Err Disk → ⊥) → (end ≡ Err NoMemory → ⊥) → goes_through end ≡ true
goes (Ok x) host disk memory = refl
goes (Err Host) host disk memory = absurd (host refl)
goes (Err Disk) host disk memory = absurd (disk refl)
goes (Err NoMemory) host disk memory = absurd (memory refl)
goes (Err (Refused refusal)) host disk memory = refl

kept_memory : (broken : Bool) → with_output broken Memory ≡ Memory
kept_memory true = refl
kept_memory false = refl

pub memory_ends : {T : Type 0} (end : Result T Stop) (decisions : List Decision) (broken : Bool) (status : Status) → status ≡ with_output broken (status_at_end end decisions) → end ≡ Err NoMemory → status ≡ Memory
memory_ends end decisions broken status is memory = is ∙ ap (λ e. with_output broken (status_at_end e decisions)) memory ∙ kept_memory broken

by_done : (all broken : Bool) → with_output broken (if all then Done else Actions) ≡ DiskFailed → ⊥
by_done true true is = cc
by_done true false is = cc
by_done false true is = cc
by_done false false is = cc

by_cause : (cause : Cause) (broken : Bool) → with_output broken (status_of cause) ≡ DiskFailed → ⊥
by_cause cause.Words true is = cc
by_cause cause.Words false is = cc
by_cause cause.NotFound true is = cc
by_cause cause.NotFound false is = cc
by_cause cause.NotBuilt true is = cc
by_cause cause.NotBuilt false is = cc

by_host : (broken : Bool) → with_output broken HostFailed ≡ DiskFailed → ⊥
by_host true is = cc
by_host false is = cc

by_memory : (broken : Bool) → with_output broken Memory ≡ DiskFailed → ⊥
by_memory true is = cc
by_memory false is = cc

pub disk_ended : {T : Type 0} (end : Result T Stop) (decisions : List Decision) (broken : Bool) → with_output broken (status_at_end end decisions) ≡ DiskFailed → end ≡ Err Disk
disk_ended (Ok x) decisions broken is = absurd (by_done (list_all is_done decisions) broken is)
disk_ended (Err Host) decisions broken is = absurd (by_host broken is)
disk_ended (Err Disk) decisions broken is = refl
disk_ended (Err NoMemory) decisions broken is = absurd (by_memory broken is)
disk_ended (Err (Refused refusal)) decisions broken is = absurd (by_cause refusal.cause broken is)

pub halted_by : (o : Outcome) (ended : Ended) (progress : Progress) (broken : Bool) (before now : ℕ) (old new : Option (List ℕ)) → IsPartOf progress o → Says false broken before now old new (flat_map line_of progress.decisions.items) → length progress.receipts.items ≡ count_by is_installed progress.decisions.items
    → ended.receipts ≡ progress.receipts.items → ended.heard ≡ progress.heard.items → IsHalted o ended before now old new
halted_by o ended progress broken before now old new part said number receipts heard =
    let lines = ap (flat_map line_of) part.decisions in
    record {
      reported = length progress.decisions.items;
      within = part.few;
      out = λ quiet. subst (λ (l : List ℕ). Got old new l) lines (said.all (elim (cases_Bool broken) [
        | inl is ↦ absurd (quiet_rose before now quiet (said.rose refl is))
        | inr is ↦ is
      ]));
      out_part = subst (λ (l : List ℕ). GotPrefix old new l) lines said.part;
      receipts = ap length receipts ∙ number ∙ ap (count_by is_installed) part.decisions;
      jobs = length progress.heard.items;
      heard = heard ∙ part.heard;
      enough = part.all_heard;
    }
