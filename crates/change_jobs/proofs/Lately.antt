-- Ends that are taken in after a change was stopped.
use Rattle.std.proofs.Common.{◌≡◌, ◌≢◌, ℕ, ◌+◌, ◌<◌, ◌≤◌, List, [], ◌∷◌, ◌++◌, length, sym, ap, refl, ◌∙◌, arith, subst, All, remove, set, slice_get, append_assoc, append-nil}
use Rattle.std.specs.Prelude.{Result, Ok, Err, IfOk, OnOk}
use Rattle.std.specs.Option.{option_map}
use Rattle.std.specs.declared.option.Option.{Option}
use Rattle.std.specs.declared.option.Option.TheVariants.{None, Some}
use Rattle.std.proofs.lemmas.List.{map_push}
use Rattle.std.proofs.lemmas.Option.{slice_get_within}
use Rattle.std.proofs.lemmas.List.Concat.{flat_map-append}
use Rattle.std.proofs.lemmas.List.Elements.{All-append, All-cons, All-nil, All-push}
use Rattle.opam_names.specs.declared.fault.OutOfMemory.{OutOfMemory}
use Rattle.opam_names.specs.declared.packages.Pkg.{Pkg}
use Rattle.opam_package.specs.declared.package.Member.{Member}
use Rattle.outside_io.specs.Shops.{Told, fate_of}
use Rattle.outside_io.specs.declared.workshop.Fate.{Fate}
use Rattle.outside_io.specs.declared.workshop.Fate.TheVariants.{Built}
use Rattle.outside_io.specs.declared.workshop.Job.{Job}
use Rattle.package_vars.specs.declared.facts.Facts.{Facts}
use Rattle.child_pool.specs.Crews.{TakesOne, TellsFate}
use Rattle.child_pool.specs.declared.crew.Event.{Event}
use Rattle.child_pool.specs.declared.crew.Event.TheVariants.{End}
use Rattle.change_floor.specs.Decisions.{Decision, Rule}
use Rattle.change_floor.specs.FloorLaws.{FromBeginning}
use Rattle.change_floor.specs.Floors.{FloorState, with_job}
use Rattle.change_floor.specs.Machine.{Ends, FloorEvent, Leads, Moment, Runs, first_moment}
use Rattle.change_floor.specs.declared.progress.Progress.TheVariants.{Ended}
use Rattle.change_jobs.specs.Abreast.{IsAbreast, yet_to_end}
use Rattle.change_jobs.specs.Courses.{AreInTime, CrewState, IsCourse, EndIsTold, crew_event, crew_events, heard_in, heard_of, moment_of}
use Rattle.change_jobs.specs.Hearing.{AllRan, AreLate, HasName, HearsName, both_answer, end_events, floor_ended, on_floor}
use Rattle.change_jobs.specs.PackageJobs.{IsJobOf}
use Rattle.change_jobs.specs.Stops.{AreSome, IsEnd, IsOver, none_left, with_one, without_one}
use Rattle.change_jobs.specs.declared.jobs.Heard.{Heard}
use Rattle.change_jobs.specs.declared.jobs.Jobs.{Jobs}
use Rattle.change_jobs.proofs.Abreasts.{Parts, abreast_of, ended, get_other, parts_of, parts_same, runs_too}
use Rattle.change_jobs.proofs.Coursed.{events_push, heard_one, heard_push}
use Rattle.change_jobs.proofs.Floored.{due_fewer}
use Rattle.change_jobs.proofs.Runners.{all_at, shorter}

-- ---- some of a list

some_push : {few all : List Heard} (one : Heard) → AreSome few all → AreSome (few ++ one ∷ []) (all ++ one ∷ [])
some_push one none_left = with_one one none_left
some_push one (with_one first some) = with_one first (some_push one some)
some_push one (without_one first some) = without_one first (some_push one some)

some_skip : {few all : List Heard} (one : Heard) → AreSome few all → AreSome few (all ++ one ∷ [])
some_skip one none_left = without_one one none_left
some_skip one (with_one first some) = with_one first (some_skip one some)
some_skip one (without_one first some) = without_one first (some_skip one some)

some_after : (front : List Heard) {few all : List Heard} → AreSome few all → AreSome (front ++ few) (front ++ all)
some_after [] some = some
some_after (one ∷ front) some = with_one one (some_after front some)

on_ok : {P Q : Type 0} (answer : Result Unit OutOfMemory) → (P → Q) → OnOk answer P → OnOk answer Q
on_ok (Ok done) more is = more is
on_ok (Err refused) more is = tt

-- ---- one end more

all_ran_on : (floor : FloorState) (ends : List (ℕ × Fate)) (end : ℕ × Fate) → AllRan floor ends → Runs (floor_ended floor ends) end.0 → AllRan floor (ends ++ end ∷ [])
all_ran_on floor [] end ran runs = (runs, tt)
all_ran_on floor (first ∷ ends) end ran runs = (ran.0, all_ran_on (with_job floor first.0 (Ended first.1)) ends end ran.1 runs)

ended_on : (floor : FloorState) (ends : List (ℕ × Fate)) (end : ℕ × Fate) → floor_ended floor (ends ++ end ∷ []) ≡ with_job (floor_ended floor ends) end.0 (Ended end.1)
ended_on floor [] end = refl
ended_on floor (first ∷ ends) end = ended_on (with_job floor first.0 (Ended first.1)) ends end

ends_push : (ends : List (ℕ × Fate)) (end : ℕ × Fate) → end_events (ends ++ end ∷ []) ≡ end_events ends ++ Ends end.0 end.1 ∷ []
ends_push ends end = map_push (λ (e : ℕ × Fate). Ends e.0 e.1) ends end

-- what is late with one more, whose fate is told or is not
module _ (members : List Member) (facts : Facts) (before here now : Jobs) (crew mid after : CrewState) (earlier answer : Result Unit OutOfMemory) (late : AreLate members facts before here crew mid earlier)
    (at : ℕ) (one : ℕ × Job) (fate : Fate) (ran : slice_get mid.running at ≡ Some one) (left : after.running ≡ remove mid.running at) (noted : after.events ≡ mid.events ++ End one.0 ∷ []) (size : after.size ≡ mid.size) (shop : after.told ≡ mid.told)
    (told : TellsFate mid.told one.1 fate) (floor : now.floor ≡ here.floor) (room : here.heard.room ≤ now.heard.room + 1) (names : (place : ℕ) → place ≢ one.0 → slice_get now.names.items place ≡ slice_get here.names.items place) where
  abbrev standing : FloorState
  standing = floor_ended before.floor late.ends

  abbrev parts : Parts members facts standing here.names.items here.heard.room mid.size mid.running mid.events
  parts = parts_of members facts (on_floor here standing) mid late.abreast

  abbrev own : IsJobOf members facts one.0 one.1
  own = all_at (λ o. IsJobOf members facts o.0 o.1) mid.running at one parts.own ran

  abbrev end : ℕ × Fate
  end = (one.0, fate)

  next_ended : floor_ended before.floor (late.ends ++ end ∷ []) ≡ with_job standing one.0 (Ended fate)
  next_ended = ended_on before.floor late.ends end

  next_parts : Parts members facts (floor_ended before.floor (late.ends ++ end ∷ [])) now.names.items now.heard.room after.size after.running after.events
  next_parts = parts_same members facts next_ended refl refl size left noted
      (ended members facts standing here.names.items now.names.items here.heard.room now.heard.room mid.size mid.running mid.events at one fate parts ran room names)

  next_told : All (EndIsTold members facts crew.told) (end_events (late.ends ++ end ∷ []))
  next_told =
      let told_here : TellsFate crew.told one.1 fate = subst (λ (s : Option Told). TellsFate s one.1 fate) late.shop told in
      subst (λ (l : List FloorEvent). All (EndIsTold members facts crew.told) l) (sym (ends_push late.ends end)) (All-push (EndIsTold members facts crew.told) (end_events late.ends) (Ends one.0 fate) late.told (one.1, own, told_here))

  next_events : after.events ≡ crew.events ++ crew_events (end_events (late.ends ++ end ∷ []))
  next_events =
      noted ∙ ap (λ (l : List Event). l ++ End one.0 ∷ []) late.events ∙ append_assoc crew.events (crew_events (end_events late.ends)) (End one.0 ∷ [])
      ∙ ap (λ (l : List Event). crew.events ++ l) (sym (events_push (end_events late.ends) (Ends one.0 fate)))
      ∙ ap (λ (l : List FloorEvent). crew.events ++ crew_events l) (sym (ends_push late.ends end))

  abbrev all_heard : List Heard
  all_heard = heard_in members (end_events late.ends)

  abbrev one_heard : Heard
  one_heard = record { pkg = own.built.package.pkg; fate = fate }

  next_heard : heard_in members (end_events (late.ends ++ end ∷ [])) ≡ all_heard ++ one_heard ∷ []
  next_heard =
      ap (heard_in members) (ends_push late.ends end) ∙ heard_push members (end_events late.ends) (Ends one.0 fate)
      ∙ ap (λ (l : List Heard). all_heard ++ l) (heard_one members one.0 fate own.built own.stands)

  -- it is heard
  pub with_heard : now.heard.items ≡ here.heard.items ++ one_heard ∷ [] → AreLate members facts before now crew after (both_answer earlier answer)
  with_heard heard = record {
    ends = late.ends ++ end ∷ [];
    ran = all_ran_on before.floor late.ends end late.ran (runs_too members facts standing here.names.items here.heard.room mid.size mid.running mid.events at one parts ran);
    same = floor ∙ late.same;
    abreast = abreast_of members facts (on_floor now (floor_ended before.floor (late.ends ++ end ∷ []))) after next_parts;
    told = next_told;
    shop = shop ∙ late.shop;
    events = next_events;
    more = late.more ++ one_heard ∷ [];
    heard = heard ∙ ap (λ (l : List Heard). l ++ one_heard ∷ []) late.heard ∙ append_assoc before.heard.items late.more (one_heard ∷ []);
    some = subst (λ (l : List Heard). AreSome (late.more ++ one_heard ∷ []) l) (sym next_heard) (some_push one_heard late.some);
    all = by (late.more ++ one_heard ∷ [] ≡ heard_in members (end_events (late.ends ++ end ∷ []))) earlier answer (on_ok earlier (λ all. ap (λ (l : List Heard). l ++ one_heard ∷ []) all ∙ sym next_heard) late.all);
  }
    where
      by : (P : Type 0) (first second : Result Unit OutOfMemory) → OnOk first P → OnOk (both_answer first second) P
      by P (Ok done) (Ok also) all = all
      by P (Ok done) (Err refused) all = tt
      by P (Err refused) second all = tt

  -- its fate is not known
  pub with_lost : now.heard.items ≡ here.heard.items → OnOk answer ⊥ → AreLate members facts before now crew after (both_answer earlier answer)
  with_lost heard lost = record {
    ends = late.ends ++ end ∷ [];
    ran = all_ran_on before.floor late.ends end late.ran (runs_too members facts standing here.names.items here.heard.room mid.size mid.running mid.events at one parts ran);
    same = floor ∙ late.same;
    abreast = abreast_of members facts (on_floor now (floor_ended before.floor (late.ends ++ end ∷ []))) after next_parts;
    told = next_told;
    shop = shop ∙ late.shop;
    events = next_events;
    more = late.more;
    heard = heard ∙ late.heard;
    some = subst (λ (l : List Heard). AreSome late.more l) (sym next_heard) (some_skip one_heard late.some);
    all = by (late.more ≡ heard_in members (end_events (late.ends ++ end ∷ []))) earlier answer lost;
  }
    where
      by : (P : Type 0) (first second : Result Unit OutOfMemory) → OnOk second ⊥ → OnOk (both_answer first second) P
      by P (Ok done) (Ok also) none = absurd none
      by P (Ok done) (Err refused) none = tt
      by P (Err refused) second none = tt

-- a fate that a job may have had
abbrev pub some_fate : Option Told → Job → Fate
some_fate None job = Built
some_fate (Some told) job = fate_of told job

pub some_fate_tells : (shop : Option Told) (job : Job) → TellsFate shop job (some_fate shop job)
some_fate_tells None job told is = cc
some_fate_tells (Some known) job told is = ap (λ (t : Told). fate_of t job) (let e : known ≡ told = cc in e)

-- ---- what the calls tell

-- a job that runs can be heard
pub can_hear : (members : List Member) (facts : Facts) (first here : Jobs) (start mid : CrewState) (earlier : Result Unit OutOfMemory) (at : ℕ) (one : ℕ × Job)
    → AreLate members facts first here start mid earlier → slice_get mid.running at ≡ Some one
    → (0 < here.heard.room) × ((own : IsJobOf members facts one.0 one.1) → slice_get here.names.items one.0 ≡ Some (Some own.built.package.pkg))
can_hear members facts first here start mid earlier at one late ran =
    let floor : FloorState = floor_ended first.floor late.ends in
    let parts = parts_of members facts (on_floor here floor) mid late.abreast in
    let runs = runs_too members facts floor here.names.items here.heard.room mid.size mid.running mid.events at one parts ran in (
      omega (arith, parts.roomy, due_fewer floor one.0 Built parts.counted runs),
      λ own. parts.named one.0 (slice_get_within members one.0 own.built own.stands) (ap yet_to_end runs)
          ∙ ap (λ (o : Option Member). Some (option_map (λ (member : Member). member.package.pkg) o)) own.stands,
    )

-- so there is room, and a name
pub has_room : (members : List Member) (facts : Facts) (first here : Jobs) (start mid after : CrewState) (earlier : Result Unit OutOfMemory) (result : Result (ℕ × Fate) OutOfMemory)
    → TakesOne mid.told mid.running after.running mid.events after.events result → AreLate members facts first here start mid earlier → 0 < here.heard.room
has_room members facts first here start mid after earlier result takes late = (can_hear members facts first here start mid earlier takes.0 (takes.1.id, takes.1.job) late takes.1.ran).0

pub has_name : (members : List Member) (facts : Facts) (first here : Jobs) (start mid after : CrewState) (earlier : Result Unit OutOfMemory) (result : Result (ℕ × Fate) OutOfMemory) (id : ℕ) (fate : Fate)
    → TakesOne mid.told mid.running after.running mid.events after.events result → result ≡ Ok (id, fate) → AreLate members facts first here start mid earlier → HasName here.names.items id
has_name members facts first here start mid after earlier result id fate takes is late =
    let it = takes.1 in
    let one : ℕ × Job = (it.id, it.job) in
    let known = subst (λ (r : Result (ℕ × Fate) OutOfMemory). IfOk r (λ a. a.0 ≡ it.id)) is it.number in
    let parts = parts_of members facts (on_floor here (floor_ended first.floor late.ends)) mid late.abreast in
    let own = all_at (λ o. IsJobOf members facts o.0 o.1) mid.running takes.0 one parts.own it.ran in
    (own.built.package.pkg, ap (slice_get here.names.items) known ∙ (can_hear members facts first here start mid earlier takes.0 one late it.ran).1 own)

-- an end of which the fate is known is heard
pub late_ok : (members : List Member) (facts : Facts) (first here now : Jobs) (start mid after : CrewState) (earlier answer : Result Unit OutOfMemory) (result : Result (ℕ × Fate) OutOfMemory) (id : ℕ) (fate : Fate)
    → TakesOne mid.told mid.running after.running mid.events after.events result → result ≡ Ok (id, fate) → after.size ≡ mid.size → after.told ≡ mid.told
    → now.floor ≡ here.floor → now.heard.room + 1 ≡ here.heard.room → now.names.items ≡ set here.names.items id None → HearsName here.names.items id fate here.heard.items now.heard.items
    → AreLate members facts first here start mid earlier → AreLate members facts first now start after (both_answer earlier answer)
late_ok members facts first here now start mid after earlier answer result id fate takes is size shop floor room names hears late =
    let it = takes.1 in
    let at : ℕ = takes.0 in
    let one : ℕ × Job = (it.id, it.job) in
    let known = subst (λ (r : Result (ℕ × Fate) OutOfMemory). IfOk r (λ a. a.0 ≡ it.id)) is it.number in
    let told = subst (λ (r : Result (ℕ × Fate) OutOfMemory). IfOk r (λ a. TellsFate mid.told it.job a.1)) is it.fate in
    let can = can_hear members facts first here start mid earlier at one late it.ran in
    let parts = parts_of members facts (on_floor here (floor_ended first.floor late.ends)) mid late.abreast in
    let own = all_at (λ o. IsJobOf members facts o.0 o.1) mid.running at one parts.own it.ran in
    let there = ap (slice_get here.names.items) known ∙ can.1 own in
    let left : (place : ℕ) → place ≢ it.id → slice_get now.names.items place ≡ slice_get here.names.items place =
    λ place apart. ap (λ (l : List (Option Pkg)). slice_get l place) names ∙ get_other here.names.items id place None (λ same. apart (same ∙ known)) in
    with_heard members facts first here now start mid after earlier answer late at one fate it.ran it.left it.ended size shop told floor (omega (arith, room)) left (hears own.built.package.pkg there)

-- an end of which it is not
pub late_err : (members : List Member) (facts : Facts) (first here : Jobs) (start mid after : CrewState) (earlier answer : Result Unit OutOfMemory) (result : Result (ℕ × Fate) OutOfMemory)
    → TakesOne mid.told mid.running after.running mid.events after.events result → OnOk answer ⊥ → after.size ≡ mid.size → after.told ≡ mid.told
    → AreLate members facts first here start mid earlier → AreLate members facts first here start after (both_answer earlier answer)
late_err members facts first here start mid after earlier answer result takes lost size shop late =
    let it = takes.1 in
    with_lost members facts first here here start mid after earlier answer late takes.0 (it.id, it.job) (some_fate mid.told it.job) it.ran it.left it.ended size shop (some_fate_tells mid.told it.job) refl (omega arith) (λ place apart. refl) refl lost

-- nothing is late yet
pub none_late : (members : List Member) (facts : Facts) (jobs : Jobs) (crew : CrewState) (answer : Result Unit OutOfMemory) → IsAbreast members facts jobs crew → AreLate members facts jobs jobs crew crew answer
none_late members facts jobs crew answer is = record {
  ends = [];
  ran = tt;
  same = refl;
  abreast = abreast_of members facts (on_floor jobs jobs.floor) crew (parts_of members facts jobs crew is);
  told = All-nil (EndIsTold members facts crew.told);
  shop = refl;
  events = sym (append-nil crew.events);
  more = [];
  heard = sym (append-nil jobs.heard.items);
  some = none_left;
  all = by answer;
}
  where
    by : (first : Result Unit OutOfMemory) → OnOk first ([] ≡ heard_in members (end_events []))
    by (Ok done) = refl
    by (Err refused) = tt

-- ---- over

late_leads : (rule : Rule) (decisions : List Decision) (floor : FloorState) (ends : List (ℕ × Fate)) → AllRan floor ends → (last : Moment) × Leads floor.plan floor.workers rule (moment_of decisions floor) (end_events ends) last
late_leads rule decisions floor [] ran = (moment_of decisions floor, refl)
late_leads rule decisions floor (end ∷ ends) ran =
    let rest = late_leads rule decisions (with_job floor end.0 (Ended end.1)) ends ran.1 in (rest.0, (ran.0, rest.1))

only : (ends : List (ℕ × Fate)) → All IsEnd (end_events ends)
only [] = All-nil IsEnd
only (end ∷ ends) = All-cons IsEnd (Ends end.0 end.1) (end_events ends) tt (only ends)

pub is_over : (members : List Member) (facts : Facts) (rule : Rule) (decisions : List Decision) (before now : Jobs) (crew after : CrewState) (answer : Result Unit OutOfMemory)
    → IsCourse members facts rule decisions before crew → AreLate members facts before now crew after answer → after.running ≡ [] → IsOver members facts rule decisions now after answer
is_over members facts rule decisions before now crew after answer is late idle =
    let gone = late_leads rule decisions before.floor late.ends late.ran in
    let heard : now.heard.items ≡ heard_in members is.course ++ late.more = late.heard ∙ ap (λ (l : List Heard). l ++ late.more) is.heard in
    let whole : heard_in members (is.course ++ end_events late.ends) ≡ heard_in members is.course ++ heard_in members (end_events late.ends) = flat_map-append (heard_of members) is.course (end_events late.ends) in
    record {
      course = is.course;
      late = end_events late.ends;
      leads = subst (λ (f : FloorState). FromBeginning f.plan f.workers rule is.course (moment_of decisions f)) (sym late.same) is.leads;
      decided = ap (λ (f : FloorState). f.decided) late.same ∙ is.decided;
      in_time = subst (λ (f : FloorState). AreInTime f.plan f.workers rule (first_moment f.plan) is.course) (sym late.same) is.in_time;
      last = gone.0;
      ends = subst (λ (f : FloorState). Leads f.plan f.workers rule (moment_of decisions f) (end_events late.ends) gone.0) (sym late.same) gone.1;
      only_ends = only late.ends;
      idle = idle;
      told = subst (λ (s : Option Told). All (EndIsTold members facts s) (is.course ++ end_events late.ends)) (sym late.shop) (All-append (EndIsTold members facts crew.told) is.course (end_events late.ends) is.told late.told);
      events = late.events ∙ ap (λ (l : List Event). l ++ crew_events (end_events late.ends)) is.events ∙ sym (flat_map-append crew_event is.course (end_events late.ends));
      heard = subst (λ (l : List Heard). AreSome l (heard_in members (is.course ++ end_events late.ends))) (sym heard)
          (subst (λ (l : List Heard). AreSome (heard_in members is.course ++ late.more) l) (sym whole) (some_after (heard_in members is.course) late.some));
      all = on_ok answer (λ all. heard ∙ ap (λ (l : List Heard). heard_in members is.course ++ l) all ∙ sym whole) late.all;
    }

-- there is one fewer that runs
pub one_fewer : (shop : Option Told) (old new : List (ℕ × Job)) (before after : List Event) (result : Result (ℕ × Fate) OutOfMemory) → TakesOne shop old new before after result → length new + 1 ≡ length old
one_fewer shop old new before after result takes =
    let it = takes.1 in
    ap (λ (l : List (ℕ × Job)). length l + 1) it.left ∙ shorter old takes.0 (it.id, it.job) it.ran
