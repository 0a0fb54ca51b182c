-- What a question comes to over its devices.
use Rattle.std.proofs.Common.{◌≡◌, ◌≢◌, ◌⊎◌, inl, inr, ℕ, List, [], Bool, true, false, Option, Some, None, Result, Ok, Err, refl, sym, ◌∙◌, ap, subst, arith}
use Rattle.std.specs.Prelude.{◌<◌, ◌≤◌, ◌++◌, IsFalse, IsTrue, IfOk, length}
use Rattle.std.specs.FinMap.{get}
use Rattle.opam_names.specs.Packages.{pkg_text}
use Rattle.opam_names.specs.declared.packages.Pkg.{Pkg}
use Rattle.opam_filter.specs.Variables.{Values}
use Rattle.opam_names.specs.declared.fault.OutOfMemory.{OutOfMemory}
use Rattle.opam_lint.specs.Linted.{IsLinted}
use Rattle.opam_lint.specs.declared.finding.Finding.{Finding}
use Rattle.opam_package.specs.declared.fault.PackageFault.{PackageFault}
use Rattle.opam_package.specs.declared.limits.TheConstants.{OPAM_LIMIT}
use Rattle.opam_package.specs.declared.package.Member.{Member}
use Rattle.outside_io.specs.Counts.{Files}
use Rattle.outside_io.specs.HostEffects.{HostFails, OnlyReadsHost, has_host_failed}
use Rattle.outside_io.specs.Hosts.{HostTells, IsFound}
use Rattle.outside_io.specs.declared.host.Found.{Found}
use Rattle.outside_io.specs.declared.host.Found.TheVariants as found
use Rattle.outside_io.specs.declared.host.Host as hosts
use Rattle.outside_io.specs.declared.host.HostFault.{HostFault}
use Rattle.outside_io.specs.declared.host.HostFault.TheVariants as host_fault
use Rattle.outside_io.proofs.HostEffects.{host_fails_none, reads_host_none}
use Rattle.owner_map.specs.Owning.{Owning}
use Rattle.crash_disk.specs.Disks.{State, Tree}
use Rattle.crash_disk.specs.declared.disk.Disk as disks
use Rattle.crash_disk.proofs.Effects.{touches_none}
use Rattle.crash_disk.proofs.Stops.{NowIs, stops_off}
use Rattle.switch_journal.specs.Opening.{IsWhileOpening}
use Rattle.switch_journal.proofs.Openings.{none_touched}
use Rattle.switch_state.specs.Recovery.{AreMembersRead, IsDamagedAt}
use Rattle.switch_state.specs.State.{SwitchState}
use Rattle.package_vars.specs.declared.facts.Facts.{Facts}
use Rattle.action_report.specs.Queries.{show_text}
use Rattle.folder_repo.specs.OpamPaths.{path_in_repo}
use Rattle.folder_repo.specs.Repository as repository
use Rattle.folder_repo.specs.Repository.{IsRepoAnswer, RepoTells, has_repo_failed}
use Rattle.folder_repo.specs.declared.fault.RepoFault.{RepoFault}
use Rattle.folder_repo.specs.declared.fault.RepoFault.TheVariants as repo_fault
use Rattle.change_front.specs.Reading as reading
use Rattle.change_front.specs.declared.limits.TheConstants.{READ_LIMIT}
use Rattle.change_front.specs.declared.refusal.Refusal.TheVariants.{BadOpam, NotFound, TooLong}
use Rattle.command_words.specs.declared.command.Query.{Query}
use Rattle.command_words.specs.declared.command.Query.TheVariants as query
use Rattle.command_words.specs.declared.command.Shown.{Shown}
use Rattle.command_words.specs.declared.command.Shown.TheVariants.{Exact, Name}
use Rattle.run_answers.specs.Opening.{Causes, OpensClaiming, SaysDamage}
use Rattle.run_answers.specs.Stops.{IsStopFor, damage_stop, refusal_stop}
use Rattle.run_answers.specs.declared.end.Answer.{Answer}
use Rattle.run_answers.specs.declared.opening.Opened.{Opened}
use Rattle.run_answers.specs.declared.stop.Stop.{Stop}
use Rattle.run_answers.specs.declared.stop.Stop.TheVariants.{DiskFailed, HostFailed, Locked, Memory, Refused}
use Rattle.opam_queries.specs.Asking.{AfterOpening, Asks, AsksHost, IsGivenOf, IsLintOf, LintsBytes, ListsAfter, OrMemory, Replies, UnlessCut, is_host_stop, opens_switch}
use Rattle.opam_queries.specs.Replies.{Answered, IsAvailable, IsLintAnswer, IsNotInstalled, IsOpened, IsReply, IsShown, absent, asked_entry, installed_answer, lint_answer, linted, lints, list_answer, list_damaged, lists, no_file, nothing_found, owning_of, present, refused, run_globals, show_damaged, shows, told_answer, too_long}

-- ---- what is given, or want of memory in its place

-- it is no stop of a device, and the switch was not locked
record IsPlain (answer : Answered) : Type 0 where
  host : is_host_stop answer ≡ false
  disk : answer ≢ Err DiskFailed
  held : answer ≢ Err Locked

plain_ok : (answer : Answer) → IsPlain (Ok answer)
plain_ok answer = record { host = refl; disk = λ is. absurd (cc); held = λ is. absurd (cc) }

plain_refused : (cause : _) (text : List ℕ) → IsPlain (Err (Refused cause text))
plain_refused cause text = record { host = refl; disk = λ is. absurd (cc); held = λ is. absurd (cc) }

plain_memory : IsPlain (Err Memory)
plain_memory = record { host = refl; disk = λ is. absurd (cc); held = λ is. absurd (cc) }

plain_or : (expected answer : Answered) → OrMemory expected answer → IsPlain expected → IsPlain answer
plain_or expected answer (inl is) plain = subst IsPlain (sym is) plain
plain_or expected answer (inr is) plain = subst IsPlain (sym is) plain_memory

unless_or : (P : Answered → Type 0) (expected answer : Answered) → OrMemory expected answer → UnlessCut P expected → UnlessCut P answer
unless_or P expected answer (inl is) there = subst (UnlessCut P) (sym is) there
unless_or P expected answer (inr is) there = subst (UnlessCut P) (sym is) tt

unless_map : (P Q : Answered → Type 0) → ((answer : Answered) → P answer → Q answer) → (answer : Answered) → UnlessCut P answer → UnlessCut Q answer
unless_map P Q more (Ok answer) is = more (Ok answer) is
unless_map P Q more (Err (Refused cause text)) is = more (Err (Refused cause text)) is
unless_map P Q more (Err Locked) is = tt
unless_map P Q more (Err HostFailed) is = tt
unless_map P Q more (Err DiskFailed) is = tt
unless_map P Q more (Err Memory) is = tt

pub refused_or : (expected stop : Stop) → IsStopFor expected stop → OrMemory (Err expected) (Err stop)
refused_or expected stop (inl is) = inl (ap Err is)
refused_or expected stop (inr is) = inr (ap Err is)

-- ---- the host alone

module _ {H : Type 0} {h : hosts.Ghosts H} where
  asks_plain : (P : Files → Answered → Type 0) (answer : Answered) {a b : H} → OnlyReadsHost h a b → HostFails h false a b → IsPlain answer
      → ((files : Files) → h.files a ≡ Some files → UnlessCut (P files) answer) → AsksHost h P a b answer
  asks_plain P answer {a} {b} reads fails plain told = record {
    reads = reads;
    fails = subst (λ (failed : Bool). HostFails h failed a b) (sym plain.host) fails;
    disk = plain.disk;
    held = plain.held;
    told = told;
  }

  asks_or : (P : Files → Answered → Type 0) (expected answer : Answered) {a b : H} → OnlyReadsHost h a b → HostFails h false a b → IsPlain expected → OrMemory expected answer
      → ((files : Files) → h.files a ≡ Some files → UnlessCut (P files) expected) → AsksHost h P a b answer
  asks_or P expected answer reads fails plain either told =
      asks_plain P answer reads fails (plain_or expected answer either plain) (λ files is. unless_or (P files) expected answer either (told files is))

  asks_stop : (P : Files → Answered → Type 0) (answer : Answered) {a b : H} → OnlyReadsHost h a b → HostFails h true a b → answer ≡ Err HostFailed → AsksHost h P a b answer
  asks_stop P answer {a} {b} reads fails is = subst (AsksHost h P a b) (sym is) (record {
    reads = reads;
    fails = fails;
    disk = λ same. absurd (cc);
    held = λ same. absurd (cc);
    told = λ files told. tt;
  })

  asks_memory : (P : Files → Answered → Type 0) (answer : Answered) {a b : H} → OnlyReadsHost h a b → HostFails h false a b → answer ≡ Err Memory → AsksHost h P a b answer
  asks_memory P answer {a} {b} reads fails is = subst (AsksHost h P a b) (sym is) (asks_plain P (Err Memory) reads fails plain_memory (λ files told. tt))

  -- no call of the host was made
  asks_nothing : (P : Files → Answered → Type 0) (expected answer : Answered) (a : H) → IsPlain expected → OrMemory expected answer
      → ((files : Files) → UnlessCut (P files) expected) → AsksHost h P a a answer
  asks_nothing P expected answer a plain either told = asks_or P expected answer (reads_host_none a) (host_fails_none a) plain either (λ files is. told files)

-- ---- lint

lint_absent : (file : List ℕ) (stands : Option (List ℕ)) (limit : ℕ) → IsFound stands limit found.Absent → IsLintAnswer file stands (nothing_found file)
lint_absent file None limit is = no_file
lint_absent file (Some bytes) limit is = absurd is

lint_long : (file : List ℕ) (stands : Option (List ℕ)) → IsFound stands OPAM_LIMIT found.TooLong → IsLintAnswer file stands (Err (refusal_stop (TooLong file)))
lint_long file None is = absurd (let e : found.TooLong ≡ found.Absent = is in cc)
lint_long file (Some bytes) is = too_long is

lint_there : (file bytes : List ℕ) (stands : Option (List ℕ)) (limit : ℕ) (answer : Answered) → IsFound stands limit (found.Bytes bytes) → UnlessCut (IsLintAnswer file (Some bytes)) answer → UnlessCut (IsLintAnswer file stands) answer
lint_there file bytes None limit answer is given = absurd (let e : found.Bytes bytes ≡ found.Absent = is in cc)
lint_there file bytes (Some there) limit answer is given = subst (λ (bs : List ℕ). UnlessCut (IsLintAnswer file (Some bs)) answer) is.0 given

module _ {H : Type 0} {h : hosts.Ghosts H} where
  pub asks_lint : (file : List ℕ) (seen : Result Found HostFault) (answer : Answered) {a b : H} → OnlyReadsHost h a b → HostFails h (has_host_failed seen) a b
      → HostTells (h.files a) file OPAM_LIMIT seen → IsLintOf file seen answer → AsksHost h (λ files. IsLintAnswer file (get files file)) a b answer
  asks_lint file (Ok found.Absent) answer reads fails tells given =
      asks_or (λ files. IsLintAnswer file (get files file)) (nothing_found file) answer reads fails (plain_refused _ _) given (λ files is. lint_absent file (get files file) OPAM_LIMIT (tells files is))
  asks_lint file (Ok found.TooLong) answer reads fails tells given =
      asks_or (λ files. IsLintAnswer file (get files file)) (Err (refusal_stop (TooLong file))) answer reads fails (plain_refused _ _) given (λ files is. lint_long file (get files file) (tells files is))
  asks_lint file (Ok (found.Bytes bytes)) answer reads fails tells given =
      asks_plain (λ files. IsLintAnswer file (get files file)) answer reads fails (record { host = given.host; disk = given.disk; held = given.held }) (λ files is. lint_there file bytes (get files file) OPAM_LIMIT answer (tells files is) given.is)
  asks_lint file (Err host_fault.Failed) answer reads fails tells given = asks_stop (λ files. IsLintAnswer file (get files file)) answer reads fails given
  asks_lint file (Err host_fault.Memory) answer reads fails tells given = asks_memory (λ files. IsLintAnswer file (get files file)) answer reads fails given

-- what is given for bytes
pub lints_long : (file bytes : List ℕ) (answer : Answered) → OPAM_LIMIT < length bytes → OrMemory (Err (refusal_stop (TooLong file))) answer → LintsBytes file bytes answer
lints_long file bytes answer long either =
    let plain = plain_or (Err (refusal_stop (TooLong file))) answer either (plain_refused _ _) in
    record { is = unless_or (IsLintAnswer file (Some bytes)) (Err (refusal_stop (TooLong file))) answer either (too_long long); host = plain.host; disk = plain.disk; held = plain.held }

pub lints_well : (file bytes : List ℕ) (answer : Answer) → IsLintAnswer file (Some bytes) (Ok answer) → LintsBytes file bytes (Ok answer)
lints_well file bytes answer is = let plain = plain_ok answer in record { is = is; host = plain.host; disk = plain.disk; held = plain.held }

pub lints_not : (file bytes : List ℕ) → LintsBytes file bytes (Err Memory)
lints_not file bytes = let plain = plain_memory in record { is = tt; host = plain.host; disk = plain.disk; held = plain.held }

-- ---- show

none_stands : (globals : Values) (repo : List ℕ) (pkg : Pkg) (room : ℕ) (stands : Option (List ℕ)) → IsRepoAnswer pkg room globals stands (Ok None) → IsAvailable globals repo pkg stands (nothing_found (pkg_text pkg))
none_stands globals repo pkg room stands repository.absent = absent

one_stands : (globals : Values) (repo : List ℕ) (pkg : Pkg) (stands : Option (List ℕ)) (member : Member) → IsRepoAnswer pkg READ_LIMIT globals stands (Ok (Some member)) → IsAvailable globals repo pkg stands (Ok (told_answer (show_text member None)))
one_stands globals repo pkg stands member (repository.present is) = present is

long_stands : (globals : Values) (repo : List ℕ) (pkg : Pkg) (stands : Option (List ℕ)) → IsRepoAnswer pkg READ_LIMIT globals stands (Err repo_fault.TooLong)
    → IsAvailable globals repo pkg stands (Err (refusal_stop (TooLong (path_in_repo repo pkg))))
long_stands globals repo pkg stands (repository.refused is) = refused (reading.too_long is)

bad_stands : (globals : Values) (repo : List ℕ) (pkg : Pkg) (fault : PackageFault) (stands : Option (List ℕ)) → IsRepoAnswer pkg READ_LIMIT globals stands (Err (repo_fault.Package fault))
    → IsAvailable globals repo pkg stands (Err (refusal_stop (BadOpam (path_in_repo repo pkg) fault)))
bad_stands globals repo pkg fault stands (repository.refused is) = refused (reading.faulty is)

module _ {H : Type 0} {h : hosts.Ghosts H} (globals : Values) (repo : List ℕ) (pkg : Pkg) where
  pub asks_available : (seen : Result (Option Member) RepoFault) (answer : Answered) {a b : H} → OnlyReadsHost h a b → HostFails h (has_repo_failed seen) a b
      → RepoTells (h.files a) repo pkg READ_LIMIT globals seen → IsGivenOf repo pkg seen answer → AsksHost h (λ files. IsAvailable globals repo pkg (get files (path_in_repo repo pkg))) a b answer
  asks_available (Ok None) answer reads fails tells given =
      asks_or (λ files. IsAvailable globals repo pkg (get files (path_in_repo repo pkg))) (nothing_found (pkg_text pkg)) answer reads fails (plain_refused _ _) given
      (λ files is. none_stands globals repo pkg READ_LIMIT (get files (path_in_repo repo pkg)) (tells files is))
  asks_available (Ok (Some member)) answer reads fails tells given =
      asks_or (λ files. IsAvailable globals repo pkg (get files (path_in_repo repo pkg))) (Ok (told_answer (show_text member None))) answer reads fails (plain_ok _) given
      (λ files is. one_stands globals repo pkg (get files (path_in_repo repo pkg)) member (tells files is))
  asks_available (Err repo_fault.HostFailed) answer reads fails tells given = asks_stop (λ files. IsAvailable globals repo pkg (get files (path_in_repo repo pkg))) answer reads fails given
  asks_available (Err repo_fault.TooLong) answer reads fails tells given =
      asks_or (λ files. IsAvailable globals repo pkg (get files (path_in_repo repo pkg))) (Err (refusal_stop (TooLong (path_in_repo repo pkg)))) answer reads fails (plain_refused _ _) given
      (λ files is. long_stands globals repo pkg (get files (path_in_repo repo pkg)) (tells files is))
  asks_available (Err (repo_fault.Package fault)) answer reads fails tells given =
      asks_or (λ files. IsAvailable globals repo pkg (get files (path_in_repo repo pkg))) (Err (refusal_stop (BadOpam (path_in_repo repo pkg) fault))) answer reads fails (plain_refused _ _) given
      (λ files is. bad_stands globals repo pkg fault (get files (path_in_repo repo pkg)) (tells files is))
  asks_available (Err repo_fault.Memory) answer reads fails tells given = asks_memory (λ files. IsAvailable globals repo pkg (get files (path_in_repo repo pkg))) answer reads fails given

-- room is no part of what is shown
same_shown : (member : Member) (state : SwitchState) (owners : Owning) → owners.owned ≡ state.owned → show_text member (Some owners) ≡ show_text member (Some (owning_of state))
same_shown member state owners same = ap (λ owned. show_text member (Some (record { owned = owned; spare = 0 }))) same

module _ {H : Type 0} {h : hosts.Ghosts H} where
  pub asks_entry : (globals : Values) (repo : List ℕ) (state : SwitchState) (what : Shown) (member : Member) (entry : Option Member) (owners : Owning) (answer : Answered) (a : H) → entry ≡ Some member → owners.owned ≡ state.owned
      → OrMemory (Ok (told_answer (show_text member (Some owners)))) answer → AsksHost h (λ files. IsShown files globals repo state what entry) a a answer
  asks_entry globals repo state what member entry owners answer a is same either =
      subst (λ (e : Option Member). AsksHost h (λ files. IsShown files globals repo state what e) a a answer) (sym is)
      (asks_nothing (λ files. IsShown files globals repo state what (Some member)) (Ok (told_answer (show_text member (Some owners)))) answer a (plain_ok _) either
      (λ files. ap (λ text. Ok (told_answer text)) (same_shown member state owners same)))

  pub asks_none : (globals : Values) (repo : List ℕ) (state : SwitchState) (what : Shown) (entry : Option Member) (answer : Answered) {a b : H} → entry ≡ None
      → AsksHost h (λ files. IsNotInstalled files globals repo what) a b answer → AsksHost h (λ files. IsShown files globals repo state what entry) a b answer
  asks_none globals repo state what entry answer {a} {b} is asks = subst (λ (e : Option Member). AsksHost h (λ files. IsShown files globals repo state what e) a b answer) (sym is) asks

module _ {H : Type 0} {h : hosts.Ghosts H} where
  pub asks_name : (globals : Values) (repo name : List ℕ) (what : Shown) (answer : Answered) (a : H) → what ≡ Name name → OrMemory (nothing_found name) answer
      → AsksHost h (λ files. IsNotInstalled files globals repo what) a a answer
  asks_name globals repo name what answer a is either =
      subst (λ (w : Shown). AsksHost h (λ files. IsNotInstalled files globals repo w) a a answer) (sym is)
      (asks_nothing (λ files. IsNotInstalled files globals repo (Name name)) (nothing_found name) answer a (plain_refused _ _) either (λ files. refl))

  pub asks_exact : (globals : Values) (repo : List ℕ) (pkg : Pkg) (what : Shown) (answer : Answered) {a b : H} → what ≡ Exact pkg
      → AsksHost h (λ files. IsAvailable globals repo pkg (get files (path_in_repo repo pkg))) a b answer → AsksHost h (λ files. IsNotInstalled files globals repo what) a b answer
  asks_exact globals repo pkg what answer {a} {b} is asks = subst (λ (w : Shown). AsksHost h (λ files. IsNotInstalled files globals repo w) a b answer) (sym is) asks

-- ---- all devices

module _ {H : Type 0} {h : hosts.Ghosts H} where
  causes_host : (P : Files → Answered → Type 0) (answer : Answered) {a b : H} → AsksHost h P a b answer → Causes HostFailed (h.faults a) (h.faults b) answer
  causes_host P answer {a} {b} asks = record { later = asks.reads.later; rose = λ is. asks.fails.rose (ap is_host_stop is); same = λ apart. asks.fails.still (unstopped answer apart) }
    where
      unstopped : (answer : Answered) → answer ≢ Err HostFailed → IsFalse (is_host_stop answer)
      unstopped (Ok answer) apart = refl
      unstopped (Err (Refused cause text)) apart = refl
      unstopped (Err Locked) apart = refl
      unstopped (Err HostFailed) apart = absurd (apart refl)
      unstopped (Err DiskFailed) apart = refl
      unstopped (Err Memory) apart = refl

unless_damaged : (P : Answered → Type 0) (tree : Tree) (stop : Stop) → ((path : List ℕ) → IsDamagedAt tree path → P (Err (damage_stop path))) → SaysDamage {T = Opened} tree (Err stop) → UnlessCut P (Err stop)
unless_damaged P tree (Refused cause text) damaged says = subst (λ (s : Stop). P (Err s)) (sym says.2) (damaged says.0 says.1)
unless_damaged P tree Locked damaged says = tt
unless_damaged P tree HostFailed damaged says = tt
unless_damaged P tree DiskFailed damaged says = tt
unless_damaged P tree Memory damaged says = tt

opened_not : (opened : Opened) (stop : Stop) → Ok opened ≡ Err stop → ⊥
opened_not opened stop is = absurd (cc)

abbrev stopped : (T : Type 0) → Stop → Result T Stop
stopped T stop = Err stop

stop_is : {T : Type 0} (one other : Stop) → stopped T one ≡ stopped T other → one ≡ other
stop_is one other is = let e : Err one ≡ Err other = is in cc

module _ {H D : Type 0} {h : hosts.Ghosts H} {d : disks.Ghosts D} where
  -- the switch is not looked at
  asks_aside : NowIs d → (P : Files → Answered → Type 0) (Q : Files → Tree → Option State → Answered → Type 0) (answer : Answered) (disk : D) {a b : H} → AsksHost h P a b answer
      → ((files : Files) (tree : Tree) (told : Option State) (answer : Answered) → P files answer → Q files tree told answer) → Asks h d Q false a b disk disk answer
  asks_aside now_is P Q answer disk asks more = record {
    reads = asks.reads;
    host = causes_host P answer asks;
    disk = record { later = omega arith; rose = λ is. absurd (asks.disk is); same = λ apart. refl };
    held = record { later = omega arith; rose = λ is. absurd (asks.held is); same = λ apart. refl };
    taken = λ is. absurd (cc);
    idle = λ is. refl;
    locked = λ is. absurd (asks.held is);
    touches = λ apart. none_touched (touches_none [] disk);
    crash = λ s is. stops_off now_is (IsWhileOpening s) [] s is (touches_none [] disk) (λ image off. inl (λ q firm. off q refl firm));
    told = λ files s files_is is. unless_map (P files) (Q files s.files (d.told disk)) (more files s.files (d.told disk)) answer (asks.told files files_is);
  }

  asks_unopened : (Q : Files → Tree → Option State → Answered → Type 0) (globals : Values) (stop : Stop) (host : H) {a b : D} → OpensClaiming d globals a b (Err stop)
      → ((files : Files) (tree : Tree) (told : Option State) (path : List ℕ) → IsDamagedAt tree path → Q files tree told (Err (damage_stop path))) → Asks h d Q true host host a b (Err stop)
  asks_unopened Q globals stop host {a} {b} opening damaged = record {
    reads = reads_host_none host;
    host = record { later = omega arith; rose = λ is. absurd (opening.host (ap Err (stop_is stop HostFailed is))); same = λ apart. refl };
    disk = record { later = opening.disk.later; rose = λ is. opening.disk.rose (ap Err (stop_is stop DiskFailed is)); same = λ apart. opening.disk.same (λ is. apart (ap Err (stop_is stop DiskFailed is))) };
    held = record { later = opening.held.later; rose = λ is. opening.held.rose (ap Err (stop_is stop Locked is)); same = λ apart. opening.held.same (λ is. apart (ap Err (stop_is stop Locked is))) };
    taken = λ yes. λ taken is apart.
        let both = opening.taken taken is (λ same. apart (ap Err (stop_is stop DiskFailed same))) in
        (λ e. both.0 (ap Err (stop_is stop Locked e)), λ t. ap Err (stop_is stop Locked (both.1 t)));
    idle = λ is. absurd (cc);
    locked = λ is. opening.locked (ap Err (stop_is stop Locked is));
    touches = λ apart. opening.touches (λ is. apart (ap Err (stop_is stop Locked is)));
    crash = opening.crash;
    told = λ files s files_is is. unless_damaged (Q files s.files (d.told b)) s.files stop (damaged files s.files (d.told b)) (opening.damaged s is);
  }

  asks_opened : (facts : Facts) (P : Files → Answered → Type 0) (Q : Files → Tree → Option State → Answered → Type 0) (opened : Opened) (answer : Answered) {ha hb : H} {a b : D}
      → OpensClaiming d (run_globals facts) a b (Ok opened) → AsksHost h P ha hb answer
      → ((files : Files) (tree : Tree) (told : Option State) (answer : Answered) → IsOpened facts tree told opened.switch → P files answer → Q files tree told answer) → Asks h d Q true ha hb a b answer
  asks_opened facts P Q opened answer {ha} {hb} {a} {b} opening asks more = record {
    reads = asks.reads;
    host = causes_host P answer asks;
    disk = record { later = opening.disk.later; rose = λ is. absurd (asks.disk is); same = λ apart. opening.disk.same (λ is. absurd (cc)) };
    held = record { later = opening.held.later; rose = λ is. absurd (asks.held is); same = λ apart. opening.held.same (λ is. absurd (cc)) };
    taken = λ yes. λ taken is apart.
        let both = opening.taken taken is (λ same. absurd (cc)) in
        (λ e. absurd (asks.held e), λ t. absurd (opened_not opened Locked (both.1 t)));
    idle = λ is. absurd (cc);
    locked = λ is. absurd (asks.held is);
    touches = λ apart. opening.touches (λ is. absurd (cc));
    crash = opening.crash;
    told = λ files s files_is is.
        let opens : IsOpened facts s.files (d.told b) opened.switch = record {
          opens = opening.stands s is;
          members = subst (λ (globals : Values). AreMembersRead globals opened.switch.state) opening.under opening.members;
        } in
        unless_map (P files) (Q files s.files (d.told b)) (λ answer. more files s.files (d.told b) answer opens) answer (asks.told files files_is);
  }

  -- `list`
  asks_list : (facts : Facts) (opening : Result Opened Stop) (answer : Answered) (host : H) {a b : D} → OpensClaiming d (run_globals facts) a b opening → ListsAfter opening answer
      → Asks h d (Replies query.List facts) true host host a b answer
  asks_list facts (Ok opened) answer host opening either =
      asks_opened facts (λ files answer. answer ≡ Ok (list_answer opened.switch.state)) (Replies query.List facts) opened answer opening
      (asks_nothing (λ files answer. answer ≡ Ok (list_answer opened.switch.state)) (Ok (list_answer opened.switch.state)) answer host (plain_ok _) either (λ files. refl))
      (λ files tree told answer opens is. subst (Replies query.List facts files tree told) (sym is) (lists opens))
  asks_list facts (Err stop) answer host {a} {b} opening is =
      subst (Asks h d (Replies query.List facts) true host host a b) (sym is) (asks_unopened (Replies query.List facts) (run_globals facts) stop host opening (λ files tree told path damaged. list_damaged damaged))

  -- `show`
  asks_show : (facts : Facts) (repo : List ℕ) (what : Shown) (opening : Result Opened Stop) (answer : Answered) {ha hb : H} {a b : D} → OpensClaiming d (run_globals facts) a b opening
      → AfterOpening h (λ opened files. IsShown files opened.globals repo opened.switch.state what (asked_entry what opened.switch.state.members)) opening ha hb answer
      → Asks h d (Replies (query.Show repo what) facts) true ha hb a b answer
  asks_show facts repo what (Ok opened) answer opening asks =
      asks_opened facts (λ files. IsShown files opened.globals repo opened.switch.state what (asked_entry what opened.switch.state.members)) (Replies (query.Show repo what) facts) opened answer opening asks
      (λ files tree told answer opens shown. shows opens (subst (λ (globals : Values). IsShown files globals repo opened.switch.state what (asked_entry what opened.switch.state.members) answer) opening.under shown))
  asks_show facts repo what (Err stop) answer {ha} {hb} {a} {b} opening both =
      subst (λ (x : Answered). Asks h d (Replies (query.Show repo what) facts) true ha hb a b x) (sym both.0)
      (subst (λ (x : H). Asks h d (Replies (query.Show repo what) facts) true ha x a b (Err stop)) (sym both.1) (asks_unopened (Replies (query.Show repo what) facts) (run_globals facts) stop ha opening (λ files tree told path damaged. show_damaged damaged)))

  -- each question by its own
  pub asks_for_list : (asked : Query) (facts : Facts) (opening : Result Opened Stop) (answer : Answered) (host : H) {a b : D} → asked ≡ query.List → OpensClaiming d (run_globals facts) a b opening
      → ListsAfter opening answer → Asks h d (Replies asked facts) (opens_switch asked) host host a b answer
  asks_for_list asked facts opening answer host {a} {b} is opens given =
      subst (λ (q : Query). Asks h d (Replies q facts) (opens_switch q) host host a b answer) (sym is) (asks_list facts opening answer host opens given)

  pub asks_for_show : (asked : Query) (facts : Facts) (repo : List ℕ) (what : Shown) (opening : Result Opened Stop) (answer : Answered) {ha hb : H} {a b : D} → asked ≡ query.Show repo what
      → OpensClaiming d (run_globals facts) a b opening
      → AfterOpening h (λ opened files. IsShown files opened.globals repo opened.switch.state what (asked_entry what opened.switch.state.members)) opening ha hb answer
      → Asks h d (Replies asked facts) (opens_switch asked) ha hb a b answer
  asks_for_show asked facts repo what opening answer {ha} {hb} {a} {b} is opens given =
      subst (λ (q : Query). Asks h d (Replies q facts) (opens_switch q) ha hb a b answer) (sym is) (asks_show facts repo what opening answer opens given)

  pub asks_for_lint : NowIs d → (asked : Query) (facts : Facts) (file : List ℕ) (answer : Answered) (disk : D) {ha hb : H} → asked ≡ query.Lint file
      → AsksHost h (λ files. IsLintAnswer file (get files file)) ha hb answer → Asks h d (Replies asked facts) (opens_switch asked) ha hb disk disk answer
  asks_for_lint now_is asked facts file answer disk {ha} {hb} is asks =
      subst (λ (q : Query). Asks h d (Replies q facts) (opens_switch q) ha hb disk disk answer) (sym is)
      (asks_aside now_is (λ files. IsLintAnswer file (get files file)) (Replies (query.Lint file) facts) answer disk asks (λ files tree told answer is. lints is))

-- each way out of what is given for bytes
pub ruleset lint_steps = (lints_long, lints_well, lints_not)

-- what is found in bytes that are not too long
pub lints_within : (file bytes : List ℕ) (findings : List Finding) (answer : Result Answer OutOfMemory) → length bytes ≤ OPAM_LIMIT → IsLinted bytes findings → IfOk answer (λ a. a ≡ lint_answer file findings)
    → IfOk answer (λ a. IsLintAnswer file (Some bytes) (Ok a))
lints_within file bytes findings (Ok a) short found is = subst (λ (x : Answer). IsLintAnswer file (Some bytes) (Ok x)) (sym is) (linted short found)
lints_within file bytes findings (Err e) short found is = tt
