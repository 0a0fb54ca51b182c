-- A switch is claimed, then opened.
use Rattle.std.proofs.Common.{◌≡◌, ◌≢◌, inl, inr, ℕ, [], Option, Some, IfSome, Result, Ok, Err, refl, sym, ◌∙◌, ap, subst, arith}
use Rattle.std.specs.Prelude.{◌<◌, IfOk}
use Rattle.std.proofs.lemmas.Bool.{cases_lt}
use Rattle.outside_io.specs.Counts.{last_count}
use Rattle.outside_io.specs.declared.sink.Failed.{Failed}
use Rattle.crash_disk.specs.Disks.{ClaimGives, Elapses, IsImage, State, Tree}
use Rattle.crash_disk.specs.Effects.{Advances, Fails, OnlyReads}
use Rattle.crash_disk.specs.Stops.{StopsLeave}
use Rattle.crash_disk.specs.Writes.{paths_of}
use Rattle.crash_disk.specs.declared.disk.Claim.{Claim}
use Rattle.crash_disk.specs.declared.disk.Claim.TheVariants.{Held, Mine}
use Rattle.crash_disk.specs.declared.disk.Disk.{Ghosts}
use Rattle.crash_disk.proofs.Effects.{touches_none, touches_reading, touches_then}
use Rattle.crash_disk.proofs.Stops.{NowIs, stops_then}
use Rattle.opam_filter.specs.Variables.{Values}
use Rattle.switch_journal.specs.Opening.{IsWhileOpening, TouchesLast}
use Rattle.switch_journal.proofs.Openings.{none_touched}
use Rattle.switch_state.specs.Recovery.{AreMembersRead, FailsRecovery, OpensSwitch, TellsDamage}
use Rattle.switch_state.specs.State.{Now}
use Rattle.switch_state.specs.WellFormed.{IsWellFormed}
use Rattle.switch_state.specs.declared.fault.SwitchFault.{SwitchFault}
use Rattle.switch_state.specs.declared.fault.SwitchFault.TheVariants as fault
use Rattle.run_answers.specs.Opening.{Causes, Claims, IsGivenFor, OnlyClaims, Opens, OpensClaiming, SaysDamage}
use Rattle.run_answers.specs.Stops.{damage_stop}
use Rattle.run_answers.specs.declared.opening.Opened.{Opened}
use Rattle.run_answers.specs.declared.stop.Stop.{Stop}
use Rattle.run_answers.specs.declared.stop.Stop.TheVariants.{DiskFailed, HostFailed, Locked, Memory}

abbrev Has : Option State → Tree → Type 0
Has told image = IfSome told (λ s. IsImage s image)

abbrev Time : {D : Type 0} → Ghosts D → D → D → Type 0
Time g old new = Elapses (g.moment old) (g.moment new) (g.past old) (g.past new) (g.told new)

causes_after : {T : Type 0} (stop : Stop) (a b c : ℕ) (result : Result T Stop) → b ≡ a → Causes stop b c result → Causes stop a c result
causes_after stop a b c result same causes = subst (λ (n : ℕ). Causes stop n c result) same causes

module _ {D : Type 0} {g : Ghosts D} where
  -- ---- the claim

  pub claims_one : {old new : D} (result : Result Claim Failed) → Fails g old new result → ClaimGives (g.held old) (g.held new) (g.taken old) result
      → g.taken new ≡ g.taken old → g.told new ≡ g.told old → Time g old new → Claims g old new result
  claims_one {old} {new} result cause held taken same time = record {
    cause = cause;
    held = held;
    only = record {
      later = time.later;
      keeps = λ t le short. time.keeps t le (let later = time.later in omega (arith, later, short));
      taken = taken;
      same = same;
      each = λ short t after until.
          let clock = time.clock in let later = time.later in
          let now_is : g.past new (g.moment new) ≡ g.told new = time.newest (omega (arith, later, short)) in
          let here : t ≡ g.moment new = omega (arith, clock, later, after, until, short) in
          ap (g.past new) here ∙ now_is ∙ same;
    };
  }

  only_reads : {a b : D} → OnlyClaims g a b → g.held b ≡ g.held a → OnlyReads g a b
  only_reads only held = record {
    goes = record { later = only.later; keeps = only.keeps; held = held; taken = only.taken };
    same = only.same;
    each = only.each;
  }

  -- a stop while the disk is claimed leaves what one before might have left
  claim_stops : NowIs g → {a b : D} → OnlyClaims g a b → (s : State) → g.told a ≡ Some s → StopsLeave g (IsWhileOpening s) a b
  claim_stops now_is {a} {b} only s is = record {
    each = λ short image left.
        let later = only.later in
        let before : g.moment a < last_count = omega (arith, later, short) in
        elim (cases_lt (g.moment a) left.0) [
          | inr le ↦
              let first : left.0 ≡ g.moment a = omega (arith, le, left.1) in
              let same : g.past b left.0 ≡ Some s = ap (g.past b) first ∙ only.keeps (g.moment a) (omega arith) short ∙ now_is a before ∙ is in
              inl (subst (λ (o : Option State). Has o image) same left.3)
          | inl after ↦
              let same : g.past b left.0 ≡ Some s = only.each short left.0 after left.2 ∙ is in
              inl (subst (λ (o : Option State). Has o image) same left.3)
        ];
  }

  -- nothing was done
  only_nothing : (d : D) → OnlyClaims g d d
  only_nothing d = record { later = omega arith; keeps = λ t le short. refl; taken = refl; same = refl; each = λ short t after until. absurd (omega arith) }

  -- ---- after the claim

  pub opens_starved : NowIs g → (globals : Values) (d : D) → Opens g globals d d (Err Memory)
  opens_starved now_is globals d = record {
    disk = record { later = omega arith; rose = λ is. absurd (cc); same = λ apart. refl };
    unlocked = λ is. absurd (cc);
    host = λ is. absurd (cc);
    touches = none_touched (touches_none [] d);
    under = tt;
    stands = λ s is. tt;
    formed = tt;
    members = tt;
    commits = tt;
    damaged = λ s is. tt;
    crash = λ s is. claim_stops now_is (only_nothing d) s is;
  }

  opens_not : (globals : Values) (stop : Stop) {a b : D} → Causes {T = Opened} DiskFailed (g.faults a) (g.faults b) (Err stop) → stop ≢ Locked → stop ≢ HostFailed → TouchesLast g a b
      → ((s : State) → g.told a ≡ Some s → SaysDamage {T = Opened} s.files (Err stop)) → ((s : State) → g.told a ≡ Some s → StopsLeave g (IsWhileOpening s) a b)
      → Opens g globals a b (Err stop)
  opens_not globals stop causes unlocked host touches damaged crash = record {
    disk = causes;
    unlocked = λ is. unlocked (cc);
    host = λ is. host (cc);
    touches = touches;
    under = tt;
    stands = λ s is. tt;
    formed = tt;
    members = tt;
    commits = tt;
    damaged = damaged;
    crash = crash;
  }

  -- what a recovery says, and what is given of it
  pub opens_with : (globals : Values) (recovered : Result Now SwitchFault) (given : Result Opened Stop) {a b : D} → IsGivenFor globals recovered given
      → FailsRecovery g a b recovered → TouchesLast g a b
      → ((s : State) → g.told a ≡ Some s → IfOk recovered (λ now. OpensSwitch now s.files (g.told b)))
      → IfOk recovered (λ now. IsWellFormed now.state) → IfOk recovered (λ now. AreMembersRead globals now.state) → IfOk recovered (λ now. now.commits ≡ 0)
      → ((s : State) → g.told a ≡ Some s → TellsDamage recovered s.files) → ((s : State) → g.told a ≡ Some s → StopsLeave g (IsWhileOpening s) a b)
      → Opens g globals a b given
  opens_with globals (Ok now) given {a} {b} is cause touches stands formed members commits damaged crash = subst (Opens g globals a b) (sym is) (record {
    disk = record { later = cause.later; rose = λ is. absurd (cc); same = λ apart. cause.counted };
    unlocked = λ is. absurd (cc);
    host = λ is. absurd (cc);
    touches = touches;
    under = refl;
    stands = stands;
    formed = formed;
    members = members;
    commits = commits;
    damaged = damaged;
    crash = crash;
  })
  opens_with globals (Err fault.DiskFailed) given {a} {b} is cause touches stands formed members commits damaged crash =
      subst (Opens g globals a b) (sym is) (opens_not globals DiskFailed (record { later = cause.later; rose = λ is. cause.counted; same = λ apart. absurd (apart refl) }) (λ is. absurd (cc)) (λ is. absurd (cc)) touches (λ s is. tt) crash)
  opens_with globals (Err fault.Memory) given {a} {b} is cause touches stands formed members commits damaged crash =
      subst (Opens g globals a b) (sym is) (opens_not globals Memory (record { later = cause.later; rose = λ is. absurd (cc); same = λ apart. cause.counted }) (λ is. absurd (cc)) (λ is. absurd (cc)) touches (λ s is. tt) crash)
  opens_with globals (Err (fault.Damaged path)) given {a} {b} (inl is) cause touches stands formed members commits damaged crash =
      subst (Opens g globals a b) (sym is) (opens_not globals (damage_stop path) (record { later = cause.later; rose = λ is. absurd (cc); same = λ apart. cause.counted }) (λ is. absurd (cc)) (λ is. absurd (cc)) touches (λ s told. (path, damaged s told, refl)) crash)
  opens_with globals (Err (fault.Damaged path)) given {a} {b} (inr is) cause touches stands formed members commits damaged crash =
      subst (Opens g globals a b) (sym is) (opens_not globals Memory (record { later = cause.later; rose = λ is. absurd (cc); same = λ apart. cause.counted }) (λ is. absurd (cc)) (λ is. absurd (cc)) touches (λ s is. tt) crash)

  -- ---- both

  opens_held : NowIs g → (globals : Values) {a b : D} → Claims g a b (Ok Held) → OpensClaiming g globals a b (Err Locked)
  opens_held now_is globals claims = record {
    disk = record { later = claims.cause.later; rose = λ is. absurd (cc); same = λ apart. claims.cause.ok };
    held = record { later = claims.held.later; rose = λ is. claims.held.held refl; same = λ apart. absurd (apart refl) };
    taken = λ taken is apart. (λ e. (claims.held.told taken is).0 refl, λ e. refl);
    locked = λ is. claims.only;
    host = λ is. absurd (cc);
    touches = λ apart. absurd (apart refl);
    under = tt;
    stands = λ s is. tt;
    formed = tt;
    members = tt;
    commits = tt;
    damaged = λ s is. tt;
    crash = λ s is. claim_stops now_is claims.only s is;
  }

  opens_failed : NowIs g → (globals : Values) (e : Failed) {a b : D} → Claims g a b (Err e) → OpensClaiming g globals a b (Err DiskFailed)
  opens_failed now_is globals e claims = record {
    disk = record { later = claims.cause.later; rose = λ is. claims.cause.failed; same = λ apart. absurd (apart refl) };
    held = record { later = claims.held.later; rose = λ is. absurd (cc); same = λ apart. claims.held.other (λ is. absurd (cc)) };
    taken = λ taken is apart. absurd (apart refl);
    locked = λ is. absurd (cc);
    host = λ is. absurd (cc);
    touches = λ apart. none_touched (touches_reading [] (only_reads claims.only (claims.held.other (λ is. absurd (cc)))));
    under = tt;
    stands = λ s is. tt;
    formed = tt;
    members = tt;
    commits = tt;
    damaged = λ s is. tt;
    crash = λ s is. claim_stops now_is claims.only s is;
  }

  touched_after : {a b c : D} → OnlyReads g a b → TouchesLast g b c → TouchesLast g a c
  touched_after reads more = record {
    work = more.work;
    touches = touches_then (touches_reading (paths_of more.work) reads) more.touches;
    last = λ s told. more.last s (reads.same ∙ told);
    outside = λ s told. more.outside s (reads.same ∙ told);
  }

  opens_mine : NowIs g → (globals : Values) (result : Result Opened Stop) {a b c : D} → Claims g a b (Ok Mine) → Opens g globals b c result → OpensClaiming g globals a c result
  opens_mine now_is globals result {a} {b} {c} claims opens =
      let unheld : g.held b ≡ g.held a = claims.held.other (λ is. absurd (cc)) in
      let reads : OnlyReads g a b = only_reads claims.only unheld in
      let goes : Advances g b c = opens.touches.touches.goes in
      record {
        disk = causes_after DiskFailed (g.faults a) (g.faults b) (g.faults c) result claims.cause.ok opens.disk;
        held = record {
          later = let same : g.held c ≡ g.held a = goes.held ∙ unheld in omega (arith, same);
          rose = λ is. absurd (opens.unlocked is);
          same = λ apart. goes.held ∙ unheld;
        };
        taken = λ taken is apart. (λ e. absurd (opens.unlocked e), λ e. let held : Mine ≡ Held = (claims.held.told taken is).1 e in absurd (cc));
        locked = λ is. absurd (opens.unlocked is);
        host = opens.host;
        touches = λ apart. touched_after reads opens.touches;
        under = opens.under;
        stands = λ s is. opens.stands s (claims.only.same ∙ is);
        formed = opens.formed;
        members = opens.members;
        commits = opens.commits;
        damaged = λ s is. opens.damaged s (claims.only.same ∙ is);
        crash = λ s is. stops_then reads.goes goes (claim_stops now_is claims.only s is) (opens.crash s (claims.only.same ∙ is));
      }

  -- each way that a claim may end
  pub is_held : NowIs g → (globals : Values) (claim : Result Claim Failed) {a b : D} → claim ≡ Ok Held → Claims g a b claim → OpensClaiming g globals a b (Err Locked)
  is_held now_is globals claim {a} {b} is claims = opens_held now_is globals (subst (Claims g a b) is claims)

  pub is_failed : NowIs g → (globals : Values) (claim : Result Claim Failed) (e : Failed) {a b : D} → claim ≡ Err e → Claims g a b claim → OpensClaiming g globals a b (Err DiskFailed)
  is_failed now_is globals claim e {a} {b} is claims = opens_failed now_is globals e (subst (Claims g a b) is claims)

  pub is_mine : NowIs g → (globals : Values) (claim : Result Claim Failed) (result : Result Opened Stop) {a b c : D} → claim ≡ Ok Mine → Claims g a b claim → Opens g globals b c result → OpensClaiming g globals a c result
  is_mine now_is globals claim result {a} {b} is claims opens = opens_mine now_is globals result (subst (Claims g a b) is claims) opens
