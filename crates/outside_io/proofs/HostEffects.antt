-- One read from a host after another.
use Rattle.std.proofs.Common.{◌≡◌, Bool, false, Result, Ok, Err, refl, ◌∙◌, subst, arith}
use Rattle.std.proofs.Math.Nat.{le_trans}
use Rattle.outside_io.specs.Counts.{Rose}
use Rattle.outside_io.specs.HostEffects.{HostFails, OnlyReadsHost, has_host_failed}
use Rattle.outside_io.specs.Hosts.{HostCause}
use Rattle.outside_io.specs.declared.host.Host.{Ghosts}
use Rattle.outside_io.specs.declared.host.HostFault.{HostFault}
use Rattle.outside_io.specs.declared.host.HostFault.TheVariants.{Failed, Memory}

module _ {H : Type 0} {g : Ghosts H} where
  pub reads_host_none : (h : H) → OnlyReadsHost g h h
  reads_host_none h = record { same = refl; later = omega arith }

  pub reads_host_then : {a b c : H} → OnlyReadsHost g a b → OnlyReadsHost g b c → OnlyReadsHost g a c
  reads_host_then one two = record { same = two.same ∙ one.same; later = le_trans one.later two.later }

  pub reads_host_one : {T : Type 0} {old new : H} (result : Result T HostFault) → HostCause (g.faults old) (g.faults new) result → g.files new ≡ g.files old → OnlyReadsHost g old new
  reads_host_one result cause same = record { same = same; later = cause.later }

  pub host_fails_none : (h : H) → HostFails g false h h
  host_fails_none h = record { rose = λ is. absurd (cc); still = λ is. refl }

  -- as long as the host has not failed, its next failure is the first
  pub host_fails_then : {failed : Bool} {a b c : H} → HostFails g false a b → HostFails g failed b c → HostFails g failed a c
  host_fails_then {failed} {a} {b} {c} one two = record {
    rose = λ is. let same = one.still refl in subst (λ (n : _). Rose n (g.faults c)) same (two.rose is);
    still = λ is. two.still is ∙ one.still refl;
  }

  pub host_fails_one : {T : Type 0} {old new : H} (result : Result T HostFault) → HostCause (g.faults old) (g.faults new) result → HostFails g (has_host_failed result) old new
  host_fails_one (Ok found) cause = record { rose = λ is. absurd (cc); still = λ is. cause.ok }
  host_fails_one (Err Failed) cause = record { rose = λ is. cause.failed refl; still = λ is. absurd (cc) }
  host_fails_one (Err Memory) cause = record { rose = λ is. absurd (cc); still = λ is. cause.memory refl }

-- one call
pub ruleset host_call_steps = (reads_host_one, host_fails_one)

-- one word after another
pub ruleset host_steps = (reads_host_none, reads_host_then, host_fails_none, host_fails_then)
