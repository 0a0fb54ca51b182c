-- One call of a disk after another, in time.
use Rattle.std.proofs.Common.{ℕ, ◌<◌, refl, ◌∙◌, arith, Option}
use Rattle.std.proofs.Math.Nat.{le_trans}
use Rattle.outside_io.specs.Counts.{last_count}
use Rattle.crash_disk.specs.Disks.{Elapses, State}
use Rattle.opam_top.specs.Pasts.{Passes}

pub passes_none : (now : ℕ) (past : ℕ → Option State) → Passes now now past past
passes_none now past = record { later = omega arith; keeps = λ t le short. refl }

pub passes_one : (before now : ℕ) (past since : ℕ → Option State) (told : Option State) → Elapses before now past since told → Passes before now past since
passes_one before now past since told call = record {
  later = call.later;
  keeps = λ t le short. call.keeps t le (let clock = call.clock in omega (arith, clock, short));
}

pub passes_then : (a b c : ℕ) (p q r : ℕ → Option State) → Passes a b p q → Passes b c q r → Passes a c p r
passes_then a b c p q r one two = record {
  later = le_trans one.later two.later;
  keeps = λ t le short. let mid : b < last_count = let after = two.later in omega (arith, after, short) in two.keeps t (le_trans le one.later) short ∙ one.keeps t le mid;
}

pub passes_twice : (a b c : ℕ) (p q r : ℕ → Option State) (t u : Option State) → Elapses a b p q t → Elapses b c q r u → Passes a c p r
passes_twice a b c p q r t u one two = passes_then a b c p q r (passes_one a b p q t one) (passes_one b c q r u two)

pub ruleset time_steps = (passes_none, passes_one, passes_then, passes_twice)
