-- A list of scripts gives each step an ending that it may have.
use Rattle.std.proofs.Common.{ℕ, zero, suc, List, [], ◌∷◌, IsTrue, refl, arith, Some, Bool, true, false, Option, if◌then◌else◌}
use Rattle.std.proofs.lemmas.Bool.Decides.{nat_tests}
use Rattle.outside_io.specs.Shops.{IsEndingOf}
use Rattle.outside_io.specs.Scripts.{script_of, ending_of, ending_at, is_well, is_same_pkg, is_prepared, goes_on_well, starts_well, all_well}
use Rattle.opam_names.specs.declared.packages.Pkg.{Pkg}
use Rattle.outside_io.specs.declared.workshop.Ending.{Ending}
use Rattle.outside_io.specs.declared.workshop.Ending.TheVariants.{Exit, Killed, NotStarted, NotPrepared}
use Rattle.outside_io.specs.declared.script_shop.Script.{Script}

first_ending : (ending : Ending) → IsTrue (starts_well ending) → IsEndingOf 0 ending
first_ending (Exit code) well = grind (arith, nat_tests)
first_ending Killed well = cc
first_ending NotStarted well = cc
first_ending NotPrepared well = refl

prepared : (step : ℕ) (ending : Ending) → IsTrue (is_prepared ending) → IsEndingOf (suc step) ending
prepared step (Exit code) well = λ none. absurd (omega arith)
prepared step Killed well = omega arith
prepared step NotStarted well = omega arith
prepared step NotPrepared well = cc

later_ending : (endings : List Ending) (step at : ℕ) → IsTrue (goes_on_well endings) → IsEndingOf (suc step) (ending_at endings at)
later_ending [] step at well = λ none. refl
later_ending (e ∷ es) step zero well = prepared step e (grind (arith, nat_tests))
later_ending (e ∷ es) step (suc at) well = later_ending es step at (grind (arith, nat_tests))

pub ending_kind : (endings : List Ending) (step : ℕ) → IsTrue (is_well endings) → IsEndingOf step (ending_at endings step)
ending_kind [] step well = λ none. refl
ending_kind (e ∷ es) zero well = first_ending e (grind (arith, nat_tests))
ending_kind (e ∷ es) (suc step) well = later_ending es step step (grind (arith, nat_tests))

found : (b : Bool) (script : Script) (o : Option Script) (step : ℕ) → IsEndingOf step (ending_of (Some script) step) → IsEndingOf step (ending_of o step) → IsEndingOf step (ending_of (if b then Some script else o) step)
found true script o step here there = here
found false script o step here there = there

pub shop_ending : (scripts : List Script) (pkg : Pkg) (step : ℕ) → IsTrue (all_well scripts) → IsEndingOf step (ending_of (script_of scripts pkg) step)
shop_ending [] pkg step well = λ none. refl
shop_ending (script ∷ scripts) pkg step well = found (is_same_pkg pkg script.pkg) script (script_of scripts pkg) step (ending_kind script.endings step (grind (arith, nat_tests))) (shop_ending scripts pkg step (grind (arith, nat_tests)))
