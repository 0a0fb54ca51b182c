-- A promise that is kept beside its thread.
use Rattle.std.proofs.Common.{◌≡◌, ap, subst, Some, Option, Ok, Err, Result, IfOk}
use Rattle.std.proofs.Math.Logic.{∥∥₁_elim}
use Rattle.std.proofs.Props.{props}
use Rattle.opam_names.specs.declared.fault.OutOfMemory.{OutOfMemory}
use Rattle.outside_io.specs.Shops.{Told, fate_of}
use Rattle.outside_io.specs.declared.workshop.Job.{Job}
use Rattle.outside_io.specs.declared.workshop.Fate.{Fate}
use Rattle.child_pool.specs.Crews.{TellsFate}

-- what a thread promises of its answer
abbrev pub IsPromised : Option Told → Job → Result Fate OutOfMemory → Type 0
IsPromised shop job result = IfOk result (λ fate. TellsFate shop job fate)

fate_same-prop : (a b : Fate) → IsProp (a ≡ b)
fate_same-prop a b = hlevel props

TellsFate-prop : (shop : Option Told) (job : Job) (fate : Fate) → IsProp (TellsFate shop job fate)
TellsFate-prop shop job fate = λ f g t told tells. fate_same-prop fate (fate_of told job) (f told tells) (g told tells) t

IsPromised-prop : (shop : Option Told) (job : Job) (result : Result Fate OutOfMemory) → IsProp (IsPromised shop job result)
IsPromised-prop shop job (Ok fate) = TellsFate-prop shop job fate
IsPromised-prop shop job (Err refused) = hlevel props

-- it holds of the shop and of the job that are kept
pub promised : {W : Type 0} (told : W → Option Told) (a b : W) (j k : Job) (result : Result Fate OutOfMemory) → ∥ (a ≡ b) × (j ≡ k) ∥₁ → IsPromised (told a) j result → IsPromised (told b) k result
promised told a b j k result same tells = ∥∥₁_elim same (IsPromised-prop (told b) k result) (λ e. subst (λ (o : Option Told). IsPromised o k result) (ap told e.0) (subst (λ (x : Job). IsPromised (told a) x result) e.1 tells))
