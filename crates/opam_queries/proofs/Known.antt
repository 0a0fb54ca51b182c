-- What a status says of the run that ended with it.
use Rattle.std.proofs.Common.{◌≡◌, ◌≢◌, ◌⊎◌, inl, inr, ℕ, List, Bool, true, false, Option, Some, None, Result, Ok, Err, refl, sym, ◌∙◌, ap, arith}
use Rattle.std.specs.Prelude.{◌<◌}
use Rattle.outside_io.specs.SinkEffects.{IsTold}
use Rattle.outside_io.specs.declared.sink.Sink.{Ghosts}
use Rattle.run_answers.specs.Ends.{end_of, status_at_end}
use Rattle.run_answers.specs.Opening.{Causes, SaysTaken}
use Rattle.run_answers.specs.Statuses.{Blames, BlamesOutput, SaysLocked}
use Rattle.run_answers.specs.Stops.{status_of_stop}
use Rattle.run_answers.specs.declared.end.Answer.{Answer}
use Rattle.run_answers.specs.declared.end.End.{End}
use Rattle.run_answers.specs.declared.end.End.TheVariants.{Done, Findings, Actions}
use Rattle.run_answers.specs.declared.status.Status.{Status}
use Rattle.run_answers.specs.declared.status.Status.TheVariants as statuses
use Rattle.run_answers.specs.declared.stop.Cause.TheVariants as cause
use Rattle.run_answers.specs.declared.stop.Stop.{Stop}
use Rattle.run_answers.specs.declared.stop.Stop.TheVariants.{DiskFailed, HostFailed, Locked, Memory, Refused}

-- the stop that alone has the status
abbrev stop_with : Status → Option Stop
stop_with statuses.Done = None
stop_with statuses.Findings = None
stop_with statuses.Words = None
stop_with statuses.NotFound = None
stop_with statuses.Locked = Some Locked
stop_with statuses.NoSolution = None
stop_with statuses.BadFile = None
stop_with statuses.Actions = None
stop_with statuses.HostFailed = Some HostFailed
stop_with statuses.DiskFailed = Some DiskFailed
stop_with statuses.OutFailed = None
stop_with statuses.Damaged = None
stop_with statuses.Memory = Some Memory

no_stop : (given : Option Stop) (stop : Stop) → given ≡ None → given ≡ Some stop → ⊥
no_stop given stop none is = let e : None ≡ Some stop = sym none ∙ is in absurd (cc)

end_known : (end : End) (broken : Bool) (stop : Stop) → stop_with (status_at_end broken (Ok end)) ≡ Some stop → ⊥
end_known Done true stop is = no_stop (stop_with (status_at_end true (Ok Done))) stop refl is
end_known Done false stop is = no_stop (stop_with (status_at_end false (Ok Done))) stop refl is
end_known Findings broken stop is = no_stop (stop_with (status_at_end broken (Ok Findings))) stop refl is
end_known Actions broken stop is = no_stop (stop_with (status_at_end broken (Ok Actions))) stop refl is

stop_known : (given stop : Stop) → stop_with (status_of_stop given) ≡ Some stop → given ≡ stop
stop_known (Refused cause.Words text) stop is = absurd (no_stop (stop_with (status_of_stop (Refused cause.Words text))) stop refl is)
stop_known (Refused cause.NotFound text) stop is = absurd (no_stop (stop_with (status_of_stop (Refused cause.NotFound text))) stop refl is)
stop_known (Refused cause.NoSolution text) stop is = absurd (no_stop (stop_with (status_of_stop (Refused cause.NoSolution text))) stop refl is)
stop_known (Refused cause.BadFile text) stop is = absurd (no_stop (stop_with (status_of_stop (Refused cause.BadFile text))) stop refl is)
stop_known (Refused cause.Damaged text) stop is = absurd (no_stop (stop_with (status_of_stop (Refused cause.Damaged text))) stop refl is)
stop_known Locked stop is = let e : Some Locked ≡ Some stop = is in cc
stop_known HostFailed stop is = let e : Some HostFailed ≡ Some stop = is in cc
stop_known DiskFailed stop is = let e : Some DiskFailed ≡ Some stop = is in cc
stop_known Memory stop is = let e : Some Memory ≡ Some stop = is in cc

-- a run with such a status was stopped so
answer_known : (answer : Result Answer Stop) (broken : Bool) (stop : Stop) → stop_with (status_at_end broken (end_of answer)) ≡ Some stop → answer ≡ Err stop
answer_known (Ok answer) broken stop is = absurd (end_known answer.end broken stop is)
answer_known (Err given) broken stop is = ap Err (stop_known given stop is)

-- a device's count and the status
blames : (stop : Stop) (fault : Status) → stop_with fault ≡ Some stop → status_of_stop stop ≡ fault → (answer : Result Answer Stop) (broken : Bool) {before now : ℕ} {status : Status}
    → Causes stop before now answer → (answer ≡ Err stop) ⊎ (answer ≢ Err stop) → status ≡ status_at_end broken (end_of answer) → Blames fault before now status
blames stop fault known is answer broken {before} {now} {status} causes either ends = record {
  later = causes.later;
  only = λ same. causes.rose (answer_known answer broken stop (ap stop_with (sym ends ∙ same) ∙ known));
  always = λ rose. elim either [
    | inl stopped ↦ ends ∙ ap (λ (a : Result Answer Stop). status_at_end broken (end_of a)) stopped ∙ is
    | inr apart ↦ let kept : now ≡ before = causes.same apart in absurd (omega (arith, kept, rose))
  ];
}

either_host : (answer : Result Answer Stop) → (answer ≡ Err HostFailed) ⊎ (answer ≢ Err HostFailed)
either_host (Ok answer) = inr (λ is. absurd (cc))
either_host (Err (Refused cause text)) = inr (λ is. absurd (cc))
either_host (Err Locked) = inr (λ is. absurd (cc))
either_host (Err HostFailed) = inl refl
either_host (Err DiskFailed) = inr (λ is. absurd (cc))
either_host (Err Memory) = inr (λ is. absurd (cc))

either_disk : (answer : Result Answer Stop) → (answer ≡ Err DiskFailed) ⊎ (answer ≢ Err DiskFailed)
either_disk (Ok answer) = inr (λ is. absurd (cc))
either_disk (Err (Refused cause text)) = inr (λ is. absurd (cc))
either_disk (Err Locked) = inr (λ is. absurd (cc))
either_disk (Err HostFailed) = inr (λ is. absurd (cc))
either_disk (Err DiskFailed) = inl refl
either_disk (Err Memory) = inr (λ is. absurd (cc))

either_locked : (answer : Result Answer Stop) → (answer ≡ Err Locked) ⊎ (answer ≢ Err Locked)
either_locked (Ok answer) = inr (λ is. absurd (cc))
either_locked (Err (Refused cause text)) = inr (λ is. absurd (cc))
either_locked (Err Locked) = inl refl
either_locked (Err HostFailed) = inr (λ is. absurd (cc))
either_locked (Err DiskFailed) = inr (λ is. absurd (cc))
either_locked (Err Memory) = inr (λ is. absurd (cc))

module _ (answer : Result Answer Stop) (broken : Bool) {status : Status} (ends : status ≡ status_at_end broken (end_of answer)) where
  pub blames_host : {before now : ℕ} → Causes HostFailed before now answer → Blames statuses.HostFailed before now status
  blames_host causes = blames HostFailed statuses.HostFailed refl refl answer broken causes (either_host answer) ends

  pub blames_disk : {before now : ℕ} → Causes DiskFailed before now answer → Blames statuses.DiskFailed before now status
  blames_disk causes = blames DiskFailed statuses.DiskFailed refl refl answer broken causes (either_disk answer) ends

  pub blames_locked : {before now : ℕ} → Causes Locked before now answer → Blames statuses.Locked before now status
  blames_locked causes = blames Locked statuses.Locked refl refl answer broken causes (either_locked answer) ends

  -- the status of a locked switch is that of this stop alone
  pub locked_known : status ≡ statuses.Locked → answer ≡ Err Locked
  locked_known same = answer_known answer broken Locked (ap stop_with (sym ends ∙ same))

  pub locked_told : answer ≡ Err Locked → status ≡ statuses.Locked
  locked_told stopped = ends ∙ ap (λ (a : Result Answer Stop). status_at_end broken (end_of a)) stopped

  pub says_locked : (told : Option Bool) {before now : ℕ} → Causes DiskFailed before now answer → SaysTaken told answer → SaysLocked told before now status
  says_locked told causes says = λ taken is quiet.
      let both = says taken is (λ failed. let rose = causes.rose failed in absurd (omega (arith, quiet, rose))) in
      (λ same. both.0 (locked_known same), λ t. locked_told (both.1 t))

-- ---- the output

not_out : (stop : Stop) → status_of_stop stop ≡ statuses.OutFailed → ⊥
not_out (Refused cause.Words text) is = absurd (cc)
not_out (Refused cause.NotFound text) is = absurd (cc)
not_out (Refused cause.NoSolution text) is = absurd (cc)
not_out (Refused cause.BadFile text) is = absurd (cc)
not_out (Refused cause.Damaged text) is = absurd (cc)
not_out Locked is = absurd (cc)
not_out HostFailed is = absurd (cc)
not_out DiskFailed is = absurd (cc)
not_out Memory is = absurd (cc)

not_done : (stop : Stop) → status_of_stop stop ≡ statuses.Done → ⊥
not_done (Refused cause.Words text) is = absurd (cc)
not_done (Refused cause.NotFound text) is = absurd (cc)
not_done (Refused cause.NoSolution text) is = absurd (cc)
not_done (Refused cause.BadFile text) is = absurd (cc)
not_done (Refused cause.Damaged text) is = absurd (cc)
not_done Locked is = absurd (cc)
not_done HostFailed is = absurd (cc)
not_done DiskFailed is = absurd (cc)
not_done Memory is = absurd (cc)

broken_known : (end : Result End Stop) (broken : Bool) → status_at_end broken end ≡ statuses.OutFailed → broken ≡ true
broken_known end true is = refl
broken_known (Ok Done) false is = absurd (cc)
broken_known (Ok Findings) false is = absurd (cc)
broken_known (Ok Actions) false is = absurd (cc)
broken_known (Err stop) false is = absurd (not_out stop is)

whole_known : (end : Result End Stop) (broken : Bool) → status_at_end broken end ≡ statuses.Done → broken ≡ false
whole_known end false is = refl
whole_known (Ok Done) true is = absurd (cc)
whole_known (Ok Findings) true is = absurd (cc)
whole_known (Ok Actions) true is = absurd (cc)
whole_known (Err stop) true is = absurd (not_done stop is)

module _ {O : Type 0} {o : Ghosts O} where
  pub blames_output : (end : Result End Stop) (broken : Bool) (text : List ℕ) {status : Status} {old new : O} → IsTold o text false broken old new → status ≡ status_at_end broken end
      → BlamesOutput (o.faults old) (o.faults new) status
  blames_output end broken text told ends = record {
    later = told.later;
    only = λ is. told.rose refl (broken_known end broken (sym ends ∙ is));
    always = λ rose is. let kept = told.quiet (whole_known end broken (sym ends ∙ is)) in absurd (omega (arith, kept, rose));
  }
