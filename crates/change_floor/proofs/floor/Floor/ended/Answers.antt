use Rattle.std.proofs.Common.{◌≡◌, ap, get_or, subst, sym, ◌∙◌}
use Rattle.change_floor.specs.Floors.{FloorState, progress_of}
use Rattle.change_floor.specs.declared.progress.Progress.TheVariants.{Running, Waiting}
use Rattle.change_floor.proofs.FloorKept.{ended_holds}
use Rattle.change_floor.proofs.Turning.{stands_at}
use Rattle.change_floor.proofs.floor.Floor.ended.Goals as goal

pub invariant_of-self : goal.invariant_of-self
invariant_of-self c =
    let f = c.self.inside in
    let at = stands_at f.plan.installs c.args.id c.in-Some.place (sym (c.self.invariant.known.places c.args.id) ∙ sym c.place.ensures ∙ c.in-Some.is) in
    let P : FloorState → Type 0 = λ s. progress_of s c.args.id ≡ Running in
    let runs = subst P (sym c.self.view_is) c.requires in
    ended_holds f.plan f.decided f.jobs c.set.new.self f.busy f.lacks f.index f.dependents f.queue c.in-Some.place c.args.fate c.self.invariant at.1 (ap (λ p. get_or f.jobs p Waiting) (sym at.0) ∙ runs) c.set.ensures
