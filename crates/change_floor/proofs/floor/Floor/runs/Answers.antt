use Rattle.std.proofs.Common.{◌≡◌, false, subst, sym, ◌∙◌}
use Rattle.change_floor.specs.Floors.{FloorState, is_running, progress_of}
use Rattle.change_floor.proofs.FloorKept.{runs_nowhere}
use Rattle.change_floor.proofs.floor.Floor.runs.Goals as goal

pub returns-in-None : goal.returns-in-None
returns-in-None c =
    let f = c.self.inside in
    let P : FloorState → Type 0 = λ s. false ≡ is_running (progress_of s c.args.id) in
    subst P c.self.view_is (runs_nowhere f.plan f.jobs c.args.id (sym (c.self.invariant.known.places c.args.id) ∙ sym c.place.ensures ∙ c.in-None.is) c.self.invariant.counted)
