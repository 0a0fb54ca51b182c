use Rattle.std.proofs.Common.{◌≡◌, List, ap, arith, refl, set, subst, sym, ◌∙◌}
use Rattle.std.specs.Prelude.{Some}
use Rattle.change_floor.specs.Floors.{FloorState, next_start, with_job}
use Rattle.change_floor.specs.declared.progress.Progress.{Progress}
use Rattle.change_floor.specs.declared.progress.Progress.TheVariants.{Running}
use Rattle.change_floor.proofs.FloorKept.{no_start, start_of, started_holds}
use Rattle.change_floor.proofs.floor.Floor.started.Goals as goal

pub unreachable-requires : goal.unreachable-requires
unreachable-requires c =
    let f = c.self.inside in
    let P : FloorState → Type 0 = λ s. next_start s ≡ Some c.args.id in
    no_start f.plan f.workers f.decided f.jobs f.busy f.lacks f.index f.dependents f.queue c.args.id c.self.invariant c.in-None.ensures (subst P (sym c.self.view_is) c.requires)

pub set-requires : goal.set-requires
set-requires c =
    let f = c.self.inside in
    let P : FloorState → Type 0 = λ s. next_start s ≡ Some c.args.id in
    let at = start_of f.plan f.workers f.decided f.jobs f.busy f.lacks f.index f.dependents f.queue c.in-Some.place c.args.id c.self.invariant c.in-Some.ensures (subst P (sym c.self.view_is) c.requires) in
    omega (arith, at.1, c.self.invariant.counted)

pub invariant_of-self : goal.invariant_of-self
invariant_of-self c =
    let f = c.self.inside in
    let P : FloorState → Type 0 = λ s. next_start s ≡ Some c.args.id in
    let at = start_of f.plan f.workers f.decided f.jobs f.busy f.lacks f.index f.dependents f.queue c.in-Some.place c.args.id c.self.invariant c.in-Some.ensures (subst P (sym c.self.view_is) c.requires) in
    started_holds f.plan f.decided f.jobs c.set.new.self f.busy f.lacks f.index f.dependents f.queue _ c.in-Some.place c.self.invariant c.in-Some.ensures at.1 refl
    c.take_ready.ensures.ordered c.take_ready.ensures.len c.take_ready.ensures.capacity c.take_ready.ensures.times c.set.ensures

pub returns : goal.returns
returns c =
    let f = c.self.inside in
    let P : FloorState → Type 0 = λ s. next_start s ≡ Some c.args.id in
    let at = start_of f.plan f.workers f.decided f.jobs f.busy f.lacks f.index f.dependents f.queue c.in-Some.place c.args.id c.self.invariant c.in-Some.ensures (subst P (sym c.self.view_is) c.requires) in
    let R : List Progress → FloorState = λ js. record { plan = f.plan; workers = f.workers; decided = f.decided.items; jobs = js } in
    let Q : FloorState → Type 0 = λ s. R c.set.new.self ≡ with_job s c.args.id Running in
    subst Q c.self.view_is (ap R (c.set.ensures ∙ ap (λ p. set f.jobs p Running) (sym at.0)))
