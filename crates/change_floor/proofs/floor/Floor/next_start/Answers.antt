use Rattle.std.proofs.Common.{◌≡◌, [], ap, arith, get_or, length, subst, ◌∙◌}
use Rattle.std.specs.Prelude.{Some, None}
use Rattle.action_graph.specs.declared.plan.Step.{Step}
use Rattle.change_floor.specs.Floors.{FloorState, next_start}
use Rattle.change_floor.proofs.FloorTurns.{first_found, none_found, roomy, seen_as, start_open}
use Rattle.change_floor.proofs.floor.Floor.next_start.Goals as goal

some_step : Step
some_step = record { member = 0; needs = [] }

pub offset_bounds-as_slice-place : goal.offset_bounds-as_slice-place
offset_bounds-as_slice-place c =
    let f = c.self.inside in
    let found = first_found f.plan f.workers f.decided f.jobs f.busy f.lacks f.index f.dependents f.queue c.in-Some.place some_step c.self.invariant c.in-Some.ensures in
    omega (arith, found.below, ap length c.as_slice.ensures, c.as_slice.type_inv.0, c.as_slice.type_inv.1)

pub bounds-as_slice-place : goal.bounds-as_slice-place
bounds-as_slice-place c =
    let f = c.self.inside in
    let found = first_found f.plan f.workers f.decided f.jobs f.busy f.lacks f.index f.dependents f.queue c.in-Some.place some_step c.self.invariant c.in-Some.ensures in
    omega (arith, found.below, ap length c.as_slice.ensures)

pub bounds-as_slice-place-in-Some : goal.bounds-as_slice-place-in-Some
bounds-as_slice-place-in-Some c =
    let f = c.self.inside in
    let found = first_found f.plan f.workers f.decided f.jobs f.busy f.lacks f.index f.dependents f.queue c.in-Some.place some_step c.self.invariant c.in-Some.ensures in
    omega (arith, found.below, ap length c.as_slice.ensures)

pub returns-in-None : goal.returns-in-None
returns-in-None c =
    let f = c.self.inside in
    let floor : FloorState = seen_as f.plan f.workers f.decided f.jobs in
    let room = roomy floor (omega (arith, c.if-len.false, c.len.ensures, c.len-2.ensures, f.decided.ok.0)) (omega (arith, c.if-self.false, c.self.invariant.runs)) in
    let P : FloorState → Type 0 = λ s. None ≡ next_start s in
    subst P c.self.view_is (start_open floor None room (none_found f.plan f.workers f.decided f.jobs f.busy f.lacks f.index f.dependents f.queue c.self.invariant c.in-None.ensures))

pub returns-in-Some : goal.returns-in-Some
returns-in-Some c =
    let f = c.self.inside in
    let floor : FloorState = seen_as f.plan f.workers f.decided f.jobs in
    let room = roomy floor (omega (arith, c.if-len.false, c.len.ensures, c.len-2.ensures, f.decided.ok.0)) (omega (arith, c.if-self.false, c.self.invariant.runs)) in
    let d : Step = c.index-as_slice-place.result in
    let found = first_found f.plan f.workers f.decided f.jobs f.busy f.lacks f.index f.dependents f.queue c.in-Some.place d c.self.invariant c.in-Some.ensures in
    let P : FloorState → Type 0 = λ s. Some (get_or c.as_slice.result.now c.in-Some.place d).member ≡ next_start s in
    subst P c.self.view_is (ap (λ xs. Some (get_or xs c.in-Some.place d).member) c.as_slice.ensures ∙ start_open floor (Some (get_or f.plan.installs c.in-Some.place d)) room found.found)
