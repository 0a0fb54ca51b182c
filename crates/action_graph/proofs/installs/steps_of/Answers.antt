use Rattle.std.proofs.Common.{rules, ◌≡◌, ℕ, ◌<◌, length, get_or, List, true, false, arith, sym, ap, subst}
use Rattle.std.proofs.lemmas.Bool.{not-true, not-false}
use Rattle.action_graph.proofs.Finding.{marked_within}
use Rattle.action_graph.proofs.Placing.{marked_fit}
use Rattle.action_graph.proofs.Stopping.{need_rows_length, none_by, rows_fit, some_by, steps_given, stops_given}
use Rattle.action_graph.proofs.installs.steps_of.Goals as goal

pub list_in_order-requires-clause-within : goal.list_in_order-requires-clause-within
list_in_order-requires-clause-within c = rows_fit c.args.members.now c.args.wanted.now c.in_ok-needs.needs c.in_ok-needs.ensures c.requires.counted

pub names_at-requires : goal.names_at-requires
names_at-requires c = λ i below.
    let P : List ℕ → Type 0 = λ xs. get_or xs i 0 < length c.as_slice-2.result.now in
    let Q : List ℕ → Type 0 = λ xs. i < length xs in
    let same = c.as_slice-then-not-is_empty.ensures in
    let fits : get_or c.as_slice-then-not-is_empty.result.now i 0 < length c.as_slice-2.result.now =
    subst P (sym same) (marked_fit c.as_slice-2.result.now c.in_ok-places.places c.in_ok-places.ensures i (subst Q same below)) in
    omega (arith, fits, ap length c.as_slice-2.ensures, c.in_ok-left.ensures.counted, c.requires.counted)

pub returns-then-not-is_empty-clause-err : goal.returns-then-not-is_empty-clause-err
returns-then-not-is_empty-clause-err c =
    let off : c.is_empty.result ≡ false = search (rules, not-true) in
    stops_given c.args.members.now c.args.wanted.now c.in_ok-found.found.marks c.as_slice.result.now c.in_ok-left.left c.as_slice-2.result.now c.in_ok-found.found.places
    c.as_slice-then-not-is_empty.result.now c.in_ok-places.places c.in_ok-names_at.field-0 c.in_ok-needs.needs c.in_ok-needs.ensures c.in_ok-found.ensures c.as_slice.ensures c.in_ok-left.ensures
    c.as_slice-2.ensures c.in_ok-places.ensures (some_by c.is_empty.result _ c.is_empty.ensures off) c.as_slice-then-not-is_empty.ensures c.in_ok-names_at.ensures

pub steps_at-requires : goal.steps_at-requires
steps_at-requires c = λ i below.
    let P : List ℕ → Type 0 = λ xs. get_or xs i 0 < length c.in_ok-found.found.marks in
    let Q : List ℕ → Type 0 = λ xs. i < length xs in
    let same = c.as_slice-3.ensures in
    let on = c.in_ok-found.ensures.coheres.marked_all i (subst Q same below) in
    let fits : get_or c.as_slice-3.result.now i 0 < length c.in_ok-found.found.marks = subst P (sym same) (marked_within c.in_ok-found.found.marks (get_or c.in_ok-found.found.places i 0) on) in
    omega (arith, fits, c.in_ok-found.ensures.counted, c.requires.counted, ap length c.in_ok-needs.ensures, need_rows_length c.args.members.now c.args.members.now)

pub returns-clause-ok : goal.returns-clause-ok
returns-clause-ok c =
    let on : c.is_empty.result ≡ true = search (rules, not-false) in
    steps_given c.args.members.now c.args.wanted.now c.in_ok-found.found.marks c.as_slice.result.now c.in_ok-left.left c.as_slice-2.result.now c.in_ok-found.found.places
    c.as_slice-3.result.now c.in_ok-places.places c.in_ok-steps_at.field-0 c.in_ok-needs.needs c.in_ok-needs.ensures c.in_ok-found.ensures c.as_slice.ensures c.in_ok-left.ensures
    c.as_slice-2.ensures c.in_ok-places.ensures (none_by c.is_empty.result _ c.is_empty.ensures on) c.as_slice-3.ensures c.in_ok-steps_at.ensures
