use Rattle.std.proofs.Common.{sym, ap, ◌∙◌}
use Rattle.std.specs.FinMap.{from_entries, insert}
use Rattle.opam_filter.proofs.Maps.{put_over, put_over_empty, last_put_over}
use Rattle.opam_filter.proofs.vars.Vars.copy.Goals as goal

pub loop-var-init : goal.loop-var-init
loop-var-init c =
    ap (λ m. put_over m c.iter-left.result) c.empty-copy.ensures ∙ put_over_empty c.iter-left.result ∙ ap from_entries c.iter-left.ensures.rest ∙ c.self.view_is

pub loop-var-preserved : goal.loop-var-preserved
loop-var-preserved c =
    let left = c.next_back.new.self in
    let set = c.in_ok-set.ensures.ok
    ∙ ap (λ v. insert c.loop-var.copy v c.in_ok-copy.field-0) c.in_ok-copy_variable.ensures
    ∙ ap (insert c.loop-var.copy c.in-Some.var.now) c.in_ok-copy.ensures in
    ap (λ m. put_over m left) set
    ∙ sym (last_put_over c.loop-var.copy left c.in-Some.var.now c.in-Some.value.now)
    ∙ ap (put_over c.loop-var.copy) (sym c.in-Some.ensures.steps)
    ∙ c.loop-var.invariant
