use Rattle.std.proofs.Common.{◌+◌, ap, false, get_or, not, sym, ◌∙◌}
use Rattle.change_floor.proofs.Lacking.{installed_at, installed_else}
use Rattle.change_floor.proofs.needs.is_installed.Goals as goal

pub returns-in-None : goal.returns-in-None
returns-in-None c =
    ap not (c.is_missing.ensures ∙ c.requires.known.missing c.args.member)
    ∙ installed_else c.args.plan.now c.args.decided.now c.args.member c.requires.few (sym (c.requires.known.places c.args.member) ∙ sym c.place.ensures ∙ c.in-None.is)

pub returns-in-Some : goal.returns-in-Some
returns-in-Some c =
    c.was_done.ensures ∙ ap (λ n. get_or c.args.decided.now (n + c.in-Some.place) false) c.len.ensures
    ∙ installed_at c.args.plan.now c.args.decided.now c.args.member c.in-Some.place (sym (c.requires.known.places c.args.member) ∙ sym c.place.ensures ∙ c.in-Some.is)
