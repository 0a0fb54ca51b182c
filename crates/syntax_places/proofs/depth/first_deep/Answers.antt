use Rattle.std.proofs.Common.{Option, ℕ, sym, subst}
use Rattle.syntax_places.specs.Depths.{IsFirstDeep}
use Rattle.syntax_places.proofs.Depths.{blank_told, ending_told}
use Rattle.syntax_places.proofs.Leading.{not_so}
use Rattle.syntax_places.proofs.depth.first_deep.Goals as goal

pub returns-then-branch : goal.returns-then-branch
returns-then-branch c =
    let Here : Option ℕ → Type 0 = λ o. IsFirstDeep c.args.bytes.now o in
    subst Here (sym c.before_end.ensures) (blank_told c.args.bytes.now c.args.len c.in_ok-place.place c.requires.longest c.in_ok-place.ensures)

pub returns-in_ok-place-in-Some : goal.returns-in_ok-place-in-Some
returns-in_ok-place-in-Some c =
    let Here : Option ℕ → Type 0 = λ o. IsFirstDeep c.args.bytes.now o in
    subst Here (sym c.before_last.ensures)
    (ending_told c.args.bytes.now _ c.args.len c.in_ok-place-in-Some.place c.requires.longest (not_so _ c.if-branch.false c.in_ok-follow_with.ensures)
    c.in_ok-place-in-Some.ensures)
