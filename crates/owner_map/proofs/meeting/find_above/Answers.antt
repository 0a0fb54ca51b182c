use Rattle.std.proofs.Common.{[], sym, ◌∙◌, ap, arith}
use Rattle.std.specs.Option.{option_copied}
use Rattle.opam_names.specs.Paths.{is_above}
use Rattle.owner_map.proofs.Finding.{always}
use Rattle.owner_map.proofs.Finds.{above_ended, above_found, above_missed, above_none}
use Rattle.owner_map.proofs.meeting.find_above.Goals.{then-goes_on_below+in-None, else-goes_on_below}
use Rattle.owner_map.proofs.meeting.find_above.Goals as goal

pub loop-at-init : goal.loop-at-init
loop-at-init g c = always (λ y above. omega arith) c.args.list.now.items

pub returns-in-Some : goal.returns-in-Some
returns-in-Some g c =
    sym (above_found g.T.ByteKey.key c.args.text.now c.loop-at.at c.split_at.result.0.now c.args.list.now.items c.in-Some.item.now c.requires (omega (arith, c.loop-at-test.true)) c.split_at.ensures.front
    (ap (is_above []) (sym c.split_at.ensures.back) ∙ sym c.goes_on_below.ensures ∙ c.if-goes_on_below.true)
    (sym c.find_text.ensures ∙ ap option_copied c.in-Some.is) c.loop-at.invariant)

pub loop-at-preserved : goal.loop-at-preserved
loop-at-preserved g c = elim c.if-goes_on_below.branch [
  | then-goes_on_below+in-None w ↦
      above_missed g.T.ByteKey.key c.args.text.now c.loop-at.at c.split_at.result.0.now c.args.list.now.items c.split_at.ensures.front
      (sym w.find_text.ensures ∙ ap option_copied w.in-None.is) c.loop-at.invariant
  | else-goes_on_below w ↦
      above_ended g.T.ByteKey.key c.args.text.now c.loop-at.at c.args.list.now.items
      (ap (is_above []) (sym c.split_at.ensures.back) ∙ sym c.goes_on_below.ensures ∙ w.if-goes_on_below.false) c.loop-at.invariant
]

pub returns : goal.returns
returns g c = sym (above_none g.T.ByteKey.key c.args.text.now c.loop-at.at c.args.list.now.items (omega (arith, c.loop-at-test.false)) c.loop-at.invariant)
