use Rattle.std.proofs.Common.{rules, sym, ap, ◌∙◌}
use Rattle.std.specs.Option.{option_copied}
use Rattle.std.proofs.lemmas.Bool.{true≢false}
use Rattle.action_graph.proofs.Linking.{wish_none, wish_not, wish_some}
use Rattle.action_graph.proofs.links.note_wish.Goals as goal
use Rattle.action_graph.proofs.links.note_wish.Goals.{else-ne-via-then-ne+else-meets, else-ne-via-else-ne}

pub returns-in-None-find : goal.returns-in-None-find
returns-in-None-find g c =
    wish_none c.args.members.now c.args.dependent.now c.args.atom.now c.in-Some.name.now c.find.result c.args.places.now.items (sym c.atom_name.ensures ∙ ap option_copied c.in-Some.is) c.find.ensures.value c.in-None-find.is

pub returns-in_ok-push-in-Some-find : goal.returns-in_ok-push-in-Some-find
returns-in_ok-push-in-Some-find g c =
    wish_some c.args.members.now c.args.dependent.now c.args.atom.now c.in-Some.name.now c.find.result c.in-Some-find.place c.index-members-place.result c.args.places.now.items c.push.new.self.items c.requires.differ
    (sym c.atom_name.ensures ∙ ap option_copied c.in-Some.is) c.find.ensures.value c.in-Some-find.is (search rules) (sym c.ne.ensures ∙ c.if-ne.true) (sym c.meets.ensures ∙ c.if-meets.true) c.in_ok-push-in-Some-find.ensures.items

pub returns-else-ne : goal.returns-else-ne
returns-else-ne g c =
    wish_not c.args.members.now c.args.dependent.now c.args.atom.now c.in-Some.name.now c.find.result c.in-Some-find.place c.index-members-place.result c.args.places.now.items c.requires.differ
    (sym c.atom_name.ensures ∙ ap option_copied c.in-Some.is) c.find.ensures.value c.in-Some-find.is (search rules)
    (λ other met. elim c.else-ne.branch [
      | else-ne-via-then-ne+else-meets w ↦ true≢false (sym met ∙ sym w.meets.ensures ∙ w.if-meets.false)
      | else-ne-via-else-ne w ↦ true≢false (sym other ∙ sym c.ne.ensures ∙ w.if-ne.false)
    ])
