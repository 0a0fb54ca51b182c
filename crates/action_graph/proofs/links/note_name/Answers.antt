use Rattle.std.proofs.Common.{sym, ◌≡◌, ◌∙◌, false}
use Rattle.std.specs.Prelude.{bytes_eq}
use Rattle.action_graph.proofs.Linking.{name_none, name_some}
use Rattle.action_graph.proofs.links.note_name.Goals as goal

pub returns-in-None : goal.returns-in-None
returns-in-None g c = name_none c.args.members.now c.args.dependent.now c.args.name.now c.find.result c.args.places.now.items c.find.ensures.value c.in-None.is

pub returns-in_ok-push-in-Some : goal.returns-in_ok-push-in-Some
returns-in_ok-push-in-Some g c =
    let apart : bytes_eq c.args.name.now c.args.dependent.now.pkg.name ≡ false = sym c.eq.ensures ∙ c.if-eq.false in
    name_some c.args.members.now c.args.dependent.now c.args.name.now c.find.result c.in-Some.place c.args.places.now.items c.push.new.self.items c.requires.differ c.find.ensures.value c.in-Some.is apart
    c.in_ok-push-in-Some.ensures.items
