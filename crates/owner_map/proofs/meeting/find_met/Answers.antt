use Rattle.std.proofs.Common.{sym, ◌∙◌, ap}
use Rattle.std.specs.Option.{option_copied}
use Rattle.owner_map.proofs.Finds.{met_above, met_below, met_same}
use Rattle.owner_map.proofs.meeting.find_met.Goals as goal

pub returns-in-Some : goal.returns-in-Some
returns-in-Some g c =
    sym (met_above g.T.ByteKey.key c.args.text.now c.args.list.now.items c.in-Some.item.now c.requires.rises (sym c.find_above.ensures ∙ ap option_copied c.in-Some.is))

pub returns-in-Some-find_text : goal.returns-in-Some-find_text
returns-in-Some-find_text g c =
    sym (met_same g.T.ByteKey.key c.args.text.now c.args.list.now.items c.in-Some-find_text.item.now c.requires.rises (sym c.find_above.ensures ∙ ap option_copied c.in-None.is)
    (sym c.find_text.ensures ∙ ap option_copied c.in-Some-find_text.is))

pub returns : goal.returns
returns g c =
    c.find_below.ensures
    ∙ sym (met_below g.T.ByteKey.key c.args.text.now c.args.list.now.items (sym c.find_above.ensures ∙ ap option_copied c.in-None.is) (sym c.find_text.ensures ∙ ap option_copied c.in-None-find_text.is))
