use Rattle.std.proofs.Common.{◌∙◌, ap, sym}
use Rattle.std.specs.Option.{option_copied}
use Rattle.opam_queries.specs.Replies.{asked_entry}
use Rattle.opam_queries.proofs.Asked.{asks_entry, asks_none}
use Rattle.opam_queries.proofs.showing.show.Goals as goal

pub returns-in-Some : goal.returns-in-Some
returns-in-Some g c =
    let now = c.args.opened.now in
    asks_entry now.globals c.args.repo.now now.switch.state c.args.what.now c.in-Some.member.now (asked_entry c.args.what.now now.switch.state.members) c.owners.result.now c.show_member.result c.args.host.now
    (sym c.entry_in.ensures ∙ ap option_copied c.in-Some.is) c.owners.ensures.owned c.show_member.ensures

pub returns-in-None : goal.returns-in-None
returns-in-None g c =
    let now = c.args.opened.now in
    asks_none now.globals c.args.repo.now now.switch.state c.args.what.now (asked_entry c.args.what.now now.switch.state.members) c.show_absent.result
    (sym c.entry_in.ensures ∙ ap option_copied c.in-None.is) c.show_absent.ensures
