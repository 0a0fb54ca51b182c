use Rattle.syntax_places.proofs.Controls.{put_same, put_opened, state_is}
use Rattle.syntax_places.proofs.control.Control.put.Goals as goal

pub returns-in_ok-put_back-in-Same : goal.returns-in_ok-put_back-in-Same
returns-in_ok-put_back-in-Same c =
    let n = c.args.next in
    state_is n.expected n.updated n.section _ _
    (put_same n.change c.args.inner c.args.self.now.brackets.items c.put_back.new.brackets.items c.in-Same.is c.requires c.in_ok-put_back-in-Same.ensures)

pub returns-in_ok-push-in-Opened : goal.returns-in_ok-push-in-Opened
returns-in_ok-push-in-Opened c =
    let n = c.args.next in
    state_is n.expected n.updated n.section _ _
    (put_opened n.change c.in-Opened.bracket c.args.inner c.args.self.now.brackets.items c.put_back-in-Opened.new.brackets.items c.push.new.self.items c.in-Opened.is
    c.requires c.in_ok-put_back-in-Opened.ensures c.in_ok-push-in-Opened.ensures.items)
