use Rattle.std.proofs.Common.{vec_len}
use Rattle.syntax_places.specs.Controls.{control_of}
use Rattle.syntax_places.proofs.Controls.{take_none, take_some, none_left}
use Rattle.syntax_places.proofs.control.Control.take.Goals as goal

pub put-requires : goal.put-requires
put-requires c =
    let new = c.pop-inner.new.self in
    none_left c.args.self.now.brackets.items new.items c.pop-inner.result (vec_len c.args.self.now.brackets) (vec_len new) c.pop-inner.ensures.rest c.pop-inner.ensures.cases

pub returns-in-None : goal.returns-in-None
returns-in-None c =
    let self = c.args.self.now in
    let new = c.pop-inner.new.self in
    take_none (record { expected = self.expected; updated = self.updated; section = self.section; inner = c.pop-inner.result })
    self.brackets.items new.items c.args.token.now c.follow.result c.pop-inner.ensures.items
    (none_left self.brackets.items new.items c.pop-inner.result (vec_len self.brackets) (vec_len new) c.pop-inner.ensures.rest c.pop-inner.ensures.cases)
    c.follow.ensures c.in-None.is

pub returns-in_ok-put-in-Some : goal.returns-in_ok-put-in-Some
returns-in_ok-put-in-Some c =
    let self = c.args.self.now in
    let new = c.pop-inner.new.self in
    take_some (record { expected = self.expected; updated = self.updated; section = self.section; inner = c.pop-inner.result })
    self.brackets.items new.items c.args.token.now c.follow.result c.in-Some.next (control_of c.put.new.self) c.pop-inner.ensures.items
    (none_left self.brackets.items new.items c.pop-inner.result (vec_len self.brackets) (vec_len new) c.pop-inner.ensures.rest c.pop-inner.ensures.cases)
    c.follow.ensures c.in-Some.is c.in_ok-put-in-Some.ensures
