use Rattle.opam_queries.proofs.queries.show_in.Goals as goal

pub returns : goal.returns
returns g c =
    let it = c.open_switch-opening.ensures in
    record {
      opening = c.open_switch-opening.result;
      opens = record { disk = it.disk; held = it.held; taken = it.taken; locked = it.locked; host = it.host; touches = it.touches; under = it.under; stands = it.stands; formed = it.formed; members = it.members; commits = it.commits; damaged = it.damaged; crash = it.crash };
      given = c.show_after.ensures;
    }
