use Rattle.std.proofs.Common.{◌∙◌, sym, ap, IsTrue, Ok}
use Rattle.std.specs.List.{list_all}
use Rattle.opam_top.specs.Commits.{paths_differ}
use Rattle.opam_top.specs.Installs.{is_vacant}
use Rattle.opam_top.specs.Owners.{is_unowned, owners_of}
use Rattle.opam_top.specs.Placements.{first_clash, is_in_bin}
use Rattle.opam_top.specs.Records.{FilesFit}
use Rattle.opam_top.proofs.Apart.{differ_order}
use Rattle.opam_top.proofs.Clashes.{all_vacant}
use Rattle.opam_top.proofs.Orders.{order_keeps}
use Rattle.opam_top.proofs.Placeable.{if_roomy, order_fits}
use Rattle.opam_top.proofs.deciding.files_if_free.Goals as goal

pub returns-in_ok-files_if_room-in-None-clause-fit : goal.returns-in_ok-files_if_room-in-None-clause-fit
returns-in_ok-files_if_room-in-None-clause-fit g c =
    if_roomy (owners_of c.args.owners.now) c.args.files c.in_ok-files_if_room-in-None.field-0 FilesFit (order_fits c.args.files c.requires.fit) c.in_ok-files_if_room-in-None.ensures.room

pub returns-in_ok-files_if_room-in-None-clause-paths : goal.returns-in_ok-files_if_room-in-None-clause-paths
returns-in_ok-files_if_room-in-None-clause-paths g c =
    if_roomy (owners_of c.args.owners.now) c.args.files c.in_ok-files_if_room-in-None.field-0 (λ list. IsTrue (list_all is_in_bin list))
    (order_keeps is_in_bin c.args.files ∙ c.requires.paths) c.in_ok-files_if_room-in-None.ensures.room

pub returns-in_ok-files_if_room-in-None-clause-unowned : goal.returns-in_ok-files_if_room-in-None-clause-unowned
returns-in_ok-files_if_room-in-None-clause-unowned g c =
    let new = is_unowned (owners_of c.args.owners.now) in
    if_roomy (owners_of c.args.owners.now) c.args.files c.in_ok-files_if_room-in-None.field-0 (λ list. IsTrue (list_all new list))
    (order_keeps new c.args.files ∙ ap (list_all new) (sym c.as_slice.ensures) ∙ c.in_ok-reason.ensures.unowned (ap Ok c.in-None.is)) c.in_ok-files_if_room-in-None.ensures.room

pub returns-in_ok-files_if_room-in-None-clause-apart : goal.returns-in_ok-files_if_room-in-None-clause-apart
returns-in_ok-files_if_room-in-None-clause-apart g c =
    if_roomy (owners_of c.args.owners.now) c.args.files c.in_ok-files_if_room-in-None.field-0 (λ list. IsTrue (paths_differ list))
    (differ_order c.args.files ∙ ap paths_differ (sym c.as_slice.ensures) ∙ c.in_ok-reason.ensures.apart (ap Ok c.in-None.is)) c.in_ok-files_if_room-in-None.ensures.room

pub returns-in_ok-files_if_room-in-None-clause-vacant : goal.returns-in_ok-files_if_room-in-None-clause-vacant
returns-in_ok-files_if_room-in-None-clause-vacant g c = λ s told.
    let owners = owners_of c.args.owners.now in
    let free = ap (first_clash s.files owners c.args.pkg.now) (sym c.as_slice.ensures) ∙ sym (c.in_ok-reason.ensures.told s told) ∙ c.in-None.is in
    if_roomy owners c.args.files c.in_ok-files_if_room-in-None.field-0 (λ list. IsTrue (list_all (is_vacant s.files) list))
    (order_keeps (is_vacant s.files) c.args.files ∙ all_vacant s.files owners c.args.pkg.now c.args.files free) c.in_ok-files_if_room-in-None.ensures.room
