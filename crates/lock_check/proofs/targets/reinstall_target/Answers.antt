use Rattle.std.proofs.Common.{[], ◌++◌, ap, ◌∙◌}
use Rattle.opam_names.specs.ByteOrders.{in_order_by}
use Rattle.lock_check.specs.Targets.{told_absents}
use Rattle.lock_check.specs.Violations.{pkgs_of, violation_name, violations_among}
use Rattle.lock_check.proofs.Ordered.{absents_told, found_of, pkgs_never_fall, pkgs_rise}
use Rattle.lock_check.proofs.targets.reinstall_target.Goals as goal

pub absents-requires : goal.absents-requires
absents-requires c =
    pkgs_never_fall c.in_ok-members.members c.as_slice-2.result.now c.in_ok-members.ensures.rises (c.as_slice-2.ensures ∙ c.in_ok-set.ensures ∙ ap pkgs_of c.as_slice.ensures)

pub tell_members-requires-clause-rises : goal.tell_members-requires-clause-rises
tell_members-requires-clause-rises c =
    pkgs_rise c.in_ok-members.members c.as_slice-4.result.now c.in_ok-members.ensures.rises (c.as_slice-4.ensures ∙ c.in_ok-set.ensures ∙ ap pkgs_of c.as_slice.ensures)

pub names_in-requires : goal.names_in-requires
names_in-requires c =
    pkgs_never_fall c.in_ok-members.members c.as_slice-5.result.now c.in_ok-members.ensures.rises (c.as_slice-5.ensures ∙ c.in_ok-set.ensures ∙ ap pkgs_of c.as_slice.ensures)

pub names_in-requires-2 : goal.names_in-requires-2
names_in-requires-2 c =
    pkgs_never_fall c.in_ok-members.members c.as_slice-6.result.now c.in_ok-members.ensures.rises (c.as_slice-6.ensures ∙ c.in_ok-set.ensures ∙ ap pkgs_of c.as_slice.ensures)

pub returns-clause-target : goal.returns-clause-target
returns-clause-target c =
    let set_is = c.in_ok-set.ensures ∙ ap pkgs_of c.as_slice.ensures in
    λ i. record {
      members = c.in_ok-members.ensures.sorted i;
      redo = (c.in_ok-names_in.ensures ∙ found_of c.args.installed.now c.in_ok-members.members c.as_slice-5.result.now c.args.names.now c.in_ok-members.ensures.sorted (c.as_slice-5.ensures ∙ set_is)) i;
      fresh = c.new.ensures i;
      roots = (c.in_ok-names_in-2.ensures ∙ found_of c.args.installed.now c.in_ok-members.members c.as_slice-6.result.now c.args.roots.now c.in_ok-members.ensures.sorted (c.as_slice-6.ensures ∙ set_is)) i;
    }

pub returns-clause-violations : goal.returns-clause-violations
returns-clause-violations c =
    let set_is = c.in_ok-set.ensures ∙ ap pkgs_of c.as_slice.ensures in
    c.in_ok-sort_by_bytes.ensures.ok
    ∙ ap (in_order_by violation_name) (c.in_ok-tell_members.ensures
    ∙ ap (λ told. told ++ violations_among c.as_slice-3.result.now []) (c.in_ok-told.ensures ∙ absents_told c.args.installed.now c.in_ok-members.members c.as_slice-2.result.now c.args.names.now c.in_ok-members.ensures.sorted (c.as_slice-2.ensures ∙ set_is))
    ∙ ap (λ members. told_absents c.args.installed.now c.args.names.now ++ violations_among members []) (c.as_slice-3.ensures ∙ c.in_ok-members.ensures.sorted))
