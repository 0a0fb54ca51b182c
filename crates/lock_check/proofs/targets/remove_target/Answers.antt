use Rattle.std.proofs.Common.{[], ◌++◌, ap, ◌∙◌}
use Rattle.opam_names.specs.ByteOrders.{in_order_by}
use Rattle.lock_check.specs.Violations.{pkgs_of, violation_name, violations_among}
use Rattle.lock_check.specs.Targets.{told_absents}
use Rattle.lock_check.proofs.Ordered.{pkgs_never_fall, pkgs_rise}
use Rattle.lock_check.proofs.Removed.{found_among, largest_of, others_differ}
use Rattle.lock_check.proofs.targets.remove_target.Goals as goal

pub largest_met-requires : goal.largest_met-requires
largest_met-requires c = others_differ c.args.installed.now c.args.names.now c.as_slice.result.now (c.as_slice.ensures ∙ c.in_ok-others.ensures) c.requires

pub tell_members-requires-clause-rises : goal.tell_members-requires-clause-rises
tell_members-requires-clause-rises c =
    pkgs_rise c.in_ok-members.members c.as_slice-4.result.now c.in_ok-members.ensures.rises (c.as_slice-4.ensures ∙ c.in_ok-set.ensures ∙ ap pkgs_of c.as_slice-2.ensures)

pub names_in-requires : goal.names_in-requires
names_in-requires c =
    pkgs_never_fall c.in_ok-members.members c.as_slice-5.result.now c.in_ok-members.ensures.rises (c.as_slice-5.ensures ∙ c.in_ok-set.ensures ∙ ap pkgs_of c.as_slice-2.ensures)

pub returns-clause-target : goal.returns-clause-target
returns-clause-target c = record {
  members = largest_of c.args.installed.now c.args.names.now c.as_slice.result.now c.in_ok-members.members (c.as_slice.ensures ∙ c.in_ok-others.ensures) c.in_ok-members.ensures;
  redo = c.new.ensures;
  fresh = c.new-2.ensures;
  roots = c.in_ok-names_in.ensures ∙ found_among c.in_ok-members.members c.as_slice-5.result.now c.args.roots.now (c.as_slice-5.ensures ∙ c.in_ok-set.ensures ∙ ap pkgs_of c.as_slice-2.ensures);
}

pub returns-clause-violations : goal.returns-clause-violations
returns-clause-violations c =
    c.in_ok-sort_by_bytes.ensures.ok
    ∙ ap (in_order_by violation_name) (c.in_ok-tell_members.ensures
    ∙ ap (λ told. told ++ violations_among c.as_slice-3.result.now []) c.in_ok-told.ensures
    ∙ ap (λ members. told_absents c.args.installed.now c.args.names.now ++ violations_among members []) c.as_slice-3.ensures)
