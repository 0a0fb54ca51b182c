use Rattle.std.proofs.Common.{◌∙◌, ap, sym}
use Rattle.action_graph.proofs.Placing.{pushed_at}
use Rattle.opam_package.specs.declared.package.Member.{Member}
use Rattle.action_graph.proofs.views.pkgs_at.Goals as goal

pub loop-place-preserved : goal.loop-place-preserved
loop-place-preserved c =
    pushed_at (λ (member : Member). member.package.pkg) c.args.members.now c.args.places.now c.loop-place.place-index c.index-members-place.result c.in_ok-copy.field-0 c.loop-place.pkgs c.push.new.self
    c.loop-place.invariant c.loop-place-test.true (c.requires c.loop-place.place-index c.loop-place-test.true) c.index-members-place.is (c.in_ok-copy.ensures ∙ ap (λ (m : Member). m.package.pkg) (sym c.index-members-place.is)) c.in_ok-push.ensures.ok
