use Rattle.std.proofs.Common.{map, not}
use Rattle.opam_package.specs.declared.package.Member.{Member}
use Rattle.lock_check.specs.Chased.{is_replaced, stay}
use Rattle.lock_check.specs.Installs.{inner}
use Rattle.lock_check.proofs.Ordered.{filter_parts, parts_on}
use Rattle.lock_check.proofs.install.kept.Goals as goal

pub loop-member-preserved : goal.loop-member-preserved
loop-member-preserved c =
    parts_on (stay c.args.bound.now c.args.needed.now.keys) (filter_parts (λ (member : Member). not (is_replaced c.args.bound.now c.args.needed.now.keys member)))
    (map inner c.loop-member.copies) (map inner c.keep_one.new.copies) _ c.args.installed.now c.loop-member.member-index
    c.member-item.result c.loop-member-test.true c.member-item.is c.in_ok-keep_one.ensures c.loop-member.invariant
