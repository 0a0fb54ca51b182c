use Rattle.lock_check.specs.Targets.{member_name}
use Rattle.lock_check.proofs.Differing.{apart_next, apart_none, twice}
use Rattle.lock_check.proofs.differ.names_differ.Goals as goal

pub loop-member-init : goal.loop-member-init
loop-member-init c = apart_none member_name c.new-names.result.keys c.new-names.ensures.empty

pub loop-member-preserved : goal.loop-member-preserved
loop-member-preserved c =
    apart_next member_name c.args.members.now c.loop-member.member-index c.member-item.result c.loop-member.names.keys c.is_new.new.names.keys c.in_ok-is_new.field-0
    c.loop-member-test.true c.member-item.is c.in_ok-is_new.ensures.new c.if-not-branch.false c.in_ok-is_new.ensures.keys c.loop-member.invariant

pub returns-then-not-branch : goal.returns-then-not-branch
returns-then-not-branch c = (
  (λ never. absurd cc),
  (λ differ.
      absurd (twice member_name c.args.members.now c.loop-member.member-index c.member-item.result c.loop-member.names.keys c.in_ok-is_new.field-0
      c.loop-member-test.true c.member-item.is c.in_ok-is_new.ensures.new c.if-not-branch.true c.loop-member.invariant differ)),
)
