use Rattle.std.proofs.Common.{rules, ℕ, ◌≡◌, length, arith, ◌∙◌, subst}
use Rattle.action_graph.specs.Nodes.{Depends}
use Rattle.action_graph.proofs.Affecting.{depends_next, leads_within}
use Rattle.action_graph.proofs.affected.Change.dependents.Goals as goal

pub add_to-requires : goal.add_to-requires
add_to-requires c = λ i below.
    let fits = leads_within c.args.self.now.installed.now c.args.self.now.members.now c.args.self.now.index.now.spots c.loop-at.at c.as_slice.result.now c.requires.suits c.loop-at-test.true (c.as_slice.ensures ∙ c.in_ok-leads.ensures) i below in
    omega (arith, fits, c.loop-at.invariant.counted)

pub loop-at-preserved : goal.loop-at-preserved
loop-at-preserved c =
    depends_next c.args.self.now.installed.now c.args.self.now.members.now c.loop-at.at c.loop-at.rows c.add_to.new.self c.as_slice.result.now c.node_at.result c.loop-at.invariant (c.as_slice.ensures ∙ c.in_ok-leads.ensures) c.node_at.ensures.value c.in_ok-add_to.ensures

pub returns : goal.returns
returns c =
    let P : ℕ → Type 0 = λ done. Depends c.args.self.now.installed.now c.args.self.now.members.now done c.loop-at.rows in
    let all : c.loop-at.at ≡ length c.args.self.now.installed.now = search rules in
    subst P all c.loop-at.invariant
