use Rattle.opam_names.proofs.ByteOrders.{order_only, order_permutes, order_rises, order_stable, order_up}
use Rattle.opam_lint.specs.Findings.{finding_key}
use Rattle.opam_lint.proofs.laws.findings_are_ordered.Goals as goal

pub returns : goal.returns
returns c = record {
  elements = order_permutes finding_key;
  stable = order_stable finding_key;
  ordered = order_up finding_key;
  rising = order_rises finding_key;
  only = order_only finding_key;
}
