use Rattle.std.proofs.Common.{rules}
use Rattle.journal_text.specs.declared.record.Placed.{Placed}
use Rattle.opam_names.proofs.ByteSort.{sorted_is}
use Rattle.change_verdict.proofs.install.sort.Goals as goal

pub returns : goal.returns
returns c =
    sorted_is (λ (file : Placed). file.path) c.args.files.now.items c.sort_by.new.self.items c.in_ok-sort_by.ensures.sorted c.in_ok-sort_by.ensures.stable (λ a r q k. search rules)
