use Rattle.std.proofs.Common.{ℕ, List, ap, ◌∙◌, ◌++◌, sym}
use Rattle.opam_names.specs.declared.packages.Pkg.{Pkg}
use Rattle.owner_map.specs.Owning.{paths_owned_by}
use Rattle.owner_map.proofs.Splitting.{owned_more}
use Rattle.owner_map.proofs.chunks.paths_of.Goals as goal

pub loop-chunk-preserved : goal.loop-chunk-preserved
loop-chunk-preserved c =
    c.in_ok-add_paths.ensures ∙ ap (λ (l : List (List ℕ)). l ++ paths_owned_by c.args.owner.now c.chunk-item.result) c.loop-chunk.invariant
    ∙ sym (owned_more c.args.owner.now c.args.chunks.now c.loop-chunk.chunk-index c.chunk-item.result c.loop-chunk-test.true c.chunk-item.is)
