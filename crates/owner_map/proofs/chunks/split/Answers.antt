use Rattle.std.proofs.Common.{◌≡◌, ◌+◌, ◌<◌, List, [], length, take, drop, get_or, insert, sym, ◌∙◌, ap, subst, arith, rules, ◌∷◌}
use Rattle.std.specs.Prelude.{slice_set, if◌then◌else◌}
use Rattle.std.specs.Result.{is_ok}
use Rattle.std.specs.Vec.{vec_capacity, vec_len}
use Rattle.std.specs.declared.result.Result.{Result}
use Rattle.std.specs.declared.alloc.AllocFailed.{AllocFailed}
use Rattle.std.proofs.lemmas.List.{length-append}
use Rattle.owner_map.specs.Chunks.{split_off}
use Rattle.owner_map.specs.declared.chunk.TheConstants.{CHUNK_HALF}
use Rattle.owner_map.proofs.Splitting.{chunk_is, split_is}
use Rattle.owner_map.proofs.chunks.split.Goals.{in-Ok, in-Err}
use Rattle.owner_map.proofs.chunks.split.Goals as goal

pub returns-after-insert : goal.returns-after-insert
returns-after-insert g c =
    let old = c.args.chunks.now.items in
    let ini = c.pop.new.self.items in
    let at = c.args.at in
    let lower = c.move_half.new.self in
    let upper = c.move_half.new.other in
    let within : at < length ini = omega (arith, c.requires.within, ap length c.in-Some.ensures.items, length-append ini (c.in-Some.spare ∷ [])) in
    let full = chunk_is ini at c.index_mut.result.now within c.index_mut.ensures.value in
    let room : vec_len c.pop.new.self < vec_capacity c.pop.new.self = search rules in
    let P : Result (Unit {0}) (AllocFailed (List g.row.T.Denot)) → Type 0 = λ r. c.insert.new.self.items ≡ (if is_ok r then insert (slice_set ini at lower) (at + 1) upper else slice_set ini at lower) in
    elim c.match-insert.branch [
      | in-Ok w ↦
          subst P w.in-Ok.is c.insert.ensures.items
          ∙ ap (λ l. insert (slice_set ini at l) (at + 1) upper) (c.move_half.ensures.kept ∙ ap (take CHUNK_HALF) full)
          ∙ ap (λ u. insert (slice_set ini at (take CHUNK_HALF (get_or ini at []))) (at + 1) u) (c.move_half.ensures.moved ∙ ap (drop CHUNK_HALF) full)
          ∙ split_is ini at c.in-Some.spare within ∙ ap (split_off at) (sym c.in-Some.ensures.items)
      | in-Err w ↦ absurd (search rules)
    ]
