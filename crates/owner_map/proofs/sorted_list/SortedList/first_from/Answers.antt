use Rattle.std.proofs.Common.{◌≡◌, ◌<◌, ◌≤◌, List, [], get_or, length, sym, ◌∙◌, ap, subst, arith}
use Rattle.std.specs.Prelude.{slice_get}
use Rattle.std.specs.List.{find}
use Rattle.opam_names.specs.Buffers.{Buffered}
use Rattle.opam_names.specs.ByteOrders.{RisesBy, precedes}
use Rattle.opam_names.specs.ByteOrderLaws.{NeverFallsBy-from_rises}
use Rattle.owner_map.specs.Chunks.{chunk_from, joined}
use Rattle.owner_map.specs.Searching.{is_from}
use Rattle.owner_map.proofs.Chunking.{chunk_rises, find_joined, past}
use Rattle.owner_map.proofs.Finding.{copied_is, from_place}
use Rattle.owner_map.proofs.Splitting.{chunk_is}
use Rattle.owner_map.proofs.sorted_list.SortedList.first_from.Goals as goal

pub returns-then-at-len : goal.returns-then-at-len
returns-then-at-len g c =
    let key = g.T.ByteKey.key in
    let text = c.args.text.now in
    let cs = c.self.inside.chunks.items in
    let used = c.self.inside.used in
    let at = c.chunk_from-at.result in
    let own : joined cs ≡ c.args.self.now.items = ap (λ (b : Buffered g.row.T.Denot). b.items) c.self.view_is in
    let U : List g.row.T.Denot → Type 0 = λ xs. RisesBy key xs in
    let up : RisesBy key (joined cs) = subst U (sym own) c.requires in
    let at-is : at ≡ chunk_from key text cs = c.chunk_from-at.ensures.value ∙ ap (λ (l : List (List g.row.T.Denot)). chunk_from key text l) c.as_slice.ensures.value in
    let long : length cs ≤ at = omega (arith, c.if-at-len.true, c.len.ensures, c.as_slice.ensures.len, ap length c.as_slice.ensures.value) in
    sym (ap (find (is_from key text)) (sym own) ∙ find_joined key text used cs c.self.invariant.shaped up ∙ ap (λ n. find (is_from key text) (get_or cs n [])) (sym at-is) ∙ ap (find (is_from key text)) (past cs at long))

pub count_before_bytes-place-requires : goal.count_before_bytes-place-requires
count_before_bytes-place-requires g c =
    let key = g.T.ByteKey.key in
    let text = c.args.text.now in
    let cs = c.self.inside.chunks.items in
    let used = c.self.inside.used in
    let at = c.chunk_from-at.result in
    let own : joined cs ≡ c.args.self.now.items = ap (λ (b : Buffered g.row.T.Denot). b.items) c.self.view_is in
    let U : List g.row.T.Denot → Type 0 = λ xs. RisesBy key xs in
    let up : RisesBy key (joined cs) = subst U (sym own) c.requires in
    let at-is : at ≡ chunk_from key text cs = c.chunk_from-at.ensures.value ∙ ap (λ (l : List (List g.row.T.Denot)). chunk_from key text l) c.as_slice.ensures.value in
    let within : at < length cs = omega (arith, c.chunk_from-at.ensures.within, c.if-at-len.false, c.len.ensures, c.as_slice.ensures.len, ap length c.as_slice.ensures.value) in
    let chunk : c.as_slice-items.result.now ≡ get_or cs at [] = c.as_slice-items.ensures ∙ chunk_is cs at c.index.result.now within c.index.ensures in
    NeverFallsBy-from_rises key c.as_slice-items.result.now (subst U (sym chunk) (chunk_rises key cs at up))

pub returns : goal.returns
returns g c =
    let key = g.T.ByteKey.key in
    let text = c.args.text.now in
    let cs = c.self.inside.chunks.items in
    let used = c.self.inside.used in
    let at = c.chunk_from-at.result in
    let own : joined cs ≡ c.args.self.now.items = ap (λ (b : Buffered g.row.T.Denot). b.items) c.self.view_is in
    let U : List g.row.T.Denot → Type 0 = λ xs. RisesBy key xs in
    let up : RisesBy key (joined cs) = subst U (sym own) c.requires in
    let at-is : at ≡ chunk_from key text cs = c.chunk_from-at.ensures.value ∙ ap (λ (l : List (List g.row.T.Denot)). chunk_from key text l) c.as_slice.ensures.value in
    let within : at < length cs = omega (arith, c.chunk_from-at.ensures.within, c.if-at-len.false, c.len.ensures, c.as_slice.ensures.len, ap length c.as_slice.ensures.value) in
    let chunk : c.as_slice-items.result.now ≡ get_or cs at [] = c.as_slice-items.ensures ∙ chunk_is cs at c.index.result.now within c.index.ensures in
    let items = c.as_slice-items.result.now in
    copied_is items c.count_before_bytes-place.result c.get.result c.get.ensures.lookup.3 ∙ ap (slice_get items) c.count_before_bytes-place.ensures.value
    ∙ from_place (λ x. precedes (key x) text) items ∙ ap (find (is_from key text)) chunk ∙ ap (λ n. find (is_from key text) (get_or cs n [])) at-is
    ∙ sym (find_joined key text used cs c.self.invariant.shaped up) ∙ ap (find (is_from key text)) own
