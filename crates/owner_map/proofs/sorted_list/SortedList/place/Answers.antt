use Rattle.std.proofs.Common.{◌≡◌, ◌+◌, List, [], take, drop, get_or, length, sym, ◌∙◌, ap, subst, arith}
use Rattle.std.proofs.lemmas.List.Sums.{prefix_len-le-length}
use Rattle.opam_names.specs.Buffers.{Buffered}
use Rattle.opam_names.specs.ByteOrders.{RisesBy, count_before, precedes}
use Rattle.owner_map.specs.Chunks.{chunk_from, joined}
use Rattle.owner_map.proofs.Chunking.{chunk_rises, count_joined, first_drop}
use Rattle.owner_map.proofs.Splitting.{joined_front}
use Rattle.owner_map.proofs.sorted_list.SortedList.place.Goals as goal

pub count_all-requires : goal.count_all-requires
count_all-requires g c =
    let key = g.T.ByteKey.key in
    let text = c.args.text.now in
    let cs = c.self.inside.chunks.items in
    let used = c.self.inside.used in
    let at = c.chunk_from-at.result in
    let own : joined cs ≡ c.args.self.now.items = ap (λ (b : Buffered g.row.T.Denot). b.items) c.self.view_is in
    let U : List g.row.T.Denot → Type 0 = λ xs. RisesBy key xs in
    let up : RisesBy key (joined cs) = subst U (sym own) c.requires in
    let at-is : at ≡ chunk_from key text cs = c.chunk_from-at.ensures.value ∙ ap (λ (l : List (List g.row.T.Denot)). chunk_from key text l) c.as_slice.ensures.value in
    let front : c.split_at.result.0.now ≡ take at cs = c.split_at.ensures.front ∙ ap (take at) c.as_slice-2.ensures.value in
    let back : get_or c.split_at.result.1.now 0 [] ≡ get_or cs at [] =
    ap (λ (l : List (List g.row.T.Denot)). get_or l 0 []) (c.split_at.ensures.back ∙ ap (drop at) c.as_slice-2.ensures.value) ∙ first_drop cs at in
    omega (arith, ap (λ (l : List (List g.row.T.Denot)). length (joined l)) front, joined_front cs at, c.self.invariant.counted, c.self.invariant.bounded)

pub count_first-requires : goal.count_first-requires
count_first-requires g c =
    let key = g.T.ByteKey.key in
    let text = c.args.text.now in
    let cs = c.self.inside.chunks.items in
    let used = c.self.inside.used in
    let at = c.chunk_from-at.result in
    let own : joined cs ≡ c.args.self.now.items = ap (λ (b : Buffered g.row.T.Denot). b.items) c.self.view_is in
    let U : List g.row.T.Denot → Type 0 = λ xs. RisesBy key xs in
    let up : RisesBy key (joined cs) = subst U (sym own) c.requires in
    let at-is : at ≡ chunk_from key text cs = c.chunk_from-at.ensures.value ∙ ap (λ (l : List (List g.row.T.Denot)). chunk_from key text l) c.as_slice.ensures.value in
    let front : c.split_at.result.0.now ≡ take at cs = c.split_at.ensures.front ∙ ap (take at) c.as_slice-2.ensures.value in
    let back : get_or c.split_at.result.1.now 0 [] ≡ get_or cs at [] =
    ap (λ (l : List (List g.row.T.Denot)). get_or l 0 []) (c.split_at.ensures.back ∙ ap (drop at) c.as_slice-2.ensures.value) ∙ first_drop cs at in
    subst U (sym back) (chunk_rises key cs at up)

pub overflow_add-result : goal.overflow_add-result
overflow_add-result g c =
    let key = g.T.ByteKey.key in
    let text = c.args.text.now in
    let cs = c.self.inside.chunks.items in
    let used = c.self.inside.used in
    let at = c.chunk_from-at.result in
    let own : joined cs ≡ c.args.self.now.items = ap (λ (b : Buffered g.row.T.Denot). b.items) c.self.view_is in
    let U : List g.row.T.Denot → Type 0 = λ xs. RisesBy key xs in
    let up : RisesBy key (joined cs) = subst U (sym own) c.requires in
    let at-is : at ≡ chunk_from key text cs = c.chunk_from-at.ensures.value ∙ ap (λ (l : List (List g.row.T.Denot)). chunk_from key text l) c.as_slice.ensures.value in
    let front : c.split_at.result.0.now ≡ take at cs = c.split_at.ensures.front ∙ ap (take at) c.as_slice-2.ensures.value in
    let back : get_or c.split_at.result.1.now 0 [] ≡ get_or cs at [] =
    ap (λ (l : List (List g.row.T.Denot)). get_or l 0 []) (c.split_at.ensures.back ∙ ap (drop at) c.as_slice-2.ensures.value) ∙ first_drop cs at in
    let whole : c.count_all.result + c.count_first.result ≡ count_before key text (joined cs) =
    ap (λ n. n + c.count_first.result) (c.count_all.ensures ∙ ap (λ (l : List (List g.row.T.Denot)). length (joined l)) front)
    ∙ ap (λ n. length (joined (take at cs)) + n) (c.count_first.ensures.value ∙ ap (count_before key text) back)
    ∙ ap (λ n. length (joined (take n cs)) + count_before key text (get_or cs n [])) at-is ∙ sym (count_joined key text used cs c.self.invariant.shaped up) in
    let most = prefix_len-le-length (λ x. precedes (key x) text) (joined cs) in
    omega (arith, whole, most, c.self.invariant.counted, c.self.invariant.bounded)

pub returns-clause-value : goal.returns-clause-value
returns-clause-value g c =
    let key = g.T.ByteKey.key in
    let text = c.args.text.now in
    let cs = c.self.inside.chunks.items in
    let used = c.self.inside.used in
    let at = c.chunk_from-at.result in
    let own : joined cs ≡ c.args.self.now.items = ap (λ (b : Buffered g.row.T.Denot). b.items) c.self.view_is in
    let U : List g.row.T.Denot → Type 0 = λ xs. RisesBy key xs in
    let up : RisesBy key (joined cs) = subst U (sym own) c.requires in
    let at-is : at ≡ chunk_from key text cs = c.chunk_from-at.ensures.value ∙ ap (λ (l : List (List g.row.T.Denot)). chunk_from key text l) c.as_slice.ensures.value in
    let front : c.split_at.result.0.now ≡ take at cs = c.split_at.ensures.front ∙ ap (take at) c.as_slice-2.ensures.value in
    let back : get_or c.split_at.result.1.now 0 [] ≡ get_or cs at [] =
    ap (λ (l : List (List g.row.T.Denot)). get_or l 0 []) (c.split_at.ensures.back ∙ ap (drop at) c.as_slice-2.ensures.value) ∙ first_drop cs at in
    let whole : c.count_all.result + c.count_first.result ≡ count_before key text (joined cs) =
    ap (λ n. n + c.count_first.result) (c.count_all.ensures ∙ ap (λ (l : List (List g.row.T.Denot)). length (joined l)) front)
    ∙ ap (λ n. length (joined (take at cs)) + n) (c.count_first.ensures.value ∙ ap (count_before key text) back)
    ∙ ap (λ n. length (joined (take n cs)) + count_before key text (get_or cs n [])) at-is ∙ sym (count_joined key text used cs c.self.invariant.shaped up) in
    let most = prefix_len-le-length (λ x. precedes (key x) text) (joined cs) in
    whole ∙ ap (count_before key text) own

pub returns-clause-within : goal.returns-clause-within
returns-clause-within g c =
    let key = g.T.ByteKey.key in
    let text = c.args.text.now in
    let cs = c.self.inside.chunks.items in
    let used = c.self.inside.used in
    let at = c.chunk_from-at.result in
    let own : joined cs ≡ c.args.self.now.items = ap (λ (b : Buffered g.row.T.Denot). b.items) c.self.view_is in
    let U : List g.row.T.Denot → Type 0 = λ xs. RisesBy key xs in
    let up : RisesBy key (joined cs) = subst U (sym own) c.requires in
    let at-is : at ≡ chunk_from key text cs = c.chunk_from-at.ensures.value ∙ ap (λ (l : List (List g.row.T.Denot)). chunk_from key text l) c.as_slice.ensures.value in
    let front : c.split_at.result.0.now ≡ take at cs = c.split_at.ensures.front ∙ ap (take at) c.as_slice-2.ensures.value in
    let back : get_or c.split_at.result.1.now 0 [] ≡ get_or cs at [] =
    ap (λ (l : List (List g.row.T.Denot)). get_or l 0 []) (c.split_at.ensures.back ∙ ap (drop at) c.as_slice-2.ensures.value) ∙ first_drop cs at in
    let whole : c.count_all.result + c.count_first.result ≡ count_before key text (joined cs) =
    ap (λ n. n + c.count_first.result) (c.count_all.ensures ∙ ap (λ (l : List (List g.row.T.Denot)). length (joined l)) front)
    ∙ ap (λ n. length (joined (take at cs)) + n) (c.count_first.ensures.value ∙ ap (count_before key text) back)
    ∙ ap (λ n. length (joined (take n cs)) + count_before key text (get_or cs n [])) at-is ∙ sym (count_joined key text used cs c.self.invariant.shaped up) in
    let most = prefix_len-le-length (λ x. precedes (key x) text) (joined cs) in
    omega (arith, whole, most, ap length own)
