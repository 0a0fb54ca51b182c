use Rattle.std.proofs.Common.{◌≡◌, ◌-◌, ℕ, List, length, map, refl, sym, subst, ◌∙◌, arith}
use Rattle.std.specs.declared.cmp.Ordering.TheVariants.{Less}
use Rattle.std.proofs.lemmas.List.{length-map}
use Rattle.path_order.proofs.Fronts.{C}
use Rattle.path_order.proofs.Lists.{after_last, nth, path_at}
use Rattle.path_order.proofs.search.stands_last.Goals as goal

pub returns-in-None : goal.returns-in-None
returns-in-None g c =
    let path = g.T.Pathed.path in
    let list = c.args.list.now in
    let len : length (map path list) ≡ length list = length-map list path in
    let last-is : c.as_bytes.result.now ≡ nth (map path list) (length list - 1) = c.as_bytes.ensures.value ∙ c.as_str.ensures.value ∙ c.path-last.ensures ∙ path_at path list (length list - 1) c.index-list-list.result (omega (arith, c.requires.some)) c.index-list-list.is in
    let this-is : c.as_bytes-2.result.now ≡ c.args.path.now = c.as_bytes-2.ensures.value ∙ c.as_str-2.ensures.value in
    let P : List ℕ → Type 0 = λ x. C x c.as_bytes-2.result.now ≡ Less in
    let Q : List ℕ → Type 0 = λ x. C (nth (map path list) (length list - 1)) x ≡ Less in
    let R : ℕ → Type 0 = λ n. C (nth (map path list) (n - 1)) c.args.path.now ≡ Less in
    let less = subst R (sym len) (subst Q this-is (subst P last-is (c.if-not-after.ensures.0 refl))) in (
      λ _. record {
        after = after_last (map path list) c.args.path.now c.requires.apart.rise (omega (arith, c.requires.some, len)) less;
        free = λ k within. c.in-None.ensures.none k (omega (arith, within, len));
      },
      λ _. refl,
    )
