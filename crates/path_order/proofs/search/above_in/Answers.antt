use Rattle.std.proofs.Common.{◌≡◌, ◌≢◌, ◌<◌, ◌≤◌, ℕ, true, false, List, length, map, take, get_or, sym, ap, subst, ◌∙◌, arith}
use Rattle.std.specs.declared.cmp.Ordering.TheVariants.{Less}
use Rattle.std.proofs.lemmas.List.{length-map}
use Rattle.opam_names.specs.Paths.{IsPath, is_above}
use Rattle.path_order.specs.Apart.{AreApart}
use Rattle.path_order.specs.Parting.{common_len}
use Rattle.path_order.proofs.Fronts.{C, IsParent, not_above}
use Rattle.path_order.proofs.Lists.{NoneAbove, nth, none_parts, none_there, parents_of, path_at}
use Rattle.path_order.proofs.search.above_in.Goals as goal

-- no path of the list is above this text, seen by the places of the list, and of the path that has this text
back : {T : Type 0} (path : T → List ℕ) (list : List T) (text q : List ℕ) → text ≡ q → NoneAbove (map path list) text → (k : ℕ) → k < length list → is_above (nth (map path list) k) q ≡ false
back path list text q is none k within =
    let P : List ℕ → Type 0 = λ x. is_above (nth (map path list) k) x ≡ false in subst P is (none k (omega (arith, within, length-map list path)))

-- where the search found no place for what would be above
there : {T : Type 0} (path : T → List ℕ) (list : List T) (text o front : List ℕ) (len at : ℕ) → AreApart (map path list) → ((k : ℕ) → k < length (map path list) → is_above (nth (map path list) k) text ≡ true → IsParent (nth (map path list) k) o text)
    → len ≡ common_len o text → front ≡ take len text → ((k : ℕ) → k < at → C (nth (map path list) k) front ≡ Less) → ((k : ℕ) → at ≤ k → k < length list → C (nth (map path list) k) front ≢ Less)
    → (at < length (map path list) → is_above (nth (map path list) at) text ≡ false) → NoneAbove (map path list) text
there path list text o front len at apart parents len-is front-is before from free =
    let is : front ≡ take (common_len o text) text = front-is ∙ ap (λ (n : ℕ). take n text) len-is in
    none_there (map path list) text o at apart.rise parents
    (λ k low. let P : List ℕ → Type 0 = λ x. C (nth (map path list) k) x ≡ Less in subst P is (before k low))
    (λ k low within less. let P : List ℕ → Type 0 = λ x. C (nth (map path list) k) x ≡ Less in from k low (omega (arith, within, length-map list path)) (subst P (sym is) less))
    free

pub returns-then-len-text-clause-none : goal.returns-then-len-text-clause-none
returns-then-len-text-clause-none g c =
    let path = g.T.Pathed.path in
    let list = c.args.list.now in
    let text = c.as_bytes-text.result.now in
    let o = c.as_bytes.result.now in
    let valid : IsPath o = let P : List ℕ → Type 0 = λ x. IsPath x in subst P (sym (c.as_bytes.ensures.value ∙ c.as_str-2.ensures.value)) c.as_str-2.ensures.valid in
    let parents = parents_of path list text c.place_of-place.result c.index-list-place.result o c.requires c.place_of-place.ensures.within (λ e. absurd (omega (arith, e, c.if-place-eq0.false)))
    c.place_of-place.ensures.before c.place_of-place.ensures.from c.index-list-place.is (c.as_bytes.ensures.value ∙ c.as_str-2.ensures.value ∙ c.path.ensures) valid in
    back path list text c.args.path.now (c.as_bytes-text.ensures.value ∙ c.as_str.ensures.value)
    (none_parts (map path list) text o parents (λ within slash. absurd (omega (arith, within, c.common_len-len.ensures.value, c.if-len-text.true))))

pub returns-then-text-len-ne47-clause-none : goal.returns-then-text-len-ne47-clause-none
returns-then-text-len-ne47-clause-none g c =
    let path = g.T.Pathed.path in
    let list = c.args.list.now in
    let text = c.as_bytes-text.result.now in
    let o = c.as_bytes.result.now in
    let valid : IsPath o = let P : List ℕ → Type 0 = λ x. IsPath x in subst P (sym (c.as_bytes.ensures.value ∙ c.as_str-2.ensures.value)) c.as_str-2.ensures.valid in
    let parents = parents_of path list text c.place_of-place.result c.index-list-place.result o c.requires c.place_of-place.ensures.within (λ e. absurd (omega (arith, e, c.if-place-eq0.false)))
    c.place_of-place.ensures.before c.place_of-place.ensures.from c.index-list-place.is (c.as_bytes.ensures.value ∙ c.as_str-2.ensures.value ∙ c.path.ensures) valid in
    back path list text c.args.path.now (c.as_bytes-text.ensures.value ∙ c.as_str.ensures.value)
    (none_parts (map path list) text o parents (λ within slash. c.if-text-len-ne47.true (ap (λ (n : ℕ). get_or text n 0) c.common_len-len.ensures.value ∙ slash)))

pub returns-then-at-list-clause-none : goal.returns-then-at-list-clause-none
returns-then-at-list-clause-none g c =
    let path = g.T.Pathed.path in
    let list = c.args.list.now in
    let text = c.as_bytes-text.result.now in
    let o = c.as_bytes.result.now in
    let valid : IsPath o = let P : List ℕ → Type 0 = λ x. IsPath x in subst P (sym (c.as_bytes.ensures.value ∙ c.as_str-2.ensures.value)) c.as_str-2.ensures.valid in
    let parents = parents_of path list text c.place_of-place.result c.index-list-place.result o c.requires c.place_of-place.ensures.within (λ e. absurd (omega (arith, e, c.if-place-eq0.false)))
    c.place_of-place.ensures.before c.place_of-place.ensures.from c.index-list-place.is (c.as_bytes.ensures.value ∙ c.as_str-2.ensures.value ∙ c.path.ensures) valid in
    back path list text c.args.path.now (c.as_bytes-text.ensures.value ∙ c.as_str.ensures.value)
    (there path list text o c.split_at.result.0.now c.common_len-len.result c.place_of-at.result c.requires parents c.common_len-len.ensures.value c.split_at.ensures.front c.place_of-at.ensures.before
    c.place_of-at.ensures.from (λ within. absurd (omega (arith, within, c.if-at-list.true, length-map list path))))

pub returns-else-above-clause-none : goal.returns-else-above-clause-none
returns-else-above-clause-none g c =
    let path = g.T.Pathed.path in
    let list = c.args.list.now in
    let text = c.as_bytes-text.result.now in
    let o = c.as_bytes.result.now in
    let valid : IsPath o = let P : List ℕ → Type 0 = λ x. IsPath x in subst P (sym (c.as_bytes.ensures.value ∙ c.as_str-2.ensures.value)) c.as_str-2.ensures.valid in
    let parents = parents_of path list text c.place_of-place.result c.index-list-place.result o c.requires c.place_of-place.ensures.within (λ e. absurd (omega (arith, e, c.if-place-eq0.false)))
    c.place_of-place.ensures.before c.place_of-place.ensures.from c.index-list-place.is (c.as_bytes.ensures.value ∙ c.as_str-2.ensures.value ∙ c.path.ensures) valid in
    let text-is : text ≡ c.args.path.now = c.as_bytes-text.ensures.value ∙ c.as_str.ensures.value in
    let under : c.place_of-at.result < length list = omega (arith, c.place_of-at.ensures.within, c.if-at-list.false) in
    let value-is : c.path-found.result.now ≡ nth (map path list) c.place_of-at.result = c.path-found.ensures ∙ path_at path list c.place_of-at.result c.index-list-at.result under c.index-list-at.is in
    let free : is_above (nth (map path list) c.place_of-at.result) text ≡ false =
    ap (λ (x : List ℕ). is_above x text) (sym value-is) ∙ ap (λ (x : List ℕ). is_above c.path-found.result.now x) text-is ∙ sym c.above-above.ensures ∙ c.if-above.false in
    back path list text c.args.path.now text-is
    (there path list text o c.split_at.result.0.now c.common_len-len.result c.place_of-at.result c.requires parents c.common_len-len.ensures.value c.split_at.ensures.front c.place_of-at.ensures.before
    c.place_of-at.ensures.from (λ _. free))

pub returns-then-above-clause-some : goal.returns-then-above-clause-some
returns-then-above-clause-some g c =
    let path = g.T.Pathed.path in
    let list = c.args.list.now in
    let under : c.place_of-at.result < length list = omega (arith, c.place_of-at.ensures.within, c.if-at-list.false) in
    let value-is : c.path-found.result.now ≡ nth (map path list) c.place_of-at.result = c.path-found.ensures ∙ path_at path list c.place_of-at.result c.index-list-at.result under c.index-list-at.is in
    ap (λ (x : List ℕ). is_above x c.args.path.now) (sym value-is) ∙ sym c.above-above.ensures ∙ c.if-above.true

pub returns-then-above-clause-valid : goal.returns-then-above-clause-valid
returns-then-above-clause-valid g c =
    let path = g.T.Pathed.path in
    let list = c.args.list.now in
    let under : c.place_of-at.result < length list = omega (arith, c.place_of-at.ensures.within, c.if-at-list.false) in
    let value-is : c.path-found.result.now ≡ nth (map path list) c.place_of-at.result = c.path-found.ensures ∙ path_at path list c.place_of-at.result c.index-list-at.result under c.index-list-at.is in
    let P : List ℕ → Type 0 = λ x. IsPath x in
    subst P value-is c.as_str-text.ensures.valid

pub returns-then-place-eq0-clause-none : goal.returns-then-place-eq0-clause-none
returns-then-place-eq0-clause-none g c =
    let path = g.T.Pathed.path in
    let list = c.args.list.now in
    let text = c.as_bytes-text.result.now in
    back path list text c.args.path.now (c.as_bytes-text.ensures.value ∙ c.as_str.ensures.value)
    (λ k within. not_above (nth (map path list) k) text (c.place_of-place.ensures.from k (omega (arith, c.if-place-eq0.true)) (omega (arith, within, length-map list path))))
