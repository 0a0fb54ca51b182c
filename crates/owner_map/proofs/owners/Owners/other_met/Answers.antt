use Rattle.std.proofs.Common.{◌≡◌, ℕ, List, [], false, take, get_or, sym, ◌∙◌, ap, subst}
use Rattle.std.specs.List.{find}
use Rattle.std.specs.Option.{option_copied}
use Rattle.std.specs.declared.cmp.Ordering.TheVariants.{Less}
use Rattle.std.proofs.lemmas.Bool.{false≢true}
use Rattle.std.proofs.lemmas.List.{get_or_default}
use Rattle.opam_names.specs.ByteOrders.{RisesBy, byte_order, count_before, precedes}
use Rattle.owner_map.specs.Clashes.{IsFree, IsLeastMet}
use Rattle.owner_map.specs.Owning.{Owning, path_of, paths_of}
use Rattle.owner_map.specs.Searching.{meets_text, place_path}
use Rattle.owner_map.specs.declared.clash.Other.{Other}
use Rattle.owner_map.specs.declared.clash.Other.TheVariants.{Earlier, Owned}
use Rattle.owner_map.specs.declared.owned.OwnedPath.{OwnedPath}
use Rattle.owner_map.proofs.Finding.{found_passes}
use Rattle.owner_map.proofs.Gathering.{before_of_later, before_of_none, free_of_both, least_earlier, least_met, least_owned, met_first, none_met, not_less}
use Rattle.owner_map.proofs.Gathering.{met_earlier}
use Rattle.owner_map.proofs.Texts.{turned}
use Rattle.owner_map.proofs.owners.Owners.other_met.Goals as goal

pub returns-in-None-None-clause-none : goal.returns-in-None-None-clause-none
returns-in-None-None-clause-none c =
    let owned = c.args.self.now.owned in
    let paths = c.args.paths.now in
    let text = c.as_bytes-text.result.now in
    let own = ap (λ (o : Owning). o.owned) c.self.view_is in
    let text-is : text ≡ get_or paths c.args.index [] =
    c.as_bytes-text.ensures.value ∙ c.as_str.ensures.value ∙ c.index-paths-index.is ∙ get_or_default paths c.args.index c.index-paths-index.result [] c.requires.within in
    let P : List ℕ → Type 0 = λ q. IsFree (paths_of owned) (take c.args.index paths) q in
    subst P text-is (free_of_both owned c.args.earlier.now.items paths c.args.index text c.requires.earlier
    (ap (find (meets_text path_of text)) (sym own) ∙ sym c.find_met-owned.ensures ∙ ap option_copied c.in-None-None.is-0)
    (sym c.find_met-place.ensures ∙ ap option_copied c.in-None-None.is-1))

pub returns-in-None-Some-clause-some : goal.returns-in-None-Some-clause-some
returns-in-None-Some-clause-some c =
    let owned = c.args.self.now.owned in
    let paths = c.args.paths.now in
    let text = c.as_bytes-text.result.now in
    let place = c.in-None-Some.place.now in
    let own = ap (λ (o : Owning). o.owned) c.self.view_is in
    let text-is : text ≡ get_or paths c.args.index [] =
    c.as_bytes-text.ensures.value ∙ c.as_str.ensures.value ∙ c.index-paths-index.is ∙ get_or_default paths c.args.index c.index-paths-index.result [] c.requires.within in
    let none = none_met path_of text owned (ap (find (meets_text path_of text)) (sym own) ∙ sym c.find_met-owned.ensures ∙ ap option_copied c.in-None-Some.is-0) in
    let found = sym c.find_met-place.ensures ∙ ap option_copied c.in-None-Some.is-1 in
    let P : List ℕ → Type 0 = λ q. IsLeastMet (paths_of owned) (take c.args.index paths) q (Earlier place.index) in
    subst P text-is (least_earlier (paths_of owned) c.args.earlier.now.items paths c.args.index text place c.requires.within c.requires.earlier found
    (before_of_none text place.path (paths_of owned) none)
    (met_first text place.path (paths_of owned) (found_passes (meets_text place_path text) c.args.earlier.now.items place found) none))

pub returns-in-Some-None-clause-some : goal.returns-in-Some-None-clause-some
returns-in-Some-None-clause-some c =
    let owned = c.args.self.now.owned in
    let paths = c.args.paths.now in
    let text = c.as_bytes-text.result.now in
    let entry = c.in-Some-None.entry.now in
    let own = ap (λ (o : Owning). o.owned) c.self.view_is in
    let text-is : text ≡ get_or paths c.args.index [] =
    c.as_bytes-text.ensures.value ∙ c.as_str.ensures.value ∙ c.index-paths-index.is ∙ get_or_default paths c.args.index c.index-paths-index.result [] c.requires.within in
    let up : RisesBy path_of owned = let R : List OwnedPath → Type 0 = λ xs. RisesBy path_of xs in subst R own c.self.invariant.rise in
    let none = none_met place_path text c.args.earlier.now.items (sym c.find_met-place.ensures ∙ ap option_copied c.in-Some-None.is-1) in
    let P : List ℕ → Type 0 = λ q. IsLeastMet (paths_of owned) (take c.args.index paths) q (Owned (count_before path_of entry.path owned)) in
    let Q : Other → Type 0 = λ o. IsLeastMet (paths_of owned) (take c.args.index paths) (get_or paths c.args.index []) o in
    subst Q (sym c.named.ensures)
    (subst P text-is (least_owned owned c.args.earlier.now.items paths c.args.index text entry up c.requires.earlier
    (ap (find (meets_text path_of text)) (sym own) ∙ sym c.find_met-owned.ensures ∙ ap option_copied c.in-Some-None.is-0)
    (before_of_none text entry.path _ none)))

pub returns-then-before-clause-some : goal.returns-then-before-clause-some
returns-then-before-clause-some c =
    let owned = c.args.self.now.owned in
    let paths = c.args.paths.now in
    let text = c.as_bytes-text.result.now in
    let entry = c.in-Some-Some.entry.now in
    let place = c.in-Some-Some.place.now in
    let own = ap (λ (o : Owning). o.owned) c.self.view_is in
    let text-is : text ≡ get_or paths c.args.index [] =
    c.as_bytes-text.ensures.value ∙ c.as_str.ensures.value ∙ c.index-paths-index.is ∙ get_or_default paths c.args.index c.index-paths-index.result [] c.requires.within in
    let up : RisesBy path_of owned = let R : List OwnedPath → Type 0 = λ xs. RisesBy path_of xs in subst R own c.self.invariant.rise in
    let first = ap (find (meets_text path_of text)) (sym own) ∙ sym c.find_met-owned.ensures ∙ ap option_copied c.in-Some-Some.is-0 in
    let found = sym c.find_met-place.ensures ∙ ap option_copied c.in-Some-Some.is-1 in
    let less : byte_order place.path entry.path ≡ Less =
    let L : List ℕ → Type 0 = λ k. byte_order k entry.path ≡ Less in
    let M : List ℕ → Type 0 = λ k. byte_order c.key.result.now k ≡ Less in
    subst L c.key.ensures (subst M c.key-in-Some-Some.ensures (c.stands_before-before.ensures.0 c.if-before.true)) in
    let least = least_met path_of text owned entry up first in
    let P : List ℕ → Type 0 = λ q. IsLeastMet (paths_of owned) (take c.args.index paths) q (Earlier place.index) in
    subst P text-is (least_earlier (paths_of owned) c.args.earlier.now.items paths c.args.index text place c.requires.within c.requires.earlier found
    (before_of_later text place.path entry.path (paths_of owned) (turned place.path entry.path less) least)
    (met_earlier text place.path entry.path (paths_of owned) (found_passes (meets_text place_path text) c.args.earlier.now.items place found) less least))

pub returns-clause-some : goal.returns-clause-some
returns-clause-some c =
    let owned = c.args.self.now.owned in
    let paths = c.args.paths.now in
    let text = c.as_bytes-text.result.now in
    let entry = c.in-Some-Some.entry.now in
    let place = c.in-Some-Some.place.now in
    let own = ap (λ (o : Owning). o.owned) c.self.view_is in
    let text-is : text ≡ get_or paths c.args.index [] =
    c.as_bytes-text.ensures.value ∙ c.as_str.ensures.value ∙ c.index-paths-index.is ∙ get_or_default paths c.args.index c.index-paths-index.result [] c.requires.within in
    let up : RisesBy path_of owned = let R : List OwnedPath → Type 0 = λ xs. RisesBy path_of xs in subst R own c.self.invariant.rise in
    let found = sym c.find_met-place.ensures ∙ ap option_copied c.in-Some-Some.is-1 in
    let late : precedes place.path entry.path ≡ false = not_less place.path entry.path (λ less.
    let L : List ℕ → Type 0 = λ k. byte_order k entry.path ≡ Less in
    let M : List ℕ → Type 0 = λ k. byte_order c.key.result.now k ≡ Less in
    false≢true (sym c.if-before.false ∙ c.stands_before-before.ensures.1 (subst M (sym c.key-in-Some-Some.ensures) (subst L (sym c.key.ensures) less)))) in
    let least = least_met place_path text c.args.earlier.now.items place c.requires.earlier.rises found in
    let P : List ℕ → Type 0 = λ q. IsLeastMet (paths_of owned) (take c.args.index paths) q (Owned (count_before path_of entry.path owned)) in
    let Q : Other → Type 0 = λ o. IsLeastMet (paths_of owned) (take c.args.index paths) (get_or paths c.args.index []) o in
    subst Q (sym c.named-else-before.ensures)
    (subst P text-is (least_owned owned c.args.earlier.now.items paths c.args.index text entry up c.requires.earlier
    (ap (find (meets_text path_of text)) (sym own) ∙ sym c.find_met-owned.ensures ∙ ap option_copied c.in-Some-Some.is-0)
    (before_of_later text entry.path place.path _ late least)))
