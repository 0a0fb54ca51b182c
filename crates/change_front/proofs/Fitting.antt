-- The members of a target are few where the names are, and come from what is installed or was read.
use Rattle.std.proofs.Common.{◌≡◌, ◌∙◌, ℕ, ◌+◌, ◌-◌, ◌<◌, ◌≤◌, ◌^◌, List, [], ◌∷◌, ◌++◌, length, map, filter, Bool, true, false, not, ◌⊎◌, inl, inr, ⊎_elim, refl, sym, ap, subst, arith}
use Rattle.std.specs.Prelude.{◌||◌, bytes_eq, Contains, min}
use Rattle.std.specs.List.{IsDistinct, list_any}
use Rattle.std.proofs.lemmas.List.{length-map}
use Rattle.std.proofs.lemmas.List.Elements.{Contains-append_cases}
use Rattle.std.proofs.lemmas.List.Folds.{list_any-append}
use Rattle.opam_names.specs.ByteOrderLaws.{OrderIsStable, TextsRise}
use Rattle.opam_names.specs.ByteOrders.{RisesBy, each_once, in_order_by}
use Rattle.opam_filter.specs.Variables.{Values}
use Rattle.opam_package.specs.PackageTexts.{IsPackageText}
use Rattle.opam_package.specs.declared.package.Member.{Member}
use Rattle.opam_package.specs.declared.package.Target.{Target}
use Rattle.lock_check.specs.Chased.{AreReadNeeded, Chased, count_of, held_by_name, held_name, held_of, install_members, install_target, is_among, is_replaced, stay}
use Rattle.lock_check.specs.Removals.{AreAmong, IsRemoved, not_named}
use Rattle.lock_check.specs.Targets.{by_name, member_name, reinstalled}
use Rattle.lock_check.specs.declared.held.Held.{Held}
use Rattle.lock_check.proofs.Members.{in_order, in_map, of_filter, of_order}
use Rattle.change_front.specs.Fronts.{AreInstalledOrRead}
use Rattle.change_front.specs.Turns.{AreRead}
use Rattle.change_front.specs.declared.limits.TheConstants.{NAMES_LIMIT}
use Rattle.change_front.proofs.Counted.{AreIn, fits, named_in, order_len}

module _ (chased : Chased) (installed : List Member) where
  -- a member of the target is an installed one, or was read
  pub of_target : (member : Member) → Contains (install_members chased installed) member → Contains installed member ⊎ Contains chased.known member
  of_target member at =
      ⊎_elim (λ here. inl (of_filter (λ (m : Member). not (is_replaced chased.bound chased.needed m)) installed member here).0) (λ there. inr there)
      (Contains-append_cases (stay chased.bound chased.needed installed) chased.known member
      (of_order member_name (stay chased.bound chased.needed installed ++ chased.known) member at))

  -- so its package is that of its own text, or it is installed
  pub target_read : (globals : Values) (roots : List (List ℕ)) (target : Target) → target ≡ install_target chased installed roots → AreRead globals chased.known
      → AreInstalledOrRead installed globals target.members
  target_read globals roots target is are member at =
      let P : Target → Type 0 = λ t. Contains t.members member in
      ⊎_elim (λ here. inl here) (λ there. inr (are member there)) (of_target member (subst P is at))

  abbrev all_names : List (List ℕ)
  all_names = map held_name chased.installed ++ chased.needed

  or_left : (a b : Bool) → a ≡ true → (a || b) ≡ true
  or_left true b is = refl
  or_left false b is = absurd (let e : false ≡ true = is in cc)

  or_right : (a b : Bool) → b ≡ true → (a || b) ≡ true
  or_right true b is = refl
  or_right false b is = is

  module _ (texts : TextsRise) (same : chased.installed ≡ held_by_name installed) where
    held_in : (held : Held) → Contains chased.installed held → list_any (bytes_eq held.pkg.name) (each_once all_names) ≡ true
    held_in held at =
        texts.members all_names held.pkg.name ∙ list_any-append (bytes_eq held.pkg.name) (map held_name chased.installed) chased.needed
        ∙ or_left (list_any (bytes_eq held.pkg.name) (map held_name chased.installed)) (list_any (bytes_eq held.pkg.name) chased.needed) (named_in held_name chased.installed held at)

    member_held : (member : Member) → Contains installed member → Contains chased.installed (held_of member)
    member_held member at =
        let P : List Held → Type 0 = λ hs. Contains hs (held_of member) in
        subst P (sym same) (in_order held_name (map held_of installed) (held_of member) (in_map held_of installed member at))

    needed_in : (name : List ℕ) → is_among chased.needed name ≡ true → list_any (bytes_eq name) (each_once all_names) ≡ true
    needed_in name is =
        texts.members all_names name ∙ list_any-append (bytes_eq name) (map held_name chased.installed) chased.needed
        ∙ or_right (list_any (bytes_eq name) (map held_name chased.installed)) (list_any (bytes_eq name) chased.needed) is

    once_few : count_of chased ≤ NAMES_LIMIT → length (each_once all_names) ≤ NAMES_LIMIT
    once_few few = omega (arith, few)

    -- there are no more members than names
    pub target_few : AreReadNeeded chased → (members : List Member) → members ≡ install_members chased installed → RisesBy member_name members → count_of chased ≤ NAMES_LIMIT
        → length members ≤ NAMES_LIMIT
    target_few needed members is rises few =
        let P : Member → List Member → Type 0 = λ m ms. Contains ms m in
        let all : length members ≤ length (each_once all_names) =
        fits member_name members (each_once all_names) rises (λ member at.
        ⊎_elim (λ here. held_in (held_of member) (member_held member here)) (λ there. needed_in (member_name member) (needed member there)) (of_target member (subst (P member) is at))) in
        let names = once_few few in
        omega (arith, all, names)

    -- and no more that are installed
    pub installed_few : OrderIsStable held_name → IsDistinct bytes_eq (map member_name installed) → count_of chased ≤ NAMES_LIMIT → length installed ≤ NAMES_LIMIT
    installed_few stable differ few =
        let Q : List Held → Type 0 = λ hs. RisesBy held_name hs in
        let rises : RisesBy held_name chased.installed = subst Q (sym same) (stable.rising (map held_of installed) (held_differ differ)) in
        let all = fits held_name chased.installed (each_once all_names) rises held_in in
        let len : length chased.installed ≡ length installed = ap length same ∙ order_len held_name (map held_of installed) ∙ length-map installed held_of in
        let names = once_few few in
        omega (arith, all, len, names)
      where
        names_same : (ms : List Member) → map held_name (map held_of ms) ≡ map member_name ms
        names_same [] = refl
        names_same (m ∷ ms) = ap (λ (ns : List (List ℕ)). member_name m ∷ ns) (names_same ms)

        held_differ : IsDistinct bytes_eq (map member_name installed) → IsDistinct bytes_eq (map held_name (map held_of installed))
        held_differ d = let R : List (List ℕ) → Type 0 = λ ns. IsDistinct bytes_eq ns in subst R (sym (names_same installed)) d

-- of members that are all installed, there are no more than of these
pub part_few : (installed members : List Member) → RisesBy member_name members → AreAmong members installed → length members ≤ length installed
part_few installed members rises among =
    let all = fits member_name members (map member_name installed) rises (λ member at. named_in member_name installed member (among member at)) in
    let len = length-map installed member_name in
    omega (arith, all, len)

-- what a `remove` leaves is installed
pub removed_among : (installed : List Member) (names roots : List (List ℕ)) (target : Target) → IsRemoved installed names roots target → AreAmong target.members installed
removed_among installed names roots target is member at =
    (of_filter (λ (m : Member). not (list_any (bytes_eq (member_name m)) names)) installed member (is.members.some member at)).0

-- so is what a `reinstall` keeps
pub reinstalled_among : (installed : List Member) (names roots : List (List ℕ)) (target : Target) → target ≡ reinstalled installed names roots → AreAmong target.members installed
reinstalled_among installed names roots target is member at =
    let P : Target → Type 0 = λ t. Contains t.members member in of_order member_name installed member (subst P is at)
