-- Members that share a class are found by halves.
use Rattle.std.proofs.Common.{◌≡◌, ℕ, suc, ◌+◌, ◌<◌, List, [], ◌∷◌, ◌++◌, length, get_or, map, filter, drop, Bool, true, false, ◌||◌, ◌&&◌, cond, refl, sym, ◌∙◌, ap, arith}
use Rattle.std.specs.Prelude.{bytes_eq, find, option_map}
use Rattle.std.specs.List.{AllByRecursion, flat_map, list_any}
use Rattle.std.specs.Ordering.{is_eq}
use Rattle.std.specs.declared.cmp.Ordering.TheVariants.{Less}
use Rattle.std.specs.declared.option.Option.{Option}
use Rattle.std.specs.declared.option.Option.TheVariants.{None, Some}
use Rattle.std.proofs.lemmas.List.{append_assoc, drop_more}
use Rattle.std.proofs.lemmas.Map.Text.{is_eq-slice_cmp}
use Rattle.opam_names.specs.ByteOrderLaws.{OrderIsStable}
use Rattle.opam_names.specs.ByteOrders.{NeverFallsBy, byte_order, count_before, has_key, in_order_by, precedes}
use Rattle.opam_names.specs.declared.packages.Pkg.{Pkg}
use Rattle.opam_names.proofs.ByteOrders.{all_after, apart_of, chain, differ, less_of, next_of}
use Rattle.opam_filter.specs.NameSets.{with_name}
use Rattle.opam_package.specs.Dependencies.{is_other}
use Rattle.opam_package.specs.declared.package.Member.{Member}
use Rattle.opam_package.specs.declared.package.Package.{Package}
use Rattle.lock_check.specs.Sharing.{class_spots, first_sharer, front_sharer, is_sharer, member_spots, shared_in, spot_class, spot_of, spot_pkg, told_class, whats_in}
use Rattle.lock_check.specs.Violations.{class_with, conflicts_among, is_from_repository, pkgs_of, refused_in, shared_behind, shares_class, told_of, unavailable, unmet_from, violations_of_some, whats_of}
use Rattle.lock_check.specs.declared.sharing.Spot.{Spot}
use Rattle.lock_check.specs.declared.violation.Violation.{Violation}
use Rattle.lock_check.specs.declared.violation.What.{What}
use Rattle.lock_check.proofs.Among.{turned}

-- ---- by halves

module _ (dependent : Package) (class : List ℕ) where
  abbrev shares : Spot → Bool
  shares = is_sharer dependent class

  other_class : (spot : Spot) → bytes_eq spot.class class ≡ false → shares spot ≡ false
  other_class spot is = ap (λ b. b && is_other dependent spot.pkg) is

  passed : (spot : Spot) (spots : List Spot) → bytes_eq spot.class class ≡ false → find shares (spot ∷ spots) ≡ find shares spots
  passed spot spots is = ap (λ b. cond b (Some spot) (find shares spots)) (other_class spot is)

  none_after : (spots : List Spot) → AllByRecursion (λ (spot : Spot). byte_order class spot.class ≡ Less) spots → find shares spots ≡ None
  none_after [] all = refl
  none_after (spot ∷ spots) all = passed spot spots (apart_of class spot.class all.0) ∙ none_after spots all.1

  ahead : (spots : List Spot) → NeverFallsBy spot_class spots → AllByRecursion (λ (spot : Spot). precedes spot.class class ≡ false) spots
      → front_sharer dependent class spots ≡ find shares spots
  ahead [] up all = refl
  ahead (spot ∷ spots) up all = by (bytes_eq spot.class class) refl (ahead spots up.1 all.1)
    where
      by : (b : Bool) → bytes_eq spot.class class ≡ b → front_sharer dependent class spots ≡ find shares spots
          → cond b (cond (is_other dependent spot.pkg) (Some spot) (front_sharer dependent class spots)) None ≡ find shares (spot ∷ spots)
      by true is rest =
          ap (λ r. cond (is_other dependent spot.pkg) (Some spot) r) rest ∙ sym (ap (λ b. cond (b && is_other dependent spot.pkg) (Some spot) (find shares spots)) is)
      by false is rest =
          let less : byte_order class spot.class ≡ Less = next_of class spot.class all.0 (λ s. differ spot.class class is (sym s)) in
          sym (passed spot spots is ∙ none_after spots (all_after spot_class class spot spots less up.0))

  dropped : (n : ℕ) (x : Spot) (xs : List Spot) → drop (1 + n) (x ∷ xs) ≡ drop n xs
  dropped n x xs = let e : 1 + n ≡ suc n = omega arith in ap (λ k. drop k (x ∷ xs)) e

  later_ones : (x : Spot) (xs : List Spot) → precedes x.class class ≡ false → AllByRecursion (λ (y : Spot). precedes y.class x.class ≡ false) xs
      → AllByRecursion (λ (y : Spot). precedes y.class class ≡ false) xs
  later_ones x [] here all = tt
  later_ones x (y ∷ xs) here all = (chain class x.class y.class here all.0, later_ones x xs here all.1)

  found : (spots : List Spot) → NeverFallsBy spot_class spots → front_sharer dependent class (drop (count_before spot_class class spots) spots) ≡ find shares spots
  found [] up = refl
  found (spot ∷ spots) up = by (precedes spot.class class) refl (found spots up.1)
    where
      by : (b : Bool) → precedes spot.class class ≡ b → front_sharer dependent class (drop (count_before spot_class class spots) spots) ≡ find shares spots
          → front_sharer dependent class (drop (cond b (1 + count_before spot_class class spots) 0) (spot ∷ spots)) ≡ find shares (spot ∷ spots)
      by true is rest =
          let apart : bytes_eq spot.class class ≡ false = sym (is_eq-slice_cmp spot.class class) ∙ ap is_eq (less_of (byte_order spot.class class) is) in
          ap (front_sharer dependent class) (dropped (count_before spot_class class spots) spot spots) ∙ rest ∙ sym (passed spot spots apart)
      by false is rest =
          let all : AllByRecursion (λ (y : Spot). precedes y.class class ≡ false) (spot ∷ spots) = (is, later_ones spot spots is up.0) in ahead (spot ∷ spots) up all

  -- ---- in the order of members

  chosen : (spots : List Spot) → find shares spots ≡ find (λ (spot : Spot). is_other dependent spot.pkg) (filter (has_key spot_class class) spots)
  chosen [] = refl
  chosen (spot ∷ spots) = by (bytes_eq spot.class class) refl (chosen spots)
    where
      others : List Spot → Option Spot
      others = find (λ (one : Spot). is_other dependent one.pkg)

      by : (b : Bool) → bytes_eq spot.class class ≡ b → find shares spots ≡ find (λ (one : Spot). is_other dependent one.pkg) (filter (has_key spot_class class) spots)
          → find shares (spot ∷ spots)
          ≡ find (λ (one : Spot). is_other dependent one.pkg) (cond b (spot ∷ filter (has_key spot_class class) spots) (filter (has_key spot_class class) spots))
      by true is rest = ap (λ b. cond (b && is_other dependent spot.pkg) (Some spot) (find shares spots)) is ∙ ap (λ r. cond (is_other dependent spot.pkg) (Some spot) r) rest
      by false is rest = passed spot spots is ∙ rest

  as_unsorted : OrderIsStable spot_class → (spots : List Spot) → find shares (in_order_by spot_class spots) ≡ find shares spots
  as_unsorted law spots =
      chosen (in_order_by spot_class spots)
      ∙ ap (find (λ (spot : Spot). is_other dependent spot.pkg)) (law.stable spots class)
      ∙ sym (chosen spots)

  abbrev seen : List Spot → Option Pkg
  seen spots = option_map spot_pkg (find shares spots)

  abbrev else_see : Option Pkg → Option Pkg → Option Pkg
  else_see None other = other
  else_see (Some pkg) other = Some pkg

  seen_both : (xs ys : List Spot) → seen (xs ++ ys) ≡ else_see (seen xs) (seen ys)
  seen_both [] ys = refl
  seen_both (x ∷ xs) ys = by (shares x) (seen_both xs ys)
    where
      by : (b : Bool) → seen (xs ++ ys) ≡ else_see (seen xs) (seen ys)
          → option_map spot_pkg (cond b (Some x) (find shares (xs ++ ys))) ≡ else_see (option_map spot_pkg (cond b (Some x) (find shares xs))) (seen ys)
      by true rest = refl
      by false rest = rest

  -- the package of a member is seen where it is another one that has the class
  seen_of : (pkg : Pkg) (classes : List (List ℕ)) → seen (map (spot_of pkg) classes) ≡ cond (is_other dependent pkg && list_any (bytes_eq class) classes) (Some pkg) None
  seen_of pkg [] = by (is_other dependent pkg)
    where
      by : (b : Bool) → None ≡ cond (b && false) (Some pkg) None
      by true = refl
      by false = refl
  seen_of pkg (one ∷ classes) = ap (λ b. option_map spot_pkg (cond (b && is_other dependent pkg) (Some (spot_of pkg one)) (find shares (map (spot_of pkg) classes)))) (turned one class)
      ∙ by (bytes_eq class one) (is_other dependent pkg) (seen_of pkg classes)
    where
      by : (b o : Bool) → seen (map (spot_of pkg) classes) ≡ cond (o && list_any (bytes_eq class) classes) (Some pkg) None
          → option_map spot_pkg (cond (b && o) (Some (spot_of pkg one)) (find shares (map (spot_of pkg) classes))) ≡ cond (o && (b || list_any (bytes_eq class) classes)) (Some pkg) None
      by true true rest = refl
      by true false rest = rest
      by false true rest = rest
      by false false rest = rest

  told_same : (members : List Member) → told_class class (seen (flat_map member_spots members)) ≡ class_with class (find (shares_class dependent class) members)
  told_same [] = refl
  told_same (member ∷ members) =
      ap (told_class class) (seen_both (member_spots member) (flat_map member_spots members)
      ∙ ap (λ r. else_see r (seen (flat_map member_spots members))) (seen_of member.package.pkg member.package.classes))
      ∙ by (shares_class dependent class member) (told_same members)
    where
      by : (b : Bool) → told_class class (seen (flat_map member_spots members)) ≡ class_with class (find (shares_class dependent class) members)
          → told_class class (else_see (cond b (Some member.package.pkg) None) (seen (flat_map member_spots members)))
          ≡ class_with class (cond b (Some member) (find (shares_class dependent class) members))
      by true rest = refl
      by false rest = rest

  told_sorted : OrderIsStable spot_class → (members : List Member) → told_class class (first_sharer (class_spots members) dependent class) ≡ class_with class (find (shares_class dependent class) members)
  told_sorted law members = ap (λ r. told_class class (option_map spot_pkg r)) (as_unsorted law (flat_map member_spots members)) ∙ told_same members

-- what is found by halves is the first of all
pub sharer_found : (dependent : Package) (class : List ℕ) (spots rest : List Spot) → NeverFallsBy spot_class spots → rest ≡ drop (count_before spot_class class spots) spots
    → option_map spot_pkg (front_sharer dependent class rest) ≡ first_sharer spots dependent class
sharer_found dependent class spots rest up is =
    ap (λ xs. option_map spot_pkg (front_sharer dependent class xs)) is ∙ ap (option_map spot_pkg) (found dependent class spots up)

-- classes that are found so are those that the members share
pub shared_found : OrderIsStable spot_class → (members : List Member) (dependent : Package) (told classes : List (List ℕ))
    → shared_in (class_spots members) dependent told classes ≡ shared_behind members dependent told classes
shared_found law members dependent told [] = refl
shared_found law members dependent told (class ∷ more) =
    ap (λ w. cond (list_any (bytes_eq class) told) [] w ++ shared_in (class_spots members) dependent (with_name told class) more) (told_sorted dependent class law members)
    ∙ ap (λ w. cond (list_any (bytes_eq class) told) [] (class_with class (find (shares_class dependent class) members)) ++ w) (shared_found law members dependent (with_name told class) more)

-- and all that is told with them is what stands against a member
pub whats_same : OrderIsStable spot_class → (members : List Member) (fresh : Bool) (dependent : Package)
    → whats_in (class_spots members) (pkgs_of members) fresh dependent ≡ whats_of members fresh dependent
whats_same law members fresh dependent =
    ap (λ w. (unavailable fresh dependent ++ unmet_from (pkgs_of members) 1 dependent.items ++ conflicts_among (pkgs_of members) dependent) ++ w ++ refused_in fresh dependent)
    (shared_found law members dependent [] dependent.classes)

-- so one member more is told of
pub told_more : OrderIsStable spot_class → (members : List Member) (names : List (List ℕ)) (set : List Pkg) (spots : List Spot) (i : ℕ) (member : Member) (fresh : Bool)
    (whats : List What) (before after whole : List Violation) → i < length members → member ≡ get_or members i member → set ≡ pkgs_of members → spots ≡ class_spots members
    → fresh ≡ is_from_repository names member → whats ≡ whats_in spots set fresh member.package → after ≡ before ++ map (told_of member.package.pkg) whats
    → before ++ violations_of_some members names (drop i members) ≡ whole → after ++ violations_of_some members names (drop (i + 1) members) ≡ whole
told_more law members names set spots i member fresh whats before after whole within is same listed come found told was =
    let rest : List Violation = violations_of_some members names (drop (i + 1) members) in
    let here : List Violation = map (told_of member.package.pkg) (whats_of members (is_from_repository names member) member.package) in
    let these : whats ≡ whats_of members (is_from_repository names member) member.package =
    found
    ∙ ap (λ s. whats_in s set fresh member.package) listed
    ∙ ap (λ s. whats_in (class_spots members) s fresh member.package) same
    ∙ whats_same law members fresh member.package
    ∙ ap (λ f. whats_of members f member.package) come in
    let left : drop i members ≡ member ∷ drop (i + 1) members = drop_more members i member within ∙ ap (λ m. m ∷ drop (i + 1) members) (sym is) in
    ap (λ w. w ++ rest) (told ∙ ap (λ w. before ++ map (told_of member.package.pkg) w) these)
    ∙ append_assoc before here rest
    ∙ ap (λ xs. before ++ violations_of_some members names xs) (sym left)
    ∙ was
