-- Members in the byte order of their names, and their packages.
use Rattle.std.proofs.Common.{◌≡◌, ℕ, ◌+◌, ◌<◌, List, [], ◌∷◌, ◌++◌, length, get_or, drop, map, filter, Bool, true, false, not, ◌||◌, if◌then◌else◌, refl, sym, ◌∙◌, ap, subst}
use Rattle.std.specs.Prelude.{bytes_eq}
use Rattle.std.specs.List.{IsDistinct, flat_map, list_any}
use Rattle.std.specs.List.Sorted.{IsStrictlySortedBy}
use Rattle.std.specs.Result.{IfOk, OnErr, OnOk}
use Rattle.std.specs.declared.result.Result.{Result}
use Rattle.std.specs.declared.result.Result.TheVariants.{Ok, Err}
use Rattle.std.proofs.lemmas.List.{append_assoc, drop_more}
use Rattle.opam_names.specs.ByteOrders.{NeverFallsBy, RisesBy, byte_order, has_key, in_order_by, precedes, put_by}
use Rattle.opam_names.specs.ByteOrderLaws.{NeverFallsBy-from_rises}
use Rattle.opam_names.specs.declared.packages.Pkg.{Pkg}
use Rattle.opam_filter.specs.Sets.{Rises}
use Rattle.opam_package.specs.declared.package.Member.{Member}
use Rattle.lock_check.specs.declared.held.Held.{Held}
use Rattle.lock_check.specs.declared.targets.Named.{Named}
use Rattle.lock_check.specs.Chased.{has_pkg, held_name, held_of, told_unbound, told_unbounds}
use Rattle.lock_check.specs.Found.{absents_in, is_name_in}
use Rattle.lock_check.specs.Targets.{by_name, has_member, member_name, told_absent, told_absents}
use Rattle.lock_check.specs.Violations.{pkgs_of}

module _ {X : Type 0} (key : X → List ℕ) (test : X → Bool) where
  or_over : (a b c : Bool) → (a || (b || c)) ≡ (b || (a || c))
  or_over true true c = refl
  or_over true false c = refl
  or_over false b c = refl

  any_put : (x : X) (ys : List X) → list_any test (put_by key x ys) ≡ (test x || list_any test ys)
  any_put x [] = refl
  any_put x (y ∷ ys) = by (precedes (key y) (key x)) (any_put x ys)
    where
      by : (b : Bool) → list_any test (put_by key x ys) ≡ (test x || list_any test ys)
          → list_any test (if b then y ∷ put_by key x ys else x ∷ y ∷ ys) ≡ (test x || (test y || list_any test ys))
      by true more = ap (λ c. test y || c) more ∙ sym (or_over (test x) (test y) (list_any test ys))
      by false more = refl

  -- an element passes where one of the list passed before
  any_in_order : (xs : List X) → list_any test (in_order_by key xs) ≡ list_any test xs
  any_in_order [] = refl
  any_in_order (x ∷ xs) = any_put x (in_order_by key xs) ∙ ap (λ c. test x || c) (any_in_order xs)

abbrev pkg_name : Pkg → List ℕ
pkg_name pkg = pkg.name

-- the packages of members have their names
pub any_pkg : (members : List Member) (name : List ℕ) → list_any (has_key pkg_name name) (pkgs_of members) ≡ has_member members name
any_pkg [] name = refl
any_pkg (member ∷ members) name = ap (λ c. has_key member_name name member || c) (any_pkg members name)

any_member : (installed : List Member) (name : List ℕ) → list_any (has_key pkg_name name) (pkgs_of (by_name installed)) ≡ has_member installed name
any_member installed name = any_pkg (by_name installed) name ∙ any_in_order member_name (has_key member_name name) installed

pub filter_same : {X : Type 0} (one other : X → Bool) (xs : List X) → ((x : X) → one x ≡ other x) → filter one xs ≡ filter other xs
filter_same one other [] same = refl
filter_same one other (x ∷ xs) same =
    ap (λ b. if b then x ∷ filter one xs else filter one xs) (same x) ∙ ap (λ ys. if other x then x ∷ ys else ys) (filter_same one other xs same)

-- so those that are found among them are those that are installed
pub found_installed : (installed members : List Member) (set : List Pkg) (names : List (List ℕ)) → members ≡ by_name installed → set ≡ pkgs_of members
    → filter (λ name. list_any (has_key (λ (pkg : Pkg). pkg.name) name) set) names ≡ filter (has_member installed) names
found_installed installed members set names sorted of =
    ap (λ s. filter (λ name. list_any (has_key (λ (pkg : Pkg). pkg.name) name) s) names) (of ∙ ap pkgs_of sorted)
    ∙ filter_same (λ name. list_any (has_key pkg_name name) (pkgs_of (by_name installed))) (has_member installed) names (any_member installed)

pub missed_installed : (installed members : List Member) (set : List Pkg) (names : List (List ℕ)) → members ≡ by_name installed → set ≡ pkgs_of members
    → filter (λ name. not (list_any (has_key (λ (pkg : Pkg). pkg.name) name) set)) names ≡ filter (λ name. not (has_member installed name)) names
missed_installed installed members set names sorted of =
    ap (λ s. filter (λ name. not (list_any (has_key (λ (pkg : Pkg). pkg.name) name) s)) names) (of ∙ ap pkgs_of sorted)
    ∙ filter_same (λ name. not (list_any (has_key pkg_name name) (pkgs_of (by_name installed)))) (λ name. not (has_member installed name)) names
    (λ name. ap not (any_member installed name))

same_names : (members : List Member) → map pkg_name (pkgs_of members) ≡ map member_name members
same_names [] = refl
same_names (member ∷ members) = ap (λ names. member_name member ∷ names) (same_names members)

-- packages of members whose names rise
pub pkgs_rise : (members : List Member) (set : List Pkg) → RisesBy member_name members → set ≡ pkgs_of members → Rises set
pkgs_rise members set rises of =
    let P : List (List ℕ) → Type 0 = λ names. IsStrictlySortedBy byte_order names in
    let Q : List Pkg → Type 0 = λ pkgs. Rises pkgs in
    subst Q (sym of) (subst P (sym (same_names members)) rises)

pub pkgs_never_fall : (members : List Member) (set : List Pkg) → RisesBy member_name members → set ≡ pkgs_of members → NeverFallsBy (λ (pkg : Pkg). pkg.name) set
pkgs_never_fall members set rises of = NeverFallsBy-from_rises pkg_name set (pkgs_rise members set rises of)

-- ---- sorting copies is sorting members

abbrev inner : Named → Member
inner named = named.member

abbrev inner_name : Named → List ℕ
inner_name named = member_name named.member

inner_put : (named : Named) (xs : List Named) → map inner (put_by inner_name named xs) ≡ put_by member_name (inner named) (map inner xs)
inner_put named [] = refl
inner_put named (x ∷ xs) = by (precedes (inner_name x) (inner_name named)) (inner_put named xs)
  where
    by : (b : Bool) → map inner (put_by inner_name named xs) ≡ put_by member_name (inner named) (map inner xs)
        → map inner (if b then x ∷ put_by inner_name named xs else named ∷ x ∷ xs)
        ≡ (if b then inner x ∷ put_by member_name (inner named) (map inner xs) else inner named ∷ inner x ∷ map inner xs)
    by true more = ap (λ ys. inner x ∷ ys) more
    by false more = refl

inner_order : (xs : List Named) → map inner (in_order_by inner_name xs) ≡ in_order_by member_name (map inner xs)
inner_order [] = refl
inner_order (x ∷ xs) = inner_put x (in_order_by inner_name xs) ∙ ap (put_by member_name (inner x)) (inner_order xs)

inner_names : (xs : List Named) → map inner_name xs ≡ map member_name (map inner xs)
inner_names [] = refl
inner_names (x ∷ xs) = ap (λ names. inner_name x ∷ names) (inner_names xs)

pub copies_sorted : (members sorted : List Member) (copies ordered : List Named) → map inner copies ≡ members → ordered ≡ in_order_by inner_name copies
    → sorted ≡ map inner ordered → sorted ≡ by_name members
copies_sorted members sorted copies ordered of order is = is ∙ ap (map inner) order ∙ inner_order copies ∙ ap by_name of

pub copies_differ : (members : List Member) (copies : List Named) → map inner copies ≡ members → IsDistinct bytes_eq (map member_name members) → IsDistinct bytes_eq (map inner_name copies)
copies_differ members copies of distinct =
    let D : List (List ℕ) → Type 0 = λ names. IsDistinct bytes_eq names in
    subst D (sym (inner_names copies ∙ ap (map member_name) of)) distinct

pub copies_rise_so : ((xs : List Named) → IsDistinct bytes_eq (map inner_name xs) → RisesBy inner_name (in_order_by inner_name xs))
    → (sorted : List Member) (copies ordered : List Named) → ordered ≡ in_order_by inner_name copies
    → sorted ≡ map inner ordered → IsDistinct bytes_eq (map inner_name copies) → RisesBy member_name sorted
copies_rise_so rising sorted copies ordered order is distinct =
    let R : List (List ℕ) → Type 0 = λ names. IsStrictlySortedBy byte_order names in
    subst R (inner_names (in_order_by inner_name copies) ∙ ap (map member_name) (ap (map inner) (sym order) ∙ sym is)) (rising copies distinct)

-- the packages in order rise where the names of the members differ
pub sorted_rise : ((xs : List Pkg) → IsDistinct bytes_eq (map (λ (pkg : Pkg). pkg.name) xs) → Rises (in_order_by (λ (pkg : Pkg). pkg.name) xs))
    → (members : List Member) (set : List Pkg) → set ≡ in_order_by (λ (pkg : Pkg). pkg.name) (pkgs_of members) → IsDistinct bytes_eq (map member_name members) → Rises set
sorted_rise rising members set order distinct =
    let D : List (List ℕ) → Type 0 = λ names. IsDistinct bytes_eq names in
    let R : List Pkg → Type 0 = λ pkgs. Rises pkgs in
    subst R (sym order) (rising (pkgs_of members) (subst D (sym (same_names members)) distinct))

same_held : (members : List Member) → map held_name (map held_of members) ≡ map member_name members
same_held [] = refl
same_held (member ∷ members) = ap (λ names. member_name member ∷ names) (same_held members)

-- what is kept in mind of members rises once it is in order
pub held_rise : ((xs : List Held) → IsDistinct bytes_eq (map held_name xs) → RisesBy held_name (in_order_by held_name xs))
    → (members : List Member) (held sorted : List Held) → held ≡ map held_of members → sorted ≡ in_order_by held_name held → IsDistinct bytes_eq (map member_name members)
    → RisesBy held_name sorted
held_rise rising members held sorted of order distinct =
    let D : List (List ℕ) → Type 0 = λ names. IsDistinct bytes_eq names in
    let R : List Held → Type 0 = λ xs. RisesBy held_name xs in
    subst R (sym (order ∙ ap (in_order_by held_name) of)) (rising (map held_of members) (subst D (sym (same_held members)) distinct))

-- ---- what is said of a result that is Ok

pub ok_on : {X E : Type 0} {P Q : X → Type 0} (r : Result X E) → ((x : X) → P x → Q x) → IfOk r P → IfOk r Q
ok_on (Ok x) on is = on x is
ok_on (Err e) on is = tt

pub ok_both : {X E : Type 0} {P Q R : X → Type 0} (r : Result X E) → ((x : X) → P x → Q x → R x) → IfOk r P → IfOk r Q → IfOk r R
ok_both (Ok x) on one other = on x one other
ok_both (Err e) on one other = tt

pub on_ok : {X E : Type 0} {P : Type 0} (r : Result X E) → P → OnOk r P
on_ok (Ok x) is = is
on_ok (Err e) is = tt

pub on_err : {X E : Type 0} {P : Type 0} (r : Result X E) → P → OnErr r P
on_err (Ok x) is = tt
on_err (Err e) is = is

-- ---- lists that are made part by part

-- what is made of one value more, and then of those that are left
pub parts_on : {X Y : Type 0} (made : List X → List Y) → ((x : X) (xs : List X) → made (x ∷ xs) ≡ made (x ∷ []) ++ made xs)
    → (so_far now whole : List Y) (xs : List X) (i : ℕ) (x : X) → i < length xs → x ≡ get_or xs i x → now ≡ so_far ++ made (x ∷ []) → so_far ++ made (drop i xs) ≡ whole
    → now ++ made (drop (i + 1) xs) ≡ whole
parts_on made part so_far now whole xs i x within is now_is so =
    let rest = drop (i + 1) xs in
    ap (λ ys. ys ++ made rest) now_is ∙ append_assoc so_far (made (x ∷ [])) (made rest)
    ∙ ap (λ ys. so_far ++ ys) (sym (part x rest) ∙ ap (λ z. made (z ∷ rest)) is ∙ ap made (sym (drop_more xs i x within))) ∙ so

-- one value more of a map
pub mapped_on : {X Y : Type 0} (f : X → Y) (so_far now : List Y) (y : Y) (whole : List Y) (xs : List X) (i : ℕ) (x : X) → i < length xs → x ≡ get_or xs i x → y ≡ f x
    → now ≡ so_far ++ y ∷ [] → so_far ++ map f (drop i xs) ≡ whole → now ++ map f (drop (i + 1) xs) ≡ whole
mapped_on f so_far now y whole xs i x within is y_is now_is so =
    let rest = map f (drop (i + 1) xs) in
    ap (λ ys. ys ++ rest) now_is ∙ append_assoc so_far (y ∷ []) rest
    ∙ ap (λ z. so_far ++ z ∷ rest) (y_is ∙ ap f is) ∙ ap (λ zs. so_far ++ map f zs) (sym (drop_more xs i x within)) ∙ so

-- what is made of one value more joins what there is
pub flat_on : {X Y : Type 0} (f : X → List Y) (so_far now here : List Y) (whole : List Y) (xs : List X) (i : ℕ) (x : X) → i < length xs → x ≡ get_or xs i x → here ≡ f x
    → now ≡ so_far ++ here → so_far ++ flat_map f (drop i xs) ≡ whole → now ++ flat_map f (drop (i + 1) xs) ≡ whole
flat_on f so_far now here whole xs i x within is here_is now_is so =
    let rest = flat_map f (drop (i + 1) xs) in
    ap (λ ys. ys ++ rest) now_is ∙ append_assoc so_far here rest
    ∙ ap (λ ys. so_far ++ (ys ++ rest)) (here_is ∙ ap f is) ∙ ap (λ zs. so_far ++ flat_map f zs) (sym (drop_more xs i x within)) ∙ so

pub filter_parts : {X : Type 0} (test : X → Bool) (x : X) (xs : List X) → filter test (x ∷ xs) ≡ filter test (x ∷ []) ++ filter test xs
filter_parts test x xs = by (test x)
  where
    by : (b : Bool) → (if b then x ∷ filter test xs else filter test xs) ≡ (if b then x ∷ [] else []) ++ filter test xs
    by true = refl
    by false = refl

pub absent_parts : (set : List Pkg) (x : List ℕ) (xs : List (List ℕ)) → absents_in set (x ∷ xs) ≡ absents_in set (x ∷ []) ++ absents_in set xs
absent_parts set x xs = by (not (is_name_in set x))
  where
    by : (b : Bool) → map told_absent (if b then x ∷ filter (λ name. not (is_name_in set name)) xs else filter (λ name. not (is_name_in set name)) xs)
        ≡ map told_absent (if b then x ∷ [] else []) ++ absents_in set xs
    by true = refl
    by false = refl

pub unbound_parts : (bound : List Pkg) (x : List ℕ) (xs : List (List ℕ)) → told_unbounds bound (x ∷ xs) ≡ told_unbounds bound (x ∷ []) ++ told_unbounds bound xs
unbound_parts bound x xs = by (not (has_pkg bound x))
  where
    by : (b : Bool) → map told_unbound (if b then x ∷ filter (λ name. not (has_pkg bound name)) xs else filter (λ name. not (has_pkg bound name)) xs)
        ≡ map told_unbound (if b then x ∷ [] else []) ++ told_unbounds bound xs
    by true = refl
    by false = refl

-- ---- the set of the installed packages

pub found_of : (installed members : List Member) (set : List Pkg) (names : List (List ℕ)) → members ≡ by_name installed → set ≡ pkgs_of members
    → filter (is_name_in set) names ≡ filter (has_member installed) names
found_of = found_installed

pub absents_told : (installed members : List Member) (set : List Pkg) (names : List (List ℕ)) → members ≡ by_name installed → set ≡ pkgs_of members
    → absents_in set names ≡ told_absents installed names
absents_told installed members set names sorted of = ap (map told_absent) (missed_installed installed members set names sorted of)
