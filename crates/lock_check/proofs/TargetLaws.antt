-- Laws of targets.
use Rattle.std.proofs.Common.{◌≡◌, ℕ, zero, suc, ◌+◌, ◌<◌, ◌≤◌, List, [], ◌∷◌, ◌++◌, map, filter, Bool, true, false, not, ◌&&◌, cond, IsTrue, ⊎_elim, refl, sym, ◌∙◌, ap, subst, arith}
use Rattle.std.specs.Prelude.{Contains, bytes_eq, find, is_none}
use Rattle.std.specs.List.{IsDistinct, list_all}
use Rattle.std.specs.declared.option.Option.{Option}
use Rattle.std.specs.declared.option.Option.TheVariants.{None, Some}
use Rattle.std.proofs.lemmas.List.Elements.{Contains-append_cases, Contains-append_left, Contains-append_right, Contains-push_cases}
use Rattle.opam_names.specs.ByteOrderLaws.{TextsRise}
use Rattle.opam_names.specs.ByteOrders.{RisesBy, each_once, has_key, in_order_by, precedes, put_by}
use Rattle.opam_names.specs.declared.packages.Pkg.{Pkg}
use Rattle.opam_filter.specs.Laws.{HoldingIsMonotone}
use Rattle.opam_filter.specs.NameSets.{with_name}
use Rattle.opam_package.specs.Dependencies.{is_forbidden}
use Rattle.opam_package.specs.declared.package.Member.{Member}
use Rattle.opam_package.specs.declared.package.Need.{Need}
use Rattle.opam_package.specs.declared.package.Package.{Package}
use Rattle.lock_check.specs.Chased.{Chased, bound_to, has_pkg, held_by_name, held_name, held_of, install_members, is_among, is_awaited, is_other_version, is_replaced, next_of, pkg_name, stay, stored_in, stored_of}
use Rattle.lock_check.specs.Growth.{count_missing}
use Rattle.lock_check.specs.Needed.{IsClosed, IsLeast}
use Rattle.lock_check.specs.TargetLaws.{LeastIsOne, NoneIsLeftOut, NothingAgainstIsMet, NothingAgainstIsPeace, UnionIsMet}
use Rattle.lock_check.specs.Targets.{by_name, has_member, member_name}
use Rattle.lock_check.specs.Violations.{all_violations, conflicts_among, is_need_met, is_met_among, next_item, pkgs_of, refused_in, shared_behind, told_of, unavailable, unmet_from, violation_name, violations_among, violations_of_some, is_from_repository, whats_of}
use Rattle.lock_check.specs.declared.held.Held.{Held}
use Rattle.lock_check.specs.declared.violation.Violation.{Violation}
use Rattle.lock_check.specs.declared.violation.What.{What}
use Rattle.lock_check.specs.declared.violation.What.TheVariants.{Conflict, Unmet}
use Rattle.lock_check.proofs.Among.{among_all, among_in, either, in_among, is_same, less, or_left, turned}
use Rattle.lock_check.proofs.Largest.{mono}
use Rattle.lock_check.proofs.Members.{first_in, in_cases, in_map, in_order, later_in, none_in}
use Rattle.lock_check.proofs.Ordered.{held_rise}
use Rattle.lock_check.proofs.Rising.{Members, found_in, rises_found, rising_more}

-- ---- parts in which all are met

joined_pkgs : (one other : List Member) → pkgs_of (one ++ other) ≡ pkgs_of one ++ pkgs_of other
joined_pkgs [] other = refl
joined_pkgs (x ∷ one) other = ap (λ ps. x.package.pkg ∷ ps) (joined_pkgs one other)

into_left : (one other : List Member) (pkg : Pkg) → Contains (pkgs_of one) pkg → Contains (pkgs_of (one ++ other)) pkg
into_left one other pkg at = let P : List Pkg → Type 0 = λ ps. Contains ps pkg in subst P (sym (joined_pkgs one other)) (Contains-append_left (pkgs_of one) (pkgs_of other) pkg at)

into_right : (one other : List Member) (pkg : Pkg) → Contains (pkgs_of other) pkg → Contains (pkgs_of (one ++ other)) pkg
into_right one other pkg at = let P : List Pkg → Type 0 = λ ps. Contains ps pkg in subst P (sym (joined_pkgs one other)) (Contains-append_right (pkgs_of one) (pkgs_of other) pkg at)

pub union_met : HoldingIsMonotone → UnionIsMet
union_met law one other are also = λ member at.
    ⊎_elim (λ here. mono law member (pkgs_of one) (pkgs_of (one ++ other)) (into_left one other) (are member here))
    (λ there. mono law member (pkgs_of other) (pkgs_of (one ++ other)) (into_right one other) (also member there))
    (Contains-append_cases one other member at)

pub none_out : HoldingIsMonotone → NoneIsLeftOut
none_out law = record {
  one = λ members left h member at met.
      h.largest (left ++ member ∷ [])
      (λ x in_more. ⊎_elim (λ here. h.some x here) (λ same. let P : Member → Type 0 = λ y. Contains members y in subst P same at) (Contains-push_cases left member x in_more))
      (λ x in_more.
      ⊎_elim (λ here. mono law x (pkgs_of left) (pkgs_of (left ++ member ∷ [])) (into_left left (member ∷ [])) (h.met x here))
      (λ same. let P : Member → Type 0 = λ y. IsTrue (is_met_among (pkgs_of (left ++ member ∷ [])) y.package) in subst P same met) (Contains-push_cases left member x in_more))
      member (Contains-append_right left (member ∷ []) member (first_in member []));
  all = λ members left h met. h.largest members (λ x at. at) met;
}

-- ---- nothing stands against members

none_left : {X : Type 0} (xs ys : List X) → xs ++ ys ≡ [] → xs ≡ []
none_left [] ys is = refl
none_left (x ∷ xs) ys is = absurd cc

none_right : {X : Type 0} (xs ys : List X) → xs ++ ys ≡ [] → ys ≡ []
none_right [] ys is = is
none_right (x ∷ xs) ys is = absurd cc

none_put : {X : Type 0} (key : X → List ℕ) (x : X) (ys : List X) → put_by key x ys ≡ [] → ⊥
none_put key x [] is = cc
none_put key x (y ∷ ys) is = by (precedes (key y) (key x)) is
  where
    by : (b : Bool) → cond b (y ∷ put_by key x ys) (x ∷ y ∷ ys) ≡ [] → ⊥
    by true is = cc
    by false is = cc

none_in_order : {X : Type 0} (key : X → List ℕ) (xs : List X) → in_order_by key xs ≡ [] → xs ≡ []
none_in_order key [] is = refl
none_in_order key (x ∷ xs) is = absurd (none_put key x (in_order_by key xs) is)

none_mapped : {X Y : Type 0} (f : X → Y) (xs : List X) → map f xs ≡ [] → xs ≡ []
none_mapped f [] is = refl
none_mapped f (x ∷ xs) is = absurd cc

all_met : (set : List Pkg) (number : ℕ) (needs : List Need) → unmet_from set number needs ≡ [] → list_all (is_need_met set) needs ≡ true
all_met set number [] is = refl
all_met set number (need ∷ needs) is = by (is_need_met set need) refl is (λ rest. all_met set (next_item number) needs rest)
  where
    told : What
    told = Unmet number

    by : (b : Bool) → is_need_met set need ≡ b → (cond b [] (told ∷ [])) ++ unmet_from set (next_item number) needs ≡ [] → (unmet_from set (next_item number) needs ≡ [] → list_all (is_need_met set) needs ≡ true)
        → (is_need_met set need && list_all (is_need_met set) needs) ≡ true
    by true met none rest = ap (λ b. b && list_all (is_need_met set) needs) met ∙ rest none
    by false met none rest = absurd cc

met_of : (members : List Member) (fresh : Bool) (dependent : Package) → whats_of members fresh dependent ≡ [] → IsTrue (is_met_among (pkgs_of members) dependent)
met_of members fresh dependent is =
    let four = none_left (unavailable fresh dependent ++ unmet_from (pkgs_of members) 1 dependent.items ++ conflicts_among (pkgs_of members) dependent ++ shared_behind members dependent [] dependent.classes)
    (refused_in fresh dependent) is in
    let three = none_left (unavailable fresh dependent ++ unmet_from (pkgs_of members) 1 dependent.items ++ conflicts_among (pkgs_of members) dependent) (shared_behind members dependent [] dependent.classes) four in
    let two = none_left (unavailable fresh dependent ++ unmet_from (pkgs_of members) 1 dependent.items) (conflicts_among (pkgs_of members) dependent) three in
    all_met (pkgs_of members) 1 dependent.items (none_right (unavailable fresh dependent) (unmet_from (pkgs_of members) 1 dependent.items) two)

none_of : (members : List Member) (fresh : List (List ℕ)) (some : List Member) → violations_of_some members fresh some ≡ [] → (member : Member) → Contains some member
    → whats_of members (is_from_repository fresh member) member.package ≡ []
none_of members fresh [] is member at = absurd (none_in member at)
none_of members fresh (x ∷ some) is member at =
    ⊎_elim
    (λ same.
    let P : Member → Type 0 = λ y. whats_of members (is_from_repository fresh y) y.package ≡ [] in
    subst P same (none_mapped (told_of x.package.pkg) (whats_of members (is_from_repository fresh x) x.package)
    (none_left (map (told_of x.package.pkg) (whats_of members (is_from_repository fresh x) x.package)) (violations_of_some members fresh some) is)))
    (λ later. none_of members fresh some (none_right (map (told_of x.package.pkg) (whats_of members (is_from_repository fresh x) x.package)) (violations_of_some members fresh some) is) member later)
    (in_cases x some member at)

none_told : (first : List Violation) (members : List Member) (fresh : List (List ℕ)) → all_violations first members fresh ≡ [] → (member : Member) → Contains members member
    → whats_of members (is_from_repository fresh member) member.package ≡ []
none_told first members fresh is = none_of members fresh members (none_right first (violations_among members fresh) (none_in_order violation_name (first ++ violations_among members fresh) is))

pub nothing_met : NothingAgainstIsMet
nothing_met first members fresh is member at = met_of members (is_from_repository fresh member) member.package (none_told first members fresh is member at)

none_forbidden : (dependent : Package) (set : List Pkg) → filter (is_forbidden dependent) set ≡ [] → (pkg : Pkg) → Contains set pkg → is_forbidden dependent pkg ≡ false
none_forbidden dependent [] is pkg at = absurd (none_in pkg at)
none_forbidden dependent (x ∷ set) is pkg at = by (is_forbidden dependent x) refl is (λ none later. none_forbidden dependent set none pkg later)
  where
    by : (b : Bool) → is_forbidden dependent x ≡ b → cond b (x ∷ filter (is_forbidden dependent) set) (filter (is_forbidden dependent) set) ≡ []
        → (filter (is_forbidden dependent) set ≡ [] → Contains set pkg → is_forbidden dependent pkg ≡ false) → is_forbidden dependent pkg ≡ false
    by true forbids none rest = absurd cc
    by false allows none rest = ⊎_elim (λ same. ap (is_forbidden dependent) (sym same) ∙ allows) (λ later. rest none later) (in_cases x set pkg at)

peace_of : (members : List Member) (fresh : Bool) (dependent : Package) → whats_of members fresh dependent ≡ [] → (pkg : Pkg) → Contains (pkgs_of members) pkg
    → is_forbidden dependent pkg ≡ false
peace_of members fresh dependent is =
    let four = none_left (unavailable fresh dependent ++ unmet_from (pkgs_of members) 1 dependent.items ++ conflicts_among (pkgs_of members) dependent ++ shared_behind members dependent [] dependent.classes)
    (refused_in fresh dependent) is in
    let three = none_left (unavailable fresh dependent ++ unmet_from (pkgs_of members) 1 dependent.items ++ conflicts_among (pkgs_of members) dependent) (shared_behind members dependent [] dependent.classes) four in
    none_forbidden dependent (pkgs_of members)
    (none_mapped Conflict (filter (is_forbidden dependent) (pkgs_of members))
    (none_right (unavailable fresh dependent ++ unmet_from (pkgs_of members) 1 dependent.items) (conflicts_among (pkgs_of members) dependent) three))

pub nothing_forbidden : NothingAgainstIsPeace
nothing_forbidden first members fresh is one other at there =
    peace_of members (is_from_repository fresh one) one.package (none_told first members fresh is one at) other.package.pkg (in_map (λ (member : Member). member.package.pkg) members other there)

-- ---- least sets

pub least_one : Members → LeastIsOne
least_one members starts leads one other first second =
    members one other first.rises second.rises (first.least other second.closed) (second.least one first.closed)

record Reached (starts : List (List ℕ)) (leads : List ℕ → List (List ℕ)) (names : List (List ℕ)) : Type 0 where
  rises : RisesBy (λ name. name) names
  begun : (name : List ℕ) → Contains starts name → Contains names name
  sound : (others : List (List ℕ)) → IsClosed starts leads others → (name : List ℕ) → Contains names name → Contains others name

-- a name to which one leads that is not there yet, or none
data Next (leads : List ℕ → List (List ℕ)) (names some : List (List ℕ)) : Type 0 where
  one_more : (from to : List ℕ) → Contains some from → Contains (leads from) to → is_among names to ≡ false → Next leads names some
  no_more : ((from to : List ℕ) → Contains some from → Contains (leads from) to → is_among names to ≡ true) → Next leads names some

data Missing (names some : List (List ℕ)) : Type 0 where
  missing : (to : List ℕ) → Contains some to → is_among names to ≡ false → Missing names some
  complete : ((to : List ℕ) → Contains some to → is_among names to ≡ true) → Missing names some

look_among : (names some : List (List ℕ)) → Missing names some
look_among names [] = complete (λ to at. absurd (none_in to at))
look_among names (x ∷ some) = by (is_among names x) refl (look_among names some)
  where
    by : (b : Bool) → is_among names x ≡ b → Missing names some → Missing names (x ∷ some)
    by false is rest = missing x (first_in x some) is
    by true is (missing to at gone) = missing to (later_in x some to at) gone
    by true is (complete all) =
        complete (λ to at. ⊎_elim (λ same. ap (is_among names) (sym same) ∙ is) (λ later. all to later) (in_cases x some to at))

look_on : (leads : List ℕ → List (List ℕ)) (names some : List (List ℕ)) → Next leads names some
look_on leads names [] = no_more (λ from to at there. absurd (none_in from at))
look_on leads names (x ∷ some) = by (look_among names (leads x)) (look_on leads names some)
  where
    by : Missing names (leads x) → Next leads names some → Next leads names (x ∷ some)
    by (missing to at gone) rest = one_more x to (first_in x some) at gone
    by (complete all) (one_more from to at there gone) = one_more from to (later_in x some from at) there gone
    by (complete all) (no_more none) =
        no_more (λ from to at there.
        ⊎_elim (λ same. let P : List ℕ → Type 0 = λ n. Contains (leads n) to in all to (subst P (sym same) there)) (λ later. none from to later there) (in_cases x some from at))

module _ (law : TextsRise) (members : Members) (starts : List (List ℕ)) (leads : List ℕ → List (List ℕ)) (limit : List (List ℕ))
    (within : (name to : List ℕ) → Contains (leads name) to → Contains limit to) where
  one_on : (names : List (List ℕ)) (from to : List ℕ) → Reached starts leads names → Contains names from → Contains (leads from) to → Reached starts leads (with_name names to)
  one_on names from to h at there = record {
    rises = rising_more law members names (to ∷ []) (with_name names to) h.rises refl;
    begun = λ name begins. among_in (with_name names to) name (among_all names (to ∷ []) name ∙ or_left (is_among names name) (is_among (to ∷ []) name) (in_among names name (h.begun name begins)));
    sound = λ others closed name is.
        ⊎_elim (λ was. h.sound others closed name (among_in names name was))
        (λ came.
        ⊎_elim (λ same. let P : List ℕ → Type 0 = λ n. Contains others n in subst P same (closed.led from to (h.sound others closed from at) there)) (λ none. absurd (none_in name none))
        (in_cases to [] name (among_in (to ∷ []) name came)))
        (either (is_among names name) (is_among (to ∷ []) name) (sym (among_all names (to ∷ []) name) ∙ in_among (with_name names to) name is));
  }

  least_of : (names : List (List ℕ)) → Reached starts leads names → ((from to : List ℕ) → Contains names from → Contains (leads from) to → is_among names to ≡ true) → IsLeast starts leads names
  least_of names h none = record {
    rises = h.rises;
    closed = record { begun = h.begun; led = λ name to at there. among_in names to (none name to at there) };
    least = h.sound;
  }

  below : (a b n : ℕ) → a + 1 ≤ b → b < suc n → a < n
  below a b n less le = omega (arith, less, le)

  no_less : (a b : ℕ) → a + 1 ≤ b → b < 0 → ⊥
  no_less a b less none = omega (arith, less, none)

  least_from : (n : ℕ) (names : List (List ℕ)) → count_missing limit names < n → Reached starts leads names → (needed : List (List ℕ)) × IsLeast starts leads needed
  least_from zero names few h = absurd (omega (arith, few))
  least_from (suc n) names few h = by (look_on leads names names) (λ to less. least_from n (with_name names to) (below (count_missing limit (with_name names to)) (count_missing limit names) n less few))
    where
      by : Next leads names names → ((to : List ℕ) → count_missing limit (with_name names to) + 1 ≤ count_missing limit names → Reached starts leads (with_name names to) → (needed : List (List ℕ)) × IsLeast starts leads needed)
          → (needed : List (List ℕ)) × IsLeast starts leads needed
      by (no_more none) rest = (names, least_of names h none)
      by (one_more from to at there gone) rest = rest to (less limit names to gone (in_among limit to (within from to there))) (one_on names from to h at there)

  pub least_there : (needed : List (List ℕ)) × IsLeast starts leads needed
  least_there =
      least_from (suc (count_missing limit (each_once starts))) (each_once starts) (omega arith) (record {
        rises = law.rising starts;
        begun = λ name at. among_in (each_once starts) name (law.members starts name ∙ in_among starts name at);
        sound = λ others closed name at. closed.begun name (among_in starts name (sym (law.members starts name) ∙ in_among (each_once starts) name at));
      })

-- ---- what is installed as it is bound stays

no_both : (b : Bool) → b ≡ true → b ≡ false → ⊥
no_both true is so = let e : true ≡ false = so in cc
no_both false is so = let e : false ≡ true = is in cc

all_pass : {X : Type 0} (test : X → Bool) (xs : List X) → ((x : X) → Contains xs x → test x ≡ true) → filter test xs ≡ xs
all_pass test [] all = refl
all_pass test (x ∷ xs) all = ap (λ b. cond b (x ∷ filter test xs) (filter test xs)) (all x (first_in x xs)) ∙ ap (λ ys. x ∷ ys) (all_pass test xs (λ y at. all y (later_in x xs y at)))

none_after : {X : Type 0} (xs : List X) → xs ++ [] ≡ xs
none_after [] = refl
none_after (x ∷ xs) = ap (λ ys. x ∷ ys) (none_after xs)

none_found : {X : Type 0} (test : X → Bool) (xs : List X) (x : X) → find test xs ≡ None → Contains xs x → test x ≡ false
none_found test [] x is at = absurd (none_in x at)
none_found {X} test (y ∷ xs) x is at = by (test y) refl is (λ none later. none_found test xs x none later)
  where
    by : (b : Bool) → test y ≡ b → cond b (Some y) (find test xs) ≡ None → (find test xs ≡ None → Contains xs x → test x ≡ false) → test x ≡ false
    by true passes none rest = absurd cc
    by false fails none rest = ⊎_elim (λ same. ap test (sym same) ∙ fails) (λ later. rest none later) (in_cases y xs x at)

module _ (rising : (xs : List Held) → IsDistinct bytes_eq (map held_name xs) → RisesBy held_name (in_order_by held_name xs)) (chased : Chased) (installed : List Member)
    (differ : IsDistinct bytes_eq (map member_name installed)) (held_is : chased.installed ≡ held_by_name installed)
    (unknown_none : chased.known ≡ []) (unasked_none : chased.unknown ≡ []) (ends : next_of chased ≡ None) where
  held_found : (member : Member) → Contains installed member → find (has_key held_name (member_name member)) chased.installed ≡ Some (held_of member)
  held_found member at =
      ap (λ xs. find (has_key held_name (member_name member)) xs) held_is
      ∙ rises_found held_name (held_by_name installed) (held_rise rising installed (map held_of installed) (held_by_name installed) refl refl differ) (held_of member)
      (in_order held_name (map held_of installed) (held_of member) (in_map held_of installed member at))

  same_version : (member : Member) (pkg : Pkg) → Contains installed member → Contains chased.bound pkg → pkg.name ≡ member_name member → is_among chased.needed pkg.name ≡ true
      → bytes_eq member.package.pkg.version pkg.version ≡ true
  same_version member pkg at bound same needed = by (bytes_eq member.package.pkg.version pkg.version) refl
    where
      stored : stored_in chased.installed pkg ≡ cond (bytes_eq member.package.pkg.version pkg.version) (Some (held_of member)) None
      stored = ap (λ r. stored_of r pkg) (ap (λ n. find (has_key held_name n) chased.installed) same ∙ held_found member at)

      by : (b : Bool) → bytes_eq member.package.pkg.version pkg.version ≡ b → b ≡ true
      by true is = refl
      by false is =
          let passes : is_awaited chased pkg ≡ true =
          ap (λ b. ((b && is_none (stored_in chased.installed pkg)) && not (has_member chased.known pkg.name)) && not (has_pkg chased.unknown pkg.name)) needed
          ∙ ap (λ r. (is_none r && not (has_member chased.known pkg.name)) && not (has_pkg chased.unknown pkg.name)) (stored ∙ ap (λ b. cond b (Some (held_of member)) None) is)
          ∙ ap (λ xs. not (has_member xs pkg.name) && not (has_pkg chased.unknown pkg.name)) unknown_none
          ∙ ap (λ xs. not (has_pkg xs pkg.name)) unasked_none in
          absurd (no_both (is_awaited chased pkg) passes (none_found (is_awaited chased) chased.bound pkg ends bound))

  and_false : (a b : Bool) → (a ≡ true → b ≡ false) → (b && a) ≡ false
  and_false true b is = ap (λ x. x && true) (is refl)
  and_false false true is = refl
  and_false false false is = refl

  stays_so : (member : Member) → Contains installed member → not (is_replaced chased.bound chased.needed member) ≡ true
  stays_so member at = ap not (by (bound_to chased.bound (member_name member)) refl)
    where
      by : (r : Option Pkg) → bound_to chased.bound (member_name member) ≡ r → is_replaced chased.bound chased.needed member ≡ false
      by None is = ap (λ r. is_other_version r member.package.pkg && is_among chased.needed (member_name member)) is
      by (Some pkg) is =
          let found = found_in (has_key pkg_name (member_name member)) chased.bound pkg is in
          let same = is_same pkg.name (member_name member) found.1 in
          ap (λ r. is_other_version r member.package.pkg && is_among chased.needed (member_name member)) is
          ∙ and_false (is_among chased.needed (member_name member)) (not (bytes_eq pkg.version member.package.pkg.version))
          (λ needed. ap not (turned pkg.version member.package.pkg.version ∙ same_version member pkg at found.0 same (ap (is_among chased.needed) same ∙ needed)))

  pub installed_same : install_members chased installed ≡ by_name installed
  installed_same =
      ap by_name (ap (λ xs. stay chased.bound chased.needed installed ++ xs) unknown_none ∙ none_after (stay chased.bound chased.needed installed)
      ∙ all_pass (λ (member : Member). not (is_replaced chased.bound chased.needed member)) installed stays_so)
