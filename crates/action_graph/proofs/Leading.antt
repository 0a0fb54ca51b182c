-- Where names stand, and where that stands which they have an edge to.
use Rattle.std.proofs.Common.{◌≡◌, ℕ, zero, suc, ◌+◌, ◌<◌, ◌⊎◌, ◌&&◌, ◌||◌, inl, inr, Bool, true, false, cond, List, [], ◌∷◌, ◌++◌, length, get_or, map, sym, ap, refl, ◌∙◌, arith, subst}
use Rattle.std.specs.Prelude.{slice_get, bytes_eq}
use Rattle.std.specs.List.{IsDistinct}
use Rattle.std.specs.Option.{option_map, option_or}
use Rattle.std.specs.declared.option.Option.{Option}
use Rattle.std.specs.declared.option.Option.TheVariants.{None, Some}
use Rattle.std.proofs.lemmas.Bool.{and_parts, or_cases, true≢false}
use Rattle.std.proofs.lemmas.List.{length-append, length-map}
use Rattle.std.proofs.lemmas.Option.{slice_get-get_or, slice_get-map, slice_get_within}
use Rattle.opam_names.specs.ByteOrders.{has_key, place_of_key}
use Rattle.opam_names.proofs.ByteOrders.{equal_bytes, same_bytes}
use Rattle.opam_package.specs.Dependencies.{is_edge}
use Rattle.opam_package.specs.declared.package.Member.{Member}
use Rattle.action_graph.specs.Leaving.{edge_between, has_edge, has_name, is_dependent, member_called, name_of}
use Rattle.action_graph.specs.Links.{edge_places, edges_at, member_edges, member_names}
use Rattle.action_graph.specs.Nodes.{both_names, edges_called, entry_leads, entry_node, first_in_both, first_place, leads_at, node_at, node_or}
use Rattle.action_graph.specs.Places.{IsIn, places_from}
use Rattle.action_graph.proofs.Lookups.{any_has, differ_first, first_passes, found_at, get_at, has_at, place_first}
use Rattle.action_graph.proofs.Membership.{in_left, none_in_nil}
use Rattle.action_graph.proofs.Placing.{in_cons}

-- ---- lists

in_more : (y : ℕ) (ys : List ℕ) (x : ℕ) → IsIn ys x → IsIn (y ∷ ys) x
in_more y ys x is = (suc is.0, omega (arith, is.1), is.2)

pub in_right : (xs ys : List ℕ) (x : ℕ) → IsIn ys x → IsIn (xs ++ ys) x
in_right [] ys x is = is
in_right (y ∷ xs) ys x is = in_more y (xs ++ ys) x (in_right xs ys x is)

pub in_either : (xs ys : List ℕ) (x : ℕ) → IsIn (xs ++ ys) x → IsIn xs x ⊎ IsIn ys x
in_either [] ys x is = inr is
in_either (y ∷ xs) ys x is = elim (in_cons y (xs ++ ys) x is) [
  | inl same ↦ inl (0, omega arith, same)
  | inr later ↦ elim (in_either xs ys x later) [ inl one ↦ inl (in_more y xs x one) | inr other ↦ inr other ]
]

pub in_mapped : (f : ℕ → ℕ) (xs : List ℕ) (y : ℕ) → IsIn (map f xs) y → (x : ℕ) × IsIn xs x × (f x ≡ y)
in_mapped f [] y is = absurd (none_in_nil y is)
in_mapped f (x ∷ xs) y is = elim (in_cons (f x) (map f xs) y is) [
  | inl same ↦ (x, (0, omega arith, refl), same)
  | inr later ↦ (let h = in_mapped f xs y later in (h.0, in_more x xs h.0 h.1, h.2))
]

pub mapped_in : (f : ℕ → ℕ) (xs : List ℕ) (x : ℕ) → IsIn xs x → IsIn (map f xs) (f x)
mapped_in f [] x is = absurd (none_in_nil x is)
mapped_in f (y ∷ xs) x is = elim (in_cons y xs x is) [
  | inl same ↦ (0, omega arith, ap f same)
  | inr later ↦ in_more (f y) (map f xs) (f x) (mapped_in f xs x later)
]

-- the places of elements that pass
pub from_has : {X : Type 0} (test : X → Bool) (at : ℕ) (xs : List X) (i : ℕ) (x : X) → slice_get xs i ≡ Some x → test x ≡ true → IsIn (places_from test at xs) (at + i)
from_has test at [] i x is on = absurd cc
from_has test at (y ∷ ys) zero x is on =
    let same : y ≡ x = cc in
    let P : Bool → Type 0 = λ b. IsIn (cond b (at ∷ places_from test (at + 1) ys) (places_from test (at + 1) ys)) (at + 0) in
    subst P (sym (ap test same ∙ on)) (0, omega arith, (let e : at ≡ at + 0 = omega arith in e))
from_has test at (y ∷ ys) (suc i) x is on = by (test y) (from_has test (at + 1) ys i x is on)
  where
    by : (b : Bool) → IsIn (places_from test (at + 1) ys) (at + 1 + i) → IsIn (cond b (at ∷ places_from test (at + 1) ys) (places_from test (at + 1) ys)) (at + suc i)
    by b later =
        let P : ℕ → Type 0 = IsIn (places_from test (at + 1) ys) in
        let there : IsIn (places_from test (at + 1) ys) (at + suc i) = subst P (let e : at + 1 + i ≡ at + suc i = omega arith in e) later in put b there
      where
        put : (b : Bool) → IsIn (places_from test (at + 1) ys) (at + suc i) → IsIn (cond b (at ∷ places_from test (at + 1) ys) (places_from test (at + 1) ys)) (at + suc i)
        put true there = in_more at (places_from test (at + 1) ys) (at + suc i) there
        put false there = there

pub has_from : {X : Type 0} (test : X → Bool) (at : ℕ) (xs : List X) (p : ℕ) → IsIn (places_from test at xs) p → (i : ℕ) × (x : X) × (p ≡ at + i) × (slice_get xs i ≡ Some x) × (test x ≡ true)
has_from test at [] p is = absurd (none_in_nil p is)
has_from test at (y ∷ ys) p is = by (test y) refl is (has_from test (at + 1) ys p)
  where
    by : (b : Bool) → test y ≡ b → IsIn (cond b (at ∷ places_from test (at + 1) ys) (places_from test (at + 1) ys)) p
        → (IsIn (places_from test (at + 1) ys) p → (i : ℕ) × (x : _) × (p ≡ at + 1 + i) × (slice_get ys i ≡ Some x) × (test x ≡ true))
        → (i : ℕ) × (x : _) × (p ≡ at + i) × (slice_get (y ∷ ys) i ≡ Some x) × (test x ≡ true)
    by true on here later = elim (in_cons at (places_from test (at + 1) ys) p here) [
      | inl same ↦ (0, y, (let e : p ≡ at + 0 = omega (arith, same) in e), refl, on)
      | inr there ↦ (let h = later there in (suc h.0, h.1, (let e : p ≡ at + suc h.0 = omega (arith, h.2) in e), h.3, h.4))
    ]
    by false off there later = let h = later there in (suc h.0, h.1, (let e : p ≡ at + suc h.0 = omega (arith, h.2) in e), h.3, h.4)

pub get_left : {X : Type 0} (xs ys : List X) (i : ℕ) (x : X) → slice_get xs i ≡ Some x → slice_get (xs ++ ys) i ≡ Some x
get_left [] ys i x is = absurd cc
get_left (y ∷ xs) ys zero x is = is
get_left (y ∷ xs) ys (suc i) x is = get_left xs ys i x is

pub get_right : {X : Type 0} (xs ys : List X) (i : ℕ) → slice_get (xs ++ ys) (length xs + i) ≡ slice_get ys i
get_right [] ys i = ap (slice_get ys) (let e : 0 + i ≡ i = omega arith in e)
get_right (x ∷ xs) ys i =
    ap (slice_get (x ∷ (xs ++ ys))) (let e : suc (length xs) + i ≡ suc (length xs + i) = omega arith in e) ∙ get_right xs ys i

pub get_some : {X : Type 0} (xs : List X) (i : ℕ) → i < length xs → (x : X) × (slice_get xs i ≡ Some x)
get_some [] i below = absurd (omega (arith, below))
get_some (x ∷ xs) zero below = (x, refl)
get_some (x ∷ xs) (suc i) below = get_some xs i (omega (arith, below))

same_some : {X : Type 0} (o : Option X) (x y : X) → o ≡ Some x → o ≡ Some y → x ≡ y
same_some o x y one other = let e : Some x ≡ Some y = sym one ∙ other in cc

-- ---- the member of a name

abbrev Differ : List Member → Type 0
Differ members = IsDistinct bytes_eq (map name_of members)

pub called_at : (members : List Member) (i : ℕ) (d : Member) → Differ members → slice_get members i ≡ Some d → member_called members (name_of d) ≡ Some d
called_at members i d differ is = found_at (has_key name_of (name_of d)) members ∙ ap (get_at members) (differ_first name_of members i d differ is) ∙ is

pub called_place : (members : List Member) (name : List ℕ) (d : Member) → member_called members name ≡ Some d
    → (i : ℕ) × (slice_get members i ≡ Some d) × (name_of d ≡ name)
called_place members name d is = by (first_place (has_key name_of name) members) refl (sym (found_at (has_key name_of name) members) ∙ is)
  where
    by : (place : Option ℕ) → first_place (has_key name_of name) members ≡ place → get_at members place ≡ Some d → (i : ℕ) × (slice_get members i ≡ Some d) × (name_of d ≡ name)
    by None at there = absurd cc
    by (Some i) at there =
        let found = first_passes (has_key name_of name) members i at in
        let same : found.0 ≡ d = same_some (slice_get members i) found.0 d found.1 there in
        (i, there, ap name_of (sym same) ∙ equal_bytes (name_of found.0) name found.2)

edge_is : (members : List Member) (i p : ℕ) (d o : Member) → Differ members → slice_get members i ≡ Some d → slice_get members p ≡ Some o
    → has_edge members (name_of d) (name_of o) ≡ is_edge d.package o.package.pkg
edge_is members i p d o differ one other =
    ap (λ m. edge_between m (member_called members (name_of o))) (called_at members i d differ one)
    ∙ ap (edge_between (Some d)) (called_at members p o differ other)

edge_has : (one other : Option Member) → edge_between one other ≡ true → (d : Member) × (o : Member) × (one ≡ Some d) × (other ≡ Some o) × (is_edge d.package o.package.pkg ≡ true)
edge_has None other on = absurd (true≢false (sym on))
edge_has (Some d) None on = absurd (true≢false (sym on))
edge_has (Some d) (Some o) on = (d, o, refl, refl, on)

-- ---- where names stand

pub node_is : (installed members : List Member) (at : ℕ) (e : Member) → slice_get installed at ≡ Some e
    → node_at installed members at ≡ node_or (place_of_key name_of (name_of e) members) (length members + at)
node_is installed members at e is = ap (entry_node installed members at) is

pub leads_are : (installed members : List Member) (at : ℕ) (e : Member) → slice_get installed at ≡ Some e
    → leads_at installed members at ≡ map (node_at installed members) (edges_at installed at) ++ edges_called members (name_of e)
leads_are installed members at e is = ap (entry_leads installed members at) is

-- an entry's name
pub node_first : (installed members : List Member) (at : ℕ) (e : Member) → Differ installed → slice_get installed at ≡ Some e
    → first_in_both installed members (name_of e) ≡ Some (node_at installed members at)
node_first installed members at e differ is =
    ap (λ place. option_or (first_place (has_key name_of (name_of e)) members) (option_map (λ i. length members + i) place)) (differ_first name_of installed at e differ is)
    ∙ by (first_place (has_key name_of (name_of e)) members)
    ∙ ap (λ place. Some (node_or place (length members + at))) (sym (place_first (name_of e) members)) ∙ ap Some (sym (node_is installed members at e is))
  where
    by : (place : Option ℕ) → option_or place (Some (length members + at)) ≡ Some (node_or place (length members + at))
    by None = refl
    by (Some i) = refl

-- and a member's
pub member_first : (installed members : List Member) (i : ℕ) (d : Member) → Differ members → slice_get members i ≡ Some d → first_in_both installed members (name_of d) ≡ Some i
member_first installed members i d differ is =
    ap (λ place. option_or place (option_map (λ at. length members + at) (first_place (has_key name_of (name_of d)) installed))) (differ_first name_of members i d differ is)

name_found : (members : List Member) (name : List ℕ) (i : ℕ) → first_place (has_key name_of name) members ≡ Some i → slice_get (member_names members) i ≡ Some name
name_found members name i is =
    let found = first_passes (has_key name_of name) members i is in
    slice_get-map name_of members i ∙ ap (option_map name_of) found.1 ∙ ap Some (equal_bytes (name_of found.0) name found.2)

-- the name stands there
pub first_name : (installed members : List Member) (name : List ℕ) (u : ℕ) → first_in_both installed members name ≡ Some u → slice_get (both_names installed members) u ≡ Some name
first_name installed members name u is =
    by (first_place (has_key name_of name) members) (first_place (has_key name_of name) installed) (name_found members name) (name_found installed name) is
  where
    by : (one other : Option ℕ) → ((i : ℕ) → one ≡ Some i → slice_get (member_names members) i ≡ Some name) → ((i : ℕ) → other ≡ Some i → slice_get (member_names installed) i ≡ Some name)
        → option_or one (option_map (λ at. length members + at) other) ≡ Some u → slice_get (both_names installed members) u ≡ Some name
    by (Some i) other first second at = get_left (member_names members) (member_names installed) u name (first u at)
    by None None first second at = absurd cc
    by None (Some j) first second at =
        let there : length members + j ≡ u = cc in
        ap (slice_get (both_names installed members)) (sym there ∙ ap (λ n. n + j) (sym (length-map members name_of)))
        ∙ get_right (member_names members) (member_names installed) j ∙ second j refl

pub both_length : (installed members : List Member) → length (both_names installed members) ≡ length members + length installed
both_length installed members =
    length-append (member_names members) (member_names installed) ∙ ap (λ n. n + length (member_names installed)) (length-map members name_of)
    ∙ ap (λ n. length members + n) (length-map installed name_of)

pub first_within : (installed members : List Member) (name : List ℕ) (u : ℕ) → first_in_both installed members name ≡ Some u → u < length members + length installed
first_within installed members name u is =
    let below = slice_get_within (both_names installed members) u name (first_name installed members name u is) in omega (arith, below, both_length installed members)

-- ---- what names have an edge to

abbrev Leads : List Member → List Member → List ℕ → ℕ → Type 0
Leads installed members name to = (other : List ℕ) × (first_in_both installed members other ≡ Some to) × (is_dependent installed members name other ≡ true)

dependent_by : (installed members : List Member) (name other : List ℕ) → has_name installed name ≡ true → (has_edge installed name other || has_edge members name other) ≡ true
    → is_dependent installed members name other ≡ true
dependent_by installed members name other has on = ap (λ b. b && (has_edge installed name other || has_edge members name other)) has ∙ on

or_right : (a b : Bool) → b ≡ true → (a || b) ≡ true
or_right true b on = refl
or_right false b on = on

or_left : (a b : Bool) → a ≡ true → (a || b) ≡ true
or_left a b on = ap (λ c. c || b) on

leads_installed : (installed members : List Member) (at to : ℕ) (e : Member) → Differ installed → slice_get installed at ≡ Some e
    → IsIn (map (node_at installed members) (edges_at installed at)) to → Leads installed members (name_of e) to
leads_installed installed members at to e differ is lead =
    let from = in_mapped (node_at installed members) (edges_at installed at) to lead in
    let P : List ℕ → Type 0 = λ places. IsIn places from.0 in
    let seen = has_from (λ (other : Member). is_edge e.package other.package.pkg) 0 installed from.0 (subst P (ap (λ m. member_edges m installed) is) from.1) in
    let there : slice_get installed from.0 ≡ Some seen.1 = ap (slice_get installed) (let s : from.0 ≡ seen.0 = omega (arith, seen.2) in s) ∙ seen.3 in (
      name_of seen.1,
      node_first installed members from.0 seen.1 differ there ∙ ap Some from.2,
      dependent_by installed members (name_of e) (name_of seen.1) (has_at (has_key name_of (name_of e)) installed at e is (same_bytes (name_of e)))
          (or_left (has_edge installed (name_of e) (name_of seen.1)) (has_edge members (name_of e) (name_of seen.1)) (edge_is installed at from.0 e seen.1 differ is there ∙ seen.4)),
    )

leads_members : (installed members : List Member) (at to : ℕ) (e : Member) → Differ members → slice_get installed at ≡ Some e
    → IsIn (edges_called members (name_of e)) to → Leads installed members (name_of e) to
leads_members installed members at to e differ is lead = by (member_called members (name_of e)) refl lead
  where
    by : (called : Option Member) → member_called members (name_of e) ≡ called → IsIn (member_edges called members) to → Leads installed members (name_of e) to
    by None none there = absurd (none_in_nil to there)
    by (Some d) found there =
        let seen = has_from (λ (other : Member). is_edge d.package other.package.pkg) 0 members to there in
        let here : slice_get members to ≡ Some seen.1 = ap (slice_get members) (let s : to ≡ seen.0 = omega (arith, seen.2) in s) ∙ seen.3 in (
          name_of seen.1,
          member_first installed members to seen.1 differ here,
          dependent_by installed members (name_of e) (name_of seen.1) (has_at (has_key name_of (name_of e)) installed at e is (same_bytes (name_of e)))
              (or_right (has_edge installed (name_of e) (name_of seen.1)) (has_edge members (name_of e) (name_of seen.1))
              (ap (λ m. edge_between m (member_called members (name_of seen.1))) found ∙ ap (edge_between (Some d)) (called_at members to seen.1 differ here) ∙ seen.4)),
        )

-- what a lead says
pub leads_sound : (installed members : List Member) (at to : ℕ) (e : Member) → Differ installed → Differ members → slice_get installed at ≡ Some e
    → IsIn (leads_at installed members at) to → Leads installed members (name_of e) to
leads_sound installed members at to e differ apart is lead =
    let P : List ℕ → Type 0 = λ places. IsIn places to in
    elim (in_either (map (node_at installed members) (edges_at installed at)) (edges_called members (name_of e)) to (subst P (leads_are installed members at e is) lead)) [
      | inl one ↦ leads_installed installed members at to e differ is one
      | inr other ↦ leads_members installed members at to e apart is other
    ]

abbrev Led : List Member → List Member → List ℕ → List ℕ → Type 0
Led installed members name other = (at : ℕ) × (e : Member) × (slice_get installed at ≡ Some e) × (name_of e ≡ name) × (to : ℕ) × IsIn (leads_at installed members at) to × (first_in_both installed members other ≡ Some to)

led_installed : (installed members : List Member) (at : ℕ) (e : Member) (other : List ℕ) → Differ installed → slice_get installed at ≡ Some e
    → has_edge installed (name_of e) other ≡ true → (to : ℕ) × IsIn (leads_at installed members at) to × (first_in_both installed members other ≡ Some to)
led_installed installed members at e other differ is on =
    let edge = edge_has (member_called installed (name_of e)) (member_called installed other) on in
    let same : edge.0 ≡ e = same_some (member_called installed (name_of e)) edge.0 e edge.2 (called_at installed at e differ is) in
    let place = called_place installed other edge.1 edge.3 in
    let P : List ℕ → Type 0 = λ places. IsIn places place.0 in
    let Q : List ℕ → Type 0 = λ places. IsIn places (node_at installed members place.0) in
    let F : List ℕ → Type 0 = λ name. first_in_both installed members name ≡ Some (node_at installed members place.0) in
    let here : is_edge e.package edge.1.package.pkg ≡ true = ap (λ (m : Member). is_edge m.package edge.1.package.pkg) (sym same) ∙ edge.4 in
    let E : ℕ → Type 0 = IsIn (edge_places e.package installed) in
    let seen : IsIn (edges_at installed at) place.0 =
    subst P (sym (ap (λ m. member_edges m installed) is)) (subst E (let z : 0 + place.0 ≡ place.0 = omega arith in z) (from_has (λ (m : Member). is_edge e.package m.package.pkg) 0 installed place.0 edge.1 place.1 here)) in (
      node_at installed members place.0,
      subst Q (sym (leads_are installed members at e is))
          (in_left (map (node_at installed members) (edges_at installed at)) (edges_called members (name_of e)) (node_at installed members place.0)
          (mapped_in (node_at installed members) (edges_at installed at) place.0 seen)),
      subst F place.2 (node_first installed members place.0 edge.1 differ place.1),
    )

led_members : (installed members : List Member) (at : ℕ) (e : Member) (other : List ℕ) → Differ members → slice_get installed at ≡ Some e
    → has_edge members (name_of e) other ≡ true → (to : ℕ) × IsIn (leads_at installed members at) to × (first_in_both installed members other ≡ Some to)
led_members installed members at e other differ is on =
    let edge = edge_has (member_called members (name_of e)) (member_called members other) on in
    let place = called_place members other edge.1 edge.3 in
    let Q : List ℕ → Type 0 = λ places. IsIn places place.0 in
    let F : List ℕ → Type 0 = λ name. first_in_both installed members name ≡ Some place.0 in
    let E : ℕ → Type 0 = IsIn (edge_places edge.0.package members) in
    let seen : IsIn (edges_called members (name_of e)) place.0 =
    subst Q (sym (ap (λ m. member_edges m members) edge.2)) (subst E (let z : 0 + place.0 ≡ place.0 = omega arith in z) (from_has (λ (m : Member). is_edge edge.0.package m.package.pkg) 0 members place.0 edge.1 place.1 edge.4)) in (
      place.0,
      subst Q (sym (leads_are installed members at e is))
          (in_right (map (node_at installed members) (edges_at installed at)) (edges_called members (name_of e)) place.0 seen),
      subst F place.2 (member_first installed members place.0 edge.1 differ place.1),
    )

-- each dependent has its lead
pub leads_all : (installed members : List Member) (name other : List ℕ) → Differ installed → Differ members → is_dependent installed members name other ≡ true
    → Led installed members name other
leads_all installed members name other differ apart on =
    let both = and_parts (has_name installed name) (has_edge installed name other || has_edge members name other) on in
    let place = any_has (has_key name_of name) installed both.0 in
    let found = first_passes (has_key name_of name) installed place.0 place.1 in
    let named : name_of found.0 ≡ name = equal_bytes (name_of found.0) name found.2 in
    let H : List ℕ → Type 0 = λ n. has_edge installed n other ≡ true in
    let M : List ℕ → Type 0 = λ n. has_edge members n other ≡ true in
    let led : (to : ℕ) × IsIn (leads_at installed members place.0) to × (first_in_both installed members other ≡ Some to) =
    elim (or_cases (has_edge installed name other) (has_edge members name other) both.1) [
      | inl one ↦ led_installed installed members place.0 found.0 other differ found.1 (subst H (sym named) one)
      | inr two ↦ led_members installed members place.0 found.0 other apart found.1 (subst M (sym named) two)
    ] in
    (place.0, found.0, found.1, named, led.0, led.1, led.2)

-- ---- by what the code was handed

pub read_some : (members : List Member) (at : ℕ) (d : Member) → at < length members → d ≡ get_or members at d → slice_get members at ≡ Some d
read_some members at d within is = slice_get-get_or members at d within ∙ ap Some (sym is)

pub node_found : (installed members : List Member) (at : ℕ) (e : Member) (place : Option ℕ) (i : ℕ) → at < length installed → e ≡ get_or installed at e
    → place ≡ place_of_key name_of (name_of (get_or installed at e)) members → place ≡ Some i → i ≡ node_at installed members at
node_found installed members at e place i within is found some =
    ap (λ p. node_or p (length members + at)) (sym some ∙ found ∙ ap (λ (m : Member). place_of_key name_of (name_of m) members) (sym is)) ∙ sym (node_is installed members at e (read_some installed at e within is))

pub node_past : (installed members : List Member) (at : ℕ) (e : Member) (place : Option ℕ) → at < length installed → e ≡ get_or installed at e
    → place ≡ place_of_key name_of (name_of (get_or installed at e)) members → place ≡ None → length members + at ≡ node_at installed members at
node_past installed members at e place within is found none =
    ap (λ p. node_or p (length members + at)) (sym none ∙ found ∙ ap (λ (m : Member). place_of_key name_of (name_of m) members) (sym is)) ∙ sym (node_is installed members at e (read_some installed at e within is))
