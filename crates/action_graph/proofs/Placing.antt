-- What stands at places.
use Rattle.std.proofs.Common.{◌≡◌, ℕ, zero, suc, ◌+◌, ◌<◌, ◌≤◌, ◌⊎◌, inl, inr, Bool, true, false, cond, List, [], ◌∷◌, ◌++◌, length, get_or, take, map, sym, ap, refl, ◌∙◌, arith, subst}
use Rattle.std.specs.Prelude.{slice_get, slice_index, EachIndex, IfOk, Result, Ok, Err}
use Rattle.opam_names.specs.declared.fault.OutOfMemory.{OutOfMemory}
use Rattle.opam_names.specs.declared.packages.Pkg.{Pkg}
use Rattle.std.specs.List.{cons_option, filter_map}
use Rattle.std.specs.declared.option.Option.{Option}
use Rattle.std.specs.declared.option.Option.TheVariants.{None, Some}
use Rattle.std.proofs.lemmas.List.{take_more}
use Rattle.opam_package.specs.declared.package.Member.{Member}
use Rattle.opam_package.specs.declared.package.Package.{Package}
use Rattle.action_graph.specs.Places.{ArePlaces, IsIn, at_places, places_from}
use Rattle.action_graph.specs.Found.{Marks}
use Rattle.action_graph.specs.Reach.{Reached}
use Rattle.action_graph.specs.Views.{IsViewed, IsView}
use Rattle.action_graph.specs.Links.{edge_places, edges_at, need_places, needs_at, member_needs, member_pkgs}
use Rattle.action_graph.specs.Listing.{IsMarked}
use Rattle.action_graph.proofs.Membership.{none_in_nil}
use Rattle.action_graph.proofs.Finding.{marked_within}

pub in_cons : (y : ℕ) (ys : List ℕ) (x : ℕ) → IsIn (y ∷ ys) x → (y ≡ x) ⊎ IsIn ys x
in_cons y ys x is = by is.0 is.1 is.2
  where
    by : (i : ℕ) → i < length (y ∷ ys) → get_or (y ∷ ys) i 0 ≡ x → (y ≡ x) ⊎ IsIn ys x
    by zero below same = inl same
    by (suc i) below same = inr (i, omega (arith, below), same)

-- places stand between the first and the end
pub places_in : {X : Type 0} (test : X → Bool) (at : ℕ) (xs : List X) (x : ℕ) → IsIn (places_from test at xs) x → (at ≤ x) × (x < at + length xs)
places_in test at [] x is = absurd (none_in_nil x is)
places_in test at (y ∷ ys) x is = places_by (test y) at (places_from test (at + 1) ys) (length ys) x (λ further. places_in test (at + 1) ys x further) is
  where
    places_by : (b : Bool) (at : ℕ) (more : List ℕ) (n x : ℕ) → (IsIn more x → (at + 1 ≤ x) × (x < at + 1 + n)) → IsIn (cond b (at ∷ more) more) x → (at ≤ x) × (x < at + suc n)
    places_by false at more n x rest is = let h = rest is in (omega (arith, h.0), omega (arith, h.1))
    places_by true at more n x rest is = elim (in_cons at more x is) [
      | inl same ↦ (omega (arith, same), omega (arith, same))
      | inr further ↦ (let h = rest further in (omega (arith, h.0), omega (arith, h.1)))
    ]

pub needs_within : (dependent : Package) (members : List Member) (x : ℕ) → IsIn (need_places dependent members) x → x < length members
needs_within dependent members x is = let h = places_in _ 0 members x is in omega (arith, h.1)

pub edges_within : (dependent : Package) (members : List Member) (x : ℕ) → IsIn (edge_places dependent members) x → x < length members
edges_within dependent members x is = let h = places_in _ 0 members x is in omega (arith, h.1)

pub needs_fit : (dependent : Package) (members : List Member) (places : List ℕ) → places ≡ need_places dependent members → (i : ℕ) → i < length places → get_or places i 0 < length members
needs_fit dependent members places are i below =
    let P : List ℕ → Type 0 = λ l. IsIn l (get_or places i 0) in needs_within dependent members (get_or places i 0) (subst P are (i, below, refl))

pub edges_fit : (dependent : Package) (members : List Member) (places : List ℕ) → places ≡ edge_places dependent members → (i : ℕ) → i < length places → get_or places i 0 < length members
edges_fit dependent members places are i below =
    let P : List ℕ → Type 0 = λ l. IsIn l (get_or places i 0) in edges_within dependent members (get_or places i 0) (subst P are (i, below, refl))

pub slice_get_is : {X : Type 0} (xs : List X) (p : ℕ) (d : X) → p < length xs → d ≡ get_or xs p d → slice_get xs p ≡ Some d
slice_get_is [] p d within is = absurd (omega (arith, within))
slice_get_is (x ∷ xs) zero d within is = ap Some (sym is)
slice_get_is (x ∷ xs) (suc p) d within is = slice_get_is xs p d (omega (arith, within)) is

slice_get-map : {X Y : Type 0} (f : X → Y) (xs : List X) (p : ℕ) (d : X) → slice_get xs p ≡ Some d → slice_get (map f xs) p ≡ Some (f d)
slice_get-map f [] p d is = absurd cc
slice_get-map f (x ∷ xs) zero d is = let h : x ≡ d = cc in ap (λ y. Some (f y)) h
slice_get-map f (x ∷ xs) (suc p) d is = slice_get-map f xs p d is

filter_map_push : {X : Type 0} (h : ℕ → Option X) (bs : List ℕ) (a : ℕ) (v : X) → h a ≡ Some v → filter_map h (bs ++ a ∷ []) ≡ filter_map h bs ++ v ∷ []
filter_map_push h [] a v is = ap (λ o. cons_option o []) is
filter_map_push h (b ∷ bs) a v is = ap (cons_option (h b)) (filter_map_push h bs a v is) ∙ by (h b) (filter_map h bs) v
  where
    by : {Y : Type 0} (o : Option Y) (ys : List Y) (w : Y) → cons_option o (ys ++ w ∷ []) ≡ cons_option o ys ++ w ∷ []
    by None ys w = refl
    by (Some y) ys w = refl

pub pushed_at : {X Y : Type 0} (f : X → Y) (xs : List X) (places : List ℕ) (i : ℕ) (d : X) (v : Y) (out more : List Y) → out ≡ at_places (map f xs) (take i places)
    → i < length places → get_or places i 0 < length xs → d ≡ get_or xs (get_or places i 0) d → v ≡ f d → more ≡ out ++ v ∷ [] → more ≡ at_places (map f xs) (take (i + 1) places)
pushed_at f xs places i d v out more so_far below within is same pushed =
    let p = get_or places i 0 in
    let here = slice_get-map f xs p d (slice_get_is xs p d within is) in
    let h = slice_get (map f xs) in
    pushed ∙ ap (λ w. out ++ w ∷ []) same ∙ ap (λ o. o ++ f d ∷ []) so_far ∙ sym (filter_map_push h (take i places) p (f d) here)
    ∙ ap (filter_map h) (sym (take_more places i 0 below))

pub needs_at_is : (members : List Member) (place : ℕ) (member : Member) → place < length members → member ≡ get_or members place member → needs_at members place ≡ need_places member.package members
needs_at_is members place member within is = ap (λ o. member_needs o members) (slice_get_is members place member within is)

pub marks_are : (holds : ℕ → Type 0) (count : ℕ) (marks : List Bool) (places : List ℕ) → Marks holds count marks → ArePlaces (IsMarked marks) places → ArePlaces holds places
marks_are holds count marks places is are = record {
  rising = are.rising;
  those = λ place. ((λ in_it. (is.those place).0 ((are.those place).0 in_it)), (λ held. (are.those place).1 ((is.those place).1 held)));
}

pub marked_fit : (marks : List Bool) (places : List ℕ) → ArePlaces (IsMarked marks) places → (i : ℕ) → i < length places → get_or places i 0 < length marks
marked_fit marks places are i below = marked_within marks (get_or places i 0) ((are.those (get_or places i 0)).0 (i, below, refl))

pub edges_all_fit : (dependent : Package) (members : List Member) (result : Result (List ℕ) OutOfMemory) → IfOk result (λ places. places ≡ edge_places dependent members)
    → IfOk result (λ places. EachIndex places (λ i. slice_index places i < length members))
edges_all_fit dependent members (Ok places) are = edges_fit dependent members places are
edges_all_fit dependent members (Err fault) are = tt

pub view_is : (members given : List Member) (place count : ℕ) (member : Member) (starts first : List ℕ) (marks seen : List Bool) (places all : List ℕ) (view : List Pkg)
    → given ≡ members → place < length members → member ≡ get_or given place member → starts ≡ need_places (get_or given place member).package given → first ≡ starts
    → Marks (Reached (IsIn first) (λ from. IsIn (edges_at members from))) count marks → seen ≡ marks → ArePlaces (IsMarked seen) places → all ≡ places
    → view ≡ at_places (member_pkgs given) all → IsView members place view
view_is members given place count member starts first marks seen places all view same within is are firsts reached same_marks marked_all same_places copied =
    let G : List Member → Type 0 = λ ms. member ≡ get_or ms place member in
    let here : member ≡ get_or members place member = subst G same is in
    let needs : first ≡ needs_at members place =
    firsts ∙ are ∙ ap (λ ms. need_places (get_or ms place member).package ms) same ∙ ap (λ (m : Member). need_places m.package members) (sym here)
    ∙ sym (needs_at_is members place member within here) in
    let R : List ℕ → Type 0 = λ xs. Marks (Reached (IsIn xs) (λ from. IsIn (edges_at members from))) count marks in
    let M : List Bool → Type 0 = λ bs. ArePlaces (IsMarked bs) places in (
      places,
      marks_are (IsViewed members place) count marks places (subst R needs reached) (subst M same_marks marked_all),
      copied ∙ ap (λ ms. at_places (member_pkgs ms) all) same ∙ ap (at_places (member_pkgs members)) same_places,
    )
