-- What is marked by a walk from what is touched is what is affected.
use Rattle.std.proofs.Common.{◌≡◌, ℕ, suc, ◌+◌, ◌<◌, inl, inr, Bool, true, false, cond, List, [], ◌∷◌, ◌++◌, length, get_or, map, take, sym, ap, refl, ◌∙◌, arith, subst, append_assoc}
use Rattle.std.specs.Prelude.{◌↔◌, slice_get, slice_index, EachIndex, IfOk, Result, Ok, Err, bytes_eq}
use Rattle.std.specs.List.{IsDistinct}
use Rattle.std.specs.declared.option.Option.{Option}
use Rattle.std.specs.declared.option.Option.TheVariants.{Some}
use Rattle.std.proofs.lemmas.Bool.{cases_lt}
use Rattle.std.proofs.lemmas.List.{append-nil, length-map, length-take-le, take_more}
use Rattle.std.proofs.lemmas.Option.{slice_get_within}
use Rattle.opam_names.specs.declared.fault.OutOfMemory.{OutOfMemory}
use Rattle.opam_package.specs.declared.package.Member.{Member}
use Rattle.action_graph.specs.declared.lookup.Spot.{Spot}
use Rattle.action_graph.specs.Leaving.{OfName, is_dependent, is_touched, name_of}
use Rattle.action_graph.specs.Links.{edge_places, edges_at, member_edges, member_names}
use Rattle.action_graph.specs.Listing.{AddsTo, RowsWithin, row}
use Rattle.action_graph.specs.Found.{Marks, marked}
use Rattle.action_graph.specs.Nodes.{Affected, Affects, Depends, Suits, both_names, edges_called, first_in_both, leads_at, node_at}
use Rattle.action_graph.specs.Places.{IsIn, places_from}
use Rattle.action_graph.specs.Reach.{Reached, started, stepped}
use Rattle.action_graph.proofs.Leading.{both_length, first_name, first_within, from_has, get_some, has_from, leads_all, leads_are, leads_sound, member_first, node_first, read_some}
use Rattle.action_graph.proofs.Lookups.{rises_differ}

-- ---- what is touched

places_push : {X : Type 0} (test : X → Bool) (from : ℕ) (xs : List X) (x : X) → places_from test from (xs ++ x ∷ []) ≡ places_from test from xs ++ cond (test x) ((from + length xs) ∷ []) []
places_push test from [] x = ap (λ n. cond (test x) (n ∷ []) []) (let e : from ≡ from + 0 = omega arith in e)
places_push test from (y ∷ ys) x = by (test y) (places_push test (from + 1) ys x)
  where
    by : (b : Bool) → places_from test (from + 1) (ys ++ x ∷ []) ≡ places_from test (from + 1) ys ++ cond (test x) ((from + 1 + length ys) ∷ []) []
        → cond b (from ∷ places_from test (from + 1) (ys ++ x ∷ [])) (places_from test (from + 1) (ys ++ x ∷ []))
        ≡ cond b (from ∷ places_from test (from + 1) ys) (places_from test (from + 1) ys) ++ cond (test x) ((from + suc (length ys)) ∷ []) []
    by true later = ap (λ l. from ∷ l) (later ∙ ap (λ n. places_from test (from + 1) ys ++ cond (test x) (n ∷ []) []) (let e : from + 1 + length ys ≡ from + suc (length ys) = omega arith in e))
    by false later = later ∙ ap (λ n. places_from test (from + 1) ys ++ cond (test x) (n ∷ []) []) (let e : from + 1 + length ys ≡ from + suc (length ys) = omega arith in e)

places_append : {X : Type 0} (test : X → Bool) (from : ℕ) (xs ys : List X) → places_from test from (xs ++ ys) ≡ places_from test from xs ++ places_from test (from + length xs) ys
places_append test from [] ys = ap (λ n. places_from test n ys) (let e : from ≡ from + 0 = omega arith in e)
places_append test from (x ∷ xs) ys = by (test x) (places_append test (from + 1) xs ys)
  where
    by : (b : Bool) → places_from test (from + 1) (xs ++ ys) ≡ places_from test (from + 1) xs ++ places_from test (from + 1 + length xs) ys
        → cond b (from ∷ places_from test (from + 1) (xs ++ ys)) (places_from test (from + 1) (xs ++ ys))
        ≡ cond b (from ∷ places_from test (from + 1) xs) (places_from test (from + 1) xs) ++ places_from test (from + suc (length xs)) ys
    by true later = ap (λ l. from ∷ l) (later ∙ ap (λ n. places_from test (from + 1) xs ++ places_from test n ys) (let e : from + 1 + length xs ≡ from + suc (length xs) = omega arith in e))
    by false later = later ∙ ap (λ n. places_from test (from + 1) xs ++ places_from test n ys) (let e : from + 1 + length xs ≡ from + suc (length xs) = omega arith in e)

names_more : (some : List Member) (at : ℕ) (d : Member) → at < length some → d ≡ get_or some at d → member_names (take (at + 1) some) ≡ member_names (take at some) ++ name_of d ∷ []
names_more some at d below is = ap member_names (take_more some at d below) ∙ pushed (take at some) (get_or some at d) ∙ ap (λ (m : Member). member_names (take at some) ++ name_of m ∷ []) (sym is)
  where
    pushed : (xs : List Member) (x : Member) → member_names (xs ++ x ∷ []) ≡ member_names xs ++ name_of x ∷ []
    pushed [] x = refl
    pushed (y ∷ ys) x = ap (λ l. name_of y ∷ l) (pushed ys x)

touched_more : (test : List ℕ → Bool) (some : List Member) (from at : ℕ) (d : Member) → at < length some → d ≡ get_or some at d
    → places_from test from (member_names (take (at + 1) some)) ≡ places_from test from (member_names (take at some)) ++ cond (test (name_of d)) ((from + at) ∷ []) []
touched_more test some from at d below is =
    ap (places_from test from) (names_more some at d below is) ∙ places_push test from (member_names (take at some)) (name_of d)
    ∙ ap (λ n. places_from test from (member_names (take at some)) ++ cond (test (name_of d)) ((from + n) ∷ []) [])
    (length-map (take at some) name_of ∙ length-take-le at some (omega (arith, below)))

pub touched_put : (test : List ℕ → Bool) (some : List Member) (from at : ℕ) (d : Member) (old so_far now : List ℕ) (answer : Bool) → so_far ≡ old ++ places_from test from (member_names (take at some)) → at < length some
    → d ≡ get_or some at d → answer ≡ test (name_of (get_or some at d)) → answer ≡ true → now ≡ so_far ++ (from + at) ∷ [] → now ≡ old ++ places_from test from (member_names (take (at + 1) some))
touched_put test some from at d old so_far now answer before below is told on pushed =
    pushed ∙ ap (λ l. l ++ (from + at) ∷ []) before ∙ append_assoc old (places_from test from (member_names (take at some))) ((from + at) ∷ [])
    ∙ ap (λ l. old ++ l) (ap (λ b. places_from test from (member_names (take at some)) ++ cond b ((from + at) ∷ []) []) (sym on ∙ told ∙ ap (λ (m : Member). test (name_of m)) (sym is)) ∙ sym (touched_more test some from at d below is))

pub touched_not : (test : List ℕ → Bool) (some : List Member) (from at : ℕ) (d : Member) (old so_far now : List ℕ) (answer : Bool) → so_far ≡ old ++ places_from test from (member_names (take at some)) → at < length some
    → d ≡ get_or some at d → answer ≡ test (name_of (get_or some at d)) → answer ≡ false → now ≡ so_far → now ≡ old ++ places_from test from (member_names (take (at + 1) some))
touched_not test some from at d old so_far now answer before below is told off same =
    same ∙ before
    ∙ ap (λ l. old ++ l) (sym (append-nil (places_from test from (member_names (take at some))))
    ∙ ap (λ b. places_from test from (member_names (take at some)) ++ cond b ((from + at) ∷ []) []) (sym off ∙ told ∙ ap (λ (m : Member). test (name_of m)) (sym is)) ∙ sym (touched_more test some from at d below is))

pub touched_both : (test : List ℕ → Bool) (installed members : List Member) (none one both : List ℕ) → none ≡ [] → one ≡ none ++ places_from test 0 (member_names members)
    → both ≡ one ++ places_from test (length members) (member_names installed) → both ≡ places_from test 0 (both_names installed members)
touched_both test installed members none one both empty first second =
    second ∙ ap (λ l. l ++ places_from test (length members) (member_names installed)) (first ∙ ap (λ l. l ++ places_from test 0 (member_names members)) empty)
    ∙ ap (λ n. places_from test 0 (member_names members) ++ places_from test n (member_names installed)) (let e : length members ≡ 0 + length (member_names members) = omega (arith, length-map members name_of) in e)
    ∙ sym (places_append test 0 (member_names members) (member_names installed))

-- ---- leads

pub leads_made : (installed members : List Member) (at : ℕ) (e : Member) (edges seen nodes more out : List ℕ) → at < length installed → e ≡ get_or installed at e
    → edges ≡ edge_places (get_or installed at e).package installed → seen ≡ edges → nodes ≡ map (node_at installed members) seen
    → more ≡ edges_called members (name_of (get_or installed at e)) → out ≡ nodes ++ more → out ≡ leads_at installed members at
leads_made installed members at e edges seen nodes more out within is are same mapped called joined =
    joined
    ∙ ap (λ l. l ++ more) (mapped ∙ ap (map (node_at installed members)) (same ∙ are ∙ ap (λ (m : Member). edge_places m.package installed) (sym is) ∙ sym (ap (λ o. member_edges o installed) (read_some installed at e within is))))
    ∙ ap (λ l. map (node_at installed members) (edges_at installed at) ++ l) (called ∙ ap (λ (m : Member). edges_called members (name_of m)) (sym is))
    ∙ sym (leads_are installed members at e (read_some installed at e within is))

abbrev Differ : List Member → Type 0
Differ members = IsDistinct bytes_eq (map name_of members)

pub leads_within : (installed members : List Member) (spots : List Spot) (at : ℕ) (leads : List ℕ) → Suits installed members spots → at < length installed → leads ≡ leads_at installed members at
    → (i : ℕ) → i < length leads → get_or leads i 0 < length members + length installed
leads_within installed members spots at leads suits within are i below =
    let e = get_some installed at within in
    let P : List ℕ → Type 0 = λ l. IsIn l (get_or leads i 0) in
    let lead = leads_sound installed members at (get_or leads i 0) e.0 suits.differ (rises_differ name_of members suits.rises) e.1 (subst P are (i, below, refl)) in
    first_within installed members lead.0 (get_or leads i 0) lead.1

pub depends_next : (installed members : List Member) (at : ℕ) (rows next : List (List ℕ)) (leads : List ℕ) (node : ℕ) → Depends installed members at rows → leads ≡ leads_at installed members at
    → node ≡ node_at installed members at → AddsTo rows next leads node → Depends installed members (at + 1) next
depends_next installed members at rows next leads node depends are is adds = record {
  counted = adds.counted ∙ depends.counted;
  back = λ p to before lead. elim (cases_lt p at) [
    | inl earlier ↦ adds.kept to (node_at installed members p) (depends.back p to earlier lead)
    | inr now ↦
        (let same : p ≡ at = omega (arith, before, now) in
        let P : ℕ → Type 0 = λ q. IsIn (row next to) q in
        let L : List ℕ → Type 0 = λ l. IsIn l to in
        let Q : ℕ → Type 0 = λ q. IsIn (leads_at installed members q) to in
        subst P (is ∙ ap (node_at installed members) (sym same)) (adds.added to (subst L (sym are) (subst Q same lead))))
  ];
  only = λ to from there. elim (adds.only to from there) [
    | inl was ↦ (let h = depends.only to from was in (h.0, omega (arith, h.1), h.2, h.3))
    | inr new ↦ (let L : List ℕ → Type 0 = λ l. IsIn l to in (at, omega arith, new.0 ∙ is, subst L are new.1))
  ];
}

pub depends_within : (installed members : List Member) (spots : List Spot) (rows : List (List ℕ)) → Suits installed members spots → Depends installed members (length installed) rows → RowsWithin rows (length rows)
depends_within installed members spots rows suits depends to from there =
    let h = depends.only to from there in
    let e = get_some installed h.0 h.1 in
    let below = first_within installed members (name_of e.0) (node_at installed members h.0) (node_first installed members h.0 e.0 suits.differ e.1) in
    omega (arith, below, h.2, depends.counted)

pub row_ok : (rows : List (List ℕ)) (from : ℕ) (seen : List ℕ) (result : Result (List ℕ) OutOfMemory) → RowsWithin rows (length rows) → seen ≡ row rows from → IfOk result (λ places. places ≡ seen)
    → IfOk result (λ places. EachIndex places (λ i. slice_index places i < length rows))
row_ok rows from seen (Ok places) within is same =
    λ i below. let P : List ℕ → Type 0 = λ l. IsIn l (get_or places i 0) in within from (get_or places i 0) (subst P (same ∙ is) (i, below, refl))
row_ok rows from seen (Err fault) within is same = tt

-- ---- the walk

module _ (installed members : List Member) (redo : List (List ℕ)) (spots : List Spot) (suits : Suits installed members spots) where
  apart : Differ members
  apart = rises_differ name_of members suits.rises

  abbrev Walked : List ℕ → List (List ℕ) → ℕ → Type 0
  Walked starts rows = Reached (IsIn starts) (λ from. IsIn (row rows from))

  abbrev touched_places : List ℕ
  touched_places = places_from (is_touched installed members redo) 0 (both_names installed members)

  same_name : (u : ℕ) (one other : List ℕ) → slice_get (both_names installed members) u ≡ Some one → slice_get (both_names installed members) u ≡ Some other → one ≡ other
  same_name u one other first second = let e : Some one ≡ Some other = sym first ∙ second in cc

  sound : (starts : List ℕ) (rows : List (List ℕ)) → starts ≡ touched_places → Depends installed members (length installed) rows → (u : ℕ) → Walked starts rows u
      → (name : List ℕ) × (slice_get (both_names installed members) u ≡ Some name) × Affected installed members redo name
  sound starts rows are depends u (started to is) =
      let P : List ℕ → Type 0 = λ l. IsIn l to in
      let h = has_from (is_touched installed members redo) 0 (both_names installed members) to (subst P are is) in
      (h.1, ap (slice_get (both_names installed members)) (let s : to ≡ h.0 = omega (arith, h.2) in s) ∙ h.3, started h.1 h.4)
  sound starts rows are depends u (stepped from to before is) =
      let earlier = sound starts rows are depends from before in
      let h = depends.only from to is in
      let e = get_some installed h.0 h.1 in
      let lead = leads_sound installed members h.0 from e.0 suits.differ apart e.1 h.3 in
      let same : lead.0 ≡ earlier.0 = same_name from lead.0 earlier.0 (first_name installed members lead.0 from lead.1) earlier.1 in
      let D : List ℕ → Type 0 = λ name. is_dependent installed members (name_of e.0) name ≡ true in (
        name_of e.0,
        ap (slice_get (both_names installed members)) h.2 ∙ first_name installed members (name_of e.0) (node_at installed members h.0) (node_first installed members h.0 e.0 suits.differ e.1),
        stepped earlier.0 (name_of e.0) earlier.2 (subst D same lead.2),
      )

  complete : (starts : List ℕ) (rows : List (List ℕ)) → starts ≡ touched_places → Depends installed members (length installed) rows → (name : List ℕ) → Affected installed members redo name
      → (u : ℕ) → first_in_both installed members name ≡ Some u → Walked starts rows u
  complete starts rows are depends name (started to is) u at =
      let P : List ℕ → Type 0 = λ l. IsIn l u in
      let E : ℕ → Type 0 = IsIn touched_places in
      started u (subst P (sym are) (subst E (let z : 0 + u ≡ u = omega arith in z) (from_has (is_touched installed members redo) 0 (both_names installed members) u to (first_name installed members to u at) is)))
  complete starts rows are depends name (stepped from to before is) u at =
      let led = leads_all installed members to from suits.differ apart is in
      let earlier = complete starts rows are depends from before led.4 led.6 in
      let below = slice_get_within installed led.0 led.1 led.2 in
      let F : List ℕ → Type 0 = λ n. first_in_both installed members n ≡ Some (node_at installed members led.0) in
      let here : first_in_both installed members to ≡ Some (node_at installed members led.0) = subst F led.3 (node_first installed members led.0 led.1 suits.differ led.2) in
      let same : node_at installed members led.0 ≡ u = (let e : Some (node_at installed members led.0) ≡ Some u = sym here ∙ at in cc) in
      let W : ℕ → Type 0 = Walked starts rows in
      subst W same (stepped led.4 (node_at installed members led.0) earlier (depends.back led.0 led.4 below led.5))

  told : (starts : List ℕ) (rows : List (List ℕ)) (count : ℕ) (marks : List Bool) → starts ≡ touched_places → Depends installed members (length installed) rows → Marks (Walked starts rows) count marks
      → (name : List ℕ) (u : ℕ) → first_in_both installed members name ≡ Some u → (marked marks u ≡ true) ↔ Affected installed members redo name
  told starts rows count marks are depends is name u at = (
    (λ on.
        let h = sound starts rows are depends u ((is.those u).0 on) in
        let A : List ℕ → Type 0 = Affected installed members redo in
        subst A (same_name u h.0 name h.1 (first_name installed members name u at)) h.2),
    (λ affected. (is.those u).1 (complete starts rows are depends name affected u at)),
  )

  of_name : (some : List Member) (at : ℕ) (e : Member) (P : Type 0) → slice_get some at ≡ Some e → P ↔ Affected installed members redo (name_of e) → P ↔ OfName (Affected installed members redo) (slice_get some at)
  of_name some at e P is same =
      let Q : Option Member → Type 0 = λ o. P ↔ OfName (Affected installed members redo) o in subst Q (sym is) same

  affects_done : (starts : List ℕ) (rows : List (List ℕ)) (count : ℕ) (marks : List Bool) → starts ≡ touched_places → Depends installed members (length installed) rows → count ≡ length rows
      → Marks (Walked starts rows) count marks → Affects installed members redo marks
  affects_done starts rows count marks are depends counted is = record {
    counted = is.counted ∙ counted ∙ depends.counted;
    entries = λ at below. (let e = get_some installed at below in
        of_name installed at e.0 (marked marks (node_at installed members at) ≡ true) e.1
        (told starts rows count marks are depends is (name_of e.0) (node_at installed members at) (node_first installed members at e.0 suits.differ e.1)));
    comers = λ at below. (let e = get_some members at below in
        of_name members at e.0 (marked marks at ≡ true) e.1
        (told starts rows count marks are depends is (name_of e.0) at (member_first installed members at e.0 apart e.1)));
  }

  pub starts_within : (starts : List ℕ) (rows : List (List ℕ)) → starts ≡ touched_places → Depends installed members (length installed) rows → (i : ℕ) → i < length starts → get_or starts i 0 < length rows
  starts_within starts rows are depends i below =
      let P : List ℕ → Type 0 = λ l. IsIn l (get_or starts i 0) in
      let h = has_from (is_touched installed members redo) 0 (both_names installed members) (get_or starts i 0) (subst P are (i, below, refl)) in
      let within = slice_get_within (both_names installed members) h.0 h.1 h.3 in
      omega (arith, within, h.2, both_length installed members, depends.counted)

  pub affects_ok : (starts seen : List ℕ) (rows : List (List ℕ)) (count : ℕ) (result : Result (List Bool) OutOfMemory) → starts ≡ touched_places → seen ≡ starts → Depends installed members (length installed) rows
      → count ≡ length rows → IfOk result (Marks (Reached (IsIn seen) (λ from. IsIn (row rows from))) count) → IfOk result (Affects installed members redo)
  affects_ok starts seen rows count (Ok marks) are same depends counted is =
      affects_done seen rows count marks (same ∙ are) depends counted is
  affects_ok starts seen rows count (Err fault) are same depends counted is = tt
