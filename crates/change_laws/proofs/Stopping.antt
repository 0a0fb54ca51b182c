-- Where a change stands right after so many of its commits.
use Rattle.std.proofs.Common.{◌≡◌, ◌∙◌, ℕ, zero, suc, ◌<◌, ◌≤◌, List, [], ◌∷◌, ◌++◌, length, take, Bool, true, false, Option, Some, None, refl, sym, ap, subst, arith, append_assoc, inl, inr}
use Rattle.std.specs.Prelude.{◌⊎◌, is_some, nat_lt}
use Rattle.std.specs.List.{cons_option}
use Rattle.std.proofs.lemmas.Bool.Decides.{nat_tests}
use Rattle.std.proofs.lemmas.List.{append-nil, length_push, take-append-le, take_all, take_at}
use Rattle.switch_state.specs.Actions.{Action}
use Rattle.change_outcome.specs.Changes.{Change, Point, Removal}
use Rattle.change_outcome.specs.Outcomes.{first_decided, turn_after}
use Rattle.change_outcome.specs.PutBacks.{with_backs}
use Rattle.change_outcome.specs.Steps.{Decided, back_of, decided_on, done_in, point_then}
use Rattle.change_outcome.proofs.Making.{filter_push}
use Rattle.change_laws.proofs.Allowed.{backs_push}
use Rattle.change_laws.proofs.Continues.{backs_parts, done_parts}

pub less_or : (n m : ℕ) → (n < m) ⊎ (m ≤ n)
less_or n m = by (nat_lt n m) refl
  where
    by : (b : Bool) → nat_lt n m ≡ b → (n < m) ⊎ (m ≤ n)
    by true is = inl (grind (arith, nat_tests))
    by false is = inr (grind (arith, nat_tests))

module _ (change : Change) (start : Point) where
  -- what is decided at a place does something
  abbrev pub Does : ℕ → Type 0
  Does n = is_some (decided_on change (point_then start (first_decided change start n)) (turn_after change (first_decided change start n))).does ≡ true

  -- nothing is decided yet, or something was done last
  abbrev pub IsRight : ℕ → Type 0
  IsRight zero = Unit {0}
  IsRight (suc n) = Does n

  pub record StopsAt (n count : ℕ) : Type 0 where
    pub t : ℕ
    pub within : t ≤ n
    pub done : done_in (first_decided change start t) ≡ take count (done_in (first_decided change start n))
    pub right : IsRight t

  later : (n count : ℕ) → StopsAt n count → take count (done_in (first_decided change start n)) ≡ take count (done_in (first_decided change start (suc n))) → StopsAt (suc n) count
  later n count it same = record { t = it.t; within = (let e = it.within in omega (arith, e)); done = it.done ∙ same; right = it.right }

  stop_by : (n count : ℕ) (does : Option Action) → (decided_on change (point_then start (first_decided change start n)) (turn_after change (first_decided change start n))).does ≡ does
      → done_in (first_decided change start (suc n)) ≡ done_in (first_decided change start n) ++ cons_option does [] → (count ≤ length (done_in (first_decided change start n)) → StopsAt n count) → count ≤ length (done_in (first_decided change start (suc n))) → StopsAt (suc n) count
  stop_by n count None is more earlier within =
      let same : done_in (first_decided change start (suc n)) ≡ done_in (first_decided change start n) = more ∙ append-nil (done_in (first_decided change start n)) in
      later n count (earlier (subst (λ actions. count ≤ length actions) same within)) (ap (take count) (sym same))
  stop_by n count (Some action) is more earlier within =
      by (less_or (length (done_in (first_decided change start n))) count)
    where
      by : (length (done_in (first_decided change start n)) < count) ⊎ (count ≤ length (done_in (first_decided change start n))) → StopsAt (suc n) count
      by (inl less) = record {
        t = suc n;
        within = omega arith;
        done = sym (take_all count (done_in (first_decided change start (suc n))) (let e = ap length more in let f = length_push (done_in (first_decided change start n)) action in omega (arith, e, f, less)));
        right = ap is_some is;
      }
      by (inr few) = later n count (earlier few) (sym (ap (take count) more ∙ take-append-le count (done_in (first_decided change start n)) (action ∷ []) few))

  pub stop_at : (n count : ℕ) → count ≤ length (done_in (first_decided change start n)) → StopsAt n count
  stop_at zero zero within = record { t = 0; within = omega arith; done = refl; right = tt }
  stop_at zero (suc count) within = absurd (omega (arith, within))
  stop_at (suc n) count within =
      let before : List Decided = first_decided change start n in
      let next : Decided = decided_on change (point_then start before) (turn_after change before) in
      stop_by n count next.does refl (filter_push (λ (one : Decided). one.does) before next next.does refl) (stop_at n count) within

-- ---- among the put backs

module _ (start : Point) (before : List Decided) where
  -- the put back with which so many are committed
  pub record BackAt (all : List Removal) (count : ℕ) : Type 0 where
    pub front : List Removal
    pub removal : Removal
    pub left : List Removal
    pub split : all ≡ front ++ removal ∷ left
    pub does : is_some (back_of (point_then start (with_backs start before front)) removal).does ≡ true
    pub done : done_in (with_backs start before (front ++ removal ∷ [])) ≡ take count (done_in (with_backs start before all))

  -- what is decided of more put backs goes on from where the others lead
  pub backs_more : (front left : List Removal) → with_backs start before (front ++ left) ≡ with_backs start before front ++ with_backs (point_then start (with_backs start before front)) [] left
  backs_more front left = with_parts before front left ∙ ap (λ ds. with_backs start ds left) (sym (append-nil (with_backs start before front))) ∙ backs_parts start (with_backs start before front) [] left
    where
      with_parts : (ds : List Decided) (xs ys : List Removal) → with_backs start ds (xs ++ ys) ≡ with_backs start (with_backs start ds xs) ys
      with_parts ds [] ys = refl
      with_parts ds (x ∷ xs) ys = with_parts (ds ++ back_of (point_then start ds) x ∷ []) xs ys

  back_found : (front left : List Removal) (removal : Removal) (count : ℕ) → length (done_in (with_backs start before front)) < count → count ≤ length (done_in (with_backs start before (front ++ removal ∷ []))) → BackAt (front ++ removal ∷ left) count
  back_found front left removal count less few = by (back_of (point_then start (with_backs start before front)) removal).does refl
    where
      more : (does : Option Action) → (back_of (point_then start (with_backs start before front)) removal).does ≡ does
          → done_in (with_backs start before front ++ back_of (point_then start (with_backs start before front)) removal ∷ []) ≡ done_in (with_backs start before front) ++ cons_option does []
      more does is =
          filter_push (λ (one : Decided). one.does) (with_backs start before front) (back_of (point_then start (with_backs start before front)) removal) (back_of (point_then start (with_backs start before front)) removal).does refl
          ∙ ap (λ o. done_in (with_backs start before front) ++ cons_option o []) is

      by : (does : Option Action) → (back_of (point_then start (with_backs start before front)) removal).does ≡ does → BackAt (front ++ removal ∷ left) count
      by None is =
          absurd
          (let e = ap (λ ds. length (done_in ds)) (backs_push start before front removal) in
          let f = ap length (more None is) in
          let g = ap length (append-nil (done_in (with_backs start before front))) in omega (arith, e, f, g, less, few))
      by (Some action) is =
          let so_far : List Action = done_in (with_backs start before (front ++ removal ∷ [])) in
          let many : length so_far ≡ count =
          (let e = ap (λ ds. length (done_in ds)) (backs_push start before front removal) in
          let f = ap length (more (Some action) is) in
          let g = length_push (done_in (with_backs start before front)) action in omega (arith, e, f, g, less, few)) in
          let whole : done_in (with_backs start before (front ++ removal ∷ left)) ≡ so_far ++ done_in (with_backs (point_then start (with_backs start before (front ++ removal ∷ []))) [] left) =
          ap (λ rs. done_in (with_backs start before rs)) (sym (append_assoc front (removal ∷ []) left))
          ∙ ap done_in (backs_more (front ++ removal ∷ []) left)
          ∙ done_parts (with_backs start before (front ++ removal ∷ [])) (with_backs (point_then start (with_backs start before (front ++ removal ∷ []))) [] left) in
          record {
            front = front;
            removal = removal;
            left = left;
            split = refl;
            does = ap is_some is;
            done = sym (ap (take count) whole ∙ take_at so_far (done_in (with_backs (point_then start (with_backs start before (front ++ removal ∷ []))) [] left)) count many);
          }

  pub back_at : (front left : List Removal) (count : ℕ) → length (done_in (with_backs start before front)) < count → count ≤ length (done_in (with_backs start before (front ++ left))) → BackAt (front ++ left) count
  back_at front [] count less few = absurd (let e = ap (λ rs. length (done_in (with_backs start before rs))) (append-nil front) in omega (arith, e, less, few))
  back_at front (removal ∷ left) count less few = by (less_or (length (done_in (with_backs start before (front ++ removal ∷ [])))) count) (back_at (front ++ removal ∷ []) left count)
    where
      by : (length (done_in (with_backs start before (front ++ removal ∷ []))) < count) ⊎ (count ≤ length (done_in (with_backs start before (front ++ removal ∷ []))))
          → (length (done_in (with_backs start before (front ++ removal ∷ []))) < count → count ≤ length (done_in (with_backs start before ((front ++ removal ∷ []) ++ left))) → BackAt ((front ++ removal ∷ []) ++ left) count) → BackAt (front ++ removal ∷ left) count
      by (inl less_yet) on =
          subst (λ rs. BackAt rs count) (append_assoc front (removal ∷ []) left)
          (on less_yet (subst (λ rs. count ≤ length (done_in (with_backs start before rs))) (sym (append_assoc front (removal ∷ []) left)) few))
      by (inr there) on = back_found front left removal count less there
