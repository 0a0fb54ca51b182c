-- Names that came are taken back, the last one first; and names that are awaited.
use Rattle.std.proofs.Common.{◌≡◌, ℕ, zero, suc, ◌+◌, ◌<◌, List, [], ◌∷◌, ◌++◌, length, get_or, take, fold, Bool, true, false, not, ◌||◌, ◌&&◌, cond, ⊎_elim, refl, sym, ◌∙◌, ap, subst}
use Rattle.std.specs.Prelude.{bytes_eq}
use Rattle.std.proofs.lemmas.List.{append_assoc, take_more}
use Rattle.opam_filter.specs.NameSets.{with_name}
use Rattle.lock_check.specs.Chased.{is_among}
use Rattle.lock_check.specs.Growth.{AreNew, Awaits, AwaitsSome, Grows, IsUndoing, Undoes, removed, without}
use Rattle.lock_check.proofs.Among.{among_joined, among_one, either, fold_joined, is_same, new_front, none_of_new, or_left, or_right, taken_back}
use Rattle.lock_check.proofs.Names.{put_those}

none_after : (xs : List (List ℕ)) → xs ++ [] ≡ xs
none_after [] = refl
none_after (x ∷ xs) = ap (λ ys. x ∷ ys) (none_after xs)

and_true : (a : Bool) → a ≡ (a && true)
and_true true = refl
and_true false = refl

pub undoing_first : (names needed waiting : List (List ℕ)) → IsUndoing names needed waiting names needed waiting
undoing_first names needed waiting = record {
  gone = [];
  all = sym (none_after names);
  back = λ before new whole. whole;
  fewer = λ name. and_true (is_among waiting name);
}

not_either : (a b c : Bool) → ((a && not b) && not (c || false)) ≡ (a && not (c || b))
not_either true true true = refl
not_either true true false = refl
not_either true false true = refl
not_either true false false = refl
not_either false b c = refl

pub undoing_next : (names needed waiting left rest k w k1 w1 : List (List ℕ)) (name : List ℕ) → IsUndoing names needed waiting left k w → left ≡ rest ++ name ∷ []
    → k1 ≡ removed k name → ((other : List ℕ) → is_among w1 other ≡ without w (name ∷ []) other) → IsUndoing names needed waiting rest k1 w1
undoing_next names needed waiting left rest k w k1 w1 name h is removed_is fewer_now =
    let all : names ≡ rest ++ (name ∷ h.gone) = h.all ∙ ap (λ xs. xs ++ h.gone) is ∙ append_assoc rest (name ∷ []) h.gone in
    record {
      gone = name ∷ h.gone;
      all = all;
      back = λ before new whole.
          let P : List (List ℕ) → Type 0 = λ xs. AreNew before xs in
          let apart = (new_front before rest (name ∷ h.gone) (subst P all new)).1 in
          removed_is ∙ ap (λ xs. removed xs name) (h.back before new whole ∙ ap (fold with_name before) is ∙ fold_joined before rest (name ∷ []))
          ∙ taken_back (fold with_name before rest) name apart.0;
      fewer = λ other.
          fewer_now other ∙ ap (λ b. b && not (is_among (name ∷ []) other)) (h.fewer other)
          ∙ not_either (is_among waiting other) (is_among h.gone other) (bytes_eq other name);
    }

pub undoing_back : (names needed waiting left k w : List (List ℕ)) → IsUndoing names needed waiting left k w → left ≡ [] → Undoes names needed k
undoing_back names needed waiting left k w h none = λ before new whole. h.back before new whole ∙ ap (fold with_name before) none

pub undoing_fewer : (names needed waiting left k w : List (List ℕ)) → IsUndoing names needed waiting left k w → left ≡ [] → (name : List ℕ) → is_among w name ≡ without waiting names name
undoing_fewer names needed waiting left k w h none name =
    h.fewer name ∙ ap (λ xs. is_among waiting name && not (is_among xs name)) (sym (h.all ∙ ap (λ xs. xs ++ h.gone) none))

-- ---- awaited names

or_none : (a : Bool) → a ≡ (a || false)
or_none true = refl
or_none false = refl

pub awaits_first : (test : List ℕ → Bool) (waiting : List (List ℕ)) → Awaits test [] waiting waiting
awaits_first test waiting name = or_none (is_among waiting name)

or_and : (a b c t : Bool) → ((a || (b && t)) || (c && t)) ≡ (a || ((b || c) && t))
or_and true b c t = refl
or_and false true c true = refl
or_and false true true false = refl
or_and false true false false = refl
or_and false false c t = refl

pub awaits_next : (test : List ℕ → Bool) (names : List (List ℕ)) (i : ℕ) (name : List ℕ) (waiting before now : List (List ℕ)) → i < length names → name ≡ get_or names i name
    → now ≡ cond (test name) (with_name before name) before → Awaits test (take i names) waiting before → Awaits test (take (i + 1) names) waiting now
awaits_next test names i name waiting before now within is now_is h other =
    step (test name) refl now_is
    ∙ or_and (is_among waiting other) (is_among (take i names) other) (bytes_eq other name) (test other)
    ∙ ap (λ b. is_among waiting other || (b && test other))
    (ap (λ b. is_among (take i names) other || b) (sym (among_one other name)) ∙ sym (among_joined (take i names) (name ∷ []) other)
    ∙ ap (λ xs. is_among xs other) (ap (λ x. take i names ++ x ∷ []) is ∙ sym (take_more names i name within)))
  where
    held : Bool
    held = is_among waiting other || (is_among (take i names) other && test other)

    passing : (b : Bool) → bytes_eq other name ≡ b → test name ≡ true → (held || b) ≡ (held || (b && test other))
    passing true same passes = ap (λ t. held || t) (sym (ap test (is_same other name same) ∙ passes))
    passing false same passes = refl

    failing : (b : Bool) → bytes_eq other name ≡ b → test name ≡ false → held ≡ (held || (b && test other))
    failing true same fails = or_none held ∙ ap (λ t. held || t) (sym (ap test (is_same other name same) ∙ fails))
    failing false same fails = or_none held

    step : (t : Bool) → test name ≡ t → now ≡ cond t (with_name before name) before
        → is_among now other ≡ ((is_among waiting other || (is_among (take i names) other && test other)) || (bytes_eq other name && test other))
    step true passes was = ap (λ xs. is_among xs other) was ∙ put_those other name before ∙ ap (λ b. b || bytes_eq other name) (h other) ∙ passing (bytes_eq other name) refl passes
    step false fails was = ap (λ xs. is_among xs other) was ∙ h other ∙ failing (bytes_eq other name) refl fails

pub awaits_last : (test : List ℕ → Bool) (names : List (List ℕ)) (n : ℕ) (waiting now : List (List ℕ)) → n ≡ length names → Awaits test (take n names) waiting now → Awaits test names waiting now
awaits_last test names n waiting now all h =
    let P : List (List ℕ) → Type 0 = λ xs. Awaits test xs waiting now in subst P (ap (λ k. take k names) all ∙ whole names) h
  where
    whole : (xs : List (List ℕ)) → take (length xs) xs ≡ xs
    whole [] = refl
    whole (x ∷ xs) = ap (λ ys. x ∷ ys) (whole xs)

and_first : (a b : Bool) → (a && b) ≡ true → a ≡ true
and_first true b is = refl
and_first false b is = is

taken_among : (i : ℕ) (names : List (List ℕ)) (name : List ℕ) → is_among (take i names) name ≡ true → is_among names name ≡ true
taken_among zero names name is = absurd (let e : false ≡ true = is in cc)
taken_among (suc i) [] name is = is
taken_among (suc i) (x ∷ names) name is =
    ⊎_elim (λ here. or_left (bytes_eq name x) (is_among names name) here) (λ there. or_right (bytes_eq name x) (is_among names name) (taken_among i names name there))
    (either (bytes_eq name x) (is_among (take i names) name) is)

-- where memory was refused some are awaited
pub awaits_some : (test : List ℕ → Bool) (names : List (List ℕ)) (i : ℕ) (waiting before now : List (List ℕ)) → now ≡ before → Awaits test (take i names) waiting before → AwaitsSome names waiting now
awaits_some test names i waiting before now same h = record {
  only = λ name is.
      ⊎_elim (λ was. or_left (is_among waiting name) (is_among names name) was)
      (λ came. or_right (is_among waiting name) (is_among names name) (taken_among i names name (and_first (is_among (take i names) name) (test name) came)))
      (either (is_among waiting name) (is_among (take i names) name && test name) (sym (h name) ∙ ap (λ xs. is_among xs name) (sym same) ∙ is));
  kept = λ name is. ap (λ xs. is_among xs name) same ∙ h name ∙ or_left (is_among waiting name) (is_among (take i names) name && test name) is;
}

-- ---- where memory was refused all is as before

no_both : (b : Bool) → b ≡ true → b ≡ false → ⊥
no_both true is so = let e : true ≡ false = so in cc
no_both false is so = let e : false ≡ true = is in cc

pub same_again : (needed fresh needed_now waiting some last : List (List ℕ)) → Grows needed [] needed_now fresh → AwaitsSome fresh waiting some
    → ((name : List ℕ) → is_among waiting name ≡ true → is_among needed name ≡ true) → ((name : List ℕ) → is_among last name ≡ without some fresh name)
    → (name : List ℕ) → is_among last name ≡ is_among waiting name
same_again needed fresh needed_now waiting some last grows awaits within less name = less name ∙ by (is_among fresh name) refl
  where
    none : (a : Bool) → (a && false) ≡ false
    none true = refl
    none false = refl

    is_new : is_among fresh name ≡ true → is_among needed name ≡ false
    is_new there = none_of_new needed grows.more name grows.new (ap (λ xs. is_among xs name) (sym grows.longer) ∙ there)

    unless : (b : Bool) → is_among waiting name ≡ b → is_among needed name ≡ false → false ≡ b
    unless true is gone = absurd (no_both (is_among needed name) (within name is) gone)
    unless false is gone = refl

    both : (a b : Bool) → is_among some name ≡ a → is_among waiting name ≡ b → is_among fresh name ≡ false → a ≡ b
    both true true one other past = refl
    both false false one other past = refl
    both true false one other past =
        ⊎_elim (λ was. absurd (no_both (is_among waiting name) was other)) (λ came. absurd (no_both (is_among fresh name) came past))
        (either (is_among waiting name) (is_among fresh name) (awaits.only name one))
    both false true one other past = absurd (no_both (is_among some name) (awaits.kept name other) one)

    by : (b : Bool) → is_among fresh name ≡ b → (is_among some name && not b) ≡ is_among waiting name
    by true there = none (is_among some name) ∙ unless (is_among waiting name) refl (is_new there)
    by false past = sym (and_true (is_among some name)) ∙ both (is_among some name) (is_among waiting name) refl refl past
