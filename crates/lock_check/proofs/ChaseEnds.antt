-- A chase ends, for each answer is on a bound package of which nothing was said before.
use Rattle.std.proofs.Common.{◌≡◌, ℕ, suc, ◌<◌, ◌≤◌, List, [], ◌∷◌, ◌++◌, length, filter, Bool, true, false, not, ◌&&◌, ◌||◌, if◌then◌else◌, refl, sym, ◌∙◌, ap, subst, arith, Option, Some, None}
use Rattle.std.specs.Prelude.{bytes_eq, find, is_none}
use Rattle.std.specs.List.{list_any}
use Rattle.std.proofs.lemmas.List.Folds.{list_any-append}
use Rattle.opam_names.proofs.ByteOrders.{same_bytes}
use Rattle.opam_names.specs.ByteOrders.{has_key}
use Rattle.opam_names.specs.declared.packages.Pkg.{Pkg}
use Rattle.opam_package.specs.declared.package.Member.{Member}
use Rattle.lock_check.specs.ChaseLaws.{ChasesEnd, IsGiven, is_unread, unread_count}
use Rattle.lock_check.specs.Chased.{Chased, IsAnswer, has_pkg, is_among, is_awaited, known_in, next_of, pkg_name, stored_in, unknown_in}
use Rattle.lock_check.specs.Targets.{has_member, member_name}
use Rattle.lock_check.specs.declared.answer.Answer.{Answer}
use Rattle.lock_check.specs.declared.answer.Answer.TheVariants.{Known, Unknown}
use Rattle.lock_check.proofs.Rising.{found_in}

-- ---- two tests of a list, of which the second passes less

no_more : {X : Type 0} (a b : Bool) (x : X) (xs ys : List X) → (b ≡ true → a ≡ true) → length ys ≤ length xs
    → length (if b then x ∷ ys else ys) ≤ length (if a then x ∷ xs else xs)
no_more true true x xs ys up le = omega arith
no_more true false x xs ys up le = omega arith
no_more false false x xs ys up le = le
no_more false true x xs ys up le = let e = up refl in absurd cc

still_less : {X : Type 0} (a b : Bool) (x : X) (xs ys : List X) → (b ≡ true → a ≡ true) → length ys < length xs
    → length (if b then x ∷ ys else ys) < length (if a then x ∷ xs else xs)
still_less true true x xs ys up le = omega arith
still_less true false x xs ys up le = omega arith
still_less false false x xs ys up le = le
still_less false true x xs ys up le = let e = up refl in absurd cc

one_less : {X : Type 0} (a b : Bool) (x : X) (xs ys : List X) → a ≡ true → b ≡ false → length ys ≤ length xs
    → length (if b then x ∷ ys else ys) < length (if a then x ∷ xs else xs)
one_less true false x xs ys is not le = omega arith
one_less true true x xs ys is not le = absurd cc
one_less false b x xs ys is not le = absurd cc

module _ {X : Type 0} (p q : X → Bool) (up : (x : X) → q x ≡ true → p x ≡ true) where
  fewer : (xs : List X) → length (filter q xs) ≤ length (filter p xs)
  fewer [] = omega arith
  fewer (x ∷ xs) = no_more (p x) (q x) x (filter p xs) (filter q xs) (up x) (fewer xs)

  fewer_found : (f : X → Bool) (xs : List X) (x : X) → find f xs ≡ Some x → p x ≡ true → q x ≡ false → length (filter q xs) < length (filter p xs)
  fewer_found f [] x found is not = absurd cc
  fewer_found f (y ∷ xs) x found is not = by (f y) found (λ later. fewer_found f xs x later is not)
    where
      by : (b : Bool) → (if b then Some y else find f xs) ≡ Some x → (find f xs ≡ Some x → length (filter q xs) < length (filter p xs))
          → length (filter q (y ∷ xs)) < length (filter p (y ∷ xs))
      by true same rest =
          let e : x ≡ y = cc in
          one_less (p y) (q y) y (filter p xs) (filter q xs) (subst (λ z. p z ≡ true) e is) (subst (λ z. q z ≡ false) e not) (fewer xs)
      by false same rest = still_less (p y) (q y) y (filter p xs) (filter q xs) (up y) (rest same)

all_passed : {X : Type 0} (p : X → Bool) (xs : List X) → length (filter p xs) ≤ length xs
all_passed p [] = omega arith
all_passed p (x ∷ xs) = by (p x) (all_passed p xs)
  where
    by : (b : Bool) → length (filter p xs) ≤ length xs → length (if b then x ∷ filter p xs else filter p xs) ≤ suc (length xs)
    by true le = omega arith
    by false le = omega arith

-- ---- what is unread

-- of neither list before, where it is of neither after
earlier : (a b c d : Bool) → (not (a || b) && not (c || d)) ≡ true → (not a && not c) ≡ true
earlier false false false false is = refl
earlier false false false true is = absurd cc
earlier false false true d is = absurd cc
earlier false true c d is = absurd cc
earlier true b c d is = absurd cc

unread_before : (before after : Chased) (answer : Answer) → IsGiven before answer after → (pkg : Pkg) → is_unread after pkg ≡ true → is_unread before pkg ≡ true
unread_before before after answer given pkg is =
    let k : has_member after.known pkg.name ≡ (has_member before.known pkg.name || has_member (known_in answer) pkg.name) =
    ap (λ (ms : List Member). has_member ms pkg.name) given.known ∙ list_any-append (has_key member_name pkg.name) before.known (known_in answer) in
    let u : has_pkg after.unknown pkg.name ≡ (has_pkg before.unknown pkg.name || has_pkg (unknown_in (next_of before) answer) pkg.name) =
    ap (λ (ps : List Pkg). has_pkg ps pkg.name) given.unknown ∙ list_any-append (has_key pkg_name pkg.name) before.unknown (unknown_in (next_of before) answer) in
    earlier (has_member before.known pkg.name) (has_member (known_in answer) pkg.name) (has_pkg before.unknown pkg.name) (has_pkg (unknown_in (next_of before) answer) pkg.name)
    (ap (λ b. b && not (has_pkg before.unknown pkg.name || has_pkg (unknown_in (next_of before) answer) pkg.name)) (ap not (sym k)) ∙ ap (λ b. not (has_member after.known pkg.name) && not b) (sym u) ∙ is)

-- who is awaited is unread
awaited_unread : (a b c d : Bool) → (a && b && c && d) ≡ true → (c && d) ≡ true
awaited_unread true true true true is = refl
awaited_unread true true true false is = absurd cc
awaited_unread true true false d is = absurd cc
awaited_unread true false c d is = absurd cc
awaited_unread false b c d is = absurd cc

-- and is not once it was answered
answered : (next : Option Pkg) (pkg : Pkg) (answer : Answer) → next ≡ Some pkg → IsAnswer next answer
    → (has_member (known_in answer) pkg.name || has_pkg (unknown_in next answer) pkg.name) ≡ true
answered None pkg answer is on = absurd cc
answered (Some other) pkg Unknown is on =
    let e : pkg ≡ other = cc in subst (λ (o : Pkg). has_pkg (o ∷ []) pkg.name ≡ true) e (ap (λ b. b || false) (same_bytes pkg.name))
answered (Some other) pkg (Known member) is on =
    let e : pkg ≡ member.package.pkg = cc in
    subst (λ (o : Pkg). ((bytes_eq o.name pkg.name || false) || false) ≡ true) e (ap (λ b. (b || false) || false) (same_bytes pkg.name))

not_unread : (a b c d : Bool) → (b || d) ≡ true → (not (a || b) && not (c || d)) ≡ false
not_unread true b c d is = refl
not_unread false true c d is = refl
not_unread false false true d is = refl
not_unread false false false true is = refl
not_unread false false false false is = absurd cc

unread_after : (before after : Chased) (answer : Answer) (pkg : Pkg) → IsGiven before answer after → next_of before ≡ Some pkg → IsAnswer (next_of before) answer
    → is_unread after pkg ≡ false
unread_after before after answer pkg given next on =
    let k : has_member after.known pkg.name ≡ (has_member before.known pkg.name || has_member (known_in answer) pkg.name) =
    ap (λ (ms : List Member). has_member ms pkg.name) given.known ∙ list_any-append (has_key member_name pkg.name) before.known (known_in answer) in
    let u : has_pkg after.unknown pkg.name ≡ (has_pkg before.unknown pkg.name || has_pkg (unknown_in (next_of before) answer) pkg.name) =
    ap (λ (ps : List Pkg). has_pkg ps pkg.name) given.unknown ∙ list_any-append (has_key pkg_name pkg.name) before.unknown (unknown_in (next_of before) answer) in
    ap (λ b. not b && not (has_pkg after.unknown pkg.name)) k ∙ ap (λ b. not (has_member before.known pkg.name || has_member (known_in answer) pkg.name) && not b) u
    ∙ not_unread (has_member before.known pkg.name) (has_member (known_in answer) pkg.name) (has_pkg before.unknown pkg.name) (has_pkg (unknown_in (next_of before) answer) pkg.name)
    (answered (next_of before) pkg answer next on)

-- ---- the law

fewer_unread : (before after : Chased) (answer : Answer) → IsAnswer (next_of before) answer → IsGiven before answer after → unread_count after < unread_count before
fewer_unread before after answer on given = by (next_of before) refl on
  where
    by : (next : Option Pkg) → next_of before ≡ next → IsAnswer next answer → unread_count after < unread_count before
    by None is no_answer = absurd no_answer
    by (Some pkg) is unused =
        let f = found_in (is_awaited before) before.bound pkg is in
        let unread : is_unread before pkg ≡ true =
        awaited_unread (is_among before.needed pkg.name) (is_none (stored_in before.installed pkg)) (not (has_member before.known pkg.name)) (not (has_pkg before.unknown pkg.name)) f.1 in
        let less = fewer_found (is_unread before) (is_unread after) (unread_before before after answer given) (is_awaited before) before.bound pkg is unread (unread_after before after answer pkg given is on) in
        subst (λ (bound : List Pkg). length (filter (is_unread after) bound) < unread_count before) (sym given.bound) less

pub chases_end : ChasesEnd
chases_end = record { fewer = fewer_unread; most = λ chased. all_passed (is_unread chased) chased.bound }
