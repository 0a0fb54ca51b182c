-- Each answer leaves fewer packages that are not read.
use Rattle.std.proofs.Common.{◌≡◌, ◌∙◌, ℕ, ◌<◌, ◌≤◌, List, [], ◌∷◌, ◌++◌, length, filter, Bool, true, false, not, Option, Some, None, refl, sym, ap, subst, arith}
use Rattle.std.specs.Prelude.{◌&&◌, ◌||◌, bytes_eq, find, if◌then◌else◌, is_none}
use Rattle.std.specs.List.{list_any}
use Rattle.std.proofs.lemmas.List.Folds.{list_any-append}
use Rattle.std.proofs.lemmas.Slice.Eq.{bytes_eq-Decides}
use Rattle.opam_names.specs.ByteOrders.{has_key}
use Rattle.opam_names.specs.declared.packages.Pkg.{Pkg}
use Rattle.opam_package.specs.declared.package.Member.{Member}
use Rattle.lock_check.specs.Chased.{Chased, IsAnswer, has_pkg, is_among, is_awaited, known_in, next_of, pkg_name, stored_in, unknown_in}
use Rattle.lock_check.specs.Targets.{has_member, member_name}
use Rattle.lock_check.specs.declared.answer.Answer.{Answer}
use Rattle.lock_check.specs.declared.answer.Answer.TheVariants.{Known, Unknown}
use Rattle.change_front.specs.Reading.{IsAfter}

-- a bound package was not read
abbrev is_unread : Chased → Pkg → Bool
is_unread c pkg = not (has_member c.known pkg.name) && not (has_pkg c.unknown pkg.name)

-- how many were not
abbrev pub unread : Chased → ℕ
unread c = length (filter (is_unread c) c.bound)

both : (a b : Bool) → (a && b) ≡ true → (a ≡ true) × (b ≡ true)
both true true is = (refl, refl)
both true false is = (refl, is)
both false b is = absurd (let e : false ≡ true = is in cc)

module _ (wide narrow : Pkg → Bool) (less : (p : Pkg) → narrow p ≡ true → wide p ≡ true) where
  no_more : (ps : List Pkg) → length (filter narrow ps) ≤ length (filter wide ps)
  no_more [] = omega arith
  no_more (p ∷ ps) = by (narrow p) (wide p) (less p) (no_more ps)
    where
      by : (n w : Bool) → (n ≡ true → w ≡ true) → length (filter narrow ps) ≤ length (filter wide ps)
          → length (if n then p ∷ filter narrow ps else filter narrow ps) ≤ length (if w then p ∷ filter wide ps else filter wide ps)
      by true true follows rest = omega (arith, rest)
      by true false follows rest = absurd (let e : false ≡ true = follows refl in cc)
      by false true follows rest = omega (arith, rest)
      by false false follows rest = rest

  fewer : (test : Pkg → Bool) (pkg : Pkg) → wide pkg ≡ true → narrow pkg ≡ false → (ps : List Pkg) → find test ps ≡ Some pkg → length (filter narrow ps) < length (filter wide ps)
  fewer test pkg here gone [] is = absurd (let e : None ≡ Some pkg = is in cc)
  fewer test pkg here gone (p ∷ ps) is = by (test p) is (fewer test pkg here gone ps)
    where
      rest : (n w : Bool) → (n ≡ true → w ≡ true) → length (filter narrow ps) < length (filter wide ps)
          → length (if n then p ∷ filter narrow ps else filter narrow ps) < length (if w then p ∷ filter wide ps else filter wide ps)
      rest true true follows more = omega (arith, more)
      rest true false follows more = absurd (let e : false ≡ true = follows refl in cc)
      rest false true follows more = omega (arith, more)
      rest false false follows more = more

      first : (n w : Bool) → n ≡ false → w ≡ true → length (filter narrow ps) ≤ length (filter wide ps)
          → length (if n then p ∷ filter narrow ps else filter narrow ps) < length (if w then p ∷ filter wide ps else filter wide ps)
      first true w off on more = absurd (let e : true ≡ false = off in cc)
      first false true off on more = omega (arith, more)
      first false false off on more = absurd (let e : false ≡ true = on in cc)

      by : (b : Bool) → (if b then Some p else find test ps) ≡ Some pkg → (find test ps ≡ Some pkg → length (filter narrow ps) < length (filter wide ps))
          → length (if narrow p then p ∷ filter narrow ps else filter narrow ps) < length (if wide p then p ∷ filter wide ps else filter wide ps)
      by true same later =
          let it : pkg ≡ p = (let e : Some p ≡ Some pkg = same in cc) in
          first (narrow p) (wide p) (ap narrow (sym it) ∙ gone) (ap wide (sym it) ∙ here) (no_more ps)
      by false there later = rest (narrow p) (wide p) (less p) (later there)

found_passes : (test : Pkg → Bool) (pkg : Pkg) (ps : List Pkg) → find test ps ≡ Some pkg → test pkg ≡ true
found_passes test pkg [] is = absurd (let e : None ≡ Some pkg = is in cc)
found_passes test pkg (p ∷ ps) is = by (test p) refl is (found_passes test pkg ps)
  where
    by : (b : Bool) → test p ≡ b → (if b then Some p else find test ps) ≡ Some pkg → (find test ps ≡ Some pkg → test pkg ≡ true) → test pkg ≡ true
    by true passes same later = let it : p ≡ pkg = (let e : Some p ≡ Some pkg = same in cc) in ap test (sym it) ∙ passes
    by false passes there later = later there

awaited : (a b c d : Bool) → (a && b && c && d) ≡ true → (c && d) ≡ true
awaited true true c d is = is
awaited true false c d is = absurd (let e : false ≡ true = is in cc)
awaited false b c d is = absurd (let e : false ≡ true = is in cc)

none_either : (a b c d : Bool) → (not (a || b) && not (c || d)) ≡ true → (not a && not c) ≡ true
none_either true b c d is = absurd (let e : false ≡ true = is in cc)
none_either false true c d is = absurd (let e : false ≡ true = is in cc)
none_either false false true d is = absurd (let e : false ≡ true = is in cc)
none_either false false false d is = refl

abbrev noted : List Member → List Pkg → List Member → List Pkg → Pkg → Bool
noted known unknown members pkgs p = not (has_member (known ++ members) p.name) && not (has_pkg (unknown ++ pkgs) p.name)

noted_is : (known : List Member) (unknown : List Pkg) (members : List Member) (pkgs : List Pkg) (p : Pkg)
    → noted known unknown members pkgs p ≡ (not (has_member known p.name || has_member members p.name) && not (has_pkg unknown p.name || has_pkg pkgs p.name))
noted_is known unknown members pkgs p = λ i. not (list_any-append (has_key member_name p.name) known members i) && not (list_any-append (has_key pkg_name p.name) unknown pkgs i)

off_right : (a b c d : Bool) → (b || d) ≡ true → (not (a || b) && not (c || d)) ≡ false
off_right true b c d is = refl
off_right false true c d is = refl
off_right false false true d is = refl
off_right false false false true is = refl
off_right false false false false is = absurd (let e : false ≡ true = is in cc)

-- the package that was asked for is among what the answer gives
given_in : (pkg : Pkg) (answer : Answer) → IsAnswer (Some pkg) answer → (has_member (known_in answer) pkg.name || has_pkg (unknown_in (Some pkg) answer) pkg.name) ≡ true
given_in pkg Unknown is = ap (λ b. b || false) ((bytes_eq-Decides pkg.name pkg.name).1 refl)
given_in pkg (Known member) is = ap (λ b. (b || false) || false) ((bytes_eq-Decides (member_name member) pkg.name).1 (ap (λ (p : Pkg). p.name) is))

pub shrinks : (before after : Chased) (pkg : Pkg) (answer : Answer) → next_of before ≡ Some pkg → IsAnswer (Some pkg) answer → IsAfter before answer after → unread after < unread before
shrinks before after pkg answer next on is =
    let same : unread after ≡ length (filter (noted before.known before.unknown (known_in answer) (unknown_in (Some pkg) answer)) before.bound) =
    λ i. length (filter (λ (p : Pkg). not (has_member (is.now_known i) p.name) && not (has_pkg ((is.now_unknown ∙ ap (λ o. before.unknown ++ unknown_in o answer) next) i) p.name)) (is.same_bound i)) in
    let P : ℕ → Type 0 = λ n. n < unread before in
    subst P (sym same)
    (fewer (is_unread before) (noted before.known before.unknown (known_in answer) (unknown_in (Some pkg) answer))
    (λ p passes. none_either (has_member before.known p.name) (has_member (known_in answer) p.name) (has_pkg before.unknown p.name) (has_pkg (unknown_in (Some pkg) answer) p.name)
    (sym (noted_is before.known before.unknown (known_in answer) (unknown_in (Some pkg) answer) p) ∙ passes))
    (is_awaited before) pkg
    (awaited (is_among before.needed pkg.name) (is_none (stored_in before.installed pkg)) (not (has_member before.known pkg.name)) (not (has_pkg before.unknown pkg.name))
    (found_passes (is_awaited before) pkg before.bound next))
    (noted_is before.known before.unknown (known_in answer) (unknown_in (Some pkg) answer) pkg
    ∙ off_right (has_member before.known pkg.name) (has_member (known_in answer) pkg.name) (has_pkg before.unknown pkg.name) (has_pkg (unknown_in (Some pkg) answer) pkg.name) (given_in pkg answer on))
    before.bound next)
