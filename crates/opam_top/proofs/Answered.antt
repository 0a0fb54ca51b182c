-- What is gathered from the repository's answers, one after another.
use Rattle.std.proofs.Common.{◌≡◌, ℕ, ◌+◌, ◌<◌, ◌≤◌, ◌∙◌, List, [], ◌∷◌, ◌++◌, Bool, true, length, length-append, take, get_or, map, Option, Some, None, Result, Ok, Err, IfOk, sym, ap, arith}
use Rattle.std.specs.List.{cons_option, filter_map, list_all}
use Rattle.std.proofs.lemmas.List.{map_more, take_more}
use Rattle.std.proofs.lemmas.List.Elements.{filter_map-append}
use Rattle.std.proofs.lemmas.List.Folds.{list_all-append}
use Rattle.opam_top.specs.Fronts.{is_short, member_of}
use Rattle.opam_top.specs.declared.member.Answer.{Answer}
use Rattle.opam_top.specs.declared.member.Member.{Member}
use Rattle.opam_top.specs.declared.stops.Stop.{Stop}
use Rattle.opam_top.proofs.Tests.{both}

pub gathered : {X Y : Type 0} (h : X → Option Y) (got more : List Y) (xs : List X) (x : X) → got ≡ filter_map h xs → more ≡ got ++ filter_map h (x ∷ []) → more ≡ filter_map h (xs ++ x ∷ [])
gathered {X} {Y} h got more xs x before grows = grows ∙ ap (λ (ys : List Y). ys ++ filter_map h (x ∷ [])) before ∙ sym (filter_map-append h xs (x ∷ []))

-- the same where the next one is the i-th
pub gathered_at : {X Y : Type 0} (h : X → Option Y) (got more : List Y) (xs : List X) (i : ℕ) (x : X) → i < length xs → x ≡ get_or xs i x → got ≡ filter_map h (take i xs) → more ≡ got ++ filter_map h (x ∷ []) → more ≡ filter_map h (take (i + 1) xs)
gathered_at {X} {Y} h got more xs i x below is before grows =
    gathered h got more (take i xs) x before grows ∙ ap (filter_map h) (ap (λ (y : X). take i xs ++ y ∷ []) is ∙ sym (take_more xs i x below))

-- one answer more, of the i-th
pub answered_at : {X Y : Type 0} (f : X → Y) (got more : List Y) (xs : List X) (i : ℕ) (x : X) (y : Y) → i < length xs → x ≡ get_or xs i x → got ≡ map f (take i xs) → y ≡ f x → more ≡ got ++ y ∷ [] → more ≡ map f (take (i + 1) xs)
answered_at {X} {Y} f got more xs i x y below is before answer grows =
    grows ∙ ap (λ (ys : List Y). ys ++ y ∷ []) before ∙ ap (λ (z : Y). map f (take i xs) ++ z ∷ []) (answer ∙ ap f is) ∙ sym (map_more f xs i x below)

at_most_one_more : {Y : Type 0} (o : Option Y) (ys : List Y) (n : ℕ) → length ys ≤ n → length (cons_option o ys) ≤ n + 1
at_most_one_more None ys n few = omega (arith, few)
at_most_one_more (Some y) ys n few = omega (arith, few)

-- no more are gathered than there are
pub no_more : {X Y : Type 0} (h : X → Option Y) (xs : List X) → length (filter_map h xs) ≤ length xs
no_more h [] = omega arith
no_more h (x ∷ xs) = omega (arith, at_most_one_more (h x) (filter_map h xs) (length xs) (no_more h xs))

pub few_members : (answers : List Answer) (count : ℕ) (result : Result (List Member) Stop) → length answers ≡ count → IfOk result (λ members. members ≡ filter_map member_of answers) → IfOk result (λ members. length members ≤ count)
few_members answers count (Ok members) as_many all = omega (arith, no_more member_of answers, as_many, ap length all)
few_members answers count (Err stop) as_many all = tt

pub counted_more : (got more : List Answer) (answer : Answer) (i : ℕ) → more ≡ got ++ answer ∷ [] → length got ≡ i → length more ≡ i + 1
counted_more got more answer i grows counted = omega (arith, ap length grows, length-append got (answer ∷ []), counted)

-- the packages of these answers are within their limits
abbrev all_short : List Answer → Bool
all_short answers = list_all is_short (filter_map member_of answers)

pub short_more : (got more : List Answer) (answer : Answer) → more ≡ got ++ answer ∷ [] → all_short got ≡ true → all_short (answer ∷ []) ≡ true → all_short more ≡ true
short_more got more answer grows before short =
    ap all_short grows ∙ ap (list_all is_short) (filter_map-append member_of got (answer ∷ []))
    ∙ list_all-append is_short (filter_map member_of got) (filter_map member_of (answer ∷ [])) ∙ both (all_short got) (all_short (answer ∷ [])) before short
