-- What is read at the front of bytes is spelled there, and what is spelled there is read, whatever follows it.
use Rattle.std.proofs.Common.{◌≡◌, ℕ, zero, suc, ◌+◌, ◌^◌, ◌<◌, ◌≤◌, Bool, true, false, cond, ltb, List, [], ◌∷◌, ◌++◌, length, get_or, take, drop, Option, Some, None, refl, sym, ap, subst, ◌∙◌, append_assoc, arith, inl, inr}
use Rattle.std.specs.Int.{Width, w16, w32, byte_len, from_be_bytes, to_be_bytes}
use Rattle.std.specs.List.{flat_map, AllByRecursion}
use Rattle.std.proofs.lemmas.Bool.{cases_lt, ltb-false, le-ltb}
use Rattle.std.proofs.lemmas.List.{take_at, drop_at, take-append-drop, length-append, length-take, get_or-drop, get_or-take, get_or_past}
use Rattle.std.proofs.lemmas.List.Concat.{flat_map-cons}
use Rattle.std.proofs.lemmas.Nat.{be_bytes_2, be_bytes_4, from_be_bytes-to_be_bytes_2, from_be_bytes-to_be_bytes_4}
use Rattle.journal_text.specs.Words.{counted, flag, long_text, optional, short_text}
use Rattle.journal_text.specs.Reading.{◌>>=◌, Read, both_at, counted_at, flag_at, items_at, long_at, number_at, optional_at, short_at, such_at, text_at}

-- ---- bytes

abbrev pub IsBytes : List ℕ → Type 0
IsBytes bytes = (i : ℕ) → get_or bytes i 0 < 256

pub IsBytes-drop : (n : ℕ) (bytes : List ℕ) → IsBytes bytes → IsBytes (drop n bytes)
IsBytes-drop n bytes h i = rw get_or-drop (h (n + i))

IsBytes-take : (n : ℕ) (bytes : List ℕ) → IsBytes bytes → IsBytes (take n bytes)
IsBytes-take n bytes h i =
    elim (cases_lt i n) [
      | inl lt ↦ rw (get_or-take n bytes i 0 lt) (h i)
      | inr le ↦ rw (get_or_past (take n bytes) i 0 (omega (arith, length-take n bytes))) (omega arith)
    ]

pub IsBytes-rest : (b : ℕ) (bytes : List ℕ) → IsBytes (b ∷ bytes) → IsBytes bytes
IsBytes-rest b bytes h i = h (suc i)

-- ---- steps

-- the value of a step that found one
pub bind_some : {A B : Type 0} (r : Option A) (f : A → Option B) (y : B) → (r >>= f) ≡ Some y → (x : A) × (r ≡ Some x) × (f x ≡ Some y)
bind_some (Some x) f y e = (x, refl, e)
bind_some None f y e = absurd cc

-- a test that held, or did not
pub guard_passed : {A : Type 0} (b : Bool) (x y : A) → cond b None (Some x) ≡ Some y → (b ≡ false) × (x ≡ y)
guard_passed true x y e = absurd cc
guard_passed false x y e = (refl, cc)

pub guard_held : {A : Type 0} (b : Bool) (x y : A) → cond b (Some x) None ≡ Some y → (b ≡ true) × (x ≡ y)
guard_held true x y e = (refl, cc)
guard_held false x y e = absurd cc

abbrev found : {A : Type 0} → A → Option A
found x = Some x

pub some_is : {A : Type 0} (x y : A) → found x ≡ found y → x ≡ y
some_is x y e = cc

-- what a reader took from the front
pub record Takes (bytes text rest : List ℕ) : Type 0 where
  pub parts : bytes ≡ text ++ rest
  pub rest_fits : IsBytes rest

pub Takes-then : (a x b y c : List ℕ) → Takes a x b → Takes b y c → Takes a (x ++ y) c
Takes-then a x b y c p q = record { parts = p.parts ∙ ap (λ (t : List ℕ). x ++ t) q.parts ∙ sym (append_assoc x y c); rest_fits = q.rest_fits }

-- a reader finds values that fit where they are spelled, and nowhere else
pub record Reads {X : Type 0} (spell : X → List ℕ) (Fits : X → Type 0) (at : List ℕ → Read X) : Type 0 where
  pub takes : (bytes : List ℕ) (x : X) (rest : List ℕ) → IsBytes bytes → at bytes ≡ Some (x, rest) → Takes bytes (spell x) rest × Fits x
  pub again : (x : X) (rest : List ℕ) → Fits x → at (spell x ++ rest) ≡ Some (x, rest)

-- ---- numbers

pub record IsWide (w : Width) (limit : ℕ) : Type 0 where
  pub len : (n : ℕ) → length (to_be_bytes w n) ≡ byte_len w
  pub back : (bytes : List ℕ) → length bytes ≡ byte_len w → IsBytes bytes → to_be_bytes w (from_be_bytes w bytes) ≡ bytes
  pub again : (n : ℕ) → n < limit → from_be_bytes w (to_be_bytes w n) ≡ n
  pub below : (bytes : List ℕ) → IsBytes bytes → from_be_bytes w bytes < limit

pub wide16 : IsWide w16 (2 ^ 16)
wide16 = record {
  len = λ n. refl;
  back = λ bytes len fits. be_bytes_2 bytes _ len fits refl;
  again = λ n lt. from_be_bytes-to_be_bytes_2 n lt;
  below = λ bytes fits. omega (arith, fits 0, fits 1);
}

pub wide32 : IsWide w32 (2 ^ 32)
wide32 = record {
  len = λ n. refl;
  back = λ bytes len fits. be_bytes_4 bytes _ len fits refl;
  again = λ n lt. from_be_bytes-to_be_bytes_4 n lt;
  below = λ bytes fits. omega (arith, fits 0, fits 1, fits 2, fits 3);
}

number_takes : (w : Width) (limit : ℕ) (wide : IsWide w limit) (bytes : List ℕ) (n : ℕ) (rest : List ℕ) → IsBytes bytes → number_at w bytes ≡ Some (n, rest) → Takes bytes (to_be_bytes w n) rest × (n < limit)
number_takes w limit wide bytes n rest fits e =
    let g = guard_passed (ltb (length bytes) (byte_len w)) (from_be_bytes w (take (byte_len w) bytes), drop (byte_len w) bytes) (n, rest) e in
    let long : byte_len w ≤ length bytes = ltb-false _ _ g.0 in
    let n-is : from_be_bytes w (take (byte_len w) bytes) ≡ n = ap (λ (p : ℕ × List ℕ). p.0) g.1 in
    let rest-is : drop (byte_len w) bytes ≡ rest = ap (λ (p : ℕ × List ℕ). p.1) g.1 in
    let front : to_be_bytes w n ≡ take (byte_len w) bytes = rw (← n-is) (wide.back (take (byte_len w) bytes) (omega (arith, length-take (byte_len w) bytes)) (IsBytes-take (byte_len w) bytes fits)) in
    (record { parts = rw (front, ← rest-is) (sym (take-append-drop (byte_len w) bytes)); rest_fits = rw (← rest-is) (IsBytes-drop (byte_len w) bytes fits) }, rw (← n-is) (wide.below (take (byte_len w) bytes) (IsBytes-take (byte_len w) bytes fits)))

number_again : (w : Width) (limit : ℕ) (wide : IsWide w limit) (n : ℕ) (rest : List ℕ) → n < limit → number_at w (to_be_bytes w n ++ rest) ≡ Some (n, rest)
number_again w limit wide n rest lt =
    let len = wide.len n in
    let long : ltb (length (to_be_bytes w n ++ rest)) (byte_len w) ≡ false = le-ltb _ _ (omega (arith, length-append (to_be_bytes w n) rest)) in
    rw (long, take_at (to_be_bytes w n) rest (byte_len w) len, drop_at (to_be_bytes w n) rest (byte_len w) len, wide.again n lt) refl

pub reads_number : (w : Width) (limit : ℕ) → IsWide w limit → Reads (to_be_bytes w) (λ n. n < limit) (number_at w)
reads_number w limit wide = record { takes = number_takes w limit wide; again = number_again w limit wide }

-- ---- texts

abbrev text : Width → List ℕ → List ℕ
text w bytes = to_be_bytes w (length bytes) ++ bytes

text_takes : (w : Width) (limit : ℕ) (wide : IsWide w limit) (bytes x rest : List ℕ) → IsBytes bytes → text_at w bytes ≡ Some (x, rest) → Takes bytes (text w x) rest × (length x < limit)
unfolding text_at
text_takes w limit wide bytes x rest fits e =
    let b = bind_some (number_at w bytes) (λ n. cond (ltb (length n.1) n.0) None (Some (take n.0 n.1, drop n.0 n.1))) (x, rest) e in
    let n = b.0 in
    let t = number_takes w limit wide bytes n.0 n.1 fits b.1 in
    let g = guard_passed (ltb (length n.1) n.0) (take n.0 n.1, drop n.0 n.1) (x, rest) b.2 in
    let long : n.0 ≤ length n.1 = ltb-false _ _ g.0 in
    let len : length (take n.0 n.1) ≡ n.0 = omega (arith, length-take n.0 n.1) in
    let second : Takes n.1 (take n.0 n.1) (drop n.0 n.1) = record { parts = sym (take-append-drop n.0 n.1); rest_fits = IsBytes-drop n.0 n.1 t.0.rest_fits } in
    let both = Takes-then bytes (to_be_bytes w n.0) n.1 (take n.0 n.1) (drop n.0 n.1) t.0 second in
    let whole : Takes bytes (text w (take n.0 n.1)) (drop n.0 n.1) = subst (λ (k : ℕ). Takes bytes (to_be_bytes w k ++ take n.0 n.1) (drop n.0 n.1)) (sym len) both in
    subst (λ (p : List ℕ × List ℕ). Takes bytes (text w p.0) p.1 × (length p.0 < limit)) g.1 (whole, omega (arith, t.1))

text_again : (w : Width) (limit : ℕ) (wide : IsWide w limit) (x rest : List ℕ) → length x < limit → text_at w (text w x ++ rest) ≡ Some (x, rest)
unfolding text_at
text_again w limit wide x rest lt =
    let long : ltb (length (x ++ rest)) (length x) ≡ false = le-ltb _ _ (omega (arith, length-append x rest)) in
    let regrouped : text w x ++ rest ≡ to_be_bytes w (length x) ++ (x ++ rest) = append_assoc (to_be_bytes w (length x)) x rest in
    ap (text_at w) regrouped ∙ rw (number_again w limit wide (length x) (x ++ rest) lt, long, take_at x rest (length x) refl, drop_at x rest (length x) refl) refl

pub reads_short : Reads short_text (λ x. length x < 2 ^ 16) short_at
reads_short = record { takes = text_takes w16 (2 ^ 16) wide16; again = text_again w16 (2 ^ 16) wide16 }

pub reads_long : Reads long_text (λ x. length x < 2 ^ 32) long_at
reads_long = record { takes = text_takes w32 (2 ^ 32) wide32; again = text_again w32 (2 ^ 32) wide32 }

-- ---- texts that pass a test

-- the test says that a text is of the kind, and such texts are short
pub record Tests (test : List ℕ → Bool) (Is : List ℕ → Type 0) : Type 0 where
  pub says : (x : List ℕ) → test x ≡ true → Is x
  pub passes : (x : List ℕ) → Is x → test x ≡ true
  pub short : (x : List ℕ) → Is x → length x < 2 ^ 16

such_takes : (test : List ℕ → Bool) (Is : List ℕ → Type 0) → Tests test Is → (bytes x rest : List ℕ) → IsBytes bytes → such_at test bytes ≡ Some (x, rest) → Takes bytes (short_text x) rest × Is x
unfolding such_at
such_takes test Is tests bytes x rest fits e =
    let b = bind_some (short_at bytes) (λ y. cond (test y.0) (Some y) None) (x, rest) e in
    let g = guard_held (test b.0.0) b.0 (x, rest) b.2 in
    let t = reads_short.takes bytes b.0.0 b.0.1 fits b.1 in
    subst (λ (p : List ℕ × List ℕ). Takes bytes (short_text p.0) p.1 × Is p.0) g.1 (t.0, tests.says b.0.0 g.0)

such_again : (test : List ℕ → Bool) (Is : List ℕ → Type 0) → Tests test Is → (x rest : List ℕ) → Is x → such_at test (short_text x ++ rest) ≡ Some (x, rest)
unfolding such_at
such_again test Is tests x rest is = rw (reads_short.again x rest (tests.short x is), tests.passes x is) refl

pub reads_such : (test : List ℕ → Bool) (Is : List ℕ → Type 0) → Tests test Is → Reads short_text Is (such_at test)
reads_such test Is tests = record { takes = such_takes test Is tests; again = such_again test Is tests }

-- ---- flags, and what stands behind them

flag_takes : (bytes : List ℕ) (truth : Bool) (rest : List ℕ) → IsBytes bytes → flag_at bytes ≡ Some (truth, rest) → Takes bytes (flag truth) rest × Unit {0}
flag_takes [] truth rest fits e = absurd cc
flag_takes (zero ∷ bytes) truth rest fits e =
    subst (λ (x : Bool × List ℕ). Takes (0 ∷ bytes) (flag x.0) x.1 × Unit {0}) (some_is (false, bytes) (truth, rest) e) (record { parts = refl; rest_fits = IsBytes-rest 0 bytes fits }, tt)
flag_takes (suc zero ∷ bytes) truth rest fits e =
    subst (λ (x : Bool × List ℕ). Takes (1 ∷ bytes) (flag x.0) x.1 × Unit {0}) (some_is (true, bytes) (truth, rest) e) (record { parts = refl; rest_fits = IsBytes-rest 1 bytes fits }, tt)
flag_takes (suc (suc b) ∷ bytes) truth rest fits e = absurd cc

flag_again : (truth : Bool) (rest : List ℕ) → Unit {0} → flag_at (flag truth ++ rest) ≡ Some (truth, rest)
flag_again false rest h = refl
flag_again true rest h = refl

pub reads_flag : Reads flag (λ _. Unit {0}) flag_at
reads_flag = record { takes = flag_takes; again = flag_again }

-- what fits, where there is something
abbrev pub OptionFits : {X : Type 0} → (X → Type 0) → Option X → Type 0
OptionFits Fits None = Unit {0}
OptionFits Fits (Some x) = Fits x

optional_takes : {X : Type 0} (spell : X → List ℕ) (Fits : X → Type 0) (at : List ℕ → Read X) → Reads spell Fits at
    → (bytes : List ℕ) (o : Option X) (rest : List ℕ) → IsBytes bytes → optional_at at bytes ≡ Some (o, rest) → Takes bytes (optional spell o) rest × OptionFits Fits o
unfolding optional_at
optional_takes spell Fits at reads [] o rest fits e = absurd cc
optional_takes {X} spell Fits at reads (zero ∷ bytes) o rest fits e =
    subst (λ (x : Option X × List ℕ). Takes (0 ∷ bytes) (optional spell x.0) x.1 × OptionFits Fits x.0) (some_is (None, bytes) (o, rest) e) (record { parts = refl; rest_fits = IsBytes-rest 0 bytes fits }, tt)
optional_takes {X} spell Fits at reads (suc zero ∷ bytes) o rest fits e =
    let b = bind_some (at bytes) (λ x. Some (Some x.0, x.1)) (o, rest) e in
    let t = reads.takes bytes b.0.0 b.0.1 (IsBytes-rest 1 bytes fits) b.1 in
    subst (λ (x : Option X × List ℕ). Takes (1 ∷ bytes) (optional spell x.0) x.1 × OptionFits Fits x.0) (some_is (Some b.0.0, b.0.1) (o, rest) b.2) (record { parts = ap (λ (w : List ℕ). 1 ∷ w) t.0.parts; rest_fits = t.0.rest_fits }, t.1)
optional_takes spell Fits at reads (suc (suc b) ∷ bytes) o rest fits e = absurd cc

optional_again : {X : Type 0} (spell : X → List ℕ) (Fits : X → Type 0) (at : List ℕ → Read X) → Reads spell Fits at
    → (o : Option X) (rest : List ℕ) → OptionFits Fits o → optional_at at (optional spell o ++ rest) ≡ Some (o, rest)
unfolding optional_at
optional_again spell Fits at reads None rest h = refl
optional_again spell Fits at reads (Some x) rest h = rw (reads.again x rest h) refl

pub reads_optional : {X : Type 0} (spell : X → List ℕ) (Fits : X → Type 0) (at : List ℕ → Read X) → Reads spell Fits at → Reads (optional spell) (OptionFits Fits) (optional_at at)
reads_optional spell Fits at reads = record { takes = optional_takes spell Fits at reads; again = optional_again spell Fits at reads }

-- ---- one value after the other

parts_are : {C : Type 0} (p q : C × List ℕ) → found p ≡ found q → (p.0 ≡ q.0) × (p.1 ≡ q.1)
parts_are {C} p q e = let same = some_is p q e in (ap (λ (x : C × List ℕ). x.0) same, ap (λ (x : C × List ℕ). x.1) same)

pub both_takes : {A B C : Type 0} (make : A → B → C) (sa : A → List ℕ) (sb : B → List ℕ) (FA : A → Type 0) (FB : B → Type 0) (one : List ℕ → Read A) (other : List ℕ → Read B)
    → Reads sa FA one → Reads sb FB other → (bytes : List ℕ) (c : C) (rest : List ℕ) → IsBytes bytes → both_at make one other bytes ≡ Some (c, rest)
    → (a : A) × (b : B) × (make a b ≡ c) × Takes bytes (sa a ++ sb b) rest × FA a × FB b
unfolding both_at
both_takes {A} {B} {C} make sa sb FA FB one other ra rb bytes c rest fits e =
    let p = bind_some (one bytes) (λ x. other x.1 >>= λ y. Some (make x.0 y.0, y.1)) (c, rest) e in
    let q = bind_some (other p.0.1) (λ y. Some (make p.0.0 y.0, y.1)) (c, rest) p.2 in
    let ta = ra.takes bytes p.0.0 p.0.1 fits p.1 in
    let tb = rb.takes p.0.1 q.0.0 q.0.1 ta.0.rest_fits q.1 in
    let whole = Takes-then bytes (sa p.0.0) p.0.1 (sb q.0.0) q.0.1 ta.0 tb.0 in
    let pair = parts_are (make p.0.0 q.0.0, q.0.1) (c, rest) q.2 in
    (p.0.0, q.0.0, pair.0, subst (λ (r : List ℕ). Takes bytes (sa p.0.0 ++ sb q.0.0) r) pair.1 whole, ta.1, tb.1)

pub both_again : {A B C : Type 0} (make : A → B → C) (sa : A → List ℕ) (sb : B → List ℕ) (FA : A → Type 0) (FB : B → Type 0) (one : List ℕ → Read A) (other : List ℕ → Read B)
    → Reads sa FA one → Reads sb FB other → (a : A) (b : B) (rest : List ℕ) → FA a → FB b → both_at make one other ((sa a ++ sb b) ++ rest) ≡ Some (make a b, rest)
unfolding both_at
both_again make sa sb FA FB one other ra rb a b rest fa fb =
    ap (both_at make one other) (append_assoc (sa a) (sb b) rest) ∙ rw (ra.again a (sb b ++ rest) fa, rb.again b rest fb) refl

-- ---- lists

items_take : {X : Type 0} (spell : X → List ℕ) (Fits : X → Type 0) (at : List ℕ → Read X) → Reads spell Fits at
    → (n : ℕ) (bytes : List ℕ) (xs : List X) (rest : List ℕ) → IsBytes bytes → items_at at n bytes ≡ Some (xs, rest) → Takes bytes (flat_map spell xs) rest × (length xs ≡ n) × AllByRecursion Fits xs
unfolding items_at
items_take {X} spell Fits at reads zero bytes xs rest fits e =
    subst (λ (y : List X × List ℕ). Takes bytes (flat_map spell y.0) y.1 × (length y.0 ≡ 0) × AllByRecursion Fits y.0) (some_is ([], bytes) (xs, rest) e) (record { parts = refl; rest_fits = fits }, refl, tt)
items_take {X} spell Fits at reads (suc n) bytes xs rest fits e =
    let a = bind_some (at bytes) (λ first. items_at at n first.1 >>= λ others. Some (first.0 ∷ others.0, others.1)) (xs, rest) e in
    let b = bind_some (items_at at n a.0.1) (λ others. Some (a.0.0 ∷ others.0, others.1)) (xs, rest) a.2 in
    let first = reads.takes bytes a.0.0 a.0.1 fits a.1 in
    let second = items_take spell Fits at reads n a.0.1 b.0.0 b.0.1 first.0.rest_fits b.1 in
    let both = Takes-then bytes (spell a.0.0) a.0.1 (flat_map spell b.0.0) b.0.1 first.0 second.0 in
    subst (λ (y : List X × List ℕ). Takes bytes (flat_map spell y.0) y.1 × (length y.0 ≡ suc n) × AllByRecursion Fits y.0) (some_is (a.0.0 ∷ b.0.0, b.0.1) (xs, rest) b.2) (rw flat_map-cons both, ap suc second.1, (first.1, second.2))

items_again : {X : Type 0} (spell : X → List ℕ) (Fits : X → Type 0) (at : List ℕ → Read X) → Reads spell Fits at
    → (xs : List X) (rest : List ℕ) → AllByRecursion Fits xs → items_at at (length xs) (flat_map spell xs ++ rest) ≡ Some (xs, rest)
unfolding items_at
items_again spell Fits at reads [] rest fits = refl
items_again spell Fits at reads (x ∷ xs) rest fits =
    let regrouped : flat_map spell (x ∷ xs) ++ rest ≡ spell x ++ (flat_map spell xs ++ rest) = ap (λ (t : List ℕ). t ++ rest) (flat_map-cons spell x xs) ∙ append_assoc (spell x) (flat_map spell xs) rest in
    ap (items_at at (suc (length xs))) regrouped ∙ rw (reads.again x (flat_map spell xs ++ rest) fits.0, items_again spell Fits at reads xs rest fits.1) refl

-- a list whose number fits, and each of whose values does
pub record ListFits {X : Type 0} (Fits : X → Type 0) (xs : List X) : Type 0 where
  pub few : length xs < 2 ^ 32
  pub each : AllByRecursion Fits xs

counted_takes : {X : Type 0} (spell : X → List ℕ) (Fits : X → Type 0) (at : List ℕ → Read X) → Reads spell Fits at
    → (bytes : List ℕ) (xs : List X) (rest : List ℕ) → IsBytes bytes → counted_at at bytes ≡ Some (xs, rest) → Takes bytes (counted spell xs) rest × ListFits Fits xs
unfolding counted_at
counted_takes spell Fits at reads bytes xs rest fits e =
    let a = bind_some (number_at w32 bytes) (λ n. items_at at n.0 n.1) (xs, rest) e in
    let first = number_takes w32 (2 ^ 32) wide32 bytes a.0.0 a.0.1 fits a.1 in
    let second = items_take spell Fits at reads a.0.0 a.0.1 xs rest first.0.rest_fits a.2 in
    let both = Takes-then bytes (to_be_bytes w32 a.0.0) a.0.1 (flat_map spell xs) rest first.0 second.0 in
    (subst (λ (k : ℕ). Takes bytes (to_be_bytes w32 k ++ flat_map spell xs) rest) (sym second.1) both, record { few = omega (arith, second.1, first.1); each = second.2 })

counted_again : {X : Type 0} (spell : X → List ℕ) (Fits : X → Type 0) (at : List ℕ → Read X) → Reads spell Fits at
    → (xs : List X) (rest : List ℕ) → ListFits Fits xs → counted_at at (counted spell xs ++ rest) ≡ Some (xs, rest)
unfolding counted_at
counted_again spell Fits at reads xs rest fits =
    ap (counted_at at) (append_assoc (to_be_bytes w32 (length xs)) (flat_map spell xs) rest) ∙ rw (number_again w32 (2 ^ 32) wide32 (length xs) (flat_map spell xs ++ rest) fits.few) (items_again spell Fits at reads xs rest fits.each)

pub reads_counted : {X : Type 0} (spell : X → List ℕ) (Fits : X → Type 0) (at : List ℕ → Read X) → Reads spell Fits at → Reads (counted spell) (ListFits Fits) (counted_at at)
reads_counted spell Fits at reads = record { takes = counted_takes spell Fits at reads; again = counted_again spell Fits at reads }
