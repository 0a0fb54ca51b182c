-- How many brackets and prefix operators are open is told by the tokens so far, whatever follows them.
use Rattle.std.proofs.Common.{◌≡◌, ℕ, ◌<◌, ◌≤◌, ◌+◌, Bool, true, false, List, [], ◌∷◌, refl, sym, subst, ap, ◌∙◌, arith, max, if◌then◌else◌, ◌⊎◌, inl, inr}
use Rattle.std.specs.Prelude.{nat_lt, ◌==◌, ◌&&◌, ◌||◌}
use Rattle.std.specs.List.{list_any}
use Rattle.std.proofs.lemmas.Bool.Decides.{nat_tests}
use Rattle.std.specs.Option.{unwrap_or}
use Rattle.std.specs.declared.option.Option.{Option}
use Rattle.std.specs.declared.option.Option.TheVariants.{None, Some}
use Rattle.syntax_trees.specs.declared.token.Token.{Token}
use Rattle.syntax_trees.specs.declared.token.Token.TheVariants.{OpenList, OpenBraces, OpenGroup, Not, Defined}
use Rattle.syntax_trees.specs.Heights.{HeightState as State, height_step as step, token_height as height, NestsBelow as Below}
use Rattle.syntax_trees.specs.Tokens.{Placed, placed}
use Rattle.syntax_trees.specs.Nesting.{first_of, deeper}
use Rattle.syntax_trees.specs.Faults.{is_opening, opens_at}

pub opening_height : (s : State) (token : Token) → is_opening token ≡ true → (step s token).level ≡ height s token + 1
opening_height s OpenList e = refl
opening_height s OpenBraces e = refl
opening_height s OpenGroup e = refl
opening_height s Not e = refl
opening_height s Defined e = refl
opening_height s token e = absurd cc

-- what the first token is nested in that ends after a place
abbrev pub at_place : ℕ → State → List Placed → ℕ
at_place p s [] = 0
at_place p s (placed token span ∷ tokens) = if nat_lt p span.end then height s token else at_place p (step s token) tokens

abbrev pub num : Option ℕ → ℕ
num o = unwrap_or o 0

if_true : (c : Bool) (m n : ℕ) → c ≡ true → (if c then m else n) ≡ m
if_true true m n e = refl
if_true false m n e = absurd cc

if_false : (c : Bool) (m n : ℕ) → c ≡ false → (if c then m else n) ≡ n
if_false true m n e = absurd cc
if_false false m n e = refl

pub is_less : (m n : ℕ) → m < n → nat_lt m n ≡ true
is_less m n l = grind (arith, nat_tests)

pub is_not_less : (m n : ℕ) → n ≤ m → nat_lt m n ≡ false
is_not_less m n l = grind (arith, nat_tests)

-- a part of the tokens that is nested in so much, and the state that it leaves
pub record Go (s : State) (tokens : List Placed) (base deep start stop : ℕ) (found : ℕ → Option ℕ) (to : State) (rest : List Placed) : Type 0 where
  pub below : (limit : ℕ) → base + deep ≤ limit → Below limit to rest → Below limit s tokens
  pub passes : (p : ℕ) → stop ≤ p → at_place p s tokens ≡ at_place p to rest
  pub tells : (p : ℕ) → p < stop → base + num (found p) ≤ at_place p s tokens
  pub keeps : (p : ℕ) → stop ≤ p → list_any (opens_at p) tokens ≡ list_any (opens_at p) rest
  pub clear : (p : ℕ) → p < start → list_any (opens_at p) tokens ≡ false
  pub exact : (p : ℕ) → p < stop → list_any (opens_at p) tokens ≡ true → at_place p s tokens ≡ base + num (found p)
  pub before : (p : ℕ) → p < start → found p ≡ None
  pub beyond : (p : ℕ) → stop ≤ p → found p ≡ None

-- parts one after another, up to what closes them
pub record GoAll (s : State) (tokens : List Placed) (base deep start stop : ℕ) (found : ℕ → Option ℕ) (to : State) (rest : List Placed) : Type 0 where
  pub below : (limit : ℕ) → base + deep ≤ limit → Below limit to rest → Below limit s tokens
  pub passes : (p : ℕ) → stop ≤ p → at_place p s tokens ≡ at_place p to rest
  pub tells : (p : ℕ) → base ≤ at_place p to rest → base + num (found p) ≤ at_place p s tokens
  pub keeps : (p : ℕ) → stop ≤ p → list_any (opens_at p) tokens ≡ list_any (opens_at p) rest
  pub clear : (p : ℕ) → p < start → list_any (opens_at p) tokens ≡ false
  pub exact : (p : ℕ) → p < stop → list_any (opens_at p) tokens ≡ true → at_place p s tokens ≡ base + num (found p)
  pub before : (p : ℕ) → p < start → found p ≡ None
  pub beyond : (p : ℕ) → stop ≤ p → found p ≡ None

pub order : (m n : ℕ) → (m < n) ⊎ (n ≤ m)
order m n = grind (arith)

first_none : (o p : Option ℕ) → o ≡ None → first_of o p ≡ p
first_none None p e = refl
first_none (Some n) p e = absurd cc

none_first : (o p : Option ℕ) → p ≡ None → first_of o p ≡ o
none_first None p e = e
none_first (Some n) p e = refl

both_none : (o p : Option ℕ) → o ≡ None → p ≡ None → first_of o p ≡ None
both_none o p e f = first_none o p e ∙ f

deeper_none : (o : Option ℕ) → o ≡ None → deeper o ≡ None
deeper_none None e = refl
deeper_none (Some n) e = absurd cc

deeper_num : (o : Option ℕ) → num (deeper o) ≤ 1 + num o
deeper_num None = omega arith
deeper_num (Some n) = omega arith

num_none : (o : Option ℕ) → o ≡ None → num o ≡ 0
num_none None e = refl
num_none (Some n) e = absurd cc

pub here : (p : ℕ) (s : State) (token : Token) (start stop : ℕ) (tokens : List Placed) → p < stop
    → at_place p s (placed token (record { start = start; end = stop }) ∷ tokens) ≡ height s token
here p s token start stop tokens l = if_true (nat_lt p stop) (height s token) (at_place p (step s token) tokens) (is_less p stop l)

pub later : (p : ℕ) (s : State) (token : Token) (start stop : ℕ) (tokens : List Placed) → stop ≤ p
    → at_place p s (placed token (record { start = start; end = stop }) ∷ tokens) ≡ at_place p (step s token) tokens
later p s token start stop tokens l = if_false (nat_lt p stop) (height s token) (at_place p (step s token) tokens) (is_not_less p stop l)

-- whether a token opens at a place
pub not_opening : (c x y : Bool) → c ≡ false → ((c && x) || y) ≡ y
not_opening false x y e = refl
not_opening true x y e = absurd cc

pub not_there : (c x y : Bool) → x ≡ false → ((c && x) || y) ≡ y
not_there c true y e = absurd cc
not_there true false y e = refl
not_there false false y e = refl

not_equal : (m n : ℕ) → m < n → (m == n) ≡ false
not_equal m n l = grind (arith, nat_tests)

pub not_equal_after : (m n : ℕ) → n < m → (m == n) ≡ false
not_equal_after m n l = grind (arith, nat_tests)

pub false_true : {A : Type 0} {b : Bool} → b ≡ false → b ≡ true → A
false_true e f = let g = sym e ∙ f in absurd cc

deeper_some : (o : Option ℕ) → ((k : ℕ) × (o ≡ Some k)) → num (deeper o) ≡ 1 + num o
deeper_some None x = let e = x.1 in absurd cc
deeper_some (Some n) x = omega arith

-- two parts, the first of which ends before the second begins
pub go_then : {s t c : State} {ts ms r : List Placed} {base d1 d2 a1 a2 e1 e2 : ℕ} {f g : ℕ → Option ℕ} → Go s ts base d1 a1 e1 f t ms
    → Go t ms base d2 a2 e2 g c r → a1 ≤ e1 → e1 ≤ a2 → a2 ≤ e2 → Go s ts base (max d1 d2) a1 e2 (λ p. first_of (f p) (g p)) c r
go_then {s} {t} {c} {ts} {ms} {r} {base} {d1} {d2} {a1} {a2} {e1} {e2} {f} {g} x y h k m = record {
  below = λ limit l b. x.below limit (omega arith) (y.below limit (omega arith) b);
  passes = λ p l. x.passes p (omega arith) ∙ y.passes p l;
  tells = λ p l. elim (order p e1) [
    | inl i ↦ (
        let n = none_first (f p) (g p) (y.before p (omega arith)) in
        let v = x.tells p i in
        let w : num (first_of (f p) (g p)) ≡ num (f p) = ap num n in
        omega arith)
    | inr i ↦ (
        let n = first_none (f p) (g p) (x.beyond p i) in
        let v = y.tells p l in
        let w : num (first_of (f p) (g p)) ≡ num (g p) = ap num n in
        let q = x.passes p i in
        omega arith)
  ];
  before = λ p l. both_none (f p) (g p) (x.before p l) (y.before p (omega arith));
  beyond = λ p l. both_none (f p) (g p) (x.beyond p (omega arith)) (y.beyond p l);
  keeps = λ p l. x.keeps p (omega arith) ∙ y.keeps p l;
  clear = x.clear;
  exact = λ p l o. elim (order p e1) [
    | inl i ↦ x.exact p i o ∙ ap (λ z. base + num z) (sym (none_first (f p) (g p) (y.before p (omega arith))))
    | inr i ↦ x.passes p i ∙ y.exact p l (sym (x.keeps p i) ∙ o) ∙ ap (λ z. base + num z) (sym (first_none (f p) (g p) (x.beyond p i)))
  ];
}

-- a token before a part that is nested in no more
pub go_after : {u c : State} {ms r : List Placed} {base d a e : ℕ} {f : ℕ → Option ℕ} (s : State) (token : Token) (start stop : ℕ) → step s token ≡ u
    → u.level ≤ base → base ≤ height s token → is_opening token ≡ false → Go u ms base d a e f c r → start < stop → stop ≤ a → a ≤ e
    → Go s (placed token (record { start = start; end = stop }) ∷ ms) base d start e f c r
go_after {u} {c} {ms} {r} {base} {d} {a} {e} {f} s token start stop i j k z y h l m = record {
  below = λ limit n b. let v = y.below limit n b in
      subst (λ z. (z.level ≤ limit) × Below limit z ms) (sym i) (omega arith, v);
  passes = λ p n. later p s token start stop ms (omega arith) ∙ ap (λ z. at_place p z ms) i ∙ y.passes p n;
  tells = λ p n. elim (order p stop) [
    | inl q ↦ (
        let v = here p s token start stop ms q in
        let w = num_none (f p) (y.before p (omega arith)) in
        omega arith)
    | inr q ↦ (
        let v = later p s token start stop ms q ∙ ap (λ z. at_place p z ms) i in
        let w = y.tells p n in
        omega arith)
  ];
  before = λ p n. y.before p (omega arith);
  beyond = λ p n. y.beyond p n;
  keeps = λ p n. not_opening (is_opening token) (start == p) (list_any (opens_at p) ms) z ∙ y.keeps p n;
  clear = λ p n. not_opening (is_opening token) (start == p) (list_any (opens_at p) ms) z ∙ y.clear p (omega arith);
  exact = λ p n o.
      let o2 = sym (not_opening (is_opening token) (start == p) (list_any (opens_at p) ms) z) ∙ o in elim (order p stop) [
        | inl q ↦ false_true (y.clear p (omega arith)) o2
        | inr q ↦ later p s token start stop ms q ∙ ap (λ x. at_place p x ms) i ∙ y.exact p n o2
      ];
}

-- a prefix operator before its operand
pub go_prefixed : {u c : State} {ms r : List Placed} {base d a e : ℕ} {f : ℕ → Option ℕ} (s : State) (token : Token) (start stop : ℕ) → step s token ≡ u
    → u.level ≤ base + 1 → height s token ≡ base → Go u ms (base + 1) d a e f c r
    → ((p : ℕ) → a ≤ p → p < e → (n : ℕ) × (f p ≡ Some n)) → start < stop → stop ≤ a → a ≤ e
    → Go s (placed token (record { start = start; end = stop }) ∷ ms) base (1 + d) start e (λ p. deeper (f p)) c r
go_prefixed {u} {c} {ms} {r} {base} {d} {a} {e} {f} s token start stop i j k y z h l m = record {
  below = λ limit n b. let v = y.below limit (omega arith) b in
      subst (λ z. (z.level ≤ limit) × Below limit z ms) (sym i) (omega arith, v);
  passes = λ p n. later p s token start stop ms (omega arith) ∙ ap (λ z. at_place p z ms) i ∙ y.passes p n;
  tells = λ p n. elim (order p stop) [
    | inl q ↦ (
        let v = here p s token start stop ms q in
        let w = num_none (deeper (f p)) (deeper_none (f p) (y.before p (omega arith))) in
        omega arith)
    | inr q ↦ (
        let v = later p s token start stop ms q ∙ ap (λ z. at_place p z ms) i in
        let w = y.tells p n in
        let x = deeper_num (f p) in
        omega arith)
  ];
  before = λ p n. deeper_none (f p) (y.before p (omega arith));
  beyond = λ p n. deeper_none (f p) (y.beyond p n);
  keeps = λ p n. not_there (is_opening token) (start == p) (list_any (opens_at p) ms) (not_equal start p (omega arith)) ∙ y.keeps p n;
  clear = λ p n. not_there (is_opening token) (start == p) (list_any (opens_at p) ms) (not_equal_after start p n) ∙ y.clear p (omega arith);
  exact = λ p n o. elim (order p stop) [
    | inl q ↦ (
        let v = here p s token start stop ms q in
        let w = num_none (deeper (f p)) (deeper_none (f p) (y.before p (omega arith))) in
        omega arith)
    | inr q ↦ (
        let o2 = sym (not_there (is_opening token) (start == p) (list_any (opens_at p) ms) (not_equal start p (omega arith))) ∙ o in elim (order p a) [
          | inl x ↦ false_true (y.clear p x) o2
          | inr x ↦ (
              let v = later p s token start stop ms q ∙ ap (λ b. at_place p b ms) i in
              let w = y.exact p n o2 in
              let b = deeper_some (f p) (z p x n) in
              omega arith)
        ])
  ];
}

-- parts between a bracket and the one that closes it
pub go_enclosed : {u t c : State} {ms r : List Placed} {base d a e : ℕ} {f : ℕ → Option ℕ} (s : State) (token close : Token) (start stop from to : ℕ) → step s token ≡ u
    → u.level ≤ base + 1 → height s token ≡ base → GoAll u ms (base + 1) d a e f t (placed close (record { start = from; end = to }) ∷ r)
    → step t close ≡ c → c.level ≤ base → base + 1 ≤ height t close → start < stop → stop ≤ a → a ≤ e → e ≤ from → from < to
    → is_opening close ≡ false → ((p : ℕ) → p < to → list_any (opens_at p) r ≡ false)
    → ((p : ℕ) → p < e → list_any (opens_at p) ms ≡ true → (n : ℕ) × (f p ≡ Some n))
    → Go s (placed token (record { start = start; end = stop }) ∷ ms) base (1 + d) start to (λ p. deeper (f p)) c r
go_enclosed {u} {t} {c} {ms} {r} {base} {d} {a} {e} {f} s token close start stop from to i j k y z v w h l m n o shut past some = record {
  below = λ limit q b.
      let Here : State → Type 0 = λ x. (x.level ≤ limit) × Below limit x r in
      let There : State → Type 0 = λ x. (x.level ≤ limit) × Below limit x ms in
      subst There (sym i) (omega arith, y.below limit (omega arith) (subst Here (sym z) (omega arith, b)));
  passes = λ p q. later p s token start stop ms (omega arith) ∙ ap (λ x. at_place p x ms) i ∙ y.passes p (omega arith)
      ∙ later p t close from to r q ∙ ap (λ x. at_place p x r) z;
  tells = λ p q. elim (order p stop) [
    | inl g ↦ (
        let x = here p s token start stop ms g in
        let b = num_none (deeper (f p)) (deeper_none (f p) (y.before p (omega arith))) in
        omega arith)
    | inr g ↦ (
        let x = later p s token start stop ms g ∙ ap (λ b. at_place p b ms) i in
        let ends = here p t close from to r q in
        let b = y.tells p (omega arith) in
        let b2 = deeper_num (f p) in
        omega arith)
  ];
  before = λ p q. deeper_none (f p) (y.before p (omega arith));
  beyond = λ p q. deeper_none (f p) (y.beyond p (omega arith));
  keeps = λ p q. not_there (is_opening token) (start == p) (list_any (opens_at p) ms) (not_equal start p (omega arith)) ∙ y.keeps p (omega arith)
      ∙ not_opening (is_opening close) (from == p) (list_any (opens_at p) r) shut;
  clear = λ p q. not_there (is_opening token) (start == p) (list_any (opens_at p) ms) (not_equal_after start p q) ∙ y.clear p (omega arith);
  exact = λ p q b. elim (order p stop) [
    | inl g ↦ (
        let x = here p s token start stop ms g in
        let b2 = num_none (deeper (f p)) (deeper_none (f p) (y.before p (omega arith))) in
        omega arith)
    | inr g ↦ (
        let o2 = sym (not_there (is_opening token) (start == p) (list_any (opens_at p) ms) (not_equal start p (omega arith))) ∙ b in elim (order p e) [
          | inl x ↦ (
              let at = later p s token start stop ms g ∙ ap (λ b2. at_place p b2 ms) i in
              let there = y.exact p x o2 in
              let b2 = deeper_some (f p) (some p x o2) in
              omega arith)
          | inr x ↦ false_true (y.keeps p x ∙ not_opening (is_opening close) (from == p) (list_any (opens_at p) r) shut ∙ past p q) o2
        ])
  ];
}

-- what is found by another name
pub go_found : {s c : State} {ts r : List Placed} {base d e a b : ℕ} {f g : ℕ → Option ℕ} → Go s ts base d a b f c r → e ≡ d
    → ((p : ℕ) → num (g p) ≤ num (f p)) → ((p : ℕ) → a ≤ p → p < b → num (g p) ≡ num (f p)) → ((p : ℕ) → p < a → g p ≡ None) → ((p : ℕ) → b ≤ p → g p ≡ None)
    → Go s ts base e a b g c r
go_found {a = a} y i j same k l = record {
  below = λ limit n. y.below limit (omega arith);
  passes = y.passes;
  tells = λ p n. let v = y.tells p n in let w = j p in omega arith;
  before = k;
  beyond = l;
  keeps = y.keeps;
  clear = y.clear;
  exact = λ p n o. elim (order p a) [
    | inl q ↦ false_true (y.clear p q) o
    | inr q ↦ (let v = y.exact p n o in let w = same p q n in omega arith)
  ];
}

pub all_none : {s : State} {ts : List Placed} {base a : ℕ} → ((p : ℕ) → p < a → list_any (opens_at p) ts ≡ false) → GoAll s ts base 0 a a (λ p. None) s ts
all_none clear = record {
  below = λ limit n b. b;
  passes = λ p n. refl;
  tells = λ p n. omega arith;
  before = λ p n. refl;
  beyond = λ p n. refl;
  keeps = λ p n. refl;
  clear = clear;
  exact = λ p n o. false_true (clear p n) o;
}

pub all_some : {s t c : State} {ts ms r : List Placed} {base d1 d2 a1 e1 a2 e2 : ℕ} {f g : ℕ → Option ℕ} → Go s ts base d1 a1 e1 f t ms
    → GoAll t ms base d2 a2 e2 g c r → (from : ℕ) → from ≤ a1 → a1 ≤ e1 → e1 ≤ a2 → a2 ≤ e2
    → GoAll s ts base (max d1 d2) from e2 (λ p. first_of (f p) (g p)) c r
all_some {s} {t} {c} {ts} {ms} {r} {base} {d1} {d2} {a1} {e1} {a2} {e2} {f} {g} x y from i h k m = record {
  below = λ limit l b. x.below limit (omega arith) (y.below limit (omega arith) b);
  passes = λ p l. x.passes p (omega arith) ∙ y.passes p l;
  tells = λ p l. elim (order p e1) [
    | inl i ↦ (
        let n = none_first (f p) (g p) (y.before p (omega arith)) in
        let v = x.tells p i in
        let w : num (first_of (f p) (g p)) ≡ num (f p) = ap num n in
        omega arith)
    | inr i ↦ (
        let n = first_none (f p) (g p) (x.beyond p i) in
        let v = y.tells p l in
        let w : num (first_of (f p) (g p)) ≡ num (g p) = ap num n in
        let q = x.passes p i in
        omega arith)
  ];
  before = λ p l. both_none (f p) (g p) (x.before p (omega arith)) (y.before p (omega arith));
  beyond = λ p l. both_none (f p) (g p) (x.beyond p (omega arith)) (y.beyond p l);
  keeps = λ p l. x.keeps p (omega arith) ∙ y.keeps p l;
  clear = λ p l. x.clear p (omega arith);
  exact = λ p l o. elim (order p e1) [
    | inl n ↦ x.exact p n o ∙ ap (λ z. base + num z) (sym (none_first (f p) (g p) (y.before p (omega arith))))
    | inr n ↦ x.passes p n ∙ y.exact p l (sym (x.keeps p n) ∙ o) ∙ ap (λ z. base + num z) (sym (first_none (f p) (g p) (x.beyond p n)))
  ];
}
