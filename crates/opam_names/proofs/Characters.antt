-- Which bytes are those of a character.
use Rattle.std.proofs.Common.{◌≡◌, ℕ, ◌+◌, ◌-◌, ◌*◌, ◌/◌, ◌<◌, ◌≤◌, ◌⊎◌, inl, inr, ⊎_elim, Bool, true, false, cond, not, T, ltb, List, [], ◌∷◌, ◌++◌, length, get_or, refl, sym, ap, ◌∙◌, subst, arith, ltb→lt, nltb→le}
use Rattle.std.proofs.lemmas.Bool.Decides.{nat_tests}
use Rattle.std.proofs.lemmas.Str.{IsUtf8-encode}
use Rattle.std.specs.Str.{IsUtf8}
use Rattle.opam_names.proofs.Bytes.{both_left}
use lib.Utf8.{encode, encodes, next, scalar, scalars, scalar_cases, low_scalar}

pub order : (m n : ℕ) → (m < n) ⊎ (n ≤ m)
order m n = by_test (ltb m n) refl
  where
    by_test : (y : Bool) → ltb m n ≡ y → (m < n) ⊎ (n ≤ m)
    by_test true e = inl (ltb→lt m n (subst T (sym e) tt))
    by_test false e = inr (nltb→le m n (subst (λ (z : Bool). T (not z)) (sym e) tt))

taken : (m n : ℕ) (a b : List ℕ) → m < n → cond (ltb m n) a b ≡ a
taken m n a b h = let e : ltb m n ≡ true = grind (arith, nat_tests) in ap (λ (z : Bool). cond z a b) e

passed : (m n : ℕ) (a b : List ℕ) → n ≤ m → cond (ltb m n) a b ≡ b
passed m n a b h = let e : ltb m n ≡ false = grind (arith, nat_tests) in ap (λ (z : Bool). cond z a b) e

encode_one : (c : ℕ) → c < 128 → encode c ≡ c ∷ []
unfolding encode
encode_one c h = taken c 128 _ _ h

encode_two : (c : ℕ) → 128 ≤ c → c < 2048 → encode c ≡ (192 + c / 64) ∷ next c ∷ []
unfolding encode
encode_two c l h = passed c 128 _ _ l ∙ taken c 2048 _ _ h

encode_three : (c : ℕ) → 2048 ≤ c → c < 65536 → encode c ≡ (224 + c / 4096) ∷ next (c / 64) ∷ next c ∷ []
unfolding encode
encode_three c l h = passed c 128 _ _ (omega arith) ∙ passed c 2048 _ _ l ∙ taken c 65536 _ _ h

encode_four : (c : ℕ) → 65536 ≤ c → encode c ≡ (240 + c / 262144) ∷ next (c / 4096) ∷ next (c / 64) ∷ next c ∷ []
unfolding encode
encode_four c l = passed c 128 _ _ (omega arith) ∙ passed c 2048 _ _ (omega arith) ∙ passed c 65536 _ _ l

high_scalar : (c : ℕ) → 57344 ≤ c → c < 1114112 → scalar c ≡ true
high_scalar c l u = grind (arith, nat_tests)

-- a byte that goes on with a character
abbrev pub Follows : ℕ → Type 0
Follows b = (128 ≤ b) × (b < 192)

-- a character's bytes: the first says how many follow, and together they say the character
data Shape (c : ℕ) : Type 0 where
  of1 : c < 128 → encode c ≡ c ∷ [] → Shape c
  of2 : (a b : ℕ) → 128 ≤ c → 192 ≤ a → a < 224 → Follows b → c + 12416 ≡ a * 64 + b → encode c ≡ a ∷ b ∷ [] → Shape c
  of3 : (a b d : ℕ) → 2048 ≤ c → 224 ≤ a → a < 240 → Follows b → Follows d → c + 925824 ≡ a * 4096 + b * 64 + d → encode c ≡ a ∷ b ∷ d ∷ [] → Shape c
  of4 : (a b d e : ℕ) → 65536 ≤ c → 240 ≤ a → a < 248 → Follows b → Follows d → Follows e → c + 63447168 ≡ a * 262144 + b * 4096 + d * 64 + e → encode c ≡ a ∷ b ∷ d ∷ e ∷ [] → Shape c

follows : (x : ℕ) → Follows (next x)
follows x = (omega arith, omega arith)

abbrev Scalar : ℕ → Type 0
Scalar c = (c < 55296) ⊎ ((57344 ≤ c) × (c < 1114112))

below : (c : ℕ) → Scalar c → c < 1114112
below c (inl h) = omega arith
below c (inr h) = h.1

shape : (c : ℕ) → Scalar c → Shape c
shape c s = by (order c 128) (order c 2048) (order c 65536)
  where
    by : (c < 128) ⊎ (128 ≤ c) → (c < 2048) ⊎ (2048 ≤ c) → (c < 65536) ⊎ (65536 ≤ c) → Shape c
    by (inl h) _ _ = of1 h (encode_one c h)
    by (inr l) (inl h) _ = of2 (192 + c / 64) (next c) l (omega arith) (omega arith) (follows c) (omega arith) (encode_two c l h)
    by (inr _) (inr l) (inl h) = of3 (224 + c / 4096) (next (c / 64)) (next c) l (omega arith) (omega arith) (follows (c / 64)) (follows c) (omega arith) (encode_three c l h)
    by (inr _) (inr _) (inr l) = let top : c < 1114112 = below c s in of4 (240 + c / 262144) (next (c / 4096)) (next (c / 64)) (next c) l (omega arith) (omega arith) (follows (c / 4096)) (follows (c / 64)) (follows c) (omega arith) (encode_four c l)

-- of n bytes that begin x, y, z, w and begin with a character
pub record Ranged (n x y z w : ℕ) : Type 0 where
  pub second : 128 ≤ x → (194 ≤ x) × (1 < n) × Follows y
  pub third : 224 ≤ x → (2 < n) × Follows z
  pub in_three : 224 ≤ x → x < 240 → let high : ℕ = (x - 224) * 64 + (y - 128) in (32 ≤ high) × ((high < 864) ⊎ (896 ≤ high))
  pub fourth : 240 ≤ x → (3 < n) × Follows w × (let high : ℕ = (x - 240) * 64 + (y - 128) in (16 ≤ high) × (high < 272))

abbrev pub RangedAt : List ℕ → Type 0
RangedAt l = Ranged (length l) (get_or l 0 0) (get_or l 1 0) (get_or l 2 0) (get_or l 3 0)

ranged_char : (c : ℕ) (r : List ℕ) → Scalar c → Shape c → RangedAt (encode c ++ r)
ranged_char c r k (of1 l e) = subst (λ p. RangedAt (p ++ r)) (sym e) (record {
  second = λ t. absurd (omega arith);
  third = λ t. absurd (omega arith);
  in_three = λ t v. absurd (omega arith);
  fourth = λ t. absurd (omega arith);
})
ranged_char c r k (of2 a b least l u f s e) = subst (λ p. RangedAt (p ++ r)) (sym e) (record {
  second = λ t. (omega arith, omega arith, f);
  third = λ t. absurd (omega arith);
  in_three = λ t v. absurd (omega arith);
  fourth = λ t. absurd (omega arith);
})
ranged_char c r k (of3 a b d least l u f g s e) = subst (λ p. RangedAt (p ++ r)) (sym e) (record {
  second = λ t. (omega arith, omega arith, f);
  third = λ t. (omega arith, g);
  in_three = λ t v. (omega arith, ⊎_elim (λ p. inl (omega arith)) (λ p. inr (⊎_elim (λ q. absurd (omega arith)) (λ q. omega arith) k)) (order ((a - 224) * 64 + (b - 128)) 864));
  fourth = λ t. absurd (omega arith);
})
ranged_char c r k (of4 a b d x least l u f g h s e) = subst (λ p. RangedAt (p ++ r)) (sym e) (record {
  second = λ t. (omega arith, omega arith, f);
  third = λ t. (omega arith, g);
  in_three = λ t v. absurd (omega arith);
  fourth = λ t. (omega arith, h, (omega arith, ⊎_elim (λ q. omega arith) (λ q. omega arith) k));
})

-- a text that is not empty begins with a character
ranged_chars : (w cs : List ℕ) → scalars cs ≡ true → encodes cs ≡ w → 0 < length w → RangedAt w
ranged_chars w [] s e some = absurd (omega (arith, some, ap length e))
ranged_chars w (c ∷ cs) s e some =
    let is : scalar c ≡ true = both_left (scalar c) (scalars cs) s in
    subst RangedAt e (ranged_char c (encodes cs) (scalar_cases c is) (shape c (scalar_cases c is)))

pub ranged : (w : List ℕ) → IsUtf8 w → 0 < length w → RangedAt w
ranged w u some = ranged_chars w u.0 u.1.0 u.1.1 some

char_text : (l : List ℕ) (c : ℕ) → scalar c ≡ true → encode c ≡ l → IsUtf8 l
char_text l c s e = subst IsUtf8 e (IsUtf8-encode c s)

pub one_text : (x : ℕ) → x < 128 → IsUtf8 (x ∷ [])
one_text x h = char_text (x ∷ []) x (low_scalar x (omega arith)) (encode_one x h)

pub two_text : (x y : ℕ) → 194 ≤ x → x < 224 → Follows y → IsUtf8 (x ∷ y ∷ [])
two_text x y a b f =
    let c : ℕ = (x - 192) * 64 + (y - 128) in
    let p : 192 + c / 64 ≡ x = omega arith in
    let q : next c ≡ y = omega arith in
    char_text (x ∷ y ∷ []) c (low_scalar c (omega arith)) (encode_two c (omega arith) (omega arith) ∙ (λ k. p k ∷ q k ∷ []))

pub three_bytes : (x y z : ℕ) → 224 ≤ x → x < 240 → Follows y → Follows z
    → let c : ℕ = (x - 224) * 4096 + (y - 128) * 64 + (z - 128) in 2048 ≤ c → (c < 55296) ⊎ (57344 ≤ c) → IsUtf8 (x ∷ y ∷ z ∷ [])
three_bytes x y z a b f g least s =
    let c : ℕ = (x - 224) * 4096 + (y - 128) * 64 + (z - 128) in
    let p : 224 + c / 4096 ≡ x = omega arith in
    let q : next (c / 64) ≡ y = omega arith in
    let r : next c ≡ z = omega arith in
    char_text (x ∷ y ∷ z ∷ []) c (⊎_elim (λ l. low_scalar c l) (λ l. high_scalar c l (omega arith)) s) (encode_three c least (omega arith) ∙ (λ k. p k ∷ q k ∷ r k ∷ []))

pub four_bytes : (x y z w : ℕ) → 240 ≤ x → x < 245 → Follows y → Follows z → Follows w
    → let high : ℕ = (x - 240) * 64 + (y - 128) in 16 ≤ high → high < 272 → IsUtf8 (x ∷ y ∷ z ∷ w ∷ [])
four_bytes x y z w a b f g h least most =
    let c : ℕ = (x - 240) * 262144 + (y - 128) * 4096 + (z - 128) * 64 + (w - 128) in
    let p : 240 + c / 262144 ≡ x = omega arith in
    let q : next (c / 4096) ≡ y = omega arith in
    let e : c / 64 ≡ (x - 240) * 4096 + (y - 128) * 64 + (z - 128) = omega arith in
    let r : next (c / 64) ≡ z = subst (λ (m : ℕ). next m ≡ z) (sym e) (omega arith) in
    let t : next c ≡ w = omega arith in
    char_text (x ∷ y ∷ z ∷ w ∷ []) c (high_scalar c (omega arith) (omega arith)) (encode_four c (omega arith) ∙ (λ k. p k ∷ q k ∷ r k ∷ t k ∷ []))
