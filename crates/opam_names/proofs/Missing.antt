-- Characters that are cut off: which bytes begin one, and what completes it.
use Rattle.std.proofs.Common.{◌≡◌, ℕ, ◌+◌, ◌-◌, ◌*◌, ◌<◌, ◌≤◌, ◌&&◌, ◌⊎◌, inl, inr, ⊎_elim, Bool, true, false, cond, List, [], ◌∷◌, ◌++◌, length, take, refl, sym, ap, arith, None, Some}
use Rattle.std.proofs.lemmas.Bool.Decides.{nat_tests}
use Rattle.std.specs.List.{list_all}
use Rattle.std.specs.declared.option.Option.{Option}
use Rattle.std.specs.Str.{IsUtf8}
use Rattle.std.specs.Prelude.{nat_lt}
use Rattle.opam_names.proofs.Characters.{order, RangedAt, ranged, one_text, two_text, three_bytes, four_bytes}
use Rattle.opam_names.specs.Cut.{char_len, second_fits, goes_on, left_after, missing}

-- bytes from 128 on are no slash, no dot and not zero
abbrev pub is_high : ℕ → Bool
is_high b = nat_lt 127 b

len_two : (x : ℕ) → 194 ≤ x → x < 224 → char_len x ≡ 2
len_two x a b = grind (arith, nat_tests)

len_three : (x : ℕ) → 224 ≤ x → x < 240 → char_len x ≡ 3
len_three x a b = grind (arith, nat_tests)

len_four : (x : ℕ) → 240 ≤ x → x < 245 → char_len x ≡ 4
len_four x a b = grind (arith, nat_tests)

len_low : (x : ℕ) → x < 194 → char_len x ≡ 0
len_low x a = grind (arith, nat_tests)

len_high : (x : ℕ) → 245 ≤ x → char_len x ≡ 0
len_high x a = grind (arith, nat_tests)

-- what the second byte of three or four may be
record Second (x y : ℕ) : Type 0 where
  pub least : 128 ≤ y
  pub most : y < 192
  pub at_224 : x ≡ 224 → 160 ≤ y
  pub at_237 : x ≡ 237 → y < 160
  pub at_240 : x ≡ 240 → 144 ≤ y
  pub at_244 : x ≡ 244 → y < 144

second_true : (x y : ℕ) → Second x y → second_fits x y ≡ true
second_true x y s =
    let a = s.least in
    let b = s.most in
    let c = s.at_224 in
    let d = s.at_237 in
    let e = s.at_240 in
    let f = s.at_244 in
    grind (arith, nat_tests)

second_is : (x y : ℕ) → second_fits x y ≡ true → Second x y
second_is x y h = record {
  least = grind (arith, nat_tests);
  most = grind (arith, nat_tests);
  at_224 = λ e. grind (arith, nat_tests);
  at_237 = λ e. grind (arith, nat_tests);
  at_240 = λ e. grind (arith, nat_tests);
  at_244 = λ e. grind (arith, nat_tests);
}

goes_on_true : (z : ℕ) → (128 ≤ z) × (z < 192) → goes_on z ≡ true
goes_on_true z h = let a = h.0 in let b = h.1 in grind (arith, nat_tests)

goes_on_is : (z : ℕ) → goes_on z ≡ true → (128 ≤ z) × (z < 192)
goes_on_is z h = (grind (arith, nat_tests), grind (arith, nat_tests))

three_text : (x y z : ℕ) → 224 ≤ x → x < 240 → Second x y → (128 ≤ z) × (z < 192) → IsUtf8 (x ∷ y ∷ z ∷ [])
three_text x y z a b s f =
    let p = s.least in
    let q = s.most in
    let r = s.at_224 in
    let t = s.at_237 in
    let u = f.0 in
    let w = f.1 in
    three_bytes x y z a b (p, q) f
    (⊎_elim (λ l. let e : x ≡ 224 = omega arith in let g : 160 ≤ y = r e in omega arith) (λ l. omega arith) (order x 225))
    (⊎_elim (λ l. inl (omega arith)) (λ l. ⊎_elim (λ m. let e : x ≡ 237 = omega arith in let g : y < 160 = t e in inl (omega arith)) (λ m. inr (omega arith)) (order x 238)) (order x 237))

four_text : (x y z w : ℕ) → 240 ≤ x → x < 245 → Second x y → (128 ≤ z) × (z < 192) → (128 ≤ w) × (w < 192) → IsUtf8 (x ∷ y ∷ z ∷ w ∷ [])
four_text x y z w a b s f g =
    let p = s.least in
    let q = s.most in
    let r = s.at_240 in
    let t = s.at_244 in
    four_bytes x y z w a b (p, q) f g
    (⊎_elim (λ l. let e : x ≡ 240 = omega arith in let h : 144 ≤ y = r e in omega arith) (λ l. omega arith) (order x 241))
    (⊎_elim (λ l. omega arith) (λ l. let e : x ≡ 244 = omega arith in let h : y < 144 = t e in omega arith) (order x 244))

-- what completes the bytes
pub record Completes (tail : List ℕ) (k : ℕ) : Type 0 where
  pub more : List ℕ
  pub text : IsUtf8 (tail ++ more)
  pub some : 0 < length more
  pub size : length more ≡ k
  pub high : list_all is_high more ≡ true

some_left : (b : Bool) (e k : ℕ) → cond b (Some e) None ≡ Some k → (b ≡ true) × (e ≡ k)
some_left true e k h = (refl, cc)
some_left false e k h = cc

none_left : (b : Bool) (e : ℕ) → cond b (Some e) None ≡ None → b ≡ false
none_left true e h = cc
none_left false e h = refl

left_is : (x n k : ℕ) → left_after x n ≡ Some k → (n < char_len x) × (k ≡ char_len x - n)
left_is x n k h =
    let s = some_left (nat_lt n (char_len x)) (char_len x - n) k h in
    let t : nat_lt n (char_len x) ≡ true = s.0 in
    (grind (arith, nat_tests), sym s.1)

left_none : (x n : ℕ) → left_after x n ≡ None → char_len x ≤ n
left_none x n h =
    let t : nat_lt n (char_len x) ≡ false = none_left (nat_lt n (char_len x)) (char_len x - n) h in
    grind (arith, nat_tests)

some_if : (b : Bool) (o : Option ℕ) (k : ℕ) → cond b o None ≡ Some k → (b ≡ true) × (o ≡ Some k)
some_if true o k h = (refl, h)
some_if false o k h = cc

none_if : (b : Bool) (o : Option ℕ) → b ≡ true → cond b o None ≡ None → o ≡ None
none_if true o t h = h
none_if false o t h = cc

goes : (128 ≤ 128) × (128 < 192)
goes = (omega arith, omega arith)

first_second : (x : ℕ) → 224 ≤ x → x < 240 → (y : ℕ) × Second x y × (is_high y ≡ true)
first_second x a b = ⊎_elim
    (λ l. (160, record { least = omega arith; most = omega arith; at_224 = λ e. omega arith; at_237 = λ e. omega arith; at_240 = λ e. omega arith; at_244 = λ e. omega arith }, refl))
    (λ l. (128, record { least = omega arith; most = omega arith; at_224 = λ e. omega arith; at_237 = λ e. omega arith; at_240 = λ e. omega arith; at_244 = λ e. omega arith }, refl))
    (order x 225)

fourth_second : (x : ℕ) → 240 ≤ x → x < 245 → (y : ℕ) × Second x y × (is_high y ≡ true)
fourth_second x a b = ⊎_elim
    (λ l. (144, record { least = omega arith; most = omega arith; at_224 = λ e. omega arith; at_237 = λ e. omega arith; at_240 = λ e. omega arith; at_244 = λ e. omega arith }, refl))
    (λ l. (128, record { least = omega arith; most = omega arith; at_224 = λ e. omega arith; at_237 = λ e. omega arith; at_240 = λ e. omega arith; at_244 = λ e. omega arith }, refl))
    (order x 241)

complete_one : (x k : ℕ) → left_after x 1 ≡ Some k → Completes (x ∷ []) k
complete_one x k h =
    let l = left_is x 1 k h in
    let l0 = l.0 in
    let l1 = l.1 in
    ⊎_elim (λ a. let e = len_low x a in absurd (omega arith)) (λ a.
    ⊎_elim (λ b. let e = len_two x a b in record { more = 128 ∷ []; text = two_text x 128 a b goes; some = omega arith; size = omega arith; high = refl }) (λ b.
    ⊎_elim (λ c. let e = len_three x b c in let s = first_second x b c in
    record { more = s.0 ∷ 128 ∷ []; text = three_text x s.0 128 b c s.1 goes; some = omega arith; size = omega arith; high = ap (λ v. v && true) s.2 }) (λ c.
    ⊎_elim (λ d. let e = len_four x c d in let s = fourth_second x c d in
    record { more = s.0 ∷ 128 ∷ 128 ∷ []; text = four_text x s.0 128 128 c d s.1 goes goes; some = omega arith; size = omega arith; high = ap (λ v. v && true) s.2 })
    (λ d. let e = len_high x d in absurd (omega arith))
    (order x 245)) (order x 240)) (order x 224)) (order x 194)

complete_two : (x y k : ℕ) → Second x y → left_after x 2 ≡ Some k → Completes (x ∷ y ∷ []) k
complete_two x y k s h =
    let l = left_is x 2 k h in
    let l0 = l.0 in
    let l1 = l.1 in
    ⊎_elim (λ a. let e = len_low x a in absurd (omega arith)) (λ a.
    ⊎_elim (λ b. let e = len_two x a b in absurd (omega arith)) (λ b.
    ⊎_elim (λ c. let e = len_three x b c in record { more = 128 ∷ []; text = three_text x y 128 b c s goes; some = omega arith; size = omega arith; high = refl }) (λ c.
    ⊎_elim (λ d. let e = len_four x c d in record { more = 128 ∷ 128 ∷ []; text = four_text x y 128 128 c d s goes goes; some = omega arith; size = omega arith; high = refl })
    (λ d. let e = len_high x d in absurd (omega arith))
    (order x 245)) (order x 240)) (order x 224)) (order x 194)

complete_three : (x y z k : ℕ) → Second x y → (128 ≤ z) × (z < 192) → left_after x 3 ≡ Some k → Completes (x ∷ y ∷ z ∷ []) k
complete_three x y z k s f h =
    let l = left_is x 3 k h in
    let l0 = l.0 in
    let l1 = l.1 in
    ⊎_elim (λ a. let e = len_low x a in absurd (omega arith)) (λ a.
    ⊎_elim (λ b. let e = len_two x a b in absurd (omega arith)) (λ b.
    ⊎_elim (λ c. let e = len_three x b c in absurd (omega arith)) (λ c.
    ⊎_elim (λ d. let e = len_four x c d in record { more = 128 ∷ []; text = four_text x y z 128 c d s f goes; some = omega arith; size = omega arith; high = refl })
    (λ d. let e = len_high x d in absurd (omega arith))
    (order x 245)) (order x 240)) (order x 224)) (order x 194)

pub completes : (tail : List ℕ) (k : ℕ) → missing tail ≡ Some k → Completes tail k
completes [] k h = cc
completes (x ∷ []) k h = complete_one x k h
completes (x ∷ y ∷ []) k h = let s = some_if (second_fits x y) (left_after x 2) k h in complete_two x y k (second_is x y s.0) s.1
completes (x ∷ y ∷ z ∷ []) k h =
    let s = some_if (second_fits x y) (cond (goes_on z) (left_after x 3) None) k h in
    let t = some_if (goes_on z) (left_after x 3) k s.1 in
    complete_three x y z k (second_is x y s.0) (goes_on_is z t.0) t.1
completes (x ∷ y ∷ z ∷ w ∷ rest) k h = cc

-- no front is text
abbrev pub NoText : List ℕ → Type 0
NoText tail = (k : ℕ) → 0 < k → k ≤ length tail → IsUtf8 (take k tail) → ⊥

second_three : (x y : ℕ) → 224 ≤ x → x < 240 → (128 ≤ y) × (y < 192) → (32 ≤ (x - 224) * 64 + (y - 128)) × (((x - 224) * 64 + (y - 128) < 864) ⊎ (896 ≤ (x - 224) * 64 + (y - 128))) → Second x y
second_three x y a b f g =
    let f0 = f.0 in
    let f1 = f.1 in
    let g0 = g.0 in
    record {
      least = f0;
      most = f1;
      at_224 = λ e. omega arith;
      at_237 = λ e. ⊎_elim (λ h. omega arith) (λ h. absurd (omega arith)) g.1;
      at_240 = λ e. absurd (omega arith);
      at_244 = λ e. absurd (omega arith);
    }

second_four : (x y : ℕ) → 240 ≤ x → (128 ≤ y) × (y < 192) → (16 ≤ (x - 240) * 64 + (y - 128)) × ((x - 240) * 64 + (y - 128) < 272) → Second x y
second_four x y a f g =
    let f0 = f.0 in
    let f1 = f.1 in
    let g0 = g.0 in
    let g1 = g.1 in
    record {
      least = f0;
      most = f1;
      at_224 = λ e. absurd (omega arith);
      at_237 = λ e. absurd (omega arith);
      at_240 = λ e. omega arith;
      at_244 = λ e. omega arith;
    }

-- bytes that no character begins with take no more
pub fails_none : (tail more : List ℕ) → 0 < length tail → NoText tail → missing tail ≡ None → IsUtf8 (tail ++ more) → ⊥
fails_none [] more some none h u = absurd (omega arith)
fails_none (x ∷ []) more some none h u = ⊎_elim (λ a. none 1 (omega arith) (omega arith) (one_text x a)) (λ a.
    let l = left_none x 1 h in
    (let r : RangedAt (x ∷ more) = ranged (x ∷ more) u (omega arith) in
    let s = r.second a in
    let s0 = s.0 in
    ⊎_elim (λ b. let e = len_two x s0 b in omega arith) (λ b.
    ⊎_elim (λ c. let e = len_three x b c in omega arith) (λ c. let g = (r.fourth c).2.1 in let e = len_four x c (omega arith) in omega arith)
    (order x 240)) (order x 224)))
    (order x 128)
fails_none (x ∷ y ∷ []) more some none h u = ⊎_elim (λ a. none 1 (omega arith) (omega arith) (one_text x a)) (λ a.
    (let r : RangedAt (x ∷ y ∷ more) = ranged (x ∷ y ∷ more) u (omega arith) in
    let s = r.second a in
    let s0 = s.0 in
    ⊎_elim (λ b. none 2 (omega arith) (omega arith) (two_text x y s0 b s.2)) (λ b.
    ⊎_elim (λ c.
    let l = left_none x 2 (none_if (second_fits x y) (left_after x 2) (second_true x y (second_three x y b c s.2 (r.in_three b c))) h) in
    let e = len_three x b c in omega arith) (λ c.
    let g = (r.fourth c).2 in
    let g1 = g.1 in
    let l = left_none x 2 (none_if (second_fits x y) (left_after x 2) (second_true x y (second_four x y c s.2 g)) h) in
    let e = len_four x c (omega arith) in omega arith)
    (order x 240)) (order x 224)))
    (order x 128)
fails_none (x ∷ y ∷ z ∷ []) more some none h u = ⊎_elim (λ a. none 1 (omega arith) (omega arith) (one_text x a)) (λ a.
    (let r : RangedAt (x ∷ y ∷ z ∷ more) = ranged (x ∷ y ∷ z ∷ more) u (omega arith) in
    let s = r.second a in
    let s0 = s.0 in
    ⊎_elim (λ b. none 2 (omega arith) (omega arith) (two_text x y s0 b s.2)) (λ b.
    ⊎_elim (λ c. none 3 (omega arith) (omega arith) (three_text x y z b c (second_three x y b c s.2 (r.in_three b c)) (r.third b).1)) (λ c.
    let g = (r.fourth c).2 in
    let g1 = g.1 in
    let l = left_none x 3 (none_if (goes_on z) (left_after x 3) (goes_on_true z (r.third b).1)
    (none_if (second_fits x y) (cond (goes_on z) (left_after x 3) None) (second_true x y (second_four x y c s.2 g)) h)) in
    let e = len_four x c (omega arith) in omega arith)
    (order x 240)) (order x 224)))
    (order x 128)
fails_none (x ∷ y ∷ z ∷ w ∷ rest) more some none h u = ⊎_elim (λ a. none 1 (omega arith) (omega arith) (one_text x a)) (λ a.
    (let r : RangedAt (x ∷ y ∷ z ∷ w ∷ (rest ++ more)) = ranged (x ∷ y ∷ z ∷ w ∷ (rest ++ more)) u (omega arith) in
    let s = r.second a in
    let s0 = s.0 in
    ⊎_elim (λ b. none 2 (omega arith) (omega arith) (two_text x y s0 b s.2)) (λ b.
    ⊎_elim (λ c. none 3 (omega arith) (omega arith) (three_text x y z b c (second_three x y b c s.2 (r.in_three b c)) (r.third b).1)) (λ c.
    let f = r.fourth c in
    let g = f.2 in
    let g1 = g.1 in
    none 4 (omega arith) (omega arith) (four_text x y z w c (omega arith) (second_four x y c s.2 g) (r.third b).1 f.1))
    (order x 240)) (order x 224)))
    (order x 128)

-- and what begins one takes no less than it lacks
pub fails_short : (tail more : List ℕ) (k : ℕ) → missing tail ≡ Some k → IsUtf8 (tail ++ more) → length more < k → ⊥
fails_short [] more k h u short = cc
fails_short (x ∷ []) more k h u short =
    let l = left_is x 1 k h in
    let l0 = l.0 in
    let l1 = l.1 in
    (let r : RangedAt (x ∷ more) = ranged (x ∷ more) u (omega arith) in
    ⊎_elim (λ a. let e = len_low x a in omega arith) (λ a.
    ⊎_elim (λ b. let e = len_two x a b in let s = (r.second (omega arith)).1 in omega arith) (λ b.
    ⊎_elim (λ c. let e = len_three x b c in let s = (r.third b).0 in omega arith) (λ c.
    ⊎_elim (λ d. let e = len_four x c d in let s = (r.fourth c).0 in omega arith) (λ d. let e = len_high x d in omega arith)
    (order x 245)) (order x 240)) (order x 224)) (order x 194))
fails_short (x ∷ y ∷ []) more k h u short =
    let i = some_if (second_fits x y) (left_after x 2) k h in
    let l = left_is x 2 k i.1 in
    let l0 = l.0 in
    let l1 = l.1 in
    (let r : RangedAt (x ∷ y ∷ more) = ranged (x ∷ y ∷ more) u (omega arith) in
    ⊎_elim (λ a. let e = len_low x a in omega arith) (λ a.
    ⊎_elim (λ b. let e = len_two x a b in omega arith) (λ b.
    ⊎_elim (λ c. let e = len_three x b c in let s = (r.third b).0 in omega arith) (λ c.
    ⊎_elim (λ d. let e = len_four x c d in let s = (r.fourth c).0 in omega arith) (λ d. let e = len_high x d in omega arith)
    (order x 245)) (order x 240)) (order x 224)) (order x 194))
fails_short (x ∷ y ∷ z ∷ []) more k h u short =
    let i = some_if (second_fits x y) (cond (goes_on z) (left_after x 3) None) k h in
    let j = some_if (goes_on z) (left_after x 3) k i.1 in
    let l = left_is x 3 k j.1 in
    let l0 = l.0 in
    let l1 = l.1 in
    (let r : RangedAt (x ∷ y ∷ z ∷ more) = ranged (x ∷ y ∷ z ∷ more) u (omega arith) in
    ⊎_elim (λ a. let e = len_low x a in omega arith) (λ a.
    ⊎_elim (λ b. let e = len_two x a b in omega arith) (λ b.
    ⊎_elim (λ c. let e = len_three x b c in omega arith) (λ c.
    ⊎_elim (λ d. let e = len_four x c d in let s = (r.fourth c).0 in omega arith) (λ d. let e = len_high x d in omega arith)
    (order x 245)) (order x 240)) (order x 224)) (order x 194))
fails_short (x ∷ y ∷ z ∷ w ∷ rest) more k h u short = cc
