-- Needed names grow by those to which they lead.
use Rattle.std.proofs.Common.{◌≡◌, ℕ, zero, suc, ◌+◌, ◌-◌, ◌<◌, ◌≤◌, List, [], ◌∷◌, ◌++◌, length, get_or, drop, map, fold, Bool, true, false, ◌||◌, ◌⊎◌, inl, inr, ⊎_elim, refl, sym, ◌∙◌, ap, subst, arith}
use Rattle.std.specs.Prelude.{Contains, bytes_eq}
use Rattle.std.proofs.lemmas.List.{drop_more, length-append}
use Rattle.opam_names.specs.declared.packages.Pkg.{Pkg}
use Rattle.opam_filter.specs.NameSets.{with_name}
use Rattle.lock_check.specs.Chased.{bound_among, has_pkg, is_among, pkg_name}
use Rattle.lock_check.specs.Growth.{AddsAll, AreNew, IsSpreading, Reaches, Spread, Spreads, count_missing}
use Rattle.lock_check.specs.Needed.{IsClosed}
use Rattle.lock_check.proofs.Among.{all_less, among_in, among_joined, either, grown_among, grows_none, grows_on, in_among, is_same, or_left, or_right, same_name, still_among, turned}
use Rattle.lock_check.proofs.Members.{of_filter}

abbrev Steps : Type 0
Steps = List ℕ → List (List ℕ)

no_both : (b : Bool) → b ≡ true → b ≡ false → ⊥
no_both true is so = let e : true ≡ false = so in cc
no_both false is so = let e : false ≡ true = is in cc

length_joined : (xs ys : List (List ℕ)) → length (xs ++ ys) ≡ length xs + length ys
length_joined xs ys = length-append xs ys

-- those that are left of more names
left_more : (k : ℕ) (xs ys : List (List ℕ)) → k ≤ length xs → drop k (xs ++ ys) ≡ drop k xs ++ ys
left_more zero xs ys le = refl
left_more (suc k) [] ys le = absurd (omega (arith, le))
left_more (suc k) (x ∷ xs) ys le = left_more k xs ys (omega (arith, le))

last_or : (a b : Bool) → (a || b) ≡ false → (a ≡ false) × (b ≡ false)
last_or true b is = absurd cc
last_or false b is = (refl, is)

-- what is told of the longer list is told of the one before
shorter_same : (steps leads : Steps) (names f g more : List (List ℕ)) → g ≡ f ++ more → ((name : List ℕ) → is_among g name ≡ true → leads name ≡ steps name)
    → (name : List ℕ) → is_among f name ≡ true → leads name ≡ steps name
shorter_same steps leads names f g more is same name there =
    same name (ap (λ xs. is_among xs name) is ∙ among_joined f more name ∙ or_left (is_among f name) (is_among more name) there)

pub spreading_first : (steps : Steps) (needed fresh : List (List ℕ)) → IsSpreading steps needed fresh 0 needed fresh
spreading_first steps needed fresh = record {
  grows = grows_none needed fresh;
  within = omega arith;
  ends = λ starts leads same begins. begins;
}

module _ (steps leads : Steps) (starts k f k1 f1 names : List (List ℕ)) (done : ℕ) (x : List ℕ) (below : done < length f) (is : x ≡ get_or f done x)
    (names_are : names ≡ steps x) (adds : AddsAll names k f k1 f1) (same : (name : List ℕ) → is_among f1 name ≡ true → leads name ≡ steps name)
    (old : Spreads starts leads k (drop done f)) where
  was_left : drop done f ≡ x ∷ drop (done + 1) f
  was_left = drop_more f done x below ∙ ap (λ y. y ∷ drop (done + 1) f) (sym is)

  now_left : drop (done + 1) f1 ≡ drop (done + 1) f ++ adds.grows.more
  now_left = ap (drop (done + 1)) adds.grows.longer ∙ left_more (done + 1) f adds.grows.more (omega (arith, below))

  x_left : is_among (drop done f) x ≡ true
  x_left = ap (λ xs. is_among xs x) was_left ∙ or_left (bytes_eq x x) (is_among (drop (done + 1) f) x) (same_name x)

  x_fresh : is_among f x ≡ true
  x_fresh = drop_among done f x x_left
    where
      drop_among : (i : ℕ) (xs : List (List ℕ)) (y : List ℕ) → is_among (drop i xs) y ≡ true → is_among xs y ≡ true
      drop_among zero xs y there = there
      drop_among (suc i) [] y there = there
      drop_among (suc i) (z ∷ xs) y there = or_right (bytes_eq y z) (is_among xs y) (drop_among i xs y there)

  x_leads : leads x ≡ names
  x_leads =
      same x (ap (λ xs. is_among xs x) adds.grows.longer ∙ among_joined f adds.grows.more x ∙ or_left (is_among f x) (is_among adds.grows.more x) x_fresh)
      ∙ sym names_are

  grown : (name : List ℕ) → is_among k name ≡ true → is_among k1 name ≡ true
  grown = still_among k f k1 f1 adds.grows

  into : (name : List ℕ) → Contains k name → Contains k1 name
  into name at = among_in k1 name (grown name (in_among k name at))

  led_on : (name to : List ℕ) → Contains k1 name → is_among (drop (done + 1) f1) name ≡ false → Contains (leads name) to → Contains k1 to
  led_on name to at past there =
      let apart = last_or (is_among (drop (done + 1) f) name) (is_among adds.grows.more name)
      (sym (among_joined (drop (done + 1) f) adds.grows.more name) ∙ ap (λ xs. is_among xs name) (sym now_left) ∙ past) in
      let was : is_among k name ≡ true =
      ⊎_elim (λ old_one. old_one) (λ new_one. absurd (no_both (is_among adds.grows.more name) new_one apart.1))
      (either (is_among k name) (is_among adds.grows.more name) (sym (grown_among k f k1 f1 adds.grows name) ∙ in_among k1 name at)) in
      by (bytes_eq name x) refl apart.0 was
    where
      by : (b : Bool) → bytes_eq name x ≡ b → is_among (drop (done + 1) f) name ≡ false → is_among k name ≡ true → Contains k1 to
      by true here gone was =
          let P : List (List ℕ) → Type 0 = λ xs. Contains xs to in
          let led : Contains names to = subst P (ap leads (is_same name x here) ∙ x_leads) there in
          among_in k1 to (adds.has to (in_among names to led))
      by false here gone was =
          into to (old.led name to (among_in k name was) (ap (λ xs. is_among xs name) was_left ∙ ap (λ b. b || is_among (drop (done + 1) f) name) here ∙ gone) there)

  sound_on : (others : List (List ℕ)) → IsClosed starts leads others → (name : List ℕ) → Contains k1 name → Contains others name
  sound_on others closed name at =
      ⊎_elim (λ was. old.sound others closed name (among_in k name was))
      (λ came. closed.led x name (old.sound others closed x (among_in k x (old.some x x_left)))
      (let P : List (List ℕ) → Type 0 = λ xs. Contains xs name in subst P (sym x_leads) (among_in names name (adds.only name came))))
      (either (is_among k name) (is_among adds.grows.more name) (sym (grown_among k f k1 f1 adds.grows name) ∙ in_among k1 name at))

  some_on : (name : List ℕ) → is_among (drop (done + 1) f1) name ≡ true → is_among k1 name ≡ true
  some_on name there =
      ⊎_elim (λ was. grown name (old.some name (ap (λ xs. is_among xs name) was_left ∙ or_right (bytes_eq name x) (is_among (drop (done + 1) f) name) was)))
      (λ came. grown_among k f k1 f1 adds.grows name ∙ or_right (is_among k name) (is_among adds.grows.more name) came)
      (either (is_among (drop (done + 1) f) name) (is_among adds.grows.more name)
      (sym (among_joined (drop (done + 1) f) adds.grows.more name) ∙ ap (λ xs. is_among xs name) (sym now_left) ∙ there))

  spread_on : Spreads starts leads k1 (drop (done + 1) f1)
  spread_on = record {
    begun = λ name at. into name (old.begun name at);
    some = some_on;
    led = led_on;
    sound = sound_on;
  }

pub spreading_next : (steps : Steps) (needed fresh k f k1 f1 names : List (List ℕ)) (done : ℕ) (x : List ℕ) → IsSpreading steps needed fresh done k f
    → done < length f → x ≡ get_or f done x → names ≡ steps x → AddsAll names k f k1 f1 → IsSpreading steps needed fresh (done + 1) k1 f1
spreading_next steps needed fresh k f k1 f1 names done x h below is names_are adds = record {
  grows = grows_on needed fresh k f k1 f1 h.grows adds.grows;
  within =
      let e : length f1 ≡ length f + length adds.grows.more = ap length adds.grows.longer ∙ length_joined f adds.grows.more in
      omega (arith, below, e);
  ends = λ starts leads same begins.
      spread_on steps leads starts k f k1 f1 names done x below is names_are adds same
      (h.ends starts leads (shorter_same steps leads names f f1 adds.grows.more adds.grows.longer same) begins);
}

none_left : (k : ℕ) (xs : List (List ℕ)) → length xs ≤ k → drop k xs ≡ []
none_left zero [] le = refl
none_left zero (x ∷ xs) le = absurd (omega (arith, le))
none_left (suc k) [] le = refl
none_left (suc k) (x ∷ xs) le = none_left k xs (omega (arith, le))

pub spreading_last : (steps : Steps) (needed fresh k f : List (List ℕ)) (done : ℕ) → IsSpreading steps needed fresh done k f → length f ≤ done → Spread steps needed fresh k f
spreading_last steps needed fresh k f done h last = record {
  grows = h.grows;
  ends = λ starts leads same begins.
      let P : List (List ℕ) → Type 0 = λ xs. Spreads starts leads k xs in
      subst P (none_left done f last) (h.ends starts leads same begins);
}

-- ---- the walk ends

bound_name : (bound : List Pkg) (name : List ℕ) → has_pkg bound name ≡ is_among (map pkg_name bound) name
bound_name [] name = refl
bound_name (pkg ∷ bound) name = ap (λ b. b || has_pkg bound name) (turned pkg.name name) ∙ ap (λ b. bytes_eq name pkg.name || b) (bound_name bound name)

pub all_bound : (bound : List Pkg) (some : List (List ℕ)) (name : List ℕ) → is_among (bound_among bound some) name ≡ true → is_among (map pkg_name bound) name ≡ true
all_bound bound some name is =
    sym (bound_name bound name) ∙ (of_filter (has_pkg bound) some name (among_in (bound_among bound some) name is)).1

pub shorter : (some names k f k1 f1 : List (List ℕ)) (done : ℕ) → AddsAll names k f k1 f1 → ((name : List ℕ) → is_among names name ≡ true → is_among some name ≡ true) → done < length f
    → count_missing some k1 + (length f1 - (done + 1)) < count_missing some k + (length f - done)
shorter some names k f k1 f1 done adds within below =
    let le = all_less some k adds.grows.more adds.grows.new (λ name is. within name (adds.only name is)) in
    let P : List (List ℕ) → Type 0 = λ xs. count_missing some xs + length adds.grows.more ≤ count_missing some k in
    let less : count_missing some k1 + length adds.grows.more ≤ count_missing some k = subst P (sym adds.grows.whole) le in
    let e : length f1 ≡ length f + length adds.grows.more = ap length adds.grows.longer ∙ length_joined f adds.grows.more in
    omega (arith, below, e, less)

-- ---- names, and those to which they lead

pub reached : (steps : Steps) (names k k1 f1 k2 f2 empty : List (List ℕ)) → empty ≡ [] → AddsAll names k empty k1 f1 → Spread steps k1 f1 k2 f2 → Reaches names steps k k2 f2
reached steps names k k1 f1 k2 f2 empty none adds spread =
    let both = grows_on k empty k1 f1 k2 f2 adds.grows spread.grows in
    let all : f2 ≡ both.more = both.longer ∙ ap (λ xs. xs ++ both.more) none in
    let first : f1 ≡ adds.grows.more = adds.grows.longer ∙ ap (λ xs. xs ++ adds.grows.more) none in
    record {
      new = let P : List (List ℕ) → Type 0 = λ xs. AreNew k xs in subst P (sym all) both.new;
      whole = both.whole ∙ ap (fold with_name k) (sym all);
      ends = λ starts leads same begins.
          let old : (name : List ℕ) → is_among k name ≡ true → is_among k1 name ≡ true = still_among k empty k1 f1 adds.grows in
          let came : (name : List ℕ) → (Contains k name ⊎ Contains names name) → Contains k1 name =
          λ name at. ⊎_elim (λ was. among_in k1 name (old name (in_among k name was))) (λ now. among_in k1 name (adds.has name (in_among names name now))) at in
          let whence : (name : List ℕ) → Contains k1 name → (is_among k name ≡ true) ⊎ (is_among f1 name ≡ true) =
          λ name at. ⊎_elim (λ was. inl was) (λ now. inr (ap (λ xs. is_among xs name) first ∙ now))
          (either (is_among k name) (is_among adds.grows.more name) (sym (grown_among k empty k1 f1 adds.grows name) ∙ in_among k1 name at)) in
          let only : (name : List ℕ) → is_among f1 name ≡ true → is_among names name ≡ true =
          λ name is. adds.only name (ap (λ xs. is_among xs name) (sym first) ∙ is) in
          spread.ends starts leads same (record {
            begun = λ name at. came name (begins.begun name at);
            some = λ name is. grown_among k empty k1 f1 adds.grows name ∙ or_right (is_among k name) (is_among adds.grows.more name) (ap (λ xs. is_among xs name) (sym first) ∙ is);
            led = λ name to at past there.
                ⊎_elim (λ was. came to (begins.led name to (among_in k name was) there))
                (λ now. absurd (no_both (is_among f1 name) now past)) (whence name at);
            sound = λ others closed name at.
                ⊎_elim (λ was. begins.sound others closed name (inl (among_in k name was)))
                (λ now. begins.sound others closed name (inr (among_in names name (only name now)))) (whence name at);
          });
    }
