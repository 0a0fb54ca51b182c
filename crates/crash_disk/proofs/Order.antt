-- The order of a log.
use Rattle.std.proofs.Common.{◌≡◌, ◌⊎◌, inl, inr, ℕ, ◌≤◌, ◌<◌, List, [], ◌∷◌, ◌++◌, IsTrue, refl, sym, ◌∙◌, ap, arith, if◌then◌else◌, nat_le, Result, Ok, Err, OnOk, OnErr}
use Rattle.std.proofs.lemmas.Bool.Decides.{nat_tests}
use Rattle.crash_disk.specs.Disks.{State}
use Rattle.crash_disk.specs.Log.{Loosens, all_until, until, replay, after}
use Rattle.crash_disk.specs.declared.changes.Change.{Change}
use Rattle.crash_disk.specs.declared.changes.Entry.{Entry}

pub later : (t u : ℕ) (es : List Entry) → t ≤ u → IsTrue (all_until t es) → IsTrue (all_until u es)
later t u [] le all = all
later t u (e ∷ es) le all = let rest : IsTrue (all_until t es) → IsTrue (all_until u es) = later t u es le in grind (arith, nat_tests)

pub one_later : (t : ℕ) (es : List Entry) (e : Entry) → e.moment ≤ t → IsTrue (all_until t es) → IsTrue (all_until t (es ++ e ∷ []))
one_later t [] e le all = grind (arith, nat_tests)
one_later t (x ∷ es) e le all = let rest : IsTrue (all_until t es) → IsTrue (all_until t (es ++ e ∷ [])) = one_later t es e le in grind (arith, nat_tests)

pub until-later : (t : ℕ) (es : List Entry) (e : Entry) → t < e.moment → until t (es ++ e ∷ []) ≡ until t es
until-later t [] e lt = grind (arith, nat_tests)
until-later t (x ∷ es) e lt = let rest : until t (es ++ e ∷ []) ≡ until t es = until-later t es e lt in ap (λ l. if nat_le x.moment t then x ∷ l else l) rest

pub replay-push : (es : List Entry) (e : Entry) (s : State) → replay (es ++ e ∷ []) s ≡ after e.change (replay es s)
replay-push [] e s = refl
replay-push (x ∷ es) e s = replay-push es e (after x.change s)

-- whether it was kept or not
pub noted : {T E : Type 0} (t : ℕ) (es new : List Entry) (e : Entry) (result : Result T E) → e.moment ≤ t → IsTrue (all_until t es) → OnOk result (new ≡ es ++ e ∷ []) → OnErr result (new ≡ es) → IsTrue (all_until t new)
noted t es new e (Ok x) le all ok err = rw ok (one_later t es e le all)
noted t es new e (Err x) le all ok err = rw err all

-- a log with at most one change more
abbrev pub Grows : ℕ → List Entry → List Entry → Type 0
Grows m log new = (new ≡ log) ⊎ ((change : Change) × (new ≡ log ++ record { moment = m; change = change } ∷ []))

pub grows_noted : (m m2 : ℕ) (log log1 log2 : List Entry) (change : Change) → m2 ≡ m → log1 ≡ log → log2 ≡ log1 ++ record { moment = m; change = change } ∷ [] → Grows m2 log log2
grows_noted m m2 log log1 log2 change a b noted = inr (change, noted ∙ (λ i. b i ++ record { moment = sym a i; change = change } ∷ []))

pub grows_loosened : (X : Type 0) (m m2 : ℕ) (path : List ℕ) (log log1 log2 : List Entry) → m2 ≡ m → log1 ≡ log → ((log2 ≡ log1) × X) ⊎ ((change : Change) × Loosens path change × (log2 ≡ log1 ++ record { moment = m; change = change } ∷ [])) → Grows m2 log log2
grows_loosened X m m2 path log log1 log2 a b (inl same) = inl (same.0 ∙ b)
grows_loosened X m m2 path log log1 log2 a b (inr noted) = grows_noted m m2 log log1 log2 noted.0 a b noted.2
