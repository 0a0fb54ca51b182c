-- A log whose changes are none later than now stands whole. This project's own.
use Rattle.std.specs.Prelude.{◌≡◌, ℕ, List, [], ◌∷◌, Bool, true, false, IsTrue, nat_le, if◌then◌else◌}
use mathlib.Core.Path.{refl, ap}
use Rattle.crash_disk.specs.Log.{until, all_until}
use Rattle.crash_disk.specs.declared.changes.Entry.{Entry}

one_more : (b : Bool) (e : Entry) (es rest : List Entry) (others : Bool) → IsTrue (if b then others else false) → (IsTrue others → rest ≡ es) → (if b then e ∷ rest else rest) ≡ e ∷ es
one_more true e es rest others all same = ap (λ l. e ∷ l) (same all)
one_more false e es rest others all same = elim (cc_false all) [ ]
  where
    cc_false : IsTrue false → ⊥
    cc_false h = cc

pub until_all : (t : ℕ) (es : List Entry) → IsTrue (all_until t es) → until t es ≡ es
until_all t [] all = refl
until_all t (e ∷ es) all = one_more (nat_le e.moment t) e es (until t es) (all_until t es) all (until_all t es)
