-- The places of records and gates: no two of them are one, and all lie inside.
use Rattle.std.proofs.Common.{◌≡◌, inl, inr, ℕ, ◌<◌, ◌^◌, true, false, List, [], ◌∷◌, Bool, not, refl, sym, ap, ◌∙◌}
use Rattle.std.specs.Prelude.{bytes_eq, codes, ◌&&◌, ◌||◌}
use Rattle.std.specs.Fmt.{decimal}
use Rattle.std.specs.List.{list_all}
use Rattle.std.proofs.lemmas.Bool.{cases_Bool}
use Rattle.std.proofs.lemmas.Fmt.{decimal_injective}
use Rattle.std.proofs.lemmas.List.{append_cancel_left}
use Rattle.std.proofs.lemmas.Slice.Eq.{bytes_eq-Decides}
use Rattle.crash_disk.specs.Writes.{path_of}
use Rattle.crash_disk.specs.declared.batch.Write.{Write}
use Rattle.switch_journal.specs.Commits.{is_outside}
use Rattle.switch_journal.specs.Places.{gate_path, is_inside, record_path}
use Rattle.crash_disk.proofs.Trees.{is_among}

not_equal : (a b : List ℕ) → (a ≡ b → ⊥) → bytes_eq a b ≡ false
not_equal a b apart =
    elim (cases_Bool (bytes_eq a b)) [
      | inl is ↦ absurd (apart ((bytes_eq-Decides a b).0 is))
      | inr is ↦ is
    ]

pub records_differ : (m n : ℕ) → m < 2 ^ 64 → n < 2 ^ 64 → (m ≡ n → ⊥) → bytes_eq (record_path m) (record_path n) ≡ false
records_differ m n low high apart =
    not_equal (record_path m) (record_path n) (λ same. apart (decimal_injective m n low high (append_cancel_left (codes ".opam-switch/journal/rec/") (decimal m) (decimal n) same)))

pub gates_differ : (m n : ℕ) → m < 2 ^ 64 → n < 2 ^ 64 → (m ≡ n → ⊥) → bytes_eq (gate_path m) (gate_path n) ≡ false
gates_differ m n low high apart =
    not_equal (gate_path m) (gate_path n) (λ same. apart (decimal_injective m n low high (append_cancel_left (codes ".opam-switch/journal/gate/") (decimal m) (decimal n) same)))

-- a place inside is none outside
pub outside_apart : (q place : List ℕ) → is_inside place ≡ true → is_inside q ≡ false → bytes_eq q place ≡ false
outside_apart q place inside apart = not_equal q place (λ same. let e : true ≡ false = sym (ap is_inside same ∙ inside) ∙ apart in cc)

pub inside_apart : (q place : List ℕ) → is_inside q ≡ true → is_inside place ≡ false → bytes_eq q place ≡ false
inside_apart q place inside apart = not_equal q place (λ same. let e : true ≡ false = sym inside ∙ ap is_inside same ∙ apart in cc)

not_true : (b : Bool) → not b ≡ true → b ≡ false
not_true true is = sym is
not_true false is = refl

left : (a b : Bool) → (a && b) ≡ true → a ≡ true
left true b is = refl
left false b is = absurd (cc)

right : (a b : Bool) → (a && b) ≡ true → b ≡ true
right true b is = is
right false b is = absurd (cc)

pub off_outside : (writes : List Write) (q : List ℕ) → list_all is_outside writes ≡ true → is_inside q ≡ true → is_among writes q ≡ false
off_outside [] q all inside = refl
off_outside (write ∷ writes) q all inside =
    ap (λ (b : Bool). b || is_among writes q) (inside_apart q (path_of write) inside (not_true (is_inside (path_of write)) (left (is_outside write) (list_all is_outside writes) all)))
    ∙ off_outside writes q (right (is_outside write) (list_all is_outside writes) all) inside
