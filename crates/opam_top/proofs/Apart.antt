-- Files whose paths differ.
use Rattle.std.proofs.Common.{◌≡◌, ℕ, ◌+◌, ◌<◌, List, [], ◌∷◌, ◌++◌, length, take, get_or, Bool, true, false, not, inl, inr, refl, sym, ◌∙◌, ap, if◌then◌else◌}
use Rattle.std.specs.Prelude.{bytes_eq, ◌&&◌, ◌||◌}
use Rattle.std.proofs.lemmas.Bool.{cases_Bool}
use Rattle.std.proofs.lemmas.List.{take_more}
use Rattle.std.proofs.lemmas.Slice.Eq.{bytes_eq-Decides}
use Rattle.opam_top.specs.Commits.{is_among, is_at, paths_differ}
use Rattle.opam_top.specs.Placements.{in_byte_order, is_before, put_in}
use Rattle.opam_top.specs.declared.records.Placed.{Placed}
use Rattle.opam_top.proofs.Tests.{both}

pub neither_left : (a b : Bool) → (a || b) ≡ false → a ≡ false
neither_left true b is = is
neither_left false b is = refl

pub neither_right : (a b : Bool) → (a || b) ≡ false → b ≡ false
neither_right true b is = absurd (cc)
neither_right false b is = is

pub not_true : (b : Bool) → not b ≡ true → b ≡ false
not_true true is = sym is
not_true false is = refl

pub turned : (p q : List ℕ) → bytes_eq p q ≡ bytes_eq q p
turned p q =
    elim (cases_Bool (bytes_eq p q)) [
      | inl is ↦ is ∙ sym ((bytes_eq-Decides q p).1 (sym ((bytes_eq-Decides p q).0 is)))
      | inr is ↦ elim (cases_Bool (bytes_eq q p)) [
        | inl back ↦ let e : bytes_eq p q ≡ true = (bytes_eq-Decides p q).1 (sym ((bytes_eq-Decides q p).0 back)) in absurd (cc)
        | inr back ↦ is ∙ sym back
      ]
    ]

-- ---- one more file
among_more : (a b c : Bool) → (a || (b || c)) ≡ ((a || b) || c)
among_more true b c = refl
among_more false b c = refl

or_false : (b : Bool) → (b || false) ≡ b
or_false true = refl
or_false false = refl

among_last : (files : List Placed) (file : Placed) (q : List ℕ) → is_among (files ++ file ∷ []) q ≡ (is_among files q || is_at q file)
among_last [] file q = or_false (is_at q file)
among_last (first ∷ files) file q = ap (λ (b : Bool). is_at q first || b) (among_last files file q) ∙ among_more (is_at q first) (is_among files q) (is_at q file)

last_apart : (among same differ later : Bool) → (not (among || same) && (differ && not later)) ≡ ((not among && differ) && not (same || later))
last_apart true same differ later = refl
last_apart false true true later = refl
last_apart false true false later = refl
last_apart false false true later = refl
last_apart false false false later = refl

pub differ_last : (files : List Placed) (file : Placed) → paths_differ (files ++ file ∷ []) ≡ (paths_differ files && not (is_among files file.path))
differ_last [] file = refl
differ_last (first ∷ files) file =
    ap (λ (b : Bool). not b && paths_differ (files ++ file ∷ [])) (among_last files file first.path)
    ∙ ap (λ (b : Bool). not (is_among files first.path || is_at first.path file) && b) (differ_last files file)
    ∙ ap (λ (b : Bool). not (is_among files first.path || b) && (paths_differ files && not (is_among files file.path))) (turned first.path file.path)
    ∙ last_apart (is_among files first.path) (is_at file.path first) (paths_differ files) (is_among files file.path)

pub differ_next : (files : List Placed) (i : ℕ) (file : Placed) → file ≡ get_or files i file → i < length files → is_among (take i files) file.path ≡ false → paths_differ (take i files) ≡ true → paths_differ (take (i + 1) files) ≡ true
differ_next files i file here within alone so_far =
    ap paths_differ (take_more files i file within ∙ ap (λ (f : Placed). take i files ++ f ∷ []) (sym here)) ∙ differ_last (take i files) file
    ∙ both (paths_differ (take i files)) (not (is_among (take i files) file.path)) so_far (ap not alone)

-- ---- in another order
among_swap : (a b c : Bool) → (a || (b || c)) ≡ (b || (a || c))
among_swap true true c = refl
among_swap true false c = refl
among_swap false true c = refl
among_swap false false c = refl

among_by : (before : Bool) (file other : Placed) (files : List Placed) (q : List ℕ) → is_among (put_in file files) q ≡ (is_at q file || is_among files q)
    → is_among (if before then other ∷ put_in file files else file ∷ other ∷ files) q ≡ (is_at q file || (is_at q other || is_among files q))
among_by true file other files q later = ap (λ (b : Bool). is_at q other || b) later ∙ among_swap (is_at q other) (is_at q file) (is_among files q)
among_by false file other files q later = refl

among_put : (file : Placed) (files : List Placed) (q : List ℕ) → is_among (put_in file files) q ≡ (is_at q file || is_among files q)
among_put file [] q = refl
among_put file (other ∷ files) q = among_by (is_before other.path file.path) file other files q (among_put file files q)

among_order : (files : List Placed) (q : List ℕ) → is_among (in_byte_order files) q ≡ is_among files q
among_order [] q = refl
among_order (file ∷ files) q = among_put file (in_byte_order files) q ∙ ap (λ (b : Bool). is_at q file || b) (among_order files q)

put_apart : (same there here differ : Bool) → (not (same || there) && (not here && differ)) ≡ (not (same || here) && (not there && differ))
put_apart true there here differ = refl
put_apart false true true differ = refl
put_apart false true false differ = refl
put_apart false false true differ = refl
put_apart false false false differ = refl

differ_by : (before : Bool) (file other : Placed) (files : List Placed) → paths_differ (put_in file files) ≡ (not (is_among files file.path) && paths_differ files)
    → paths_differ (if before then other ∷ put_in file files else file ∷ other ∷ files) ≡ (not (is_at file.path other || is_among files file.path) && (not (is_among files other.path) && paths_differ files))
differ_by true file other files later =
    ap (λ (b : Bool). not b && paths_differ (put_in file files)) (among_put file files other.path)
    ∙ ap (λ (b : Bool). not (is_at other.path file || is_among files other.path) && b) later
    ∙ ap (λ (b : Bool). not (b || is_among files other.path) && (not (is_among files file.path) && paths_differ files)) (turned other.path file.path)
    ∙ put_apart (is_at file.path other) (is_among files other.path) (is_among files file.path) (paths_differ files)
differ_by false file other files later = refl

differ_put : (file : Placed) (files : List Placed) → paths_differ (put_in file files) ≡ (not (is_among files file.path) && paths_differ files)
differ_put file [] = refl
differ_put file (other ∷ files) = differ_by (is_before other.path file.path) file other files (differ_put file files)

pub differ_order : (files : List Placed) → paths_differ (in_byte_order files) ≡ paths_differ files
differ_order [] = refl
differ_order (file ∷ files) =
    differ_put file (in_byte_order files)
    ∙ ap (λ (b : Bool). not b && paths_differ (in_byte_order files)) (among_order files file.path)
    ∙ ap (λ (b : Bool). not (is_among files file.path) && b) (differ_order files)
