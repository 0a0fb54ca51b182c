-- The runs of a text: how a byte and another text are put before them, and where they are cut.
use Rattle.std.proofs.Common.{◌≡◌, ℕ, Bool, true, false, cond, List, [], ◌∷◌, ◌++◌, refl, sym, ap, ◌∙◌}
use Rattle.std.specs.Prelude.{bytes_eq}
use Rattle.opam_names.specs.Names.{is_digit}
use Rattle.opam_names.specs.Orders.{Run, run_of, onto_runs, runs, first_run, after_run}
use Rattle.opam_names.proofs.Orders.{later, cut_first}

-- the runs of a byte and of what follows it, by whether it is a digit
abbrev pub onto_by : Bool → ℕ → List ℕ → List ℕ → List Run → List Run
onto_by b x word digits more =
    cond b (cond (bytes_eq word []) (run_of [] (x ∷ digits) ∷ more) (run_of [] (x ∷ []) ∷ run_of word digits ∷ more)) (run_of (x ∷ word) digits ∷ more)

-- a run and those after it, put behind another run
abbrev pub glue_run : List ℕ → List ℕ → List ℕ → List ℕ → List Run → List Run
glue_run w d v e qs = cond (bytes_eq d []) (run_of (w ++ v) e ∷ qs) (cond (bytes_eq v []) (run_of w (d ++ e) ∷ qs) (run_of w d ∷ run_of v e ∷ qs))

-- and behind several
abbrev pub glue : List Run → List ℕ → List ℕ → List Run → List Run
glue [] v e qs = run_of v e ∷ qs
glue (p ∷ []) v e qs = glue_run p.word p.digits v e qs
glue (p ∷ next ∷ ps) v e qs = p ∷ glue (next ∷ ps) v e qs

onto_glue_run : (b : Bool) (x : ℕ) (w d v e : List ℕ) (qs : List Run) → is_digit x ≡ b → onto_runs x (glue_run w d v e qs) ≡ glue (onto_by b x w d []) v e qs
onto_glue_run false x w [] v e qs h = ap (λ b. onto_by b x (w ++ v) e qs) h
onto_glue_run false x w (y ∷ d) [] e qs h = ap (λ b. onto_by b x w (y ∷ d ++ e) qs) h
onto_glue_run false x w (y ∷ d) (z ∷ v) e qs h = ap (λ b. onto_by b x w (y ∷ d) (run_of (z ∷ v) e ∷ qs)) h
onto_glue_run true x [] [] [] e qs h = ap (λ b. onto_by b x [] e qs) h
onto_glue_run true x [] [] (z ∷ v) e qs h = ap (λ b. onto_by b x (z ∷ v) e qs) h
onto_glue_run true x [] (y ∷ d) [] e qs h = ap (λ b. onto_by b x [] (y ∷ d ++ e) qs) h
onto_glue_run true x [] (y ∷ d) (z ∷ v) e qs h = ap (λ b. onto_by b x [] (y ∷ d) (run_of (z ∷ v) e ∷ qs)) h
onto_glue_run true x (u ∷ w) [] v e qs h = ap (λ b. onto_by b x (u ∷ w ++ v) e qs) h
onto_glue_run true x (u ∷ w) (y ∷ d) [] e qs h = ap (λ b. onto_by b x (u ∷ w) (y ∷ d ++ e) qs) h
onto_glue_run true x (u ∷ w) (y ∷ d) (z ∷ v) e qs h = ap (λ b. onto_by b x (u ∷ w) (y ∷ d) (run_of (z ∷ v) e ∷ qs)) h

onto_glue_more : (b : Bool) (x : ℕ) (w d v e : List ℕ) (next : Run) (ps qs : List Run) → is_digit x ≡ b
    → onto_runs x (run_of w d ∷ glue (next ∷ ps) v e qs) ≡ glue (onto_by b x w d (next ∷ ps)) v e qs
onto_glue_more false x w d v e next ps qs h = ap (λ b. onto_by b x w d (glue (next ∷ ps) v e qs)) h
onto_glue_more true x [] d v e next ps qs h = ap (λ b. onto_by b x [] d (glue (next ∷ ps) v e qs)) h
onto_glue_more true x (u ∷ w) d v e next ps qs h = ap (λ b. onto_by b x (u ∷ w) d (glue (next ∷ ps) v e qs)) h

onto_glue : (x : ℕ) (p : Run) (ps : List Run) (v e : List ℕ) (qs : List Run) → onto_runs x (glue (p ∷ ps) v e qs) ≡ glue (onto_runs x (p ∷ ps)) v e qs
onto_glue x p [] v e qs = onto_glue_run (is_digit x) x p.word p.digits v e qs refl
onto_glue x p (next ∷ ps) v e qs = onto_glue_more (is_digit x) x p.word p.digits v e next ps qs refl

-- the runs of a text that goes on
pub runs_append : (a c v e : List ℕ) (qs : List Run) → runs c ≡ run_of v e ∷ qs → runs (a ++ c) ≡ glue (runs a) v e qs
runs_append [] c v e qs h = h
runs_append (x ∷ a) c v e qs h =
    ap (onto_runs x) (runs_append a c v e qs h) ∙ ap (λ l. onto_runs x (glue l v e qs)) (cut_first a) ∙ onto_glue x (first_run a) (later (after_run a)) v e qs
    ∙ sym (ap (λ l. glue (onto_runs x l) v e qs) (cut_first a))
