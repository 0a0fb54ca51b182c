-- The files of placements: what is found so far goes on with what is left.
use Rattle.std.proofs.Common.{◌≡◌, ℕ, zero, suc, ◌+◌, ◌-◌, ◌<◌, ◌≤◌, List, [], ◌∷◌, ◌++◌, length, get_or, drop, map, arith, append_assoc, Bool, true, false, refl, sym, ◌∙◌, ap}
use Rattle.std.specs.Prelude.{◌||◌}
use Rattle.std.specs.List.{list_any}
use Rattle.std.specs.FinMap.{get}
use Rattle.std.proofs.lemmas.List.{drop_more, length-append}
use Rattle.install_sections.specs.declared.placement.Placement.{Placement}
use Rattle.journal_text.specs.Parts.{is_own, paths_of}
use Rattle.journal_text.specs.declared.record.Placed.{Placed}
use Rattle.change_verdict.specs.Sources.{Folder, after_source, and_file, destination, files_of, source_at}
use Rattle.change_verdict.specs.Verdicts.{bytes_total}
use Rattle.change_verdict.specs.declared.reason.Reason.{Reason}
use Rattle.change_verdict.specs.declared.sources.Source.{Source}
use Rattle.change_verdict.specs.declared.sources.Source.TheVariants.{File, Passed, Lacks}
use Rattle.change_verdict.specs.declared.verdict.Sources.{Sources}
use Rattle.change_verdict.specs.declared.verdict.Sources.TheVariants.{Found, Refused}

-- files before those that follow, where these can be had
abbrev pub and_files : List Placed → Sources → Sources
and_files files (Found more) = Found (files ++ more)
and_files files (Refused reason) = Refused reason

twice : (files : List Placed) (file : Placed) (more : Sources) → and_files (files ++ file ∷ []) more ≡ and_files files (and_file file more)
twice files file (Refused reason) = refl
twice files file (Found more) = ap (λ (l : List Placed). Found l) (append_assoc files (file ∷ []) more)

module _ (folder : Folder) (room : ℕ) (files : List Placed) (placements : List Placement) (i : ℕ) (placement : Placement) (here : placement ≡ get_or placements i placement) (within : i < length placements) where
  abbrev rest : List Placement
  rest = drop (i + 1) placements

  abbrev later : ℕ → Sources
  later left = files_of folder left rest

  next : drop i placements ≡ placement ∷ rest
  next = drop_more placements i placement within ∙ ap (λ (p : Placement). p ∷ drop (i + 1) placements) (sym here)

  -- by what the source gives
  step : (source : Source) (whole : Sources) → source ≡ source_at placement room (get folder placement.src) → and_files files (files_of folder room (drop i placements)) ≡ whole
      → and_files files (after_source source room later) ≡ whole
  step source whole is so_far =
      ap (λ (s : Source). and_files files (after_source s room later)) is
      ∙ ap (λ (l : List Placement). and_files files (files_of folder room l)) (sym next)
      ∙ so_far

  pub file_more : (file : Placed) (whole : Sources) (grown : List Placed) → grown ≡ files ++ file ∷ [] → File file ≡ source_at placement room (get folder placement.src)
      → and_files files (files_of folder room (drop i placements)) ≡ whole → and_files grown (files_of folder (room - length file.bytes) (drop (i + 1) placements)) ≡ whole
  file_more file whole grown grows is so_far =
      ap (λ (l : List Placed). and_files l (later (room - length file.bytes))) grows
      ∙ twice files file (later (room - length file.bytes))
      ∙ step (File file) whole is so_far

  pub passed_more : (whole : Sources) → Passed ≡ source_at placement room (get folder placement.src)
      → and_files files (files_of folder room (drop i placements)) ≡ whole → and_files files (files_of folder room (drop (i + 1) placements)) ≡ whole
  passed_more whole is so_far = step Passed whole is so_far

  pub lacks_more : (reason : Reason) (whole : Sources) → Lacks reason ≡ source_at placement room (get folder placement.src)
      → and_files files (files_of folder room (drop i placements)) ≡ whole → Refused reason ≡ whole
  lacks_more reason whole is so_far = step (Lacks reason) whole is so_far

-- ---- how much they are

total_more : (files : List Placed) (file : Placed) → bytes_total (files ++ file ∷ []) ≡ bytes_total files + length file.bytes
total_more [] file = omega arith
total_more (first ∷ files) file = let later = total_more files file in omega (arith, later)

pub total_grows : (files grown : List Placed) (file : Placed) (room whole : ℕ) → grown ≡ files ++ file ∷ [] → length file.bytes ≤ room → bytes_total files + room ≡ whole
    → bytes_total grown + (room - length file.bytes) ≡ whole
total_grows files grown file room whole is short so_far = let all = ap bytes_total is ∙ total_more files file in omega (arith, all)

-- ---- that none is the switch's own

pub any_split : {X : Type 0} (test : X → Bool) (xs ys : List X) → list_any test (xs ++ ys) ≡ (list_any test xs || list_any test ys)
any_split test [] ys = refl
any_split test (x ∷ xs) ys = ap (λ b. test x || b) (any_split test xs ys) ∙ regroup (test x) (list_any test xs) (list_any test ys)
  where
    regroup : (a b c : Bool) → (a || (b || c)) ≡ ((a || b) || c)
    regroup true b c = refl
    regroup false b c = refl

neither : (a b : Bool) → a ≡ false → b ≡ false → (a || b) ≡ false
neither a b p q = rw (p, q) refl

paths_more : (files : List Placed) (file : Placed) → paths_of (files ++ file ∷ []) ≡ paths_of files ++ file.path ∷ []
paths_more [] file = refl
paths_more (first ∷ files) file = ap (λ (paths : List (List ℕ)). first.path ∷ paths) (paths_more files file)

of_place : {X : Type 0} (test : X → Bool) (xs : List X) (i : ℕ) (x : X) → list_any test xs ≡ false → i < length xs → x ≡ get_or xs i x → test x ≡ false
of_place test [] i x none within is = absurd (omega arith)
of_place test (y ∷ xs) zero x none within is = ap test is ∙ left (test y) (list_any test xs) none
  where
    left : (a b : Bool) → (a || b) ≡ false → a ≡ false
    left true b h = absurd cc
    left false b h = refl
of_place test (y ∷ xs) (suc i) x none within is = of_place test xs i x (right (test y) (list_any test xs) none) (omega arith) is
  where
    right : (a b : Bool) → (a || b) ≡ false → b ≡ false
    right true b h = absurd cc
    right false b h = h

own_dst : Placement → Bool
own_dst placement = is_own (destination placement)

any_dst : (placements : List Placement) → list_any is_own (map destination placements) ≡ list_any (λ placement. is_own (destination placement)) placements
any_dst [] = refl
any_dst (p ∷ placements) = ap (λ b. is_own (destination p) || b) (any_dst placements)

pub free_more : (files grown : List Placed) (file : Placed) (placements : List Placement) (i : ℕ) (placement : Placement) → grown ≡ files ++ file ∷ [] → file.path ≡ placement.dst
    → placement ≡ get_or placements i placement → i < length placements → list_any is_own (map destination placements) ≡ false
    → list_any is_own (paths_of files) ≡ false → list_any is_own (paths_of grown) ≡ false
free_more files grown file placements i placement is at here within none so_far =
    let one : is_own file.path ≡ false = ap is_own at ∙ of_place (λ (p : Placement). is_own (destination p)) placements i placement (sym (any_dst placements) ∙ none) within here in
    ap (λ (l : List Placed). list_any is_own (paths_of l)) is
    ∙ ap (list_any is_own) (paths_more files file)
    ∙ any_split is_own (paths_of files) (file.path ∷ [])
    ∙ neither (list_any is_own (paths_of files)) (is_own file.path || false) so_far (neither (is_own file.path) false one refl)

pub few_more : (files grown : List Placed) (file : Placed) (i : ℕ) → grown ≡ files ++ file ∷ [] → length files ≤ i → length grown ≤ i + 1
few_more files grown file i is few = let all = ap length is ∙ length-append files (file ∷ []) in omega (arith, all)
