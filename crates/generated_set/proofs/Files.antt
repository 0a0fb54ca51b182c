-- The opam files of a generated set are pushed one after another.
use Rattle.std.proofs.Common.{◌≡◌, ◌∙◌, ◌+◌, ◌<◌, ℕ, suc, List, [], ◌∷◌, ◌++◌, ap, sym, drop, get_or, length, refl, String, Vec, string_bytes, arith}
use Rattle.std.proofs.Math.Seq.{drop-cons}
use Rattle.std.proofs.lemmas.List.{append_assoc}
use Rattle.std.specs.declared.alloc.Global.{Global}
use Rattle.outside_io.specs.Memories.{pairs_of}
use Rattle.generated_set.specs.Devices.{opam_files}
use Rattle.generated_set.specs.Texts.{opam_path, opam_text}

one_more : (place : ℕ) → suc place ≡ place + 1
one_more place = omega arith

pub files_next : (needs : List (List ℕ)) (place : ℕ) (row : List ℕ) → place < length needs → get_or needs place row ≡ row
    → opam_files place (drop place needs) ≡ (opam_path place, opam_text row) ∷ opam_files (place + 1) (drop (place + 1) needs)
files_next needs place row below there =
    ap (opam_files place) (drop-cons needs place row below ∙ ap (λ (first : List ℕ). first ∷ drop (suc place) needs) there)
    ∙ ap (λ (n : ℕ). (opam_path place, opam_text row) ∷ opam_files (place + 1) (drop n needs)) (one_more place)

pub moved : (before after rest more whole : List (List ℕ × List ℕ)) (one : List ℕ × List ℕ) → after ≡ before ++ one ∷ [] → rest ≡ one ∷ more
    → before ++ rest ≡ whole → after ++ more ≡ whole
moved before after rest more whole one pushed left all =
    ap (λ (files : List (List ℕ × List ℕ)). files ++ more) pushed ∙ append_assoc before (one ∷ []) more ∙ ap (λ (files : List (List ℕ × List ℕ)). before ++ files) (sym left) ∙ all

pub pairs_with : (files : List (String Global × Vec ℕ Global)) (file : String Global × Vec ℕ Global)
    → pairs_of (files ++ file ∷ []) ≡ pairs_of files ++ (string_bytes file.0, file.1.items) ∷ []
pairs_with [] file = refl
pairs_with (first ∷ files) file = ap (λ (rest : List (List ℕ × List ℕ)). (string_bytes first.0, first.1.items) ∷ rest) (pairs_with files file)
