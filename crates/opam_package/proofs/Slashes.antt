-- Parts that are put together one after another are joined by slashes.
use Rattle.std.proofs.Common.{◌≡◌, ℕ, Bool, true, false, cond, codes, if◌then◌else◌, List, [], ◌∷◌, ◌++◌, fold, filter, refl, sym, ap, ◌∙◌}
use Rattle.std.proofs.lemmas.List.{append_assoc, append-nil}
use Rattle.std.specs.List.{slice_split}
use Rattle.std.specs.List as list
use Rattle.opam_names.specs.Paths.{onto_first, parts, is_slash}
use Rattle.opam_package.specs.PartPaths.{put_behind, with_part}
use Rattle.opam_package.specs.Relatives.{counts, slashed}

-- parts with a `/` before each
abbrev led : List (List ℕ) → List ℕ
led [] = []
led (part ∷ more) = codes "/" ++ (part ++ led more)

slashed_led : (part : List ℕ) (more : List (List ℕ)) → slashed (part ∷ more) ≡ part ++ led more
slashed_led part [] = sym (append-nil part)
slashed_led part (next ∷ more) =
    ap (λ l. (part ++ codes "/") ++ l) (slashed_led next more) ∙ append_assoc part (codes "/") (next ++ led more)

-- where a part is there, each of the others that counts is led by a `/`
goes_on : (b : ℕ) (path : List ℕ) (more : List (List ℕ)) → fold with_part (b ∷ path) more ≡ (b ∷ path) ++ led (filter counts more)
goes_on b path [] = sym (append-nil (b ∷ path))
goes_on b path (part ∷ more) = by (counts part) (goes_on b (path ++ codes "/" ++ part) more) (goes_on b path more)
  where
    by : (t : Bool) → fold with_part (put_behind (b ∷ path) part) more ≡ put_behind (b ∷ path) part ++ led (filter counts more)
        → fold with_part (b ∷ path) more ≡ (b ∷ path) ++ led (filter counts more)
        → fold with_part (if t then put_behind (b ∷ path) part else b ∷ path) more
        ≡ (b ∷ path) ++ led (cond t (part ∷ filter counts more) (filter counts more))
    by true on same =
        on
        ∙ append_assoc ((b ∷ path) ++ codes "/") part (led (filter counts more))
        ∙ append_assoc (b ∷ path) (codes "/") (part ++ led (filter counts more))
    by false on same = same

-- parts that are put together one after another are joined by slashes
pub put_together : (all : List (List ℕ)) → fold with_part [] all ≡ slashed (filter counts all)
put_together [] = refl
put_together ([] ∷ more) = put_together more
put_together ((b ∷ part) ∷ more) = by (counts (b ∷ part)) (put_together more)
  where
    by : (t : Bool) → fold with_part [] more ≡ slashed (filter counts more) → fold with_part (if t then b ∷ part else []) more ≡ slashed (cond t ((b ∷ part) ∷ filter counts more) (filter counts more))
    by true rest = goes_on b part more ∙ sym (slashed_led (b ∷ part) (filter counts more))
    by false rest = rest

same_onto : (b : ℕ) (all : List (List ℕ)) → list.onto_first b all ≡ onto_first b all
same_onto b [] = refl
same_onto b (part ∷ more) = refl

-- std cuts a text at its slashes into the parts of a path
pub split_at_slash : (text : List ℕ) → slice_split is_slash text ≡ parts text
split_at_slash [] = refl
split_at_slash (b ∷ bytes) =
    ap (λ all. cond (is_slash b) ([] ∷ all) (list.onto_first b all)) (split_at_slash bytes)
    ∙ ap (λ all. cond (is_slash b) ([] ∷ parts bytes) all) (same_onto b (parts bytes))
