-- The text of a summary, joined from the right as a format writes it, is that of the definition.
use Rattle.std.proofs.Common.{◌≡◌, ◌++◌, ap, ℕ, List, append_assoc}
use Rattle.std.specs.Prelude.{Bool, codes, count_by, decimal}
use Rattle.opam_top.specs.declared.decision.Decision.{Decision}
use Rattle.opam_top.specs.Reports.{is_aborted, is_failed, is_installed, is_removed, summary}

-- four numbers, each with the words after it
join_pieces : (a x b y c z d w : List ℕ) → a ++ (x ++ (b ++ (y ++ (c ++ (z ++ (d ++ w)))))) ≡ a ++ x ++ b ++ y ++ c ++ z ++ d ++ w
join_pieces a x b y c z d w = simp (append_assoc)

-- what a format writes for these counts
abbrev pub written : ℕ → ℕ → ℕ → ℕ → List ℕ
written installed removed failed aborted =
    codes "done: " ++ (decimal installed ++ (codes " installed, " ++ (decimal removed ++ (codes " removed, " ++ (decimal failed ++ (codes " failed, " ++ (decimal aborted ++ codes " aborted\n")))))))

pub written_summary : (decisions : List Decision) (installed removed failed aborted : ℕ) → installed ≡ count_by is_installed decisions → removed ≡ count_by is_removed decisions → failed ≡ count_by is_failed decisions → aborted ≡ count_by is_aborted decisions → written installed removed failed aborted ≡ summary decisions
written_summary decisions installed removed failed aborted i r f a =
    let n = λ (test : Decision → Bool). decimal (count_by test decisions) in
    rw (i, r, f, a) (ap (λ (text : List ℕ). codes "done: " ++ text) (join_pieces (n is_installed) (codes " installed, ") (n is_removed) (codes " removed, ") (n is_failed) (codes " failed, ") (n is_aborted) (codes " aborted\n")))
