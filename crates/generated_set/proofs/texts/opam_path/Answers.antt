use Rattle.std.proofs.Common.{◌∙◌, ◌++◌, List, ℕ, ap, codes, rules}
use Rattle.std.proofs.lemmas.List.{append_assoc}
use Rattle.generated_set.proofs.texts.opam_path.Goals as goal

pub returns : goal.returns
returns c =
    c.in_ok-path.ensures.ok ∙ ap (λ (name : List ℕ). codes "./packages/" ++ (name ++ (codes "/" ++ (name ++ codes ".1/opam")))) c.in_ok-name.ensures
    ∙ search (rules, append_assoc)
