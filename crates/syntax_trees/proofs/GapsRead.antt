-- How comments are read.
use Rattle.std.proofs.Common.{◌≡◌, ℕ, ◌+◌, ◌<◌, true, List, [], ◌∷◌, length, drop, get_or, sym, ap, ◌∙◌, arith}
use Rattle.std.proofs.lemmas.List.{drop-drop}
use Rattle.syntax_trees.specs.Signs.{begins_with}
use Rattle.syntax_trees.specs.Tokens.{Gap, after_comment}
use Rattle.syntax_trees.proofs.WordsAgain.{enter}
use Rattle.syntax_trees.proofs.WordsRead.{drop_step}

pub comment_found : (bytes : List ℕ) (at : ℕ) → at < length bytes → get_or bytes at 0 ≡ 42 → begins_with (41 ∷ []) (drop (at + 1) bytes) ≡ true
    → after_comment bytes ≡ after_comment (drop at bytes) → Gap (drop (at + 2) bytes) ≡ after_comment bytes
comment_found bytes at l e h so_far =
    let rest = drop (at + 1) bytes in
    let next : (at + 1) + 1 ≡ at + 2 = omega arith in
    sym (
    so_far ∙ ap after_comment (drop_step bytes at l ∙ ap (λ b. b ∷ rest) e)
    ∙ enter _ _ _ h
    ∙ ap (λ r. Gap r) (drop-drop 1 (at + 1) bytes ∙ ap (λ n. drop n bytes) next))
