-- Texts that are joined, one after another.
use Rattle.std.proofs.Common.{◌≡◌, ℕ, ◌≤◌, ◌-◌, List, [], ◌∷◌, ◌++◌, length, get_or, take, drop, map, sym, ap, ◌∙◌, arith}
use Rattle.std.proofs.lemmas.List.{append_assoc, append-nil, take_all}
use Rattle.syntax_trees.specs.declared.tree.Node.{Node}
use Rattle.opam_syntax.specs.Spelling.{joined_by, value_text}

-- each of them with what stands before it
abbrev pub followed : List ℕ → List (List ℕ) → List ℕ
followed between [] = []
followed between (text ∷ more) = between ++ text ++ followed between more

pub joined_followed : (between text : List ℕ) (more : List (List ℕ)) → joined_by between (text ∷ more) ≡ text ++ followed between more
joined_followed between text [] = sym (append-nil text)
joined_followed between text (next ∷ more) =
    ap (λ l. (text ++ between) ++ l) (joined_followed between next more) ∙ append_assoc text between (next ++ followed between more)
    ∙ ap (λ l. text ++ l) (sym (append_assoc between next (followed between more)))

-- the first is printed, and the others are left
pub first_is_printed : (between before out : List ℕ) (nodes : List Node) (first : Node) → 1 ≤ length nodes → first ≡ get_or nodes 0 first
    → out ≡ before ++ value_text first
    → out ++ followed between (map value_text (drop 0 (take (length nodes - 1) (drop 1 nodes)))) ≡ before ++ joined_by between (map value_text nodes)
first_is_printed between before out [] first l e p = absurd (omega arith)
first_is_printed between before out (node ∷ more) first l e p =
    let all : take (length (node ∷ more) - 1) more ≡ more = take_all (length (node ∷ more) - 1) more (omega arith) in
    let texts = map value_text more in
    ap (λ rest. out ++ followed between (map value_text rest)) all
    ∙ ap (λ o. o ++ followed between texts) (p ∙ ap (λ n. before ++ value_text n) e)
    ∙ append_assoc before (value_text node) (followed between texts)
    ∙ ap (λ l. before ++ l) (sym (joined_followed between (value_text node) texts))
