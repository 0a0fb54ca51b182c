-- Signs: brackets, colon, relations, updates and connectives (opam manual, file format: grammar). The longest one is taken.
use Rattle.std.specs.Prelude.{ℕ, List, [], ◌∷◌, length, drop, Bool, true, false, codes, ◌==◌, ◌&&◌, if◌then◌else◌}
use Rattle.std.specs.declared.option.Option.{Option}
use Rattle.std.specs.declared.option.Option.TheVariants.{None, Some}
use Rattle.syntax_trees.specs.declared.token.Token.{Token}
use Rattle.syntax_trees.specs.declared.token.Token.TheVariants.{Colon, OpenList, CloseList, OpenBraces, CloseBraces, OpenGroup, CloseGroup, Relation, Update, And, Or, Not, Defined}
use Rattle.syntax_trees.specs.declared.tree.RelOp.{RelOp}
use Rattle.syntax_trees.specs.declared.tree.RelOp.TheVariants.{Eq, Ne, Lt, Le, Gt, Ge}
use Rattle.syntax_trees.specs.declared.tree.EnvOp.{EnvOp}
use Rattle.syntax_trees.specs.declared.tree.EnvOp.TheVariants.{Set, Before, After, BeforeKeep, AfterKeep}

-- the signs of relations
abbrev pub relation_text : RelOp → List ℕ
relation_text Eq = codes "="
relation_text Ne = codes "!="
relation_text Lt = codes "<"
relation_text Le = codes "<="
relation_text Gt = codes ">"
relation_text Ge = codes ">="

-- the signs of updates; `=` is that of a relation too
abbrev pub update_text : EnvOp → List ℕ
update_text Set = codes "="
update_text Before = codes "+="
update_text After = codes "=+"
update_text BeforeKeep = codes ":="
update_text AfterKeep = codes "=:"

-- every sign with its text, longer ones first
abbrev pub signs : List (List ℕ × Token)
signs =
    (relation_text Ne, Relation Ne) ∷ (relation_text Le, Relation Le) ∷ (relation_text Ge, Relation Ge)
    ∷ (update_text Before, Update Before) ∷ (update_text After, Update After)
    ∷ (update_text BeforeKeep, Update BeforeKeep) ∷ (update_text AfterKeep, Update AfterKeep)
    ∷ (relation_text Eq, Relation Eq) ∷ (relation_text Lt, Relation Lt) ∷ (relation_text Gt, Relation Gt)
    ∷ (codes ":", Colon) ∷ (codes "[", OpenList) ∷ (codes "]", CloseList) ∷ (codes "{", OpenBraces)
    ∷ (codes "}", CloseBraces) ∷ (codes "(", OpenGroup) ∷ (codes ")", CloseGroup)
    ∷ (codes "&", And) ∷ (codes "|", Or) ∷ (codes "!", Not) ∷ (codes "?", Defined) ∷ []

-- the bytes begin with this text
abbrev pub begins_with : List ℕ → List ℕ → Bool
begins_with [] bytes = true
begins_with (x ∷ text) [] = false
begins_with (x ∷ text) (b ∷ bytes) = x == b && begins_with text bytes

-- the first of these signs that the bytes begin with, and what stands after it
abbrev pub sign_among : List (List ℕ × Token) → List ℕ → Option (Token × List ℕ)
sign_among [] bytes = None
sign_among (sign ∷ more) bytes =
    if begins_with sign.0 bytes then Some (sign.1, drop (length sign.0) bytes) else sign_among more bytes
