-- Truths of three values, and what a value is as a truth (opam manual, filters).
use Rattle.std.specs.Prelude.{ℕ, List, [], ◌∷◌, Bool, true, false, codes, bytes_eq, if◌then◌else◌}
use Rattle.std.specs.declared.cmp.Ordering.{Ordering}
use Rattle.std.specs.declared.cmp.Ordering.TheVariants.{Less, Equal, Greater}
use Rattle.std.specs.declared.option.Option.{Option}
use Rattle.std.specs.declared.option.Option.TheVariants.{None, Some}
use Rattle.opam_names.specs.Orders.{text_order}
use Rattle.syntax_trees.specs.declared.tree.RelOp.{RelOp}
use Rattle.syntax_trees.specs.declared.tree.RelOp.TheVariants.{Eq, Ne, Lt, Le, Gt, Ge}
use Rattle.opam_filter.specs.declared.truth.Truth.{Truth}
use Rattle.opam_filter.specs.declared.truth.Truth.TheVariants.{Yes, No, Undefined}
use Rattle.opam_filter.specs.declared.truth.VarValue.{VarValue}
use Rattle.opam_filter.specs.declared.truth.VarValue.TheVariants.{Flag, Text}

-- `&`: No where a side is No, else Undefined where a side is Undefined, else Yes
abbrev pub both : Truth → Truth → Truth
both Yes other = other
both No other = No
both Undefined Yes = Undefined
both Undefined No = No
both Undefined Undefined = Undefined

-- `|`: Yes where a side is Yes, else Undefined where a side is Undefined, else No
abbrev pub either : Truth → Truth → Truth
either No other = other
either Yes other = Yes
either Undefined No = Undefined
either Undefined Yes = Yes
either Undefined Undefined = Undefined

-- `!`: Undefined stays
abbrev pub negated : Truth → Truth
negated Yes = No
negated No = Yes
negated Undefined = Undefined

-- of several, joined by `&`; none are Yes
abbrev pub all_of : List Truth → Truth
all_of [] = Yes
all_of (first ∷ more) = both first (all_of more)

-- of several, joined by `|`; none are No
abbrev pub any_of : List Truth → Truth
any_of [] = No
any_of (first ∷ more) = either first (any_of more)

-- a truth is Yes
abbrev pub is_yes : Truth → Bool
is_yes Yes = true
is_yes No = false
is_yes Undefined = false

-- a boolean as a truth
abbrev pub truth_of_flag : Bool → Truth
truth_of_flag true = Yes
truth_of_flag false = No

-- the texts `true` and `false` count as booleans, and no other text is a truth
abbrev pub truth_of_text : List ℕ → Truth
truth_of_text text =
    if bytes_eq text (codes "true") then Yes else (if bytes_eq text (codes "false") then No else Undefined)

-- what a value is as a truth
abbrev pub truth_of : Option VarValue → Truth
truth_of None = Undefined
truth_of (Some (Flag flag)) = truth_of_flag flag
truth_of (Some (Text text)) = truth_of_text text

-- what a truth is as a value
abbrev pub value_of : Truth → Option VarValue
value_of Yes = Some (Flag true)
value_of No = Some (Flag false)
value_of Undefined = None

-- a boolean is the word for it
abbrev pub word_of_flag : Bool → List ℕ
word_of_flag true = codes "true"
word_of_flag false = codes "false"

-- a value as a word
abbrev pub word_of : VarValue → List ℕ
word_of (Flag flag) = word_of_flag flag
word_of (Text text) = text

-- whether versions that stand in this order meet a sign
abbrev pub is_related : RelOp → Ordering → Bool
is_related Eq Equal = true
is_related Eq order = false
is_related Ne Equal = false
is_related Ne order = true
is_related Lt Less = true
is_related Lt order = false
is_related Le Greater = false
is_related Le order = true
is_related Gt Greater = true
is_related Gt order = false
is_related Ge Less = false
is_related Ge order = true

-- words are compared as versions; where a side is undefined, so is the relation
abbrev pub related : RelOp → Option VarValue → Option VarValue → Truth
related op None right = Undefined
related op (Some left) None = Undefined
related op (Some left) (Some right) = truth_of_flag (is_related op (text_order (word_of left) (word_of right)))
