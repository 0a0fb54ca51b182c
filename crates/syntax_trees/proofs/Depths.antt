-- How deep a node is, from how deep its parts are.
use Rattle.std.proofs.Common.{◌≡◌, ◌+◌, max, List, [], ◌∷◌, ◌++◌, map, refl, subst, arith}
use Rattle.std.specs.declared.option.Option.TheVariants.{None, Some}
use Rattle.syntax_trees.specs.declared.token.Token.{Token}
use Rattle.syntax_trees.specs.declared.token.Token.TheVariants.{Flag, Int, Text, Plain, Scoped}
use Rattle.syntax_trees.specs.declared.tree.RelOp.{RelOp}
use Rattle.syntax_trees.specs.declared.tree.EnvOp.{EnvOp}
use Rattle.syntax_trees.specs.declared.tree.Span.{Span}
use Rattle.syntax_trees.specs.declared.tree.Node.{Node}
use Rattle.syntax_trees.specs.declared.tree.Value.{Value, roll-Value}
use Rattle.syntax_trees.specs.declared.tree.Value.TheOpen.{Value-F}
use Rattle.syntax_trees.specs.Grammar.{atom_of, node, last_span, all_of, any_of}
use Rattle.syntax_trees.specs.Nesting.{depth, most}
use Rattle.syntax_trees.proofs.Folds.{depth_at}

pub depth_list : (nodes : List Node) (from to : Span) → depth (node (Value-F.List nodes) from to) ≡ 1 + most (map depth nodes)
depth_list nodes from to = depth_at (Value-F.List nodes) (record { start = from.start; end = to.end })

pub depth_group : (nodes : List Node) (from to : Span) → depth (node (Value-F.Group nodes) from to) ≡ 1 + most (map depth nodes)
depth_group nodes from to = depth_at (Value-F.Group nodes) (record { start = from.start; end = to.end })

pub depth_braced : (before : Node) (nodes : List Node) (from to : Span)
    → depth (node (Value-F.Braced before nodes) from to) ≡ max (depth before) (1 + most (map depth nodes))
depth_braced before nodes from to = depth_at (Value-F.Braced before nodes) (record { start = from.start; end = to.end })

pub depth_not : (operand : Node) (from to : Span) → depth (node (Value-F.Not operand) from to) ≡ 1 + depth operand
depth_not operand from to = depth_at (Value-F.Not operand) (record { start = from.start; end = to.end })

pub depth_defined : (operand : Node) (from to : Span) → depth (node (Value-F.Defined operand) from to) ≡ 1 + depth operand
depth_defined operand from to = depth_at (Value-F.Defined operand) (record { start = from.start; end = to.end })

pub depth_rel : (op : RelOp) (left right : Node) (from to : Span)
    → depth (node (Value-F.Rel op left right) from to) ≡ max (depth left) (depth right)
depth_rel op left right from to = depth_at (Value-F.Rel op left right) (record { start = from.start; end = to.end })

pub depth_pre_rel : (op : RelOp) (right : Node) (from to : Span) → depth (node (Value-F.PreRel op right) from to) ≡ depth right
depth_pre_rel op right from to = depth_at (Value-F.PreRel op right) (record { start = from.start; end = to.end })

pub depth_env : (op : EnvOp) (left right : Node) (from to : Span)
    → depth (node (Value-F.Env op left right) from to) ≡ max (depth left) (depth right)
depth_env op left right from to = depth_at (Value-F.Env op left right) (record { start = from.start; end = to.end })

pub depth_all : (head : Node) (more : List Node) → depth (all_of head more) ≡ max (depth head) (most (map depth more))
depth_all head [] = omega arith
depth_all head (next ∷ more) =
    depth_at (Value-F.And (head ∷ next ∷ more)) (record { start = head.span.start; end = (last_span next more).end })

pub depth_any : (head : Node) (more : List Node) → depth (any_of head more) ≡ max (depth head) (most (map depth more))
depth_any head [] = omega arith
depth_any head (next ∷ more) =
    depth_at (Value-F.Or (head ∷ next ∷ more)) (record { start = head.span.start; end = (last_span next more).end })

the_same : {v w : Value} → Some v ≡ Some w → v ≡ w
the_same e = cc

none_some : {A B : Type 0} {x : A} → None ≡ Some x → B
none_some e = absurd cc

depth_shape : (shape : Value-F Value Node) (v : Value) (span : Span) → Some (roll-Value shape) ≡ Some v
    → depth (record { value = roll-Value shape; span = span }) ≡ 0 → depth (record { value = v; span = span }) ≡ 0
depth_shape shape v span e h = subst (λ w. depth (record { value = w; span = span }) ≡ 0) (the_same e) h

pub depth_atom : (token : Token) (v : Value) (span : Span) → atom_of token ≡ Some v → depth (record { value = v; span = span }) ≡ 0
depth_atom (Flag flag) v span e = depth_shape (Value-F.Flag flag) v span e (depth_at (Value-F.Flag flag) span)
depth_atom (Int number) v span e = depth_shape (Value-F.Int number) v span e (depth_at (Value-F.Int number) span)
depth_atom (Text bytes) v span e = depth_shape (Value-F.Text bytes) v span e (depth_at (Value-F.Text bytes) span)
depth_atom (Plain name) v span e =
    let shape : Value-F Value Node = Value-F.Ident (record { scope = None; name = name }) in depth_shape shape v span e (depth_at shape span)
depth_atom (Scoped scope name) v span e =
    let shape : Value-F Value Node = Value-F.Ident (record { scope = Some scope; name = name }) in depth_shape shape v span e (depth_at shape span)
depth_atom token v span e = none_some e

-- the span of the last of several nodes
pub last_span_more : (head : Node) (more : List Node) (last : Node) → last_span head (more ++ last ∷ []) ≡ last.span
last_span_more head [] last = refl
last_span_more head (next ∷ more) last = last_span_more next more last
