use Rattle.std.proofs.Common.{◌≡◌, ◌<◌, true, length, ap, arith, rules}
use Rattle.syntax_trees.specs.Parsing.{next_is_lone}
use Rattle.syntax_trees.proofs.ParsedLevels.{lone_ends, lone_parsed}
use Rattle.syntax_trees.proofs.values.lone_atom.Goals as goal

pub returns-in-Atom : goal.returns-in-Atom
returns-in-Atom c =
    let tokens = c.args.tokens.now in
    let next = c.in-Some.field-0 in
    let lone : next_is_lone c.args.tokens.now ≡ true = search rules in
    let ends = lone_ends next.token next.span tokens c.take.new.self c.in-Some.ensures lone in
    let shorter : length c.take.new.self < length c.args.tokens.now = omega (arith, ap length c.in-Some.ensures) in
    (lone_parsed tokens c.take.new.self next.token c.in-Atom.value next.span c.in-Some.ensures c.in-Atom.ensures ends.1, shorter)
