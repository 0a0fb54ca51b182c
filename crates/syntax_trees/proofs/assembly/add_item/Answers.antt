use Rattle.std.proofs.Common.{◌≡◌, false, ◌++◌, ◌∷◌, [], Result, None, Some, sym, subst, ◌∙◌, if◌then◌else◌}
use Rattle.std.specs.Prelude.{OnOk, IfErr}
use Rattle.std.specs.List.{list_any}
use Rattle.indexmap.specs.IndexMap.{keys}
use Rattle.syntax_trees.specs.contracts.file.KeyPartialEq.TheImpl as derived
use Rattle.syntax_trees.specs.declared.fault.SyntaxFault.{SyntaxFault}
use Rattle.syntax_trees.specs.Assembly.{TellsDoubled}
use Rattle.syntax_trees.specs.Doubles.{key_eq}
use Rattle.syntax_trees.proofs.Assembled.{absent, present, added, place_told, same_any}
use Rattle.syntax_trees.proofs.assembly.add_item.Goals as goal
use Rattle.syntax_trees.proofs.assembly.add_item.Goals.{in-None, in-Some}

pub returns-clause-key : goal.returns-clause-key
returns-clause-key c =
    let m = c.args.items.now in
    let k = c.args.key in
    let Says : Result (Unit {0}) SyntaxFault → Type 0 = λ r. OnOk r (list_any (key_eq k) (keys m) ≡ false) in
    elim c.match-branch-2.branch [
      | in-None w ↦ subst Says (sym w.result-is) (sym (same_any k (keys m)) ∙ absent (derived.eq-value).it m k _ c.in_ok-insert.ensures.old w.in-None.is)
      | in-Some w ↦ subst Says (sym w.result-is) tt
    ]

pub returns-clause-entries : goal.returns-clause-entries
returns-clause-entries c =
    let m = c.args.items.now in
    let k = c.args.key in
    let Says : Result (Unit {0}) SyntaxFault → Type 0 = λ r. OnOk r (c.insert.new.self.entries ≡ m.entries ++ (k, c.args.item) ∷ []) in
    elim c.match-branch-2.branch [
      | in-None w ↦ subst Says (sym w.result-is) (added (derived.eq-value).it m k c.args.item _ _ c.in_ok-insert.ensures.old w.in-None.is c.in_ok-insert.ensures.entries)
      | in-Some w ↦ subst Says (sym w.result-is) tt
    ]

pub returns-clause-err : goal.returns-clause-err
returns-clause-err c =
    let m = c.args.items.now in
    let k = c.args.key in
    let Says : Result (Unit {0}) SyntaxFault → Type 0 = λ r. IfErr r (TellsDoubled (if list_any (key_eq k) (keys m) then Some c.args.place else None)) in
    elim c.match-branch-2.branch [
      | in-None w ↦ subst Says (sym w.result-is) tt
      | in-Some w ↦ subst Says (sym w.result-is)
          (place_told _ c.args.place (sym (same_any k (keys m)) ∙ present (derived.eq-value).it m k _ _ c.in_ok-insert.ensures.old w.in-Some.is))
    ]
