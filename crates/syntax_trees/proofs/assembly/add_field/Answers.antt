use Rattle.std.proofs.Common.{◌≡◌, false, ◌++◌, ◌∷◌, [], Result, None, Some, sym, subst, if◌then◌else◌}
use Rattle.std.specs.Prelude.{OnOk, IfErr, bytes_eq}
use Rattle.std.specs.List.{list_any}
use Rattle.indexmap.specs.IndexMap.{keys}
use Rattle.syntax_trees.specs.declared.fault.SyntaxFault.{SyntaxFault}
use Rattle.syntax_trees.specs.Assembly.{TellsDoubled}
use Rattle.syntax_trees.specs.Read.{field_of}
use Rattle.syntax_trees.proofs.Assembled.{absent, present, added, place_told}
use Rattle.syntax_trees.proofs.assembly.add_field.Goals as goal
use Rattle.syntax_trees.proofs.assembly.add_field.Goals.{in-None, in-Some}

pub returns-clause-single : goal.returns-clause-single
returns-clause-single c =
    let m = c.args.section.now in
    let f = c.args.field in
    let Says : Result (Unit {0}) SyntaxFault → Type 0 = λ r. OnOk r (list_any (bytes_eq f.name) (keys m) ≡ false) in
    elim c.match-branch-2.branch [
      | in-None w ↦ subst Says (sym w.result-is) (absent bytes_eq m f.name _ c.in_ok-insert.ensures.old w.in-None.is)
      | in-Some w ↦ subst Says (sym w.result-is) tt
    ]

pub returns-clause-fields : goal.returns-clause-fields
returns-clause-fields c =
    let m = c.args.section.now in
    let f = c.args.field in
    let Says : Result (Unit {0}) SyntaxFault → Type 0 = λ r. OnOk r (c.insert.new.self.entries ≡ m.entries ++ field_of f ∷ []) in
    elim c.match-branch-2.branch [
      | in-None w ↦ subst Says (sym w.result-is) (added bytes_eq m f.name f.value _ _ c.in_ok-insert.ensures.old w.in-None.is c.in_ok-insert.ensures.entries)
      | in-Some w ↦ subst Says (sym w.result-is) tt
    ]

pub returns-clause-err : goal.returns-clause-err
returns-clause-err c =
    let m = c.args.section.now in
    let f = c.args.field in
    let Says : Result (Unit {0}) SyntaxFault → Type 0 = λ r. IfErr r (TellsDoubled (if list_any (bytes_eq f.name) (keys m) then Some f.place else None)) in
    elim c.match-branch-2.branch [
      | in-None w ↦ subst Says (sym w.result-is) tt
      | in-Some w ↦ subst Says (sym w.result-is) (place_told _ f.place (present bytes_eq m f.name _ _ c.in_ok-insert.ensures.old w.in-Some.is))
    ]
