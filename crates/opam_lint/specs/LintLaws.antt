-- Laws of findings.
use Rattle.std.specs.Prelude.{◌≡◌, ◌↔◌, ℕ, List, [], false, codes, is_none}
use Rattle.std.specs.List.{list_any}
use Rattle.opam_names.specs.ByteOrderLaws.{OrderIsStable}
use Rattle.syntax_trees.specs.Trees.{IsTextOf, items_of}
use Rattle.syntax_trees.specs.declared.file.File.{File}
use Rattle.syntax_trees.specs.declared.tree.Span.{Span}
use Rattle.opam_package.specs.FieldFaults.{file_faults}
use Rattle.opam_package.specs.Fields.{FileItems, field_of}
use Rattle.opam_package.specs.Packages.{refused_names}
use Rattle.opam_lint.specs.Findings.{file_findings, finding_key, told_package}
use Rattle.opam_lint.specs.FindingTexts.{is_error}

-- what is put into the order of findings has the same elements, never falls by place and code, and no other list is so
abbrev pub FindingsAreOrdered : Type 0
FindingsAreOrdered = OrderIsStable finding_key

-- whatever file a text is read as, the findings are the same
abbrev pub FindingsAreDetermined : Type 0
FindingsAreDetermined = (bytes : List ℕ) (one other : File) → IsTextOf bytes one → IsTextOf bytes other
    → file_findings (items_of one) one.places ≡ file_findings (items_of other) other.places

-- a file has no fault, its package is refused for none of its items, and it says of which format it is
pub record IsSound (items : FileItems) : Type 0 where
  pub faultless : file_faults (told_package items) items ≡ []
  pub accepted : refused_names items ≡ []
  pub format : is_none (field_of (codes "opam-version") items) ≡ false

-- just in such files no error is found
abbrev pub ErrorsAreExact : Type 0
ErrorsAreExact = (items : FileItems) (places : List Span) → (list_any is_error (file_findings items places) ≡ false) ↔ IsSound items
