-- The worked rows of the canonical spelling.
use Rattle.std.proofs.Common.{ℕ, List, ◌∷◌, ap, refl, ◌∙◌, lit<}
use Rattle.std.specs.List.{flat_map}
use Rattle.std.proofs.lemmas.Fmt.{decimal-digits_of}
use Rattle.syntax_trees.specs.declared.file.Key.{Key}
use Rattle.syntax_trees.specs.Files.{Contents}
use Rattle.opam_syntax.specs.Rows.{SampleIsPrinted, ValuesArePrinted}
use Rattle.opam_syntax.specs.Spelling.{item_text}
use Rattle.opam_syntax.proofs.PrintFolds.{text_at}

abbrev same_text : List (Key × Contents) → List ℕ
same_text items = flat_map (λ item. item_text item.0 item.1) items

pub sample_is_printed : SampleIsPrinted
sample_is_printed file has = ap same_text has.items ∙ simp text_at refl

pub values_are_printed : ValuesArePrinted
values_are_printed = record {
  integers = (simp text_at (decimal-digits_of 12 (lit< tt) (lit< tt)), simp text_at (ap (λ t. 45 ∷ t) (decimal-digits_of 5 (lit< tt) (lit< tt))));
  escapes = refl;
  connectives = simp text_at refl;
  update = simp text_at refl;
  section = simp text_at refl;
  labelled = refl;
}
