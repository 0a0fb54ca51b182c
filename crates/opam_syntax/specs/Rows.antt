-- Worked rows: how files and values are spelled.
use Rattle.std.specs.Prelude.{◌≡◌, [], ◌∷◌, ◌++◌, true, codes, pos, negsuc}
use Rattle.std.specs.declared.option.Option.TheVariants.{None, Some}
use Rattle.syntax_trees.specs.declared.file.File.{File}
use Rattle.syntax_trees.specs.declared.tree.Node.{Node}
use Rattle.syntax_trees.specs.declared.tree.RelOp.TheVariants.{Ne}
use Rattle.syntax_trees.specs.declared.tree.EnvOp.TheVariants.{Before}
use Rattle.syntax_trees.specs.declared.tree.Value.TheOpen.{Value-F}
use Rattle.syntax_trees.specs.Files.{SectionContents}
use Rattle.syntax_trees.specs.Samples.{sample, spanned, word, text, int, conjoined, related}
use Rattle.syntax_trees.specs.Trees.{HasEntries}
use Rattle.opam_syntax.specs.Spelling.{file_text, item_text, value_text, quoted}

-- the canonical spelling of a file with the items of the sample
abbrev pub SampleIsPrinted : Type 0
SampleIsPrinted = (file : File) → HasEntries file sample → file_text file ≡ codes "a: [x \"y\" {>= \"2\"}]\n"

-- `!x & ?(true lib:y) | z != "1"`, and an update
abbrev pub any_value : Node
any_value =
    spanned (Value-F.Or (
    conjoined (
    spanned (Value-F.Not (word (codes "x") 1 2)) 0 2 ∷
    spanned (Value-F.Defined (spanned (Value-F.Group (
    spanned (Value-F.Flag true) 7 11 ∷
    spanned (Value-F.Ident (record { scope = Some (codes "lib"); name = codes "y" })) 12 17 ∷ [])) 6 18)) 5 18 ∷ []) 0 18 ∷
    related Ne (word (codes "z") 21 22) (text (codes "1") 26 29) 21 29 ∷ [])) 0 29

-- an update
abbrev pub update_value : Node
update_value = spanned (Value-F.Env Before (word (codes "PATH") 0 4) (text (codes "bin") 8 13)) 0 13

-- values of every kind, wherever they stand, and the two forms of a section
pub record ValuesArePrinted : Type 0 where
  pub integers : (value_text (int (pos 12) 0 2) ≡ codes "12") × (value_text (int (negsuc 4) 0 2) ≡ codes "-5")
  pub escapes : quoted (92 ∷ 34 ∷ 10 ∷ 9 ∷ 13 ∷ 39 ∷ 7 ∷ 127 ∷ 200 ∷ []) ≡ codes "\"\\\\\\\"\\n\\t\\r'\\007\\127" ++ 200 ∷ codes "\""
  pub connectives : value_text any_value ≡ codes "! x & ? (true lib:y) | z != \"1\""
  pub update : value_text update_value ≡ codes "PATH += \"bin\""
  pub section : item_text (record { name = codes "url"; section = true; label = None }) (SectionContents ((codes "src", text (codes "/s") 7 11) ∷ []))
      ≡ codes "url {\n  src: \"/s\"\n}\n"
  pub labelled : item_text (record { name = codes "s"; section = true; label = Some (codes "A") }) (SectionContents []) ≡ codes "s \"A\" {\n}\n"
