-- What a reader promises of a text that it refuses.
use Rattle.std.specs.Prelude.{ℕ, List}
use Rattle.syntax_trees.specs.declared.fault.SyntaxFault.{SyntaxFault}
use Rattle.syntax_trees.specs.declared.fault.SyntaxFault.TheVariants.{Ended, Stray, Deep, Doubled, Memory}
use Rattle.syntax_trees.specs.declared.file.File.{File}
use Rattle.syntax_trees.specs.Trees.{IsTextOf}

-- the bytes are the text of no file
abbrev pub IsNoFile : List ℕ → Type 0
IsNoFile bytes = (file : File) → ¬ (IsTextOf bytes file)

-- but for want of memory, the bytes are the text of no file
abbrev pub IsRefused : List ℕ → SyntaxFault → Type 0
IsRefused bytes Memory = Unit {0}
IsRefused bytes (Ended at) = IsNoFile bytes
IsRefused bytes (Stray at) = IsNoFile bytes
IsRefused bytes (Deep at) = IsNoFile bytes
IsRefused bytes (Doubled at) = IsNoFile bytes
