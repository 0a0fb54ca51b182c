-- Which faults are told of tokens alone. This project's own.
use Rattle.syntax_trees.specs.declared.fault.SyntaxFault.{SyntaxFault}
use Rattle.syntax_trees.specs.declared.fault.SyntaxFault.TheVariants.{Ended, Stray, Deep, Doubled, Memory}

-- it is no want of memory, and no name that stands twice
abbrev pub IsToldFault : SyntaxFault → Type 0
IsToldFault (Ended at) = Unit {0}
IsToldFault (Stray at) = Unit {0}
IsToldFault (Deep at) = Unit {0}
IsToldFault (Doubled at) = ⊥
IsToldFault Memory = ⊥
