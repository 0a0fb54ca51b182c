-- Truths that are joined one after another.
use Rattle.std.proofs.Common.{◌≡◌, refl}
use Rattle.opam_filter.specs.Truths.{both, either}
use Rattle.opam_filter.specs.declared.truth.Truth.{Truth}
use Rattle.opam_filter.specs.declared.truth.Truth.TheVariants.{Yes, No, Undefined}

-- `&` joins from the left as from the right
pub both_again : (a b c : Truth) → both (both a b) c ≡ both a (both b c)
both_again Yes b c = refl
both_again No b c = refl
both_again Undefined Yes c = refl
both_again Undefined No c = refl
both_again Undefined Undefined Yes = refl
both_again Undefined Undefined No = refl
both_again Undefined Undefined Undefined = refl

-- none more to join by `&`
pub both_yes : (a : Truth) → both a Yes ≡ a
both_yes Yes = refl
both_yes No = refl
both_yes Undefined = refl

-- `|` joins from the left as from the right
pub either_again : (a b c : Truth) → either (either a b) c ≡ either a (either b c)
either_again No b c = refl
either_again Yes b c = refl
either_again Undefined No c = refl
either_again Undefined Yes c = refl
either_again Undefined Undefined No = refl
either_again Undefined Undefined Yes = refl
either_again Undefined Undefined Undefined = refl

-- none more to join by `|`
pub either_no : (a : Truth) → either a No ≡ a
either_no Yes = refl
either_no No = refl
either_no Undefined = refl
