-- This module is for private clauses. What is looked up of a package that may come back, and how the entries are searched.
use Rattle.std.specs.Prelude.{ℕ, List, [], ◌∷◌, ◌++◌, Bool, if◌then◌else◌}
use Rattle.std.specs.List.{list_any}
use Rattle.std.specs.Option.{option_or}
use Rattle.std.specs.declared.option.Option.{Option}
use Rattle.std.specs.declared.option.Option.TheVariants.{None, Some}
use Rattle.opam_names.specs.ByteOrders.{has_key, in_order_by, precedes}
use Rattle.journal_text.specs.Parts.{own_name}
use Rattle.opam_package.specs.declared.package.Member.{Member}
use Rattle.switch_state.specs.Sound.{member_pkg, name_of}
use Rattle.back_verdict.specs.Backs.{conflicts, is_needed_by, shares, why_class, why_conflict, why_late}
use Rattle.back_verdict.specs.declared.against.Against.{Against}
use Rattle.back_verdict.specs.declared.against.Against.TheVariants as against
use Rattle.back_verdict.specs.declared.against.Sought.{Sought}
use Rattle.back_verdict.specs.declared.why.Why.{Why}

-- an entry stands so against the package
abbrev pub stands_against : Against → Member → Member → Bool
stands_against against.Conflict old entry = conflicts old entry
stands_against against.Class old entry = shares old entry
stands_against against.Need old entry = is_needed_by old entry

-- texts in byte order
abbrev pub sorted_texts : List (List ℕ) → List (List ℕ)
sorted_texts texts = in_order_by own_name texts

-- what is looked up of the package: its classes in byte order, and itself alone
abbrev pub sought_of : Member → Sought
sought_of old = record { classes = sorted_texts old.package.classes; alone = member_pkg old ∷ [] }

-- one of the texts stands among others
abbrev pub has_one_of : List (List ℕ) → List (List ℕ) → Bool
has_one_of sorted texts = list_any (λ text. list_any (has_key own_name text) sorted) texts

-- the one with the lesser name, the first where both have one
abbrev pub lesser : Member → Option Member → Member
lesser entry None = entry
lesser entry (Some other) = if precedes (name_of other) (name_of entry) then other else entry

-- what single entries have against the package
abbrev pub why_against : List Member → Member → Option Why
why_against entries old = option_or (why_conflict entries old) (option_or (why_class entries old) (why_late entries old))
