-- Words of private clauses: what was read so far, as a chase.
use Rattle.std.specs.Prelude.{◌≡◌}
use Rattle.lock_check.specs.Chased.{Chased}
use Rattle.lock_check.specs.Chasing.{Stands}
use Rattle.lock_check.specs.declared.progress.Progress.{Progress}
use Rattle.lock_check.specs.declared.progress.Sources.{Sources}

-- what is seen of it
abbrev pub chased_with : Sources → Progress → Chased
chased_with sources progress = record {
  installed = sources.installed;
  bound = sources.bound;
  asked = sources.asked;
  known = progress.known.items;
  unknown = progress.unknown;
  needed = progress.needed.keys;
}

-- what is always so
abbrev pub StandsWith : Sources → Progress → Type 0
StandsWith sources progress = Stands (chased_with sources progress) progress.waiting.keys progress.count

-- what was read stays, and the count
pub record IsKept (before now : Progress) : Type 0 where
  pub same_known : now.known.items ≡ before.known.items
  pub same_unknown : now.unknown ≡ before.unknown
  pub same_count : now.count ≡ before.count
