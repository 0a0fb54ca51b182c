-- What holds of every change. This project's own.
use Rattle.std.specs.Prelude.{◌≡◌, List, count_by, length, map}
use Rattle.opam_names.specs.declared.packages.Pkg.{Pkg}
use Rattle.opam_top.specs.Reports.{is_installed}
use Rattle.opam_top.specs.declared.decision.Decision.{Decision}
use Rattle.opam_top.specs.declared.decision.Decision.TheVariants.{Installed, Removed, Failed, Aborted}
use Rattle.outside_io.specs.Shops.{Told}
use Rattle.outside_io.specs.declared.workshop.Fate.{Fate}
use Rattle.opam_top.specs.Outcomes.{Outcome, outcome}
use Rattle.opam_top.specs.Switches.{Switch}
use Rattle.opam_top.specs.declared.member.Member.{Member}

-- the package that a decision is of
abbrev pub pkg_of : Decision → Pkg
pkg_of (Installed pkg) = pkg
pkg_of (Removed pkg) = pkg
pkg_of (Failed pkg reason) = pkg
pkg_of (Aborted pkg need) = pkg

-- the package of a member
abbrev pub member_pkg : Member → Pkg
member_pkg member = member.pkg

-- the package whose job was heard
abbrev pub heard_pkg : Pkg × Fate → Pkg
heard_pkg heard = heard.0

-- each package is decided and its job heard, once and in their order, and each installed one has a record
pub record IsWhole (o : Outcome) (members : List Member) : Type 0 where
  pub decisions : map pkg_of o.decisions ≡ map member_pkg members
  pub heard : map heard_pkg o.heard ≡ map member_pkg members
  pub records : length o.records ≡ count_by is_installed o.decisions

-- that holds of the outcome over every switch, whatever the workshop tells
abbrev pub EachIsDecided : Type 0
EachIsDecided = (told : Told) (switch : Switch) (members : List Member) → IsWhole (outcome told switch members) members
