-- Laws of install files.
use Rattle.std.specs.Prelude.{◌≡◌, ℕ, ◌≤◌, List, length, false, codes, bytes_eq, nat_le, IsTrue}
use Rattle.std.specs.List.{All}
use Rattle.std.specs.declared.option.Option.TheVariants.{None, Some}
use Rattle.opam_names.specs.Names.{IsName}
use Rattle.opam_names.specs.Paths.{is_above, is_relative_path, joined}
use Rattle.opam_names.specs.declared.limits.TheConstants.{PATH_LIMIT}
use Rattle.syntax_trees.specs.declared.file.File.{File}
use Rattle.syntax_trees.specs.declared.tree.Node.{Node}
use Rattle.install_sections.specs.declared.limits.TheConstants.{ITEM_LIMIT}
use Rattle.install_sections.specs.declared.placement.Placement.{Placement}
use Rattle.install_sections.specs.declared.placement.Verdict.TheVariants.{Places}
use Rattle.install_sections.specs.declared.sections.Section.{Section}
use Rattle.install_sections.specs.InstallFaults.{first_fault}
use Rattle.install_sections.specs.Placements.{faults_in, placements_in}
use Rattle.install_sections.specs.Sections.{folder_of, section_of}
use Rattle.install_sections.specs.Targets.{default_folder}
use Rattle.install_sections.specs.Verdicts.{verdict}
use Rattle.install_sections.specs.WrittenPaths.{last_part}

-- the paths of a placement are paths, none of whose parts is `..`; the file lies below this folder, and neither is nor lies in the
-- folder of the switch itself
pub record StaysBelow (folder : List ℕ) (placement : Placement) : Type 0 where
  pub source : IsTrue (is_relative_path placement.src)
  pub path : IsTrue (is_relative_path placement.dst)
  pub below : IsTrue (is_above folder placement.dst)
  pub apart : is_above (codes ".opam-switch") placement.dst ≡ false
  pub other : bytes_eq placement.dst (codes ".opam-switch") ≡ false

-- the file of an item lies below the folder of its section
abbrev pub ItemsStayBelow : Type 0
ItemsStayBelow = (section : Section) (name : List ℕ) (node : Node) (placement : Placement)
    → verdict section name node ≡ Places placement → StaysBelow (folder_of section name) placement

-- each file of an install file lies below the folder of one of its sections
abbrev pub FilesStayBelow : Type 0
FilesStayBelow = (name : List ℕ) (file : File)
    → All (λ placement. (field : List ℕ) × (section : Section) × (section_of field ≡ Some section) × StaysBelow (folder_of section name) placement)
    (placements_in name file)

-- an install file without a fault places no more files than the limit
abbrev pub FilesAreLimited : Type 0
FilesAreLimited = (name : List ℕ) (file : File) → first_fault (faults_in name file) ≡ None → length (placements_in name file) ≤ ITEM_LIMIT

-- the whole path of an item with a destination
abbrev pub target_path : Section → List ℕ → List ℕ → List ℕ
target_path section name below = joined (folder_of section name) below

-- and of one without
abbrev pub kept_path : Section → List ℕ → List ℕ → List ℕ
kept_path section name source = joined (default_folder section name (last_part source)) (last_part source)

-- of a valid name and texts that are not unsafe, a whole path is refused exactly where it is longer than the limit
pub record OnlyLengthIsRefused : Type 0 where
  pub targeted : (section : Section) (name below : List ℕ) → IsName name → IsTrue (is_relative_path below)
      → is_relative_path (target_path section name below) ≡ nat_le (length (target_path section name below)) PATH_LIMIT
  pub kept : (section : Section) (name source : List ℕ) → IsName name → IsTrue (is_relative_path source)
      → is_relative_path (kept_path section name source) ≡ nat_le (length (kept_path section name source)) PATH_LIMIT
