-- Where a file has no fault, the field of a name has none.
use Rattle.std.proofs.Common.{◌≡◌, ℕ, Bool, true, false, bytes_eq, if◌then◌else◌, List, [], ◌∷◌, refl, subst}
use Rattle.std.specs.declared.option.Option.{Option}
use Rattle.std.specs.declared.option.Option.TheVariants.{Some}
use Rattle.std.proofs.lemmas.Slice.Eq.{bytes_eq-Decides}
use Rattle.opam_names.specs.declared.packages.Pkg.{Pkg}
use Rattle.syntax_trees.specs.Files.{Contents, FieldContents, SectionContents}
use Rattle.syntax_trees.specs.declared.tree.Node.{Node}
use Rattle.opam_package.specs.declared.fault.PackageFault.{PackageFault}
use Rattle.opam_package.specs.FieldFaults.{field_faults, file_faults, item_faults}
use Rattle.opam_package.specs.Fields.{FileItems, field_of, listed, or_later}
use Rattle.opam_package.proofs.Sound.{empty_left, empty_right}

-- the faults of the field of this name
abbrev faults_at : Pkg → List ℕ → Option Node → List PackageFault
faults_at pkg name node = listed (field_faults pkg name) node

-- of one item and the later ones
item_sound : (pkg : Pkg) (name found : List ℕ) (contents : Contents) (later : Option Node)
    → item_faults pkg found contents ≡ [] → faults_at pkg name later ≡ [] → faults_at pkg name (or_later name found contents later) ≡ []
item_sound pkg name found (SectionContents fields) later here there = there
item_sound pkg name found (FieldContents value) later here there = by (bytes_eq found name) refl
  where
    by : (t : Bool) → bytes_eq found name ≡ t → faults_at pkg name (if t then Some value else later) ≡ []
    by true is =
        let same : found ≡ name = (bytes_eq-Decides found name).0 is in
        let P : List ℕ → Type 0 = λ n. field_faults pkg n value ≡ [] in subst P same here
    by false is = there

pub field_sound : (pkg : Pkg) (name : List ℕ) (items : FileItems) → file_faults pkg items ≡ [] → listed (field_faults pkg name) (field_of name items) ≡ []
field_sound pkg name [] none = refl
field_sound pkg name (item ∷ more) none =
    item_sound pkg name item.0.name item.1 (field_of name more)
    (empty_left (item_faults pkg item.0.name item.1) (file_faults pkg more) none)
    (field_sound pkg name more (empty_right (item_faults pkg item.0.name item.1) (file_faults pkg more) none))
