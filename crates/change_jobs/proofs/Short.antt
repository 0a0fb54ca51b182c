-- A package that was read from an opam text has few commands.
use Rattle.std.proofs.Common.{◌≡◌, ℕ, ◌≤◌, inl, inr, Bool, List, [], ◌∷◌, ◌++◌, length, sym, ap, refl, ◌∙◌, arith, subst, slice_get}
use Rattle.std.specs.Prelude.{bytes_eq, codes, if◌then◌else◌}
use Rattle.std.specs.List.{flat_map}
use Rattle.std.specs.declared.option.Option.{Option}
use Rattle.std.specs.declared.option.Option.TheVariants.{None, Some}
use Rattle.std.proofs.lemmas.Bool.{cases_Bool}
use Rattle.std.proofs.lemmas.List.{length-map}
use Rattle.syntax_trees.specs.Files.{Contents, FieldContents, SectionContents}
use Rattle.syntax_trees.specs.Trees.{items_of}
use Rattle.syntax_trees.specs.declared.tree.Node.{Node}
use Rattle.opam_names.proofs.ByteOrders.{equal_bytes}
use Rattle.opam_names.specs.declared.packages.Pkg.{Pkg}
use Rattle.opam_package.specs.Commands.{command_faults, command_nodes, command_of, commands_faults, commands_of, own_braces_faults, too_many_faults}
use Rattle.opam_package.specs.FieldFaults.{field_faults, file_faults, item_faults}
use Rattle.opam_package.specs.Fields.{FileItems, field_of, listed, or_later}
use Rattle.opam_package.specs.Packages.{commands_in}
use Rattle.opam_package.specs.declared.limits.TheConstants.{COMMAND_LIMIT}
use Rattle.opam_package.specs.declared.package.Package.{Package}
use Rattle.change_floor.proofs.Keeping.{none_past}
use Rattle.change_jobs.specs.PackageJobs.{PackagesAreShort}

none_in_parts : {X : Type 0} (xs ys : List X) → xs ++ ys ≡ [] → (xs ≡ []) × (ys ≡ [])
none_in_parts [] ys none = (refl, none)
none_in_parts (x ∷ xs) ys none = absurd cc

none_too_many : (o : Option Node) → too_many_faults o ≡ [] → o ≡ None
none_too_many None none = refl
none_too_many (Some node) none = absurd cc

-- the field is without faults where the file is
field_sound : (pkg : Pkg) (node : Node) (name : List ℕ) (contents : Contents) (later : Option Node) → item_faults pkg name contents ≡ [] → (later ≡ Some node → commands_faults node ≡ [])
    → or_later (codes "build") name contents later ≡ Some node → commands_faults node ≡ []
field_sound pkg node name (SectionContents fields) later none more is = more is
field_sound pkg node name (FieldContents value) later none more is = elim (cases_Bool (bytes_eq name (codes "build"))) [
  | inl on ↦
      (let found : Some value ≡ Some node = sym (ap (λ (b : Bool). if b then Some value else later) on) ∙ is in
      let same : value ≡ node = cc in
      let P : List ℕ → Type 0 = λ n. field_faults pkg n value ≡ [] in
      let Q : Node → Type 0 = λ n. commands_faults n ≡ [] in
      subst Q same (subst P (equal_bytes name (codes "build") on) none))
  | inr off ↦ more (sym (ap (λ (b : Bool). if b then Some value else later) off) ∙ is)
]

build_sound : (pkg : Pkg) (items : FileItems) (node : Node) → file_faults pkg items ≡ [] → field_of (codes "build") items ≡ Some node → commands_faults node ≡ []
build_sound pkg [] node none is = absurd cc
build_sound pkg (item ∷ items) node none is =
    let parts = none_in_parts (item_faults pkg item.0.name item.1) (file_faults pkg items) none in
    field_sound pkg node item.0.name item.1 (field_of (codes "build") items) parts.0 (λ found. build_sound pkg items node parts.1 found) is

few_in : (node : Node) → commands_faults node ≡ [] → length (commands_of node) ≤ COMMAND_LIMIT
few_in node none =
    let parts = none_in_parts (own_braces_faults node ++ flat_map command_faults (command_nodes node)) (too_many_faults (slice_get (command_nodes node) COMMAND_LIMIT)) none in
    let past = none_past (command_nodes node) COMMAND_LIMIT (none_too_many (slice_get (command_nodes node) COMMAND_LIMIT) parts.1) in
    omega (arith, past, length-map (command_nodes node) command_of)

few_read : (pkg : Pkg) (items : FileItems) → file_faults pkg items ≡ [] → length (commands_in items) ≤ COMMAND_LIMIT
few_read pkg items none = by (field_of (codes "build") items) refl
  where
    by : (o : Option Node) → field_of (codes "build") items ≡ o → length (listed commands_of o) ≤ COMMAND_LIMIT
    by None is = omega arith
    by (Some node) is = few_in node (build_sound pkg items node none is)

pub packages_are_short : PackagesAreShort
packages_are_short bytes pkg globals found is =
    let same : length found.commands ≡ length (commands_in (items_of is.file)) = ap (λ (p : Package). length p.commands) is.read in
    let limit : COMMAND_LIMIT ≡ 64 = refl in
    omega (arith, same, few_read pkg (items_of is.file) is.sound, limit)
