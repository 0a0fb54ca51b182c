-- In a sound file no error is found.
use Rattle.std.proofs.Common.{◌≡◌, ℕ, List, [], ◌∷◌, ◌++◌, Bool, true, false, ◌&&◌, cond, filter, fold, map, refl, sym, ap, ◌∙◌}
use Rattle.std.specs.Prelude.{bytes_eq, codes, drop, if◌then◌else◌, is_none}
use Rattle.std.specs.List.{list_any}
use Rattle.std.specs.declared.option.Option.{Option}
use Rattle.std.specs.declared.option.Option.TheVariants.{None, Some}
use Rattle.std.proofs.lemmas.List.Sorted.{list_any-IsPermutation}
use Rattle.opam_names.proofs.ByteOrders.{order_permutes}
use Rattle.syntax_trees.specs.Files.{Contents, FieldContents, SectionContents}
use Rattle.syntax_trees.specs.declared.file.Key.{Key}
use Rattle.syntax_trees.specs.declared.tree.Node.{Node}
use Rattle.syntax_trees.specs.declared.tree.Span.{Span}
use Rattle.opam_package.specs.FieldFaults.{file_faults, section_faults}
use Rattle.opam_package.specs.Fields.{FileItems, field_of, listed}
use Rattle.opam_package.specs.PackageFaults.{first_fault}
use Rattle.opam_package.specs.Packages.{is_refused, with_once}
use Rattle.opam_lint.specs.declared.finding.Problem.{Problem}
use Rattle.opam_lint.specs.declared.finding.Problem.TheVariants.{NoFormat, NoMaintainer, NoSynopsis, Refused, Unknown}
use Rattle.opam_lint.specs.EmptyCommands.{empty_commands}
use Rattle.opam_lint.specs.Findings.{all_findings, fault_findings, file_findings, finding, finding_key, first_start, is_refused_item, is_unknown_item, item_findings, items_findings, missing_findings, told_package}
use Rattle.opam_lint.specs.LintLaws.{IsSound}
use Rattle.opam_lint.proofs.EmptyQuiet.{Quiet, commands_quiet, joined_quiet}
use Rattle.opam_lint.proofs.SoundFiles.{refused_pair}
use Rattle.opam_lint.specs.FindingTexts.{is_error}

-- ---- no name is told, so no item is refused

one_more : (first name : List ℕ) (names more : List (List ℕ)) (b : Bool) → ((others : List (List ℕ)) → fold with_once (first ∷ others) more ≡ [] → ⊥)
    → fold with_once (if b then first ∷ names else first ∷ names ++ name ∷ []) more ≡ [] → ⊥
one_more first name names more true later e = later names e
one_more first name names more false later e = later (names ++ name ∷ []) e

stays : (first : List ℕ) (names more : List (List ℕ)) → fold with_once (first ∷ names) more ≡ [] → ⊥
stays first names [] e = absurd cc
stays first names (name ∷ more) e = one_more first name names more (list_any (bytes_eq name) (first ∷ names)) (λ others f. stays first others more f) e

none_added : (names : List (List ℕ)) → fold with_once [] names ≡ [] → names ≡ []
none_added [] e = refl
none_added (name ∷ more) e = absurd (stays name [] more e)

unmapped : (kept : List (Key × Contents)) → map (λ (item : Key × Contents). item.0.name) kept ≡ [] → kept ≡ []
unmapped [] e = refl
unmapped (item ∷ kept) e = absurd cc

-- of items that pass no test the first passes it not, and no later one
none_first : (item : Key × Contents) (kept : List (Key × Contents)) (b : Bool) → cond b (item ∷ kept) kept ≡ [] → (b ≡ false) × (kept ≡ [])
none_first item kept true e = absurd cc
none_first item kept false e = (refl, e)

-- ---- what is found of items that are not refused is no error

missing_quiet : (code : ℕ) (problem : Problem) → is_error (finding code 0 problem) ≡ false → (b : Bool) → Quiet (if b then finding code 0 problem ∷ [] else [])
missing_quiet code problem mild true = rw mild refl
missing_quiet code problem mild false = refl

unknown_quiet : (at : ℕ) (b : Bool) → Quiet (if b then finding 21 at Unknown ∷ [] else [])
unknown_quiet at true = refl
unknown_quiet at false = refl

refused_quiet : (at : ℕ) (b : Bool) → b ≡ false → Quiet (if b then finding 5 at Refused ∷ [] else [])
refused_quiet at true e = absurd cc
refused_quiet at false e = refl

not_besides : (b c : Bool) → b ≡ false → (b && c) ≡ false
not_besides true c e = absurd cc
not_besides false c e = refl

accepted_besides : (name : List ℕ) (contents : Contents) → is_refused name contents ≡ false → is_refused_item name contents ≡ false
accepted_besides name (FieldContents value) e = e
accepted_besides name (SectionContents fields) e = not_besides (is_refused name (SectionContents fields)) (is_none (first_fault (section_faults name fields))) e

item_quiet : (name : List ℕ) (contents : Contents) (at : ℕ) → is_refused name contents ≡ false → Quiet (item_findings name contents at)
item_quiet name contents at e =
    joined_quiet (if is_refused_item name contents then finding 5 at Refused ∷ [] else []) (if is_unknown_item name contents then finding 21 at Unknown ∷ [] else [])
    (refused_quiet at (is_refused_item name contents) (accepted_besides name contents e))
    (unknown_quiet at (is_unknown_item name contents))

items_quiet : (items : FileItems) (places : List Span) → filter refused_pair items ≡ [] → Quiet (items_findings items places)
items_quiet [] places e = refl
items_quiet (item ∷ items) places e =
    let parts = none_first item (filter refused_pair items) (refused_pair item) e in
    joined_quiet (item_findings item.0.name item.1 (first_start places)) (items_findings items (drop 1 places))
    (item_quiet item.0.name item.1 (first_start places) parts.0)
    (items_quiet items (drop 1 places) parts.1)

commands_listed_quiet : (told : Option Node) → Quiet (listed empty_commands told)
commands_listed_quiet None = refl
commands_listed_quiet (Some node) = commands_quiet node

pub no_errors : (items : FileItems) (places : List Span) → IsSound items → Quiet (file_findings items places)
no_errors items places sound =
    let faults = fault_findings (first_fault (file_faults (told_package items) items)) in
    let format = missing_findings (codes "opam-version") 4 NoFormat items in
    let each = items_findings items places in
    let synopsis = missing_findings (codes "synopsis") 22 NoSynopsis items in
    let maintainer = missing_findings (codes "maintainer") 23 NoMaintainer items in
    let commands = listed empty_commands (field_of (codes "build") items) in
    let none : filter refused_pair items ≡ [] = unmapped (filter refused_pair items) (none_added (map (λ (item : Key × Contents). item.0.name) (filter refused_pair items)) sound.accepted) in
    let a : Quiet faults = ap (λ told. list_any is_error (fault_findings (first_fault told))) sound.faultless in
    let b : Quiet format = ap (λ t. list_any is_error (if t then finding 4 0 NoFormat ∷ [] else [])) sound.format in
    let c = joined_quiet (faults ++ format) each (joined_quiet faults format a b) (items_quiet items places none) in
    let d = joined_quiet (faults ++ format ++ each) synopsis c (missing_quiet 22 NoSynopsis refl (is_none (field_of (codes "synopsis") items))) in
    let e = joined_quiet (faults ++ format ++ each ++ synopsis) maintainer d (missing_quiet 23 NoMaintainer refl (is_none (field_of (codes "maintainer") items))) in
    let all = joined_quiet (faults ++ format ++ each ++ synopsis ++ maintainer) commands e (commands_listed_quiet (field_of (codes "build") items)) in
    sym (list_any-IsPermutation is_error (all_findings items places) (file_findings items places) (order_permutes finding_key (all_findings items places))) ∙ all
