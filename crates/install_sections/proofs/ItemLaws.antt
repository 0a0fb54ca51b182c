-- The file of an item lies below the folder of its section.
use Rattle.std.proofs.Common.{◌≡◌, ℕ, ◌||◌, not, nat_lt, Bool, true, false, bytes_eq, codes, if◌then◌else◌, List, [], ◌∷◌, length, refl, sym, ap, ◌∙◌}
use Rattle.std.specs.declared.option.Option.{Option}
use Rattle.std.specs.declared.option.Option.TheVariants.{None, Some}
use Rattle.opam_names.specs.Paths.{is_above, is_relative_path, joined}
use Rattle.syntax_trees.specs.Signs.{begins_with}
use Rattle.syntax_trees.specs.declared.tree.Node.{Node}
use Rattle.syntax_trees.specs.declared.tree.Span.{Span}
use Rattle.syntax_trees.specs.declared.tree.Value.TheOpen.{Value-F}
use Rattle.install_sections.specs.declared.fault.InstallFault.{InstallFault}
use Rattle.install_sections.specs.declared.fault.InstallFault.TheVariants.{NotAnItem, Unsafe}
use Rattle.install_sections.specs.declared.placement.Placement.{Placement}
use Rattle.install_sections.specs.declared.placement.Verdict.{Verdict}
use Rattle.install_sections.specs.declared.placement.Verdict.TheVariants.{Places, Fails}
use Rattle.install_sections.specs.declared.sections.Layout.{Layout}
use Rattle.install_sections.specs.declared.sections.Layout.TheVariants.{Own, Shared, Pages}
use Rattle.install_sections.specs.declared.sections.Section.{Section}
use Rattle.install_sections.specs.InstallLaws.{StaysBelow}
use Rattle.install_sections.specs.Sections.{folder_of, folder_text, laid}
use Rattle.install_sections.specs.Targets.{chapter_folder, chapter_of, default_folder, laid_by_default}
use Rattle.install_sections.specs.Verdicts.{braced_verdict, pair_verdict, placed, placed_at, targeted, unmarked, untargeted, verdict, verdict_at}
use Rattle.install_sections.specs.Views.{Outside, outside, text_in}
use Rattle.install_sections.specs.WrittenPaths.{is_unsafe, last_part, safe_path, shortened}
use Rattle.install_sections.proofs.Below.{above_joined, above_twice, laid_apart}

-- the path of a text that is not unsafe is one
last_of_three : (a b c : Bool) → (a || b || not c) ≡ false → c ≡ true
last_of_three true b c is = absurd cc
last_of_three false true c is = absurd cc
last_of_three false false true is = refl
last_of_three false false false is = absurd cc

path_by : (text source : List ℕ) (t : Bool) → is_unsafe text ≡ t → (if t then None else Some (shortened text)) ≡ Some source → is_relative_path source ≡ true
path_by text source true is found = absurd cc
path_by text source false is found =
    let same : shortened text ≡ source = ap (λ (o : Option (List ℕ)). elim o [ None ↦ [] | Some bytes ↦ bytes ]) found in
    sym (ap is_relative_path same) ∙ last_of_three (begins_with (codes "/") text) (nat_lt 1024 (length text)) (is_relative_path (shortened text)) is

pub safe_is_path : (text source : List ℕ) → safe_path text ≡ Some source → is_relative_path source ≡ true
safe_is_path text source found = path_by text source (is_unsafe text) refl found

-- what a verdict that places says
abbrev pub Keeps : Section → List ℕ → Verdict → Type 0
Keeps section name v = (placement : Placement) → v ≡ Places placement → StaysBelow (folder_of section name) placement

abbrev pub source_of : Verdict → List ℕ
source_of (Places placement) = placement.src
source_of (Fails fault) = []

abbrev pub target_of : Verdict → List ℕ
target_of (Places placement) = placement.dst
target_of (Fails fault) = []

-- one that fails says nothing
fails_keep : (section : Section) (name : List ℕ) (fault : InstallFault) → Keeps section name (Fails fault)
fails_keep section name fault placement is = absurd cc

-- a file is placed where the whole path is one, and lies below the folder
placed_by : (section : Section) (name : List ℕ) (exec optional : Bool) (source path : List ℕ) (span : Span) (t : Bool) → is_relative_path path ≡ t
    → is_relative_path source ≡ true → (is_relative_path path ≡ true → is_above (folder_of section name) path ≡ true)
    → Keeps section name (placed_at exec optional source (if t then Some path else None) span)
placed_by section name exec optional source path span false test sound above placement is = absurd cc
placed_by section name exec optional source path span true test sound above placement is =
    let src : source ≡ placement.src = ap source_of is in
    let dst : path ≡ placement.dst = ap target_of is in
    let apart = laid_apart section.folder section.layout name path (above test) in
    record {
      source = sym (ap is_relative_path src) ∙ sound;
      path = sym (ap is_relative_path dst) ∙ test;
      below = sym (ap (is_above (folder_of section name)) dst) ∙ above test;
      apart = sym (ap (is_above (codes ".opam-switch")) dst) ∙ apart.0;
      other = sym (ap (λ p. bytes_eq p (codes ".opam-switch")) dst) ∙ apart.1;
    }

pub placed_keeps : (section : Section) (name : List ℕ) (exec optional : Bool) (source folder below : List ℕ) (span : Span) → is_relative_path source ≡ true
    → (is_relative_path (joined folder below) ≡ true → is_above (folder_of section name) (joined folder below) ≡ true)
    → Keeps section name (placed exec optional source folder below span)
placed_keeps section name exec optional source folder below span sound above =
    placed_by section name exec optional source (joined folder below) span (is_relative_path (joined folder below)) refl sound above

chapter_above : (folder below : List ℕ) (chapter : Option ℕ) → is_relative_path (joined (chapter_folder folder chapter) below) ≡ true
    → is_above folder (joined (chapter_folder folder chapter) below) ≡ true
chapter_above folder below None h = above_joined folder below h
chapter_above folder below (Some chapter) h = above_twice folder below 109 (97 ∷ 110 ∷ chapter ∷ [])

default_above : (layout : Layout) (folder name file below : List ℕ) → is_relative_path (joined (laid_by_default layout folder name file) below) ≡ true
    → is_above (laid layout folder name) (joined (laid_by_default layout folder name file) below) ≡ true
default_above Own folder name file below h = above_joined (joined folder name) below h
default_above Shared folder name file below h = above_joined folder below h
default_above Pages folder name file below h = chapter_above folder below (chapter_of file) h

untargeted_keeps : (section : Section) (name : List ℕ) (optional : Bool) (found : Option (List ℕ)) (span : Span)
    → ((source : List ℕ) → found ≡ Some source → is_relative_path source ≡ true) → Keeps section name (untargeted section name optional found span)
untargeted_keeps section name optional None span sound = fails_keep section name (Unsafe span)
untargeted_keeps section name optional (Some source) span sound =
    placed_keeps section name section.exec optional source (default_folder section name (last_part source)) (last_part source) span (sound source refl)
    (default_above section.layout (folder_text section.folder) name (last_part source) (last_part source))

targeted_keeps : (section : Section) (name : List ℕ) (optional : Bool) (found : Option (List ℕ)) (span : Span) (target : Option (List ℕ)) (at : Span)
    → ((source : List ℕ) → found ≡ Some source → is_relative_path source ≡ true) → Keeps section name (targeted section name optional found span target at)
targeted_keeps section name optional None span None at sound = fails_keep section name (Unsafe span)
targeted_keeps section name optional None span (Some below) at sound = fails_keep section name (Unsafe span)
targeted_keeps section name optional (Some source) span None at sound = fails_keep section name (Unsafe at)
targeted_keeps section name optional (Some source) span (Some below) at sound =
    placed_keeps section name section.exec optional source (folder_of section name) below at (sound source refl) (above_joined (folder_of section name) below)

pair_keeps : (section : Section) (name : List ℕ) (before target : Node) (text below : Option (List ℕ)) (span : Span)
    → Keeps section name (pair_verdict section name before target text below span)
pair_keeps section name before target None None span = fails_keep section name (NotAnItem span)
pair_keeps section name before target None (Some below) span = fails_keep section name (NotAnItem span)
pair_keeps section name before target (Some text) None span = fails_keep section name (NotAnItem span)
pair_keeps section name before target (Some text) (Some below) span =
    targeted_keeps section name _ (safe_path (unmarked text)) before.span (safe_path below) target.span (safe_is_path (unmarked text))

braced_keeps : (section : Section) (name : List ℕ) (before : Node) (nodes : List Node) (span : Span) → Keeps section name (braced_verdict section name before nodes span)
braced_keeps section name before [] span = fails_keep section name (NotAnItem span)
braced_keeps section name before (target ∷ []) span = pair_keeps section name before target (text_in before) (text_in target) span
braced_keeps section name before (target ∷ next ∷ more) span = fails_keep section name (NotAnItem span)

value_keeps : (section : Section) (name : List ℕ) (value : Outside) (span : Span) → Keeps section name (verdict_at section name value span)
value_keeps section name (Value-F.Flag flag) span = fails_keep section name (NotAnItem span)
value_keeps section name (Value-F.Int number) span = fails_keep section name (NotAnItem span)
value_keeps section name (Value-F.Text text) span = untargeted_keeps section name _ (safe_path (unmarked text)) span (safe_is_path (unmarked text))
value_keeps section name (Value-F.Ident variable) span = fails_keep section name (NotAnItem span)
value_keeps section name (Value-F.List nodes) span = fails_keep section name (NotAnItem span)
value_keeps section name (Value-F.Group nodes) span = fails_keep section name (NotAnItem span)
value_keeps section name (Value-F.Braced before nodes) span = braced_keeps section name before nodes span
value_keeps section name (Value-F.Not value) span = fails_keep section name (NotAnItem span)
value_keeps section name (Value-F.Defined value) span = fails_keep section name (NotAnItem span)
value_keeps section name (Value-F.Rel op left right) span = fails_keep section name (NotAnItem span)
value_keeps section name (Value-F.PreRel op right) span = fails_keep section name (NotAnItem span)
value_keeps section name (Value-F.And nodes) span = fails_keep section name (NotAnItem span)
value_keeps section name (Value-F.Or nodes) span = fails_keep section name (NotAnItem span)
value_keeps section name (Value-F.Env op left right) span = fails_keep section name (NotAnItem span)

pub items_stay_below : (section : Section) (name : List ℕ) (node : Node) → Keeps section name (verdict section name node)
items_stay_below section name node = value_keeps section name (outside node) node.span
