-- What comes of an item of a section (opam manual, package definitions: `.install` files): a text, or a text with one text in braces,
-- gives a file to be placed, unless a path is unsafe.
use Rattle.std.specs.Prelude.{ℕ, List, [], ◌∷◌, drop, Bool, codes, if◌then◌else◌}
use Rattle.std.specs.declared.option.Option.{Option}
use Rattle.std.specs.declared.option.Option.TheVariants.{None, Some}
use Rattle.opam_names.specs.Paths.{joined}
use Rattle.syntax_trees.specs.Signs.{begins_with}
use Rattle.syntax_trees.specs.declared.tree.Node.{Node}
use Rattle.syntax_trees.specs.declared.tree.Span.{Span}
use Rattle.syntax_trees.specs.declared.tree.Value.TheOpen.{Value-F}
use Rattle.install_sections.specs.declared.fault.InstallFault.TheVariants.{NotAnItem, Unsafe}
use Rattle.install_sections.specs.declared.placement.Verdict.{Verdict}
use Rattle.install_sections.specs.declared.placement.Verdict.TheVariants.{Places, Fails}
use Rattle.install_sections.specs.declared.sections.Section.{Section}
use Rattle.install_sections.specs.Sections.{folder_of}
use Rattle.install_sections.specs.Targets.{default_folder}
use Rattle.install_sections.specs.Views.{Outside, outside, text_in}
use Rattle.install_sections.specs.WrittenPaths.{last_part, path_in, safe_path}

-- a source that may be absent begins with `?`, which is no part of its path
abbrev pub is_optional : List ℕ → Bool
is_optional text = begins_with (codes "?") text

-- the text without the mark that says that its file may be missing
abbrev pub unmarked : List ℕ → List ℕ
unmarked text = if is_optional text then drop 1 text else text

-- a file is placed at a path
abbrev pub placed_at : Bool → Bool → List ℕ → Option (List ℕ) → Span → Verdict
placed_at exec optional source None span = Fails (Unsafe span)
placed_at exec optional source (Some path) span = Places (record { src = source; optional = optional; dst = path; exec = exec })

-- below a folder, unless the whole path is too long
abbrev pub placed : Bool → Bool → List ℕ → List ℕ → List ℕ → Span → Verdict
placed exec optional source folder below span = placed_at exec optional source (path_in (joined folder below)) span

-- without a destination a file keeps its name, the last part of its source
abbrev pub untargeted : Section → List ℕ → Bool → Option (List ℕ) → Span → Verdict
untargeted section name optional None span = Fails (Unsafe span)
untargeted section name optional (Some source) span =
    placed section.exec optional source (default_folder section name (last_part source)) (last_part source) span

-- a destination is a path below the folder of the section
abbrev pub targeted : Section → List ℕ → Bool → Option (List ℕ) → Span → Option (List ℕ) → Span → Verdict
targeted section name optional None span target at = Fails (Unsafe span)
targeted section name optional (Some source) span None at = Fails (Unsafe at)
targeted section name optional (Some source) span (Some below) at = placed section.exec optional source (folder_of section name) below at

-- a text by itself
abbrev pub text_verdict : Section → List ℕ → List ℕ → Span → Verdict
text_verdict section name text span = untargeted section name (is_optional text) (safe_path (unmarked text)) span

-- a text with a text in braces
abbrev pub target_verdict : Section → List ℕ → List ℕ → Span → List ℕ → Span → Verdict
target_verdict section name text span target at =
    targeted section name (is_optional text) (safe_path (unmarked text)) span (safe_path target) at

-- braces with one value are those of an item where both are texts
abbrev pub pair_verdict : Section → List ℕ → Node → Node → Option (List ℕ) → Option (List ℕ) → Span → Verdict
pair_verdict section name before target (Some text) (Some below) span = target_verdict section name text before.span below target.span
pair_verdict section name before target text below span = Fails (NotAnItem span)

-- what braces hold has to be one value
abbrev pub braced_verdict : Section → List ℕ → Node → List Node → Span → Verdict
braced_verdict section name before (target ∷ []) span = pair_verdict section name before target (text_in before) (text_in target) span
braced_verdict section name before nodes span = Fails (NotAnItem span)

-- any other value is no item
abbrev pub verdict_at : Section → List ℕ → Outside → Span → Verdict
verdict_at section name (Value-F.Text text) span = text_verdict section name text span
verdict_at section name (Value-F.Braced before nodes) span = braced_verdict section name before nodes span
verdict_at section name value span = Fails (NotAnItem span)

-- what an item gives, for the package of this name
abbrev pub verdict : Section → List ℕ → Node → Verdict
verdict section name node = verdict_at section name (outside node) node.span
