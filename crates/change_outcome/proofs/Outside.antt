-- Two trees with the same files outside the switch's own folder are the same to all that is decided.
use Rattle.std.proofs.Common.{◌≡◌, ℕ, List, [], ◌∷◌, ◌++◌, filter, Bool, true, false, not, cond, Option, Some, None, refl, sym, ap, ◌∙◌}
use Rattle.std.specs.Prelude.{◌&&◌, ◌||◌, bytes_eq, is_some, if◌then◌else◌, nat_le}
use Rattle.std.specs.List.{cons_option, find, list_any}
use Rattle.std.specs.Option.{option_map, option_or}
use Rattle.std.proofs.lemmas.Bool.{false≢true}
use Rattle.opam_names.specs.declared.packages.Pkg.{Pkg}
use Rattle.opam_names.specs.Paths.{is_above}
use Rattle.path_order.specs.Apart.{meets}
use Rattle.owner_map.specs.Owning as owning
use Rattle.owner_map.specs.Owning.{is_owned_by, paths_owned_by}
use Rattle.owner_map.specs.declared.owned.OwnedPath.{OwnedPath}
use Rattle.journal_text.specs.Parts.{is_own, own_folder, paths_of}
use Rattle.journal_text.specs.declared.record.Placed.{Placed}
use Rattle.crash_disk.specs.Disks.{Kept, Tree}
use Rattle.crash_disk.proofs.Trees.{get_both}
use Rattle.switch_journal.specs.Places.{is_inside}
use Rattle.switch_state.specs.Actions.{work_in}
use Rattle.switch_state.specs.Keeps.{byte_total, is_member_of, kept_with, recorded, standing_file, standing_files, wants}
use Rattle.switch_state.specs.declared.removals.TheConstants.{KEPT_LIMIT}
use Rattle.change_verdict.specs.Clash.{clash_after, is_foreign_file, least_met, meets_foreign_file, reason_at, with_own}
use Rattle.change_verdict.specs.Verdicts.{unless_clash, unless_full}
use Rattle.change_verdict.specs.declared.verdict.Sources.TheVariants.{Found, Refused}
use Rattle.back_verdict.specs.Backs.{why_full, why_unfit}
use Rattle.back_verdict.specs.declared.why.Why.TheVariants.{Clash}
use Rattle.change_outcome.specs.OutsideLaws.{ActionsStayOutside, AgreeOutside, PutBacksSeeOutside, RemovalsSeeOutside, VerdictsSeeOutside}
use Rattle.change_outcome.proofs.Ordered.{any_key, some_key}

or_left : (a b : Bool) → (a || b) ≡ false → a ≡ false
or_left true b is = absurd (false≢true (sym is))
or_left false b is = refl

or_right : (a b : Bool) → (a || b) ≡ false → b ≡ false
or_right true b is = absurd (false≢true (sym is))
or_right false b is = is

-- ---- foreign files

same_truth : (a b : Bool) → (a ≡ true → b ≡ true) → (b ≡ true → a ≡ true) → a ≡ b
same_truth true b there back = sym (there refl)
same_truth false true there back = back refl
same_truth false false there back = refl

not_true : (b : Bool) → not b ≡ true → b ≡ false
not_true true is = absurd (false≢true is)
not_true false is = refl

and_left : (a b : Bool) → (a && b) ≡ true → a ≡ true
and_left true b is = refl
and_left false b is = absurd (false≢true is)

-- what a foreign file's test says of its path
outside : (owned : List OwnedPath) (path file : List ℕ) → (is_foreign_file owned file && meets path file) ≡ true → is_inside file ≡ false
outside owned path file is =
    not_true (is_inside file) (and_left (not (is_inside file)) (not (list_any (bytes_eq file) (owning.paths_of owned))) (and_left (is_foreign_file owned file) (meets path file) is))

meets_there : (one other : Tree) (owned : List OwnedPath) (path : List ℕ) → AgreeOutside one other → meets_foreign_file one owned path ≡ true → meets_foreign_file other owned path ≡ true
meets_there one other owned path agree is =
    let found = any_key one (λ file. is_foreign_file owned file && meets path file) is in
    some_key other (λ file. is_foreign_file owned file && meets path file) found.0 (ap is_some (sym (agree found.0 (outside owned path found.0 found.1))) ∙ found.2) found.1

meets_same : (one other : Tree) (owned : List OwnedPath) (path : List ℕ) → AgreeOutside one other → meets_foreign_file one owned path ≡ meets_foreign_file other owned path
meets_same one other owned path agree =
    same_truth (meets_foreign_file one owned path) (meets_foreign_file other owned path) (meets_there one other owned path agree) (meets_there other one owned path (λ q is. sym (agree q is)))

clash_same : (one other : Tree) (owned : List OwnedPath) (pkg : Pkg) (before paths : List (List ℕ)) → AgreeOutside one other → clash_after one owned pkg before paths ≡ clash_after other owned pkg before paths
clash_same one other owned pkg before [] agree = refl
clash_same one other owned pkg before (path ∷ paths) agree =
    ap (λ b. option_or (reason_at path (least_met (with_own owned pkg before) path) b) (clash_after one owned pkg (before ++ path ∷ []) paths)) (meets_same one other owned path agree)
    ∙ ap (λ o. option_or (reason_at path (least_met (with_own owned pkg before) path) (meets_foreign_file other owned path)) o) (clash_same one other owned pkg (before ++ path ∷ []) paths agree)

pub verdicts_same : VerdictsSeeOutside
verdicts_same one other owned pkg (Refused reason) agree = refl
verdicts_same one other owned pkg (Found files) agree = ap (λ o. unless_clash o (unless_full owned files)) (clash_same one other owned pkg [] (paths_of files) agree)

pub backs_same : PutBacksSeeOutside
backs_same one other owned entries None agree = refl
backs_same one other owned entries (Some kept) agree =
    ap (λ o. option_or (why_unfit entries kept.0) (option_or (why_full owned entries kept.0 kept.1) (option_map Clash o))) (clash_same one other owned kept.0.package.pkg [] (paths_of kept.1) agree)

-- ---- what a removal keeps

standing_same : (one other : Tree) (paths : List (List ℕ)) → list_any is_own paths ≡ false → AgreeOutside one other → standing_files one paths ≡ standing_files other paths
standing_same one other [] none agree = refl
standing_same one other (path ∷ paths) none agree =
    ap (λ (o : Option Kept). cons_option (option_map (recorded path) o) (standing_files one paths)) (agree path (or_right (bytes_eq path own_folder) (is_above own_folder path) (or_left (is_own path) (list_any is_own paths) none)))
    ∙ ap (λ fs. cons_option (standing_file other path) fs) (standing_same one other paths (or_right (is_own path) (list_any is_own paths) none) agree)

none_left : (t : List ℕ → Bool) (keep : OwnedPath → Bool) (owned : List OwnedPath) → list_any t (owning.paths_of owned) ≡ false → list_any t (owning.paths_of (filter keep owned)) ≡ false
none_left t keep [] none = refl
none_left t keep (x ∷ owned) none = by (keep x) (none_left t keep owned (or_right (t x.path) (list_any t (owning.paths_of owned)) none))
  where
    by : (b : Bool) → list_any t (owning.paths_of (filter keep owned)) ≡ false → list_any t (owning.paths_of (cond b (x ∷ filter keep owned) (filter keep owned))) ≡ false
    by true later = rw (or_left (t x.path) (list_any t (owning.paths_of owned)) none, later) refl
    by false later = later

few_of : List Placed → Option (List Placed)
few_of files = if nat_le (byte_total files) KEPT_LIMIT then Some files else None

pub keeps_same : RemovalsSeeOutside
unfolding few_of
keeps_same one other state pkg none agree =
    ap (λ files. if wants pkg.name state.request then kept_with pkg (find (is_member_of pkg) state.members) (few_of files) else None)
    (standing_same one other (paths_owned_by pkg state.owned) (none_left is_own (is_owned_by pkg) state.owned none) agree)

pub acts_same : ActionsStayOutside
acts_same one other state action agree = λ path is. get_both one other (work_in action state) path (agree path is)
