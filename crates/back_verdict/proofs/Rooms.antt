-- A package for which there is room, and of whose files none clashes.
use Rattle.std.proofs.Common.{◌≡◌, ◌∙◌, subst, ℕ, zero, suc, ◌+◌, ◌<◌, ◌≤◌, List, [], ◌∷◌, length, Bool, false, not, refl, sym, ap, arith, get_or}
use Rattle.std.specs.Prelude.{IfNone, nat_le, ◌||◌}
use Rattle.std.specs.declared.option.Option.{Option}
use Rattle.std.specs.declared.option.Option.TheVariants.{None}
use Rattle.std.specs.List.{list_any}
use Rattle.std.proofs.lemmas.Bool.Decides.{nat_tests}
use Rattle.opam_package.specs.declared.package.Member.{Member}
use Rattle.path_order.specs.Apart.{meets}
use Rattle.owner_map.specs.Clashes.{NoneClash}
use Rattle.owner_map.specs.Owning as owning
use Rattle.owner_map.specs.declared.owned.OwnedPath.{OwnedPath}
use Rattle.journal_text.specs.Parts.{paths_of}
use Rattle.journal_text.specs.declared.record.Placed.{Placed}
use Rattle.switch_journal.specs.declared.request.TheConstants.{OWNED_LIMIT}
use Rattle.change_verdict.specs.Verdicts.{meets_owner, would_be_full}
use Rattle.back_verdict.specs.BackLaws.{CanBePutBack}
use Rattle.back_verdict.specs.Backs.{is_text_full, with_last}
use Rattle.back_verdict.proofs.Lists.{neither, or_left, or_right}

none_owned : (owned : List OwnedPath) (paths : List (List ℕ)) → ((k : ℕ) → k < length paths → meets_owner owned (get_or paths k []) ≡ false) → list_any (meets_owner owned) paths ≡ false
none_owned owned [] all = refl
none_owned owned (path ∷ paths) all = neither (meets_owner owned path) (list_any (meets_owner owned) paths) (all zero (omega arith)) (none_owned owned paths (λ k less. all (suc k) (omega (arith, less))))

length_paths : (files : List Placed) → length (paths_of files) ≡ length files
length_paths [] = refl
length_paths (file ∷ files) = ap suc (length_paths files)

enough : (n m : ℕ) → not (nat_le n m) ≡ false → n ≤ m
enough n m is = grind (arith, nat_tests)

pub can_be_put_back : (owned : List OwnedPath) (entries : List Member) (old : Member) (files : List Placed) → (would_be_full owned files || is_text_full (with_last entries old)) ≡ false
    → NoneClash (owning.paths_of owned) (paths_of files) (length files) → CanBePutBack owned entries old files
can_be_put_back owned entries old files room none =
    let size = length_paths files in
    record {
      roomy = enough (length owned + length files) OWNED_LIMIT (or_left (would_be_full owned files) (is_text_full (with_last entries old)) room);
      short = or_right (would_be_full owned files) (is_text_full (with_last entries old)) room;
      unmet = none_owned owned (paths_of files) (λ k less. (none k (omega (arith, less, size))).of_owned);
      apart = none;
    }

pub given_none : {X : Type 0} (P : Type 0) (found : Option X) → found ≡ None → IfNone found P → P
given_none {X} P found is given = subst (λ (o : Option X). IfNone o P) is given
