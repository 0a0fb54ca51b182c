-- Files that a verdict places can be placed, and nothing stands in the way of a package that is put back.
use Rattle.std.proofs.Common.{◌≡◌, ℕ, zero, suc, ◌+◌, ◌<◌, ◌≤◌, List, [], ◌∷◌, ◌++◌, map, length, take, Bool, true, false, not, Option, Some, None, refl, sym, ap, ◌∙◌, subst, arith, append_assoc}
use Rattle.std.specs.Prelude.{◌&&◌, ◌||◌, bytes_eq, nat_le, slice_index_or, if◌then◌else◌}
use Rattle.std.specs.List.{All, IsDistinct, find, list_any}
use Rattle.std.specs.List.Sorted.{IsStrictlySortedBy}
use Rattle.std.specs.Option.{option_map, option_or}
use Rattle.std.specs.Ordering.{is_lt, ordering_reverse}
use Rattle.std.proofs.lemmas.Bool.{false≢true}
use Rattle.std.proofs.lemmas.Bool.Decides.{nat_tests}
use Rattle.std.proofs.lemmas.Cmp.{nat_list_cmp_total}
use Rattle.std.proofs.lemmas.List.{append-nil, map-append}
use Rattle.std.proofs.lemmas.List.Elements.{All-cons, All-head, All-tail}
use Rattle.std.proofs.lemmas.Slice.Eq.{bytes_eq-Decides}
use Rattle.opam_names.specs.ByteOrders.{byte_order, precedes, put_by}
use Rattle.opam_names.specs.Paths.{is_above}
use Rattle.opam_names.specs.declared.packages.Pkg.{Pkg}
use Rattle.opam_names.proofs.ByteOrders.{chain, less_of, not_before_itself}
use Rattle.opam_package.specs.declared.package.Member.{Member}
use Rattle.path_order.specs.Apart.{AreApart, meets}
use Rattle.owner_map.specs.Clashes.{IsFree, NoneClash, meets_before}
use Rattle.owner_map.specs.Owning as owning
use Rattle.owner_map.specs.Owning.{owned_by}
use Rattle.owner_map.specs.declared.owned.OwnedPath.{OwnedPath}
use Rattle.journal_text.specs.Parts.{IsPlaced, is_own, paths_of}
use Rattle.journal_text.specs.declared.record.Placed.{Placed}
use Rattle.crash_disk.specs.Disks.{Tree}
use Rattle.switch_journal.specs.declared.request.TheConstants.{OWNED_LIMIT}
use Rattle.switch_state.specs.Sound.{member_pkg}
use Rattle.switch_state.proofs.Aparts.{put_apart}
use Rattle.change_verdict.specs.Clash.{clash_after, clash_at, first_clash_of, is_least_met, least_met, meets_foreign_file, reason_at, with_own}
use Rattle.change_verdict.specs.Verdicts.{AreBrought, CanBePlaced, IfFound, bytes_total, in_path_order, install_verdict, meets_owner, unless_clash, unless_full, would_be_full}
use Rattle.change_verdict.specs.declared.reason.Reason.{Reason}
use Rattle.change_verdict.specs.declared.reason.Reason.TheVariants.{SwitchFull}
use Rattle.change_verdict.specs.declared.verdict.Sources.{Sources}
use Rattle.change_verdict.specs.declared.verdict.Sources.TheVariants.{Found, Refused}
use Rattle.change_verdict.specs.declared.verdict.Verdict.TheVariants.{Places, Fails}
use Rattle.back_verdict.specs.BackLaws.{CanComeBack}
use Rattle.back_verdict.specs.Backs.{is_text_full, why_away, why_clash, why_full, why_unfit, with_last}
use Rattle.back_verdict.specs.declared.why.Why.TheVariants.{Clash, Full}
use Rattle.change_outcome.specs.PossibleLaws.{AreAtPaths}
use Rattle.change_outcome.proofs.Lists.{neither, or_left, or_right}
use Rattle.change_outcome.proofs.Ordered.{any_ordered}
use Rattle.change_outcome.proofs.Returning.{any_other, bytes_back, or_second}

-- ---- of paths that meet another one there is a least

data LeastOr (path : List ℕ) (all : List OwnedPath) : Type 0 where
  none_meets : list_any (meets path) (owning.paths_of all) ≡ false → LeastOr path all
  least : (one : OwnedPath) → ((t : OwnedPath → Bool) → t one ≡ true → list_any t all ≡ true) → meets path one.path ≡ true → list_any (meets_before path one.path) (owning.paths_of all) ≡ false → LeastOr path all

not_both : (a b : Bool) → b ≡ false → (a && b) ≡ false
not_both true b is = is
not_both false b is = refl

not_first : (a b : Bool) → a ≡ false → (a && b) ≡ false
not_first a b is = ap (λ c. c && b) is

one_way : (a b : List ℕ) → precedes a b ≡ true → precedes b a ≡ false
one_way a b is = ap is_lt (nat_list_cmp_total.antisymm b a ∙ ap ordering_reverse (less_of (byte_order a b) is))

-- what meets and stands before a lesser one stands before the greater one
before_less : (path one less other : List ℕ) → precedes less one ≡ true → meets_before path one other ≡ false → meets_before path less other ≡ false
before_less path one less other is none = by (meets path other) none
  where
    by : (b : Bool) → (b && precedes other one) ≡ false → (b && precedes other less) ≡ false
    by true none = chain less one other (one_way less one is) none
    by false none = refl

least_or : (path : List ℕ) (all : List OwnedPath) → LeastOr path all
least_or path [] = none_meets refl
least_or path (x ∷ all) = by (meets path x.path) refl (least_or path all)
  where
    itself : meets_before path x.path x.path ≡ false
    itself = not_both (meets path x.path) (precedes x.path x.path) (not_before_itself x.path x.path refl)

    by : (b : Bool) → meets path x.path ≡ b → LeastOr path all → LeastOr path (x ∷ all)
    by false is (none_meets none) = none_meets (neither (meets path x.path) (list_any (meets path) (owning.paths_of all)) is none)
    by true is (none_meets none) =
        least x (λ t here. ap (λ b. b || list_any t all) here) is
        (neither (meets_before path x.path x.path) (list_any (meets_before path x.path) (owning.paths_of all)) itself
        (any_other (meets path) (meets path) (meets_before path x.path) (owning.paths_of all) (λ q one two. not_first (meets path q) (precedes q x.path) one) none none))
    by b is (least one there met none) = lesser (meets_before path one.path x.path) refl
      where
        lesser : (c : Bool) → meets_before path one.path x.path ≡ c → LeastOr path (x ∷ all)
        lesser false not_less = least one (λ t here. or_second (t x) (list_any t all) (there t here)) met (neither (meets_before path one.path x.path) (list_any (meets_before path one.path) (owning.paths_of all)) not_less none)
        lesser true less =
            least x (λ t here. ap (λ b. b || list_any t all) here) (first_of (meets path x.path) (precedes x.path one.path) less)
            (neither (meets_before path x.path x.path) (list_any (meets_before path x.path) (owning.paths_of all)) itself
            (any_other (meets_before path one.path) (meets_before path one.path) (meets_before path x.path) (owning.paths_of all) (λ q one_no two. before_less path one.path x.path q (second_of (meets path x.path) (precedes x.path one.path) less) one_no) none none))
          where
            first_of : (a b : Bool) → (a && b) ≡ true → a ≡ true
            first_of true b is = refl
            first_of false b is = absurd (false≢true is)

            second_of : (a b : Bool) → (a && b) ≡ true → b ≡ true
            second_of true b is = is
            second_of false b is = absurd (false≢true is)

none_found : {X : Type 0} (t : X → Bool) (xs : List X) → find t xs ≡ None → list_any t xs ≡ false
none_found t [] is = refl
none_found t (x ∷ xs) is = by (t x) is (none_found t xs)
  where
    by : (b : Bool) → (if b then Some x else find t xs) ≡ None → (find t xs ≡ None → list_any t xs ≡ false) → (b || list_any t xs) ≡ false
    by true is later = absurd cc
    by false is later = later is

none_met : (all : List OwnedPath) (path : List ℕ) → least_met all path ≡ None → list_any (meets path) (owning.paths_of all) ≡ false
none_met all path is = by (least_or path all)
  where
    by : LeastOr path all → list_any (meets path) (owning.paths_of all) ≡ false
    by (none_meets none) = none
    by (least one there met none) = absurd (false≢true (sym (none_found (is_least_met all path) all is) ∙ there (is_least_met all path) (ap (λ b. b && not (list_any (meets_before path one.path) (owning.paths_of all))) met ∙ ap not none)))

-- ---- where no clash is told

first_none : {X : Type 0} (one other : Option X) → option_or one other ≡ None → one ≡ None
first_none None other is = refl
first_none (Some x) other is = absurd cc

second_none : {X : Type 0} (one other : Option X) → option_or one other ≡ None → other ≡ None
second_none None other is = is
second_none (Some x) other is = absurd cc

no_reason : (path : List ℕ) (one : Option OwnedPath) (foreign : Bool) → reason_at path one foreign ≡ None → one ≡ None
no_reason path (Some one) foreign is = absurd cc
no_reason path None foreign is = refl

own_paths : (owned : List OwnedPath) (pkg : Pkg) (before : List (List ℕ)) → owning.paths_of (with_own owned pkg before) ≡ owning.paths_of owned ++ before
own_paths owned pkg before = map-append (λ (o : OwnedPath). o.path) owned (map (λ path. owned_by path pkg) before) ∙ ap (λ ps. owning.paths_of owned ++ ps) (back before)
  where
    back : (paths : List (List ℕ)) → owning.paths_of (map (λ path. owned_by path pkg) paths) ≡ paths
    back [] = refl
    back (path ∷ paths) = ap (λ ps. path ∷ ps) (back paths)

any_sum_left : (t : List ℕ → Bool) (xs ys : List (List ℕ)) → list_any t (xs ++ ys) ≡ false → list_any t xs ≡ false
any_sum_left t [] ys none = refl
any_sum_left t (x ∷ xs) ys none = neither (t x) (list_any t xs) (or_left (t x) (list_any t (xs ++ ys)) none) (any_sum_left t xs ys (or_right (t x) (list_any t (xs ++ ys)) none))

any_sum_right : (t : List ℕ → Bool) (xs ys : List (List ℕ)) → list_any t (xs ++ ys) ≡ false → list_any t ys ≡ false
any_sum_right t [] ys none = none
any_sum_right t (x ∷ xs) ys none = any_sum_right t xs ys (or_right (t x) (list_any t (xs ++ ys)) none)

-- each path is free of the owned ones and of those before it
abbrev AllFree : List (List ℕ) → List (List ℕ) → List (List ℕ) → Type 0
AllFree owned before [] = Unit {0}
AllFree owned before (path ∷ paths) = IsFree owned before path × AllFree owned (before ++ path ∷ []) paths

all_free : (tree : Tree) (owned : List OwnedPath) (pkg : Pkg) (before paths : List (List ℕ)) → clash_after tree owned pkg before paths ≡ None → AllFree (owning.paths_of owned) before paths
all_free tree owned pkg before [] none = tt
all_free tree owned pkg before (path ∷ paths) none =
    let here = first_none (clash_at tree owned pkg before path) (clash_after tree owned pkg (before ++ path ∷ []) paths) none in
    let met = sym (ap (list_any (meets path)) (own_paths owned pkg before)) ∙ none_met (with_own owned pkg before) path (no_reason path (least_met (with_own owned pkg before) path) (meets_foreign_file tree owned path) here) in
    let free : IsFree (owning.paths_of owned) before path = record { of_owned = any_sum_left (meets path) (owning.paths_of owned) before met; of_earlier = any_sum_right (meets path) (owning.paths_of owned) before met } in
    (free, all_free tree owned pkg (before ++ path ∷ []) paths (second_none (clash_at tree owned pkg before path) (clash_after tree owned pkg (before ++ path ∷ []) paths) none))

free_at : (owned before paths : List (List ℕ)) → AllFree owned before paths → (k : ℕ) → k < length paths → IsFree owned (before ++ take k paths) (slice_index_or paths k [])
free_at owned before [] free k lt = absurd (omega arith)
free_at owned before (path ∷ paths) free zero lt = subst (λ seen. IsFree owned seen path) (sym (append-nil before)) free.0
free_at owned before (path ∷ paths) free (suc k) lt =
    subst (λ seen. IsFree owned seen (slice_index_or paths k [])) (append_assoc before (path ∷ []) (take k paths)) (free_at owned (before ++ path ∷ []) paths free.1 k (omega arith))

none_clash : (tree : Tree) (owned : List OwnedPath) (pkg : Pkg) (paths : List (List ℕ)) → first_clash_of tree owned pkg paths ≡ None → (n : ℕ) → n ≤ length paths → NoneClash (owning.paths_of owned) paths n
none_clash tree owned pkg paths none n within k lt = free_at (owning.paths_of owned) [] paths (all_free tree owned pkg [] paths none) k (omega (arith, lt, within))

none_owned : (owned : List OwnedPath) (before paths : List (List ℕ)) → AllFree (owning.paths_of owned) before paths → list_any (meets_owner owned) paths ≡ false
none_owned owned before [] free = refl
none_owned owned before (path ∷ paths) free = neither (meets_owner owned path) (list_any (meets_owner owned) paths) free.0.of_owned (none_owned owned (before ++ path ∷ []) paths free.1)

-- ---- none meets another

eq_back : (p q : List ℕ) → bytes_eq p q ≡ bytes_eq q p
eq_back p q = by (bytes_eq p q) refl
  where
    by : (b : Bool) → bytes_eq p q ≡ b → b ≡ bytes_eq q p
    by true is = sym ((bytes_eq-Decides q p).1 (sym ((bytes_eq-Decides p q).0 is)))
    by false is = sym (bytes_back p q is)

meets_back : (p q : List ℕ) → meets p q ≡ meets q p
meets_back p q = swap (bytes_eq p q) (is_above p q) (is_above q p) ∙ ap (λ b. (b || is_above q p) || is_above p q) (eq_back p q)
  where
    swap : (a b c : Bool) → ((a || b) || c) ≡ ((a || c) || b)
    swap true b c = refl
    swap false true true = refl
    swap false true false = refl
    swap false false c = or_nothing c
      where
        or_nothing : (c : Bool) → c ≡ (c || false)
        or_nothing true = refl
        or_nothing false = refl

here_in : (t : List ℕ → Bool) (xs : List (List ℕ)) (x : List ℕ) → list_any t (xs ++ x ∷ []) ≡ false → t x ≡ false
here_in t [] x none = or_left (t x) false none
here_in t (y ∷ xs) x none = here_in t xs x (or_right (t y) (list_any t (xs ++ x ∷ [])) none)

-- a path that stands among those before meets none of these
later_free : (owned front more : List (List ℕ)) (p : List ℕ) (paths : List (List ℕ)) → AllFree owned (front ++ p ∷ more) paths → list_any (meets p) paths ≡ false
later_free owned front more p [] free = refl
later_free owned front more p (path ∷ paths) free =
    neither (meets p path) (list_any (meets p) paths) (meets_back p path ∙ or_left (meets path p) (list_any (meets path) more) (any_sum_right (meets path) front (p ∷ more) free.0.of_earlier))
    (later_free owned front (more ++ path ∷ []) p paths (subst (λ seen. AllFree owned seen paths) (append_assoc front (p ∷ more) (path ∷ [])) free.1))

abbrev at : Placed → List ℕ
at file = file.path

ordered_apart : (owned before : List (List ℕ)) (files : List Placed) → AllFree owned before (paths_of files) → AreApart (paths_of (in_path_order files))
unfolding IsDistinct IsStrictlySortedBy
ordered_apart owned before [] free = record { rise = tt; apart = tt }
ordered_apart owned before (file ∷ files) free =
    put_apart at file (in_path_order files) (any_ordered (meets file.path) files ∙ later_free owned before [] file.path (paths_of files) free.1) (ordered_apart owned (before ++ file.path ∷ []) files free.1)

-- ---- in byte order

length_put : (file : Placed) (files : List Placed) → length (put_by at file files) ≡ suc (length files)
length_put file [] = refl
length_put file (first ∷ files) = by (precedes first.path file.path) (length_put file files)
  where
    by : (b : Bool) → length (put_by at file files) ≡ suc (length files) → length (if b then first ∷ put_by at file files else file ∷ first ∷ files) ≡ suc (suc (length files))
    by true later = ap suc later
    by false later = refl

length_ordered : (files : List Placed) → length (in_path_order files) ≡ length files
length_ordered [] = refl
length_ordered (file ∷ files) = length_put file (in_path_order files) ∙ ap suc (length_ordered files)

total_put : (file : Placed) (files : List Placed) → bytes_total (put_by at file files) ≡ length file.bytes + bytes_total files
total_put file [] = refl
total_put file (first ∷ files) = by (precedes first.path file.path) (total_put file files)
  where
    by : (b : Bool) → bytes_total (put_by at file files) ≡ length file.bytes + bytes_total files
        → bytes_total (if b then first ∷ put_by at file files else file ∷ first ∷ files) ≡ length file.bytes + (length first.bytes + bytes_total files)
    by true later = omega (arith, later)
    by false later = refl

total_ordered : (files : List Placed) → bytes_total (in_path_order files) ≡ bytes_total files
total_ordered [] = refl
total_ordered (file ∷ files) = total_put file (in_path_order files) ∙ ap (λ n. length file.bytes + n) (total_ordered files)

module _ (P : Placed → Type 0) where
  all_put : (file : Placed) (files : List Placed) → P file → All P files → All P (put_by at file files)
  all_put file [] here all = All-cons P file [] here all
  all_put file (first ∷ files) here all = by (precedes first.path file.path) (all_put file files here (All-tail P first files all))
    where
      by : (b : Bool) → All P (put_by at file files) → All P (if b then first ∷ put_by at file files else file ∷ first ∷ files)
      by true later = All-cons P first (put_by at file files) (All-head P first files all) later
      by false later = All-cons P file (first ∷ files) here all

  all_ordered : (files : List Placed) → All P files → All P (in_path_order files)
  all_ordered [] all = all
  all_ordered (file ∷ files) all = all_put file (in_path_order files) (All-head P file files all) (all_ordered files (All-tail P file files all))

length_paths : (files : List Placed) → length (paths_of files) ≡ length files
length_paths [] = refl
length_paths (file ∷ files) = ap suc (length_paths files)

enough : (n m : ℕ) → not (nat_le n m) ≡ false → n ≤ m
enough n m is = grind (arith, nat_tests)

-- ---- what a verdict says of the files that it places

pub record Placing (owned : List OwnedPath) (files : List Placed) : Type 0 where
  pub can : CanBePlaced owned files
  pub at_paths : All IsPlaced files

placing_found : (tree : Tree) (owned : List OwnedPath) (pkg : Pkg) (files order : List Placed) → AreBrought files → All IsPlaced files → first_clash_of tree owned pkg (paths_of files) ≡ None → would_be_full owned files ≡ false → in_path_order files ≡ order → Placing owned order
placing_found tree owned pkg files order brought placed none room is =
    let free = all_free tree owned pkg [] (paths_of files) none in
    let few = enough (length owned + length files) OWNED_LIMIT room in
    let many = length_ordered files in
    let bytes = total_ordered files in
    let count = brought.few in
    let short = brought.short in
    subst (Placing owned) is (record {
      can = record {
        brought = record { few = omega (arith, many, count); short = omega (arith, bytes, short); free = any_ordered is_own files ∙ brought.free };
        ordered = record { apart = ordered_apart (owning.paths_of owned) [] files free; free = any_ordered is_own files ∙ brought.free };
        unmet = any_ordered (meets_owner owned) files ∙ none_owned owned [] (paths_of files) free;
        roomy = omega (arith, many, few);
      };
      at_paths = all_ordered IsPlaced files placed;
    })

pub placing : (tree : Tree) (owned : List OwnedPath) (pkg : Pkg) (brings : Sources) (order : List Placed) → IfFound brings → AreAtPaths brings → install_verdict tree owned pkg brings ≡ Places order → Placing owned order
placing tree owned pkg (Refused reason) order brought placed is = absurd cc
placing tree owned pkg (Found files) order brought placed is = by (first_clash_of tree owned pkg (paths_of files)) refl is
  where
    by_room : first_clash_of tree owned pkg (paths_of files) ≡ None → (b : Bool) → would_be_full owned files ≡ b → (if b then Fails SwitchFull else Places (in_path_order files)) ≡ Places order → Placing owned order
    by_room none true full is = absurd cc
    by_room none false room is = placing_found tree owned pkg files order brought placed none room (let e : in_path_order files ≡ order = cc in e)

    by : (o : Option Reason) → first_clash_of tree owned pkg (paths_of files) ≡ o → unless_clash o (unless_full owned files) ≡ Places order → Placing owned order
    by (Some reason) none is = absurd cc
    by None none is = by_room none (would_be_full owned files) refl is

-- ---- what stands against no package

no_clash : (o : Option Reason) → option_map Clash o ≡ None → o ≡ None
no_clash None is = refl
no_clash (Some reason) is = absurd cc

pub comes_back : (tree : Tree) (owned : List OwnedPath) (entries : List Member) (old : Member) (files : List Placed) → why_away tree owned entries old files ≡ None → CanComeBack owned entries old files
comes_back tree owned entries old files none =
    let fit = first_none (why_unfit entries old) (option_or (why_full owned entries old files) (why_clash tree owned old files)) none in
    let other = second_none (why_unfit entries old) (option_or (why_full owned entries old files) (why_clash tree owned old files)) none in
    let room = not_full (would_be_full owned files || is_text_full (with_last entries old)) (first_none (why_full owned entries old files) (why_clash tree owned old files) other) in
    let clear = no_clash (first_clash_of tree owned (member_pkg old) (paths_of files)) (second_none (why_full owned entries old files) (why_clash tree owned old files) other) in
    let long = length_paths files in
    record {
      fit = fit;
      room = record {
        roomy = enough (length owned + length files) OWNED_LIMIT (or_left (would_be_full owned files) (is_text_full (with_last entries old)) room);
        short = or_right (would_be_full owned files) (is_text_full (with_last entries old)) room;
        unmet = none_owned owned [] (paths_of files) (all_free tree owned (member_pkg old) [] (paths_of files) clear);
        apart = none_clash tree owned (member_pkg old) (paths_of files) clear (length files) (omega (arith, long));
      };
    }
  where
    not_full : (b : Bool) → (if b then Some Full else None) ≡ None → b ≡ false
    not_full true is = absurd cc
    not_full false is = refl
