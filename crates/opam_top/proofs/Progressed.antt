-- How a change goes on, package by package.
use Rattle.std.proofs.Common.{◌≡◌, ℕ, ◌+◌, ◌<◌, ◌≤◌, ◌^◌, List, [], ◌∷◌, ◌++◌, length, Bool, true, cond, Option, Result, Ok, Err, OnOk, OnErr, refl, sym, ◌∙◌, ap, subst, arith, length-append}
use Rattle.std.specs.Prelude.{count_by, filter, nat_le}
use Rattle.std.specs.List.{list_all}
use Rattle.std.specs.FinMap.{len}
use Rattle.std.proofs.Math.Nat.{le_trans}
use Rattle.std.proofs.lemmas.Bool.Decides.{nat_tests}
use Rattle.std.proofs.lemmas.List.Sums.{sum_by-append}
use Rattle.opam_names.specs.declared.packages.Pkg.{Pkg}
use Rattle.opam_top.specs.Reports.{is_installed}
use Rattle.opam_top.specs.declared.decision.Decision.{Decision}
use Rattle.opam_top.specs.declared.decision.Decision.TheVariants.{Installed, Failed}
use Rattle.opam_top.specs.declared.decision.Reason.{Reason}
use Rattle.outside_io.specs.Shops.{Told, fate_of}
use Rattle.outside_io.specs.declared.workshop.Fate.{Fate}
use Rattle.outside_io.specs.declared.workshop.Job.{Job}
use Rattle.crash_disk.specs.Disks.{State, Tree}
use Rattle.opam_top.specs.Changes.{AreReceipts, InOrder, IsRegular, Stands, Tracks}
use Rattle.opam_top.specs.Commits.{Becomes, committed, paths_differ, ready_with}
use Rattle.opam_top.specs.Fronts.{is_short, opam_limit}
use Rattle.opam_top.specs.Installs.{has_words, job_of, placed_by}
use Rattle.opam_top.specs.Outcomes.{Leaves, Outcome, decided, verdict, with_member}
use Rattle.opam_top.specs.Owners.{is_owned_in_bin, is_unowned, owned_by, owners_of}
use Rattle.opam_top.specs.Placements.{is_in_bin}
use Rattle.opam_top.specs.Records.{record_bytes}
use Rattle.opam_top.specs.Switches.{with_owner}
use Rattle.opam_top.specs.declared.change.Progress.{Progress}
use Rattle.opam_top.specs.declared.commit.Encoded.{Encoded}
use Rattle.opam_top.specs.declared.member.Member.{Member}
use Rattle.opam_top.specs.declared.records.Placed.{Placed}
use Rattle.opam_top.specs.declared.records.Rec.TheVariants.{Install}
use Rattle.opam_top.specs.declared.status.Receipt.{Receipt}
use Rattle.opam_top.proofs.Committed.{leaves_more}
use Rattle.opam_top.proofs.Elsewhere.{same_elsewhere}
use Rattle.opam_top.proofs.Owned.{count_more, in_bin_more, owns_more}
use Rattle.opam_top.proofs.Tests.{both_right}

-- ---- receipts

later_bound : (index from to more : ℕ) (receipts : List Receipt) → to ≤ more → InOrder index from to receipts → InOrder index from more receipts
later_bound index from to more [] le order = le_trans order le
later_bound index from to more (receipt ∷ receipts) le order = (order.0, order.1, later_bound (index + 1) receipt.moment to more receipts le order.2)

pub receipts_later : (from to more : ℕ) (receipts : List Receipt) → to ≤ more → AreReceipts from to receipts → AreReceipts from more receipts
receipts_later from to more receipts le are = record { order = later_bound 0 from to more receipts le are.order }

one_more_receipt : (index from to : ℕ) (receipts : List Receipt) (new : Receipt) → InOrder index from to receipts → to ≤ new.moment → new.index ≡ index + length receipts → InOrder index from new.moment (receipts ++ new ∷ [])
one_more_receipt index from to [] new order le at = let here : new.index ≡ index = omega (arith, at) in let start : from ≤ new.moment = omega (arith, order, le) in let end : new.moment ≤ new.moment = omega arith in (here, start, end)
one_more_receipt index from to (receipt ∷ receipts) new order le at =
    (order.0, order.1, one_more_receipt (index + 1) receipt.moment to receipts new order.2 le (omega (arith, at)))

pub receipt_added : (from to : ℕ) (receipts grown : List Receipt) (new : Receipt) → grown ≡ receipts ++ new ∷ [] → to ≤ new.moment → new.index ≡ length receipts → AreReceipts from to receipts → AreReceipts from new.moment grown
receipt_added from to receipts grown new is le at are =
    subst (λ (l : List Receipt). AreReceipts from new.moment l) (sym is) (record { order = one_more_receipt 0 from to receipts new are.order le (omega (arith, at)) })

-- ---- how many are installed

pub count_last : (test : Decision → Bool) (decisions : List Decision) (last : Decision) → count_by test (decisions ++ last ∷ []) ≡ count_by test decisions + count_by test (last ∷ [])
count_last test decisions last = sum_by-append (λ d. cond (test d) 1 0) decisions (last ∷ [])

length_last : {X : Type 0} (xs : List X) (x : X) → length (xs ++ x ∷ []) ≡ length xs + 1
length_last xs x = length-append xs (x ∷ [])

pub number_installed : (decisions grown : List Decision) (pkg : Pkg) (receipts more : List Receipt) (new : Receipt) → grown ≡ decisions ++ Installed pkg ∷ [] → more ≡ receipts ++ new ∷ [] → length receipts ≡ count_by is_installed decisions → length more ≡ count_by is_installed grown
number_installed decisions grown pkg receipts more new one two same =
    let last : count_by is_installed (decisions ++ Installed pkg ∷ []) ≡ count_by is_installed decisions + 1 = count_last is_installed decisions (Installed pkg) in
    ap length two ∙ length_last receipts new ∙ ap (λ n. n + 1) same ∙ sym last ∙ sym (ap (count_by is_installed) one)

pub number_failed : (decisions grown : List Decision) (pkg : Pkg) (reason : Reason) (receipts more : List Receipt) → grown ≡ decisions ++ Failed pkg reason ∷ [] → more ≡ receipts → length receipts ≡ count_by is_installed decisions → length more ≡ count_by is_installed grown
number_failed decisions grown pkg reason receipts more one two same =
    let none : count_by is_installed (decisions ++ Failed pkg reason ∷ []) ≡ count_by is_installed decisions + 0 = count_last is_installed decisions (Failed pkg reason) in
    ap length two ∙ same ∙ omega (arith, none, ap (count_by is_installed) one)

-- ---- owners

pub regular_installed : (old new : Progress) (pkg : Pkg) (files : List Placed) (receipt : Receipt) → IsRegular old → list_all (is_unowned (owners_of old.owners.items)) files ≡ true → paths_differ files ≡ true → list_all is_in_bin files ≡ true
    → new.owners.items ≡ old.owners.items ++ owned_by pkg files → new.decisions.items ≡ old.decisions.items ++ Installed pkg ∷ [] → new.receipts.items ≡ old.receipts.items ++ receipt ∷ [] → IsRegular new
regular_installed old new pkg files receipt regular unowned differ in_bin owners decisions receipts = record {
  in_bin = ap (list_all is_owned_in_bin) owners ∙ in_bin_more old.owners.items pkg files regular.in_bin in_bin;
  apart = ap (λ (l : List (List ℕ × Pkg)). len (owners_of l)) owners ∙ count_more old.owners.items pkg files unowned differ regular.apart ∙ sym (ap length owners);
  number = number_installed old.decisions.items new.decisions.items pkg old.receipts.items new.receipts.items receipt decisions receipts regular.number;
}

pub regular_failed : (old new : Progress) (pkg : Pkg) (reason : Reason) → IsRegular old → new.owners.items ≡ old.owners.items → new.decisions.items ≡ old.decisions.items ++ Failed pkg reason ∷ [] → new.receipts.items ≡ old.receipts.items → IsRegular new
regular_failed old new pkg reason regular owners decisions receipts = record {
  in_bin = ap (list_all is_owned_in_bin) owners ∙ regular.in_bin;
  apart = ap (λ (l : List (List ℕ × Pkg)). len (owners_of l)) owners ∙ regular.apart ∙ sym (ap length owners);
  number = number_failed old.decisions.items new.decisions.items pkg reason old.receipts.items new.receipts.items decisions receipts regular.number;
}

-- ---- what is tracked

pub tracks_installed : (old new : Progress) (o : Outcome) (member : Member) (fate : Fate) (files : List Placed) (receipt : Receipt) → Tracks old o → list_all (is_unowned (owners_of old.owners.items)) files ≡ true → paths_differ files ≡ true
    → new.owners.items ≡ old.owners.items ++ owned_by member.pkg files → new.decisions.items ≡ old.decisions.items ++ Installed member.pkg ∷ [] → new.receipts.items ≡ old.receipts.items ++ receipt ∷ [] → Tracks new (decided o member fate (Ok files))
tracks_installed old new o member fate files receipt tracks unowned differ owners decisions receipts = record {
  decisions = decisions ∙ ap (λ (l : List Decision). l ++ Installed member.pkg ∷ []) tracks.decisions;
  number = ap length receipts ∙ length_last old.receipts.items receipt ∙ ap (λ n. n + 1) tracks.number ∙ sym (length_last o.records (Install member.pkg member.opam files));
  owners = ap owners_of owners ∙ owns_more old.owners.items member.pkg files unowned differ ∙ ap (λ m. with_owner m member.pkg files) tracks.owners;
}

pub tracks_failed : (old new : Progress) (o : Outcome) (member : Member) (fate : Fate) (reason : Reason) → Tracks old o → new.owners.items ≡ old.owners.items → new.decisions.items ≡ old.decisions.items ++ Failed member.pkg reason ∷ [] → new.receipts.items ≡ old.receipts.items
    → Tracks new (decided o member fate (Err reason))
tracks_failed old new o member fate reason tracks owners decisions receipts = record {
  decisions = decisions ∙ ap (λ (l : List Decision). l ++ Failed member.pkg reason ∷ []) tracks.decisions;
  number = ap length receipts ∙ tracks.number;
  owners = ap owners_of owners ∙ tracks.owners;
}

-- ---- what stands on the disk

pub stands_installed : (o : Outcome) (start : Tree) (member : Member) (fate : Fate) (files : List Placed) (number : ℕ) (ready : Encoded) (before after : Option State) → length o.records < 2 ^ 32 → list_all is_in_bin files ≡ true → number ≡ length o.records
    → ready ≡ ready_with (number + 1) (record_bytes (Install member.pkg member.opam files)) files → Becomes (committed ready) before after → Stands before o start → Stands after (decided o member fate (Ok files)) start
stands_installed o start member fate files number ready before after few in_bin counted is becomes stands =
    let entry = Install member.pkg member.opam files in
    let found = becomes stands.0 stands.1 in
    let next = decided o member fate (Ok files) in
    let made : ready ≡ ready_with (length o.records + 1) (record_bytes entry) files = is ∙ ap (λ n. ready_with (n + 1) (record_bytes entry) files) counted in
    let files_are : found.0.files ≡ committed (ready_with (length o.records + 1) (record_bytes entry) files) stands.0.files = found.2 ∙ ap (λ (r : Encoded). committed r stands.0.files) made in
    (found.0, found.1, subst (λ (t : Tree). Leaves next start t) (sym files_are) (leaves_more o next entry files start stands.0.files few in_bin refl refl stands.2))

-- ---- what is decided

pub verdict_is : (told : Told) (o : Outcome) (start tree : Tree) (member : Member) (job : Job) (fate : Fate) (owners : List (List ℕ × Pkg)) (found : Result (List Placed) Reason) → found ≡ placed_by told tree (owners_of owners) job fate → owners_of owners ≡ o.switch.owners → job ≡ job_of member → fate ≡ fate_of told (job_of member) → Leaves o start tree
    → with_member told o member ≡ decided o member (fate_of told (job_of member)) found
verdict_is told o start tree member job fate owners found is owned is_job is_fate leaves =
    let f = fate_of told (job_of member) in
    let same : verdict told o.switch member ≡ found =
    sym (same_elsewhere told tree o.switch.files o.switch.owners (job_of member) f leaves.others)
    ∙ ap (λ m. placed_by told tree m (job_of member) f) (sym owned)
    ∙ ap (λ (j : Job). placed_by told tree (owners_of owners) j f) (sym is_job)
    ∙ ap (λ (x : Fate). placed_by told tree (owners_of owners) job x) (sym is_fate)
    ∙ sym is in
    ap (λ (r : Result (List Placed) Reason). decided o member f r) same

-- ---- the job of a package

filter_shorter : (commands : List (List (List ℕ))) → length (filter has_words commands) ≤ length commands
filter_shorter [] = omega arith
filter_shorter ([] ∷ commands) = let later = filter_shorter commands in omega (arith, later)
filter_shorter ((word ∷ words) ∷ commands) = let later = filter_shorter commands in omega (arith, later)

le_by : (n m : ℕ) → nat_le n m ≡ true → n ≤ m
le_by n m is = grind (arith, nat_tests)

pub few_commands : (member : Member) (job : Job) → is_short member ≡ true → job ≡ job_of member → length job.commands < 4294967295
few_commands member job short is =
    let few : length member.commands ≤ 64 = le_by (length member.commands) 64 (both_right (nat_le (length member.opam) opam_limit) (nat_le (length member.commands) 64) short) in
    let kept = filter_shorter member.commands in
    let same : length job.commands ≡ length (filter has_words member.commands) = ap (λ (j : Job). length j.commands) is in
    omega (arith, few, kept, same)

-- ---- what a call leaves alone

pub always : {X E P : Type 0} (result : Result X E) → P → OnOk result P
always (Ok x) p = p
always (Err e) p = tt

pub tracks_same : (old new : Progress) (o : Outcome) → new.decisions.items ≡ old.decisions.items → new.receipts.items ≡ old.receipts.items → new.owners.items ≡ old.owners.items → Tracks old o → Tracks new o
tracks_same old new o decisions receipts owners tracks = record {
  decisions = decisions ∙ tracks.decisions;
  number = ap length receipts ∙ tracks.number;
  owners = ap owners_of owners ∙ tracks.owners;
}

pub stands_same : (before after : Option State) (o : Outcome) (start : Tree) → after ≡ before → Stands before o start → Stands after o start
stands_same before after o start same stands = (stands.0, same ∙ stands.1, stands.2)

pub stands_failed : (before after : Option State) (o : Outcome) (start : Tree) (member : Member) (fate : Fate) (reason : Reason) → after ≡ before → Stands before o start → Stands after (decided o member fate (Err reason)) start
stands_failed before after o start member fate reason same stands =
    let leaves = stands.2 in
    (stands.0, same ∙ stands.1, record { journal = leaves.journal; others = leaves.others; idle = leaves.idle })

pub always_err : {X E P : Type 0} (result : Result X E) → P → OnErr result P
always_err (Ok x) p = tt
always_err (Err e) p = p
