use Rattle.opam_top.specs.declared.records.Rec.TheVariants.{Install}
use Rattle.opam_top.specs.declared.records.Rec.{Rec}
-- A change over the first of its packages, and one package more.
use Rattle.std.proofs.Common.{◌≡◌, inl, inr, ℕ, ◌+◌, ◌<◌, ◌≤◌, List, [], ◌∷◌, ◌++◌, length, get_or, take, drop, Bool, true, false, Option, Some, None, Result, Ok, Err, refl, sym, ◌∙◌, ap, subst, arith, length-append, append_assoc}
use Rattle.std.specs.Prelude.{count_by, fold}
use Rattle.std.specs.List.{flat_map, list_all}
use Rattle.std.specs.Cmp.Lexicographic.{slice_cmp}
use Rattle.std.specs.FinMap.{len, len-empty}
use Rattle.std.specs.Option.{option_map}
use Rattle.std.specs.Ordering.{nat_cmp}
use Rattle.std.proofs.Math.Nat.{le_trans}
use Rattle.std.proofs.Math.Seq.{take-append_seam, take-append-add}
use Rattle.std.proofs.lemmas.Bool.{cases_Bool}
use Rattle.std.proofs.lemmas.Grind.{flat_map-append}
use Rattle.std.proofs.lemmas.List.{append-nil, drop_more, take-append-drop, take-append-le, take_all}
use Rattle.std.proofs.lemmas.List.Folds.{list_all_at}
use Rattle.std.proofs.lemmas.List.Sums.{count_by-le-length, fold_more}
use Rattle.opam_names.specs.declared.packages.Pkg.{Pkg}
use Rattle.opam_top.specs.Reports.{is_installed, line_of}
use Rattle.opam_top.specs.declared.decision.Decision.{Decision}
use Rattle.opam_top.specs.declared.decision.Decision.TheVariants.{Installed, Failed}
use Rattle.opam_top.specs.declared.decision.Reason.{Reason}
use Rattle.outside_io.specs.Counts.{Rose}
use Rattle.outside_io.specs.Shops.{Told, fate_of}
use Rattle.outside_io.specs.Sinks.{Got, GotPrefix}
use Rattle.outside_io.specs.declared.workshop.Fate.{Fate}
use Rattle.crash_disk.specs.Disks.{State, Tree}
use Rattle.opam_top.specs.Changes.{AreReceipts, HeardOrNot, IsPartOf, IsRegular, Says, Stands, Tracks}
use Rattle.opam_top.specs.Fronts.{is_short}
use Rattle.opam_top.specs.Holdings.{KeepsOthers}
use Rattle.opam_top.specs.Installs.{job_of}
use Rattle.opam_top.specs.Journals.{is_fresh}
use Rattle.opam_top.specs.Outcomes.{Outcome, decided, outcome, undecided, verdict, with_member}
use Rattle.opam_top.specs.Owners.{is_owned_in_bin, owners_of}
use Rattle.opam_top.specs.Switches.{Switch, empty_switch}
use Rattle.opam_top.specs.declared.change.Progress.{Progress}
use Rattle.opam_top.specs.declared.member.Member.{Member}
use Rattle.opam_top.specs.declared.records.Placed.{Placed}
use Rattle.opam_top.specs.declared.status.Receipt.{Receipt}
use Rattle.opam_top.proofs.Committed.{keeps_then, leaves_none}

-- ---- what was told

got_none : (old : Option (List ℕ)) → Got old old []
got_none None = refl
got_none (Some w) = ap (λ (l : List ℕ). Some l) (sym (append-nil w))

got_then : (a b c : Option (List ℕ)) (x y : List ℕ) → Got a b x → Got b c y → Got a c (x ++ y)
got_then None b c x y one two = two ∙ ap (λ (o : Option (List ℕ)). option_map (λ w. w ++ y) o) one
got_then (Some w) b c x y one two = two ∙ ap (λ (o : Option (List ℕ)). option_map (λ v. v ++ y) o) one ∙ ap (λ (l : List ℕ). Some l) (append_assoc w x y)

part_first : (a b c : Option (List ℕ)) (x y : List ℕ) → GotPrefix a b x → c ≡ b → GotPrefix a c (x ++ y)
part_first a b c x y part same =
    let within : part.0 ≤ length (x ++ y) = omega (arith, part.1, length-append x y) in
    (part.0, within, same ∙ part.2 ∙ ap (λ (l : List ℕ). option_map (λ w. w ++ l) a) (sym (take-append-le part.0 x y part.1)))

part_later : (a b c : Option (List ℕ)) (x y : List ℕ) → Got a b x → GotPrefix b c y → GotPrefix a c (x ++ y)
part_later a b c x y got part =
    let within : length x + part.0 ≤ length (x ++ y) = omega (arith, part.1, length-append x y) in
    (length x + part.0, within, got_then a b c x (take part.0 y) got part.2 ∙ ap (λ (l : List ℕ). option_map (λ w. w ++ l) a) (sym (take-append-add x y part.0)))

not_stopped : (was now : Bool) → (was ≡ true → now ≡ true) → now ≡ false → was ≡ false
not_stopped true now stays is = absurd (let e : true ≡ false = sym (stays refl) ∙ is in cc)
not_stopped false now stays is = refl

module _ (s t u : Bool) (m n p : ℕ) (a b c : Option (List ℕ)) (x y : List ℕ) (one : Says s t m n a b x) (two : Says t u n p b c y) where
  rose_by : (stopped : Bool) → t ≡ stopped → s ≡ false → u ≡ true → Rose m p
  rose_by true is was now = let same = two.unmoved is in subst (λ (k : ℕ). Rose m k) (sym same) (one.rose was is)
  rose_by false is was now = subst (λ (k : ℕ). Rose k p) (one.quiet is) (two.rose is now)

  part_by : (stopped : Bool) → t ≡ stopped → GotPrefix a c (x ++ y)
  part_by true is = part_first a b c x y one.part (two.silent is)
  part_by false is = part_later a b c x y (one.all is) two.part

  pub says_then : Says s u m p a c (x ++ y)
  says_then = record {
    later = le_trans one.later two.later;
    all = λ is. let before = not_stopped t u two.stays is in got_then a b c x y (one.all before) (two.all is);
    quiet = λ is. let before = not_stopped t u two.stays is in two.quiet is ∙ one.quiet before;
    rose = rose_by t refl;
    part = part_by t refl;
    stays = λ is. two.stays (one.stays is);
    silent = λ is. two.silent (one.stays is) ∙ one.silent is;
    unmoved = λ is. two.unmoved (one.stays is) ∙ one.unmoved is;
  }

pub says_none : (s : Bool) (m : ℕ) (a : Option (List ℕ)) → Says s s m m a a []
says_none s m a = record {
  later = omega arith;
  all = λ is. got_none a;
  quiet = λ is. refl;
  rose = λ was now. absurd (let e : true ≡ false = sym now ∙ was in cc);
  part = (0, omega arith, got_none a);
  stays = λ is. is;
  silent = λ is. refl;
  unmoved = λ is. refl;
}

-- the lines of one decision more
pub lines_more : (decisions grown : List Decision) (d : Decision) → grown ≡ decisions ++ d ∷ [] → flat_map line_of grown ≡ flat_map line_of decisions ++ line_of d
lines_more decisions grown d is = ap (flat_map line_of) is ∙ flat_map-append line_of decisions (d ∷ []) ∙ ap (λ (l : List ℕ). flat_map line_of decisions ++ l) (append-nil (line_of d))

-- ---- the outcome so far

decided_more : (o : Outcome) (member : Member) (fate : Fate) (found : Result (List Placed) Reason) → (d : Decision) × ((decided o member fate found).decisions ≡ o.decisions ++ d ∷ [])
decided_more o member fate (Ok files) = (Installed member.pkg, refl)
decided_more o member fate (Err reason) = (Failed member.pkg reason, refl)

heard_more : (o : Outcome) (member : Member) (fate : Fate) (found : Result (List Placed) Reason) → (decided o member fate found).heard ≡ o.heard ++ (member.pkg, fate) ∷ []
heard_more o member fate (Ok files) = refl
heard_more o member fate (Err reason) = refl

pub with_heard : (told : Told) (o : Outcome) (member : Member) → (with_member told o member).heard ≡ o.heard ++ (member.pkg, fate_of told (job_of member)) ∷ []
with_heard told o member = heard_more o member (fate_of told (job_of member)) (verdict told o.switch member)

module _ (told : Told) where
  abbrev step : Outcome → Member → Outcome
  step = with_member told

  decisions_on : (o : Outcome) (members : List Member) → (rest : List Decision) × ((fold step o members).decisions ≡ o.decisions ++ rest)
  decisions_on o [] = ([], sym (append-nil o.decisions))
  decisions_on o (member ∷ members) =
      let one = decided_more o member (fate_of told (job_of member)) (verdict told o.switch member) in
      let later = decisions_on (step o member) members in
      (one.0 ∷ later.0, later.1 ∙ ap (λ (l : List Decision). l ++ later.0) one.1 ∙ append_assoc o.decisions (one.0 ∷ []) later.0)

  heard_on : (o : Outcome) (members : List Member) → (rest : List (Pkg × Fate)) × ((fold step o members).heard ≡ o.heard ++ rest)
  heard_on o [] = ([], sym (append-nil o.heard))
  heard_on o (member ∷ members) =
      let fate = fate_of told (job_of member) in
      let later = heard_on (step o member) members in
      ((member.pkg, fate) ∷ later.0, later.1 ∙ ap (λ (l : List (Pkg × Fate)). l ++ later.0) (with_heard told o member) ∙ append_assoc o.heard ((member.pkg, fate) ∷ []) later.0)

  as_many_step : (o : Outcome) (member : Member) → length o.heard ≡ length o.decisions → length (step o member).heard ≡ length (step o member).decisions
  as_many_step o member same =
      let one = decided_more o member (fate_of told (job_of member)) (verdict told o.switch member) in
      let pair : Pkg × Fate = (member.pkg, fate_of told (job_of member)) in
      ap length (with_heard told o member) ∙ length-append o.heard (pair ∷ []) ∙ ap (λ n. n + 1) same ∙ sym (length-append o.decisions (one.0 ∷ [])) ∙ sym (ap length one.1)

  as_many : (o : Outcome) (members : List Member) → length o.heard ≡ length o.decisions → length (fold step o members).heard ≡ length (fold step o members).decisions
  as_many o [] same = same
  as_many o (member ∷ members) same = as_many (step o member) members (as_many_step o member same)

  fold_apart : (o : Outcome) (xs ys : List Member) → fold step o (xs ++ ys) ≡ fold step (fold step o xs) ys
  fold_apart o [] ys = refl
  fold_apart o (x ∷ xs) ys = fold_apart (step o x) xs ys

  pub one_step : (switch : Switch) (members : List Member) (i : ℕ) (member : Member) → member ≡ get_or members i member → i < length members → outcome told switch (take (i + 1) members) ≡ step (outcome told switch (take i members)) member
  one_step switch members i member here within = fold_more step (undecided switch) members i member within ∙ ap (step (outcome told switch (take i members))) (sym here)

  pub whole_from : (switch : Switch) (members : List Member) (i : ℕ) → outcome told switch members ≡ fold step (outcome told switch (take i members)) (drop i members)
  whole_from switch members i = ap (outcome told switch) (sym (take-append-drop i members)) ∙ fold_apart (undecided switch) (take i members) (drop i members)

  records_more : (o : Outcome) (member : Member) (fate : Fate) (found : Result (List Placed) Reason) → (rest : List Rec) × ((decided o member fate found).records ≡ o.records ++ rest)
  records_more o member fate (Ok files) = (Install member.pkg member.opam files ∷ [], refl)
  records_more o member fate (Err reason) = ([], sym (append-nil o.records))

  records_on : (o : Outcome) (members : List Member) → (rest : List Rec) × ((fold step o members).records ≡ o.records ++ rest)
  records_on o [] = ([], sym (append-nil o.records))
  records_on o (member ∷ members) =
      let one = records_more o member (fate_of told (job_of member)) (verdict told o.switch member) in
      let later = records_on (step o member) members in
      (one.0 ++ later.0, later.1 ∙ ap (λ (l : List Rec). l ++ later.0) one.1 ∙ append_assoc o.records one.0 later.0)

  pub records_from : (switch : Switch) (members : List Member) (i : ℕ) → (rest : List Rec) × ((outcome told switch members).records ≡ (outcome told switch (take i members)).records ++ rest)
  records_from switch members i =
      let rest = records_on (outcome told switch (take i members)) (drop i members) in
      (rest.0, ap (λ (o : Outcome). o.records) (whole_from switch members i) ∙ rest.1)

  -- a run that goes on from here
  part_at : (progress : Progress) (o next whole : Outcome) (members more : List Member) → length o.heard ≡ length o.decisions → progress.decisions.items ≡ o.decisions → progress.heard.items ≡ next.heard → length o.heard ≤ length next.heard
      → whole ≡ fold step o members → whole ≡ fold step next more → IsPartOf progress whole
  part_at progress o next whole members more even decisions heard longer from later =
      let ds = decisions_on o members in let hs = heard_on next more in
      let all : whole.decisions ≡ progress.decisions.items ++ ds.0 = ap (λ (w : Outcome). w.decisions) from ∙ ds.1 ∙ ap (λ (l : List Decision). l ++ ds.0) (sym decisions) in
      let jobs : whole.heard ≡ progress.heard.items ++ hs.0 = ap (λ (w : Outcome). w.heard) later ∙ hs.1 ∙ ap (λ (l : List (Pkg × Fate)). l ++ hs.0) (sym heard) in
      record {
        decisions = sym (take-append_seam progress.decisions.items ds.0) ∙ ap (take (length progress.decisions.items)) (sym all);
        few = omega (arith, ap length all, length-append progress.decisions.items ds.0);
        heard = sym (take-append_seam progress.heard.items hs.0) ∙ ap (take (length progress.heard.items)) (sym jobs);
        all_heard = omega (arith, ap length decisions, ap length heard, even, longer);
      }

  pub part_of : (progress : Progress) (switch : Switch) (members : List Member) (i : ℕ) (member : Member) (old : List (Pkg × Fate)) → member ≡ get_or members i member → i < length members → progress.decisions.items ≡ (outcome told switch (take i members)).decisions
      → old ≡ (outcome told switch (take i members)).heard → HeardOrNot (member.pkg, fate_of told (job_of member)) old progress.heard.items → IsPartOf progress (outcome told switch members)
  part_of progress switch members i member old here within decisions was heard =
      let o = outcome told switch (take i members) in
      let even = as_many (undecided switch) (take i members) refl in
      let from = whole_from switch members i in
      elim heard [
        | inl same ↦ part_at progress o o (outcome told switch members) (drop i members) (drop i members) even decisions (same ∙ was) (omega arith) from from
        | inr one ↦
            let next = step o member in
            let later : outcome told switch members ≡ fold step next (drop (i + 1) members) = from ∙ ap (fold step o) (drop_more members i member within ∙ ap (λ (m : Member). m ∷ drop (i + 1) members) (sym here)) in
            let pair : Pkg × Fate = (member.pkg, fate_of told (job_of member)) in
            let is : progress.heard.items ≡ next.heard = one ∙ ap (λ (l : List (Pkg × Fate)). l ++ pair ∷ []) was ∙ sym (with_heard told o member) in
            part_at progress o next (outcome told switch members) (drop i members) (drop (i + 1) members) even decisions is (omega (arith, ap length (with_heard told o member), length-append o.heard (pair ∷ []))) from later
      ]

-- ---- a progress, and the disk, so far

pub record HasCome (told : Told) (start : Tree) (members : List Member) (i : ℕ) (progress : Progress) (disk : Option State) : Type 0 where
  pub tracks : Tracks progress (outcome told (empty_switch start) (take i members))
  pub stands : Stands disk (outcome told (empty_switch start) (take i members)) start
  pub heard : progress.heard.items ≡ (outcome told (empty_switch start) (take i members)).heard

pub come_more : (told : Told) (start : Tree) (members : List Member) (i : ℕ) (member : Member) (progress : Progress) (disk : Option State) (old : List (Pkg × Fate)) → member ≡ get_or members i member → i < length members
    → Tracks progress (with_member told (outcome told (empty_switch start) (take i members)) member) → Stands disk (with_member told (outcome told (empty_switch start) (take i members)) member) start
    → old ≡ (outcome told (empty_switch start) (take i members)).heard → progress.heard.items ≡ old ++ (member.pkg, fate_of told (job_of member)) ∷ [] → HasCome told start members (i + 1) progress disk
come_more told start members i member progress disk old here within tracks stands was heard =
    let o = outcome told (empty_switch start) (take i members) in
    let next = one_step told (empty_switch start) members i member here within in
    let pair : Pkg × Fate = (member.pkg, fate_of told (job_of member)) in
    record {
      tracks = subst (λ (n : Outcome). Tracks progress n) (sym next) tracks;
      stands = subst (λ (n : Outcome). Stands disk n start) (sym next) stands;
      heard = heard ∙ ap (λ (l : List (Pkg × Fate)). l ++ pair ∷ []) was ∙ sym (with_heard told o member) ∙ ap (λ (n : Outcome). n.heard) (sym next);
    }

pub come_all : (told : Told) (start : Tree) (members : List Member) (i : ℕ) → length members ≤ i → outcome told (empty_switch start) (take i members) ≡ outcome told (empty_switch start) members
come_all told start members i le = ap (outcome told (empty_switch start)) (take_all i members le)

pub stands_at_first : (s : State) (disk : Option State) → disk ≡ Some s → is_fresh s.files ≡ true → Stands disk (undecided (empty_switch s.files)) s.files
stands_at_first s disk told fresh = (s, told, leaves_none (undecided (empty_switch s.files)) s.files fresh refl refl)

-- ---- each package is short

all_true : {X : Type 0} (test : X → Bool) (xs : List X) (i : ℕ) (x : X) → list_all test xs ≡ true → x ≡ get_or xs i x → i < length xs → test x ≡ true
all_true test xs i x all here within =
    elim (cases_Bool (test x)) [
      | inl is ↦ is
      | inr not ↦ absurd (let none : list_all test xs ≡ false = list_all_at test xs i x within (ap test (sym here) ∙ not) in let e : true ≡ false = sym all ∙ none in cc)
    ]

pub short_at : (members : List Member) (i : ℕ) (member : Member) → list_all is_short members ≡ true → member ≡ get_or members i member → i < length members → is_short member ≡ true
short_at members i member all here within = all_true is_short members i member all here within

pub few_receipts : (decisions : List Decision) (receipts id most : ℕ) → receipts ≡ count_by is_installed decisions → length decisions ≡ id → id < most → most ≤ 64 → receipts < 4294967295
few_receipts decisions receipts id most number count within few = let le = count_by-le-length is_installed decisions in omega (arith, number, count, le)

-- ---- what stood outside the journal

pub kept_then : (before mid after : Option State) → ((s : State) → before ≡ Some s → (new : State) × (mid ≡ Some new) × KeepsOthers s.files new.files)
    → ((s : State) → mid ≡ Some s → (new : State) × (after ≡ Some new) × KeepsOthers s.files new.files) → (s : State) → before ≡ Some s → (new : State) × (after ≡ Some new) × KeepsOthers s.files new.files
kept_then before mid after one two s told =
    let first = one s told in let second = two first.0 first.1 in
    (second.0, second.1, keeps_then s.files first.0.files second.0.files first.2 second.2)

-- ---- before the first package

pub regular_at_first : (progress : Progress) → progress.decisions.items ≡ [] → progress.receipts.items ≡ [] → progress.owners.items ≡ [] → IsRegular progress
regular_at_first progress decisions receipts owners = record {
  in_bin = ap (list_all is_owned_in_bin) owners;
  apart = ap (λ (l : List (List ℕ × Pkg)). len (owners_of l)) owners ∙ len-empty (slice_cmp nat_cmp) Pkg ∙ sym (ap length owners);
  number = ap length receipts ∙ sym (ap (count_by is_installed) decisions);
}

pub receipts_at_first : (now : ℕ) (receipts : List Receipt) → receipts ≡ [] → AreReceipts now now receipts
receipts_at_first now receipts none = let le : now ≤ now = omega arith in subst (λ (l : List Receipt). AreReceipts now now l) (sym none) (record { order = le })

pub come_at_first : (told : Told) (s : State) (members : List Member) (progress : Progress) (disk : Option State) → progress.decisions.items ≡ [] → progress.heard.items ≡ [] → progress.receipts.items ≡ [] → progress.owners.items ≡ [] → disk ≡ Some s → is_fresh s.files ≡ true
    → HasCome told s.files members 0 progress disk
come_at_first told s members progress disk decisions heard receipts owners is fresh = record {
  tracks = record { decisions = decisions; number = ap length receipts; owners = ap owners_of owners };
  stands = stands_at_first s disk is fresh;
  heard = heard;
}

pub one_longer : (decisions grown : List Decision) (d : Decision) → grown ≡ decisions ++ d ∷ [] → (id : ℕ) → length decisions ≡ id → length grown ≡ id + 1
one_longer decisions grown d is id count = ap length is ∙ length-append decisions (d ∷ []) ∙ ap (λ n. n + 1) count
