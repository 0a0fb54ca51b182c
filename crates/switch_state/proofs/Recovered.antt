-- A switch is made of what its journal says: each opam text is read in turn.
use Rattle.std.proofs.Common.{◌≡◌, ◌≢◌, ◌∙◌, ◌⊎◌, inl, inr, ℕ, ◌<◌, ◌≤◌, List, [], ◌∷◌, ◌++◌, length, map, Bool, true, refl, sym, ap, subst, arith, Option, Some, None, Result, Ok, Err}
use Rattle.std.specs.Prelude.{bytes_eq, ◌||◌, IfOk, IsTrue}
use Rattle.std.specs.List.{All, IsDistinct, list_all, list_any}
use Rattle.std.specs.Option.{option_map}
use Rattle.std.proofs.lemmas.List.{append_assoc, append-nil, map-append}
use Rattle.std.proofs.lemmas.List.Elements.{All-append, All-cons, All-head, All-nil, All-tail}
use Rattle.std.proofs.lemmas.List.Sorted.{All-permutation, list_any-IsPermutation}
use Rattle.std.proofs.lemmas.List.Sums.{AllPass-from_list_all, list_all-from_AllPass}
use Rattle.opam_names.specs.ByteOrders.{RisesBy, in_order_by}
use Rattle.opam_names.specs.declared.packages.Pkg.{Pkg}
use Rattle.opam_names.proofs.ByteOrders.{order_permutes, order_rises}
use Rattle.opam_filter.specs.Variables.{Values}
use Rattle.opam_package.specs.PackageTexts.{IsPackageFault}
use Rattle.opam_package.specs.declared.fault.PackageFault.{PackageFault}
use Rattle.opam_package.specs.declared.fault.PackageFault.TheVariants.{Memory}
use Rattle.opam_package.specs.declared.package.Member.{Member}
use Rattle.syntax_trees.specs.Laws.{OneTreeForBytes}
use Rattle.journal_text.specs.Parts.{entry_name, is_own, own_name}
use Rattle.journal_text.specs.declared.record.Entry.{Entry}
use Rattle.path_order.specs.Apart.{AreApart}
use Rattle.owner_map.specs.Owning.{is_same_pkg, paths_of}
use Rattle.owner_map.specs.declared.owned.OwnedPath.{OwnedPath}
use Rattle.crash_disk.specs.Disks as disks
use Rattle.crash_disk.specs.Disks.{Tree}
use Rattle.crash_disk.specs.Writes.{with_writes}
use Rattle.switch_journal.specs.Applying.{entries_of, has_name, has_pkg, is_named, is_of}
use Rattle.switch_journal.specs.Contents.{Contents, entry_of}
use Rattle.switch_journal.specs.Formed.{IsFormed, has_owner_of}
use Rattle.switch_journal.specs.Journal.{Head, IsReadAt, StandsFor}
use Rattle.switch_journal.specs.Laws.{OneOutcome, WhatIsReadIsSaid}
use Rattle.switch_journal.specs.Opening.{IsNamed, OpensAs}
use Rattle.switch_journal.specs.Reading.{BadAt, Reads, Says, name_of_standing, standing_of}
use Rattle.switch_journal.specs.Snapshots.{IsSameSwitch}
use Rattle.switch_journal.specs.declared.fault.OpenFault.{OpenFault}
use Rattle.switch_journal.specs.declared.fault.OpenFault.TheVariants as journal
use Rattle.switch_journal.specs.declared.request.Open.{Open}
use Rattle.switch_journal.specs.declared.standing.Standing.{Standing}
use Rattle.switch_state.specs.Ends.{is_entry_name}
use Rattle.switch_state.specs.OpamTexts.{IsOpamText}
use Rattle.switch_state.specs.Recovery.{AreRead, IsAccepted, IsDamagedAt, IsFirstRefused, IsMadeOf, IsMemberRead, IsOpenRead, IsReadOf, IsSwitchOf, OpensSwitch, TellsDamage, no_journal, no_opam_text, target_texts, texts_of, told_fault}
use Rattle.switch_state.specs.Sound.{member_pkg, name_of}
use Rattle.switch_state.specs.State.{Now, Request, Room, SwitchState, contents_in, member_entry, open_of}
use Rattle.switch_state.specs.declared.fault.SwitchFault.{SwitchFault}
use Rattle.switch_state.specs.declared.fault.SwitchFault.TheVariants as fault
use Rattle.switch_state.proofs.Accepted.{opam_refused}
use Rattle.switch_state.proofs.Acting.{entries_said}
use Rattle.switch_state.proofs.SoundKept.{all_more, and_left, and_right, both_true}

-- ---- one text

-- a text that is refused, want of memory aside, is none of the package
pub refused_read : OneTreeForBytes → (globals : Values) (entry : Entry) (text : List ℕ) (fault : PackageFault) (read : Option Member) → text ≡ entry.opam → IsPackageFault text entry.pkg fault → (read ≡ None) × (fault ≢ Memory) → IsReadOf globals entry read
refused_read one globals entry text fault read same refused so =
    subst (IsReadOf globals entry) (sym so.0) (λ is. opam_refused one entry.pkg text fault refused so.1 (subst (IsOpamText entry.pkg) (sym same) is))

member_text : (globals : Values) (m : Member) → IsMemberRead globals m → IsOpamText m.package.pkg m.opam
member_text globals m read = record { short = read.short; file = read.says.file; is_text = read.says.text; faultless = read.says.sound }

read_accepted : (globals : Values) (s : Standing) (m : Member) → IsReadOf globals s.entry (Some m) → IsAccepted s
read_accepted globals s m read = subst (λ (e : Entry). IsOpamText e.pkg e.opam) read.0 (member_text globals m read.1)

-- ---- text by text

refused_after : (path : List ℕ) (past left : List Standing) → All IsAccepted past → IsFirstRefused path left → IsFirstRefused path (past ++ left)
refused_after path [] left all first = first
refused_after path (s ∷ past) left all first = inr (All-head IsAccepted s past all, refused_after path past left (All-tail IsAccepted s past all) first)

refused_before : (path : List ℕ) (past left : List Standing) → IsFirstRefused path past → IsFirstRefused path (past ++ left)
refused_before path [] left first = absurd first
refused_before path (s ∷ past) left (inl here) = inl here
refused_before path (s ∷ past) left (inr later) = inr (later.0, refused_before path past left later.1)

pub none_refused : (path : List ℕ) (texts : List Standing) → All IsAccepted texts → IsFirstRefused path texts → ⊥
none_refused path [] all first = first
none_refused path (s ∷ texts) all (inl here) = here.1 (All-head IsAccepted s texts all)
none_refused path (s ∷ texts) all (inr later) = none_refused path texts (All-tail IsAccepted s texts all) later.1

nothing_read : (globals : Values) → AreRead globals [] []
nothing_read globals = record { entries = refl; read = All-nil (IsMemberRead globals); accepted = All-nil IsAccepted }

one_more : (globals : Values) (past : List Standing) (read : List Member) (s : Standing) (m : Member) → AreRead globals past read → IsReadOf globals s.entry (Some m) → AreRead globals (past ++ s ∷ []) (read ++ m ∷ [])
one_more globals past read s m are is = record {
  entries = map-append member_entry read (m ∷ []) ∙ (λ i. are.entries i ++ is.0 i ∷ []) ∙ sym (map-append entry_of past (s ∷ []));
  read = All-append (IsMemberRead globals) read (m ∷ []) are.read (All-cons (IsMemberRead globals) m [] is.1 (All-nil (IsMemberRead globals)));
  accepted = All-append IsAccepted past (s ∷ []) are.accepted (All-cons IsAccepted s [] (read_accepted globals s m is) (All-nil IsAccepted));
}

-- the first of these texts are read, and some are left
pub record IsReading (globals : Values) (all left : List Standing) (read : List Member) : Type 0 where
  pub past : List Standing
  pub split : all ≡ past ++ left
  pub are : AreRead globals past read

pub reading_first : (globals : Values) (all left : List Standing) (read : List Member) → left ≡ all → read ≡ [] → IsReading globals all left read
reading_first globals all left read is none = record { past = []; split = sym is; are = subst (AreRead globals []) (sym none) (nothing_read globals) }

pub reading_more : (globals : Values) (all left more : List Standing) (read : List Member) (s : Standing) (m : Member) (step : Option Member) → left ≡ s ∷ more → step ≡ Some m → IsReadOf globals s.entry step → IsReading globals all left read
    → IsReading globals all more (read ++ m ∷ [])
reading_more globals all left more read s m step is some found reading = record {
  past = reading.past ++ s ∷ [];
  split = reading.split ∙ ap (λ (l : List Standing). reading.past ++ l) is ∙ sym (append_assoc reading.past (s ∷ []) more);
  are = one_more globals reading.past read s m reading.are (subst (IsReadOf globals s.entry) some found);
}

pub reading_none : (globals : Values) (all left more : List Standing) (read : List Member) (s : Standing) (step : Option Member) → left ≡ s ∷ more → step ≡ None → IsReadOf globals s.entry step → IsReading globals all left read → IsFirstRefused s.from all
reading_none globals all left more read s step is none found reading =
    let split : all ≡ reading.past ++ s ∷ more = reading.split ∙ ap (λ (l : List Standing). reading.past ++ l) is in
    subst (IsFirstRefused s.from) (sym split) (refused_after s.from reading.past (s ∷ more) reading.are.accepted (inl (refl, subst (IsReadOf globals s.entry) none found)))

pub reading_last : (globals : Values) (all left : List Standing) (read : List Member) (count : ℕ) → count ≡ length left → count ≡ 0 → IsReading globals all left read → AreRead globals all read
reading_last globals all [] read count is none reading = subst (λ (texts : List Standing). AreRead globals texts read) (sym (reading.split ∙ append-nil reading.past)) reading.are
reading_last globals all (s ∷ left) read count is none reading = absurd (omega (arith, is, none))

-- ---- the open request

pub target_read : (globals : Values) (request : Open) (read : Request) → read.from ≡ request.from → read.removals ≡ request.removals → read.done ≡ request.done → AreRead globals (map (standing_of request.from) request.target) read.target
    → IsOpenRead globals (Some request) (Some read)
target_read globals request read from removals done are = record {
  same = (λ i. Some (record { from = from i; target = (are.entries ∙ stood request.target) i; removals = removals i; done = done i }));
  members = are.read;
  accepted = are.accepted;
}
  where
    stood : (target : List Entry) → map entry_of (map (standing_of request.from) target) ≡ target
    stood [] = refl
    stood (entry ∷ target) = ap (λ (es : List Entry). entry ∷ es) (stood target)

-- ---- the whole

map_own : (names : List (List ℕ)) → map own_name names ≡ names
map_own [] = refl
map_own (name ∷ names) = ap (λ (ns : List (List ℕ)). name ∷ ns) (map_own names)

member_names : (members : List Member) → map name_of members ≡ map entry_name (map member_entry members)
member_names [] = refl
member_names (m ∷ members) = ap (λ (ns : List (List ℕ)). m.package.pkg.name ∷ ns) (member_names members)

text_names : (texts : List Standing) → map entry_name (map entry_of texts) ≡ map name_of_standing texts
text_names [] = refl
text_names (s ∷ texts) = ap (λ (ns : List (List ℕ)). s.entry.pkg.name ∷ ns) (text_names texts)

module _ (globals : Values) (c : Contents) (members : List Member) (are : AreRead globals c.standing members) where
  entries_are : entries_of c ≡ map member_entry members
  entries_are = sym are.entries

  names_are : map name_of members ≡ map name_of_standing c.standing
  names_are = member_names members ∙ ap (map entry_name) are.entries ∙ text_names c.standing

  has_pkg_is : (pkg : Pkg) (ms : List Member) → list_any (is_of pkg) (map member_entry ms) ≡ list_any (λ m. is_same_pkg (member_pkg m) pkg) ms
  has_pkg_is pkg [] = refl
  has_pkg_is pkg (m ∷ ms) = ap (λ b. is_same_pkg (member_pkg m) pkg || b) (has_pkg_is pkg ms)

  owner_is : (o : OwnedPath) → has_owner_of c o ≡ true → list_any (λ m. is_same_pkg (member_pkg m) o.owner) members ≡ true
  owner_is o is = sym (has_pkg_is o.owner members) ∙ ap (list_any (is_of o.owner)) are.entries ∙ is

  named_said : (name : List ℕ) (ms : List Member) → list_any (is_named name) (map member_entry ms) ≡ is_entry_name ms name
  named_said name [] = refl
  named_said name (m ∷ ms) = ap (λ b. bytes_eq name m.package.pkg.name || b) (named_said name ms)

  all_asked : (names : List (List ℕ)) → list_all (λ name. has_name name c) names ≡ true → list_all (is_entry_name members) names ≡ true
  all_asked [] all = refl
  all_asked (name ∷ names) all =
      both_true (is_entry_name members name) (list_all (is_entry_name members) names)
      (sym (named_said name members) ∙ ap (list_any (is_named name)) are.entries ∙ and_left (has_name name c) (list_all (λ n. has_name n c) names) all)
      (all_asked names (and_right (has_name name c) (list_all (λ n. has_name n c) names) all))

  sorted_asked : (names : List (List ℕ)) → list_all (is_entry_name members) names ≡ true → list_all (is_entry_name members) (in_order_by own_name names) ≡ true
  sorted_asked names all =
      let test = is_entry_name members in
      list_all-from_AllPass test (in_order_by own_name names)
      (All-permutation (λ (name : List ℕ). IsTrue (test name)) names (in_order_by own_name names) (order_permutes own_name names) (AllPass-from_list_all test names all))

no_request : (request : Option Request) → request ≡ None → None ≡ option_map open_of request
no_request None is = refl
no_request (Some request) is = absurd (cc)

-- a state with these parts is what the contents say
pub recovered : (globals : Values) (head : Head) (c : Contents) (members : List Member) (owned : List OwnedPath) (roots : List (List ℕ)) (request : Option Request) (room : Room) → IsFormed c → AreRead globals c.standing members → IsOpenRead globals c.request request
    → owned ≡ c.owned → AreApart (paths_of owned) → roots ≡ in_order_by own_name c.roots → IsSwitchOf globals head c (record { head = head; state = record { members = members; owned = owned; roots = roots; request = request }; commits = 0; room = room })
recovered globals head c members owned roots request room formed are asked owned_is apart roots_are =
    let state : SwitchState = record { members = members; owned = owned; roots = roots; request = request } in
    record {
      head_is = refl;
      same = record {
        entries = entries_are globals c members are ∙ sym (entries_said state);
        owned = sym owned_is;
        roots = λ name. list_any-IsPermutation (bytes_eq name) c.roots (in_order_by own_name c.roots) (order_permutes own_name c.roots) ∙ ap (list_any (bytes_eq name)) (sym roots_are);
        request = sym asked.same;
      };
      formed = record {
        names = subst (IsDistinct bytes_eq) (sym (names_are globals c members are)) formed.installed.names;
        paths = record { apart = apart; free = ap (λ (os : List OwnedPath). list_any is_own (paths_of os)) owned_is ∙ formed.installed.free };
        owners =
            ap (list_all (λ (o : OwnedPath). list_any (λ m. is_same_pkg (member_pkg m) o.owner) members)) owned_is
            ∙ all_more (has_owner_of c) (λ o. list_any (λ m. is_same_pkg (member_pkg m) o.owner) members) c.owned (owner_is globals c members are) formed.installed.owners;
        roots = subst (RisesBy own_name) (sym roots_are) (order_rises own_name c.roots (subst (IsDistinct bytes_eq) (sym (map_own c.roots)) formed.roots.differ));
        asked = λ none.
            subst (λ (names : List (List ℕ)). list_all (is_entry_name members) names ≡ true) (sym roots_are)
            (sorted_asked globals c members are c.roots (all_asked globals c members are c.roots (formed.roots.asked (sym asked.same ∙ sym (no_request request none)))));
      };
      read = record { installed = are.read; target = asked.members };
      accepted = All-append IsAccepted c.standing (target_texts c.request) are.accepted asked.accepted;
      commits = refl;
    }

-- the first of the texts that is refused is that of an entry, or of a member of the target where all entries are accepted
pub entry_refused : (path : List ℕ) (c : Contents) → IsFirstRefused path c.standing → IsFirstRefused path (texts_of c)
entry_refused path c first = refused_before path c.standing (target_texts c.request) first

pub target_refused : (path : List ℕ) (c : Contents) → All IsAccepted c.standing → IsFirstRefused path (target_texts c.request) → IsFirstRefused path (texts_of c)
target_refused path c all first = refused_after path c.standing (target_texts c.request) all first

-- ---- what is told of the files

pub made_stands : (globals : Values) (head : Head) (c : Contents) (tree : Tree) (told : Option disks.State) (result : Result Now SwitchFault) → IsMadeOf globals head c result → OpensAs head c tree told → IfOk result (λ now. OpensSwitch now tree told)
made_stands globals head c tree told (Ok now) is opens = record {
  contents = c;
  work = opens.work;
  reads = subst (λ (h : Head). IsReadAt h c opens.work tree) (sym is.head_is) opens.reads;
  same = is.same;
  stands = record { contents = c; same = is.same; journal = subst (λ (h : Head). StandsFor h c (with_writes opens.work tree) told) (sym is.head_is) opens.stands };
}
made_stands globals head c tree told (Err fault) is opens = tt

said_same : (one other : Contents) → Says one ≡ Says other → one ≡ other
said_same one other is = cc

no_damage : OneOutcome → (tree : Tree) (c : Contents) → Reads tree (Says c) → All IsAccepted (texts_of c) → (path : List ℕ) → IsDamagedAt tree path → ⊥
no_damage one tree c says all path (no_journal bad) = absurd (let e = one tree (Says c) (BadAt path) says bad in cc)
no_damage one tree c says all path (no_opam_text {c = other} others first) =
    none_refused path (texts_of c) all (subst (λ (k : Contents). IsFirstRefused path (texts_of k)) (said_same other c (one tree (Says other) (Says c) others says)) first)

pub made_tells : WhatIsReadIsSaid → OneOutcome → (globals : Values) (head : Head) (c : Contents) (tree : Tree) (told : Option disks.State) (result : Result Now SwitchFault) → IsMadeOf globals head c result → OpensAs head c tree told → TellsDamage result tree
made_tells said one globals head c tree told (Ok now) is opens = λ path damaged. no_damage one tree c (said.says tree head c opens.work opens.reads) is.accepted path damaged
made_tells said one globals head c tree told (Err fault.DiskFailed) is opens = tt
made_tells said one globals head c tree told (Err fault.Memory) is opens = tt
made_tells said one globals head c tree told (Err (fault.Damaged path)) is opens = no_opam_text (said.says tree head c opens.work opens.reads) is

pub told_bad : (T : Type 0) (f : OpenFault) (tree : Tree) → IsNamed {T = T} (Err f) tree → TellsDamage {T = Now} (Err (told_fault f)) tree
told_bad T journal.DiskFailed tree bad = tt
told_bad T (journal.NotAJournal path) tree bad = no_journal bad
told_bad T journal.Memory tree bad = tt
