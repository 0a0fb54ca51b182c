-- What an image has at each path.
use Rattle.std.proofs.Common.{◌≡◌, ℕ, ◌+◌, ◌<◌, List, [], ◌∷◌, ◌++◌, length, take, get_or, map, IsTrue, refl, sym, ◌∙◌, ap, Some, None, Option, Bool, true, false, cond, if◌then◌else◌, nat_le, Result, Ok, Err, OnOk, arith}
use Rattle.std.specs.Prelude.{bytes_eq, ◌||◌}
use Rattle.std.specs.List.{list_any}
use Rattle.std.specs.Option.{option_map}
use Rattle.std.specs.Ordering.{nat_cmp}
use Rattle.std.specs.Cmp.Lexicographic.{slice_cmp}
use Rattle.std.specs.FinMap.{get, empty}
use Rattle.std.proofs.lemmas.List.{take_more}
use Rattle.std.proofs.lemmas.Slice.Eq.{bytes_eq-Decides}
use Rattle.opam_names.specs.declared.fault.OutOfMemory.{OutOfMemory}
use Rattle.crash_disk.specs.Disks.{IsImage, Kept, State, Tree, is_loose, with_file}
use Rattle.crash_disk.specs.Log.{Listed, PlacesAt, after, all_until, first_state, kept, replay, stored_first, until}
use Rattle.crash_disk.specs.Spots.{Spot, changed_spot, chosen_file, image_file, spot_after, spot_at, spot_by, spot_first, tried_spot}
use Rattle.crash_disk.specs.Traces.{is_here, is_touched, listing, path_in}
use Rattle.crash_disk.specs.declared.changes.Change.{Change}
use Rattle.crash_disk.specs.declared.changes.Change.TheVariants.{Put, Removed, FailedPut, FailedRemoval, Loosened, Synced}
use Rattle.crash_disk.specs.declared.changes.Entry.{Entry}
use Rattle.crash_disk.specs.declared.spots.Choice.{Choice}
use Rattle.crash_disk.proofs.Files.{get_put, get_removed, get_stored}
use Rattle.crash_disk.proofs.Order.{one_later, replay-push}
use Rattle.crash_disk.proofs.Trees.{get_here, get_with}

abbrev pub spot_after_push : List Entry → Entry → Type 0
spot_after_push es e = (q : List ℕ) (x : Spot) → spot_after (es ++ e ∷ []) q x ≡ spot_by e.change q (spot_after es q x)

pub pushed : (es : List Entry) (e : Entry) → spot_after_push es e
pushed [] e q x = refl
pushed (f ∷ es) e q x = pushed es e q (spot_by f.change q x)

-- ---- what is known of a path is what the files have there

chosen_here : (b : Bool) (file : Option Kept) (x y : Spot) → y.here ≡ file → (if b then y else x).here ≡ cond b file x.here
chosen_here true file x y is = is
chosen_here false file x y is = refl

kept_here : (b : Bool) (x y : Spot) → y.here ≡ x.here → (if b then y else x).here ≡ x.here
kept_here true x y is = is
kept_here false x y is = refl

step_here : (change : Change) (s : State) (q : List ℕ) (x : Spot) → get s.files q ≡ x.here → get (after change s).files q ≡ (spot_by change q x).here
step_here (Put f) s q x is = get_put s f.0 q (kept f) ∙ ap (cond (bytes_eq q f.0) (Some (kept f))) is ∙ sym (chosen_here (bytes_eq q f.0) (Some (kept f)) x (changed_spot (Some (kept f)) x) refl)
step_here (Removed p) s q x is = get_removed s p q ∙ ap (cond (bytes_eq q p) None) is ∙ sym (chosen_here (bytes_eq q p) None x (changed_spot None x) refl)
step_here (FailedPut f) s q x is = is ∙ sym (kept_here (bytes_eq q f.0) x (tried_spot (Some (kept f)) x) refl)
step_here (FailedRemoval p) s q x is = is ∙ sym (kept_here (bytes_eq q p) x (tried_spot None x) refl)
step_here (Loosened p) s q x is = is ∙ sym (kept_here (bytes_eq q p) x (tried_spot x.after x) refl)
step_here Synced s q x is = is

pub here_after : (es : List Entry) (s : State) (q : List ℕ) (x : Spot) → get s.files q ≡ x.here → get (replay es s).files q ≡ (spot_after es q x).here
here_after [] s q x is = is
here_after (e ∷ es) s q x is = here_after es (after e.change s) q (spot_by e.change q x) (step_here e.change s q x is)

loose_by : (b : Bool) (x y : Spot) → y.loose ≡ true → (if b then y else x).loose ≡ (b || x.loose)
loose_by true x y is = is
loose_by false x y is = refl

step_loose : (change : Change) (s : State) (q : List ℕ) (x : Spot) → is_loose s q ≡ x.loose → is_loose (after change s) q ≡ (spot_by change q x).loose
step_loose (Put f) s q x is = ap (λ (b : Bool). bytes_eq q f.0 || b) is ∙ sym (loose_by (bytes_eq q f.0) x (changed_spot (Some (kept f)) x) refl)
step_loose (Removed p) s q x is = ap (λ (b : Bool). bytes_eq q p || b) is ∙ sym (loose_by (bytes_eq q p) x (changed_spot None x) refl)
step_loose (FailedPut f) s q x is = ap (λ (b : Bool). bytes_eq q f.0 || b) is ∙ sym (loose_by (bytes_eq q f.0) x (tried_spot (Some (kept f)) x) refl)
step_loose (FailedRemoval p) s q x is = ap (λ (b : Bool). bytes_eq q p || b) is ∙ sym (loose_by (bytes_eq q p) x (tried_spot None x) refl)
step_loose (Loosened p) s q x is = ap (λ (b : Bool). bytes_eq q p || b) is ∙ sym (loose_by (bytes_eq q p) x (tried_spot x.after x) refl)
step_loose Synced s q x is = refl

pub loose_after : (es : List Entry) (s : State) (q : List ℕ) (x : Spot) → is_loose s q ≡ x.loose → is_loose (replay es s) q ≡ (spot_after es q x).loose
loose_after [] s q x is = is
loose_after (e ∷ es) s q x is = loose_after es (after e.change s) q (spot_by e.change q x) (step_loose e.change s q x is)

pub first_here : (first : List Listed) (q : List ℕ) → get (first_state first).files q ≡ (spot_first first q).here
first_here first q = get_stored first [] q

-- ---- a change that leaves a file at a path, seen from each path

pub places_here : (path : List ℕ) (file : Option Kept) (change : Change) (q : List ℕ) (x : Spot) → PlacesAt path file change → (spot_by change q x).here ≡ cond (bytes_eq q path) file x.here
places_here path file change q x places =
    let s : State = record { files = with_file (empty {X = Kept} {R = slice_cmp nat_cmp}) q x.here; loose = [] } in
    let there : get s.files q ≡ x.here = get_here (empty {X = Kept} {R = slice_cmp nat_cmp}) q x.here in
    sym (step_here change s q x there) ∙ ap (λ (t : State). get t.files q) (places s) ∙ get_with s.files path q file ∙ ap (cond (bytes_eq q path) file) there

-- one change more of an image
pub chosen_one : (path : List ℕ) (file : Option Kept) (change : Change) (made new : List Entry) (q : List ℕ) (x : Spot) → PlacesAt path file change → new ≡ made ++ record { moment = 0; change = change } ∷ []
    → (spot_after new q x).here ≡ (if bytes_eq q path then file else (spot_after made q x).here)
chosen_one path file change made new q x places is =
    ap (λ (es : List Entry). (spot_after es q x).here) is ∙ ap (λ (y : Spot). y.here) (pushed made (record { moment = 0; change = change }) q x) ∙ places_here path file change q (spot_after made q x) places

at_path_by : (b : Bool) (q path : List ℕ) (file : List ℕ → Option Kept) (y : Option Kept) → bytes_eq q path ≡ b → (if b then file path else y) ≡ (if b then file q else y)
at_path_by true q path file y is = ap file (sym ((bytes_eq-Decides q path).0 is))
at_path_by false q path file y is = refl

at_path : (q path : List ℕ) (file : List ℕ → Option Kept) (o : Option (List ℕ)) (y : Option Kept) → Some path ≡ o → (if bytes_eq q path then file path else y) ≡ (if is_here q o then file q else y)
at_path q path file o y is = at_path_by (bytes_eq q path) q path file y refl ∙ ap (λ (p : Option (List ℕ)). if is_here q p then file q else y) is

-- what the code does at one path
pub chosen_step : {T : Type 0} (choice : Choice) (first : List Listed) (log : List Entry) (t : ℕ) (noted : Change) (path : List ℕ) (w : Spot) (change : Change) (made new : List Entry) (result : Result T OutOfMemory)
    → Some path ≡ path_in noted → w ≡ spot_at first (until t log) path → PlacesAt path (image_file choice w) change → OnOk result (new ≡ made ++ record { moment = 0; change = change } ∷ [])
    → OnOk result ((q : List ℕ) (x : Spot) → (spot_after new q x).here ≡ (if is_here q (path_in noted) then image_file choice (spot_at first (until t log) q) else (spot_after made q x).here))
chosen_step choice first log t noted path w change made new (Err e) there known places pushed_on = tt
chosen_step choice first log t noted path w change made new (Ok x) there known places pushed_on = λ q y.
    chosen_one path (image_file choice w) change made new q y places pushed_on
    ∙ ap (λ (v : Spot). if bytes_eq q path then image_file choice v else (spot_after made q y).here) known
    ∙ at_path q path (λ (p : List ℕ). image_file choice (spot_at first (until t log) p)) (path_in noted) (spot_after made q y).here there

pub started_step : {T : Type 0} (change : Change) (made new : List Entry) (result : Result T OutOfMemory) → OnOk result (new ≡ made ++ record { moment = 0; change = change } ∷ []) → OnOk result (IsTrue (all_until 0 made) → IsTrue (all_until 0 new))
started_step change made new (Err e) pushed_on = tt
started_step change made new (Ok x) pushed_on = λ all. rw pushed_on (one_later 0 made (record { moment = 0; change = change }) (omega arith) all)

-- ---- the paths that no change has touched

any_push : (test : Entry → Bool) (es : List Entry) (e : Entry) → list_any test (es ++ e ∷ []) ≡ (list_any test es || test e)
any_push test [] e = or_false (test e)
  where
    or_false : (b : Bool) → (b || false) ≡ (false || b)
    or_false true = refl
    or_false false = refl
any_push test (f ∷ es) e = ap (λ (b : Bool). test f || b) (any_push test es e) ∙ or_then (test f) (list_any test es) (test e)
  where
    or_then : (a b c : Bool) → (a || (b || c)) ≡ ((a || b) || c)
    or_then true b c = refl
    or_then false b c = refl

more_touched : (a b : Bool) (file x y : Option Kept) → y ≡ (if a then file else x) → (if b then file else y) ≡ (if (a || b) then file else x)
more_touched true true file x y is = refl
more_touched true false file x y is = is
more_touched false true file x y is = refl
more_touched false false file x y is = is

-- one more change of the log
pub touched_more : (log : List Entry) (i : ℕ) (e : Entry) (q : List ℕ) (file x y z : Option Kept) → i < length log → e ≡ get_or log i e → y ≡ (if is_touched (take i log) q then file else x) → z ≡ (if is_here q (path_in e.change) then file else y)
    → z ≡ (if is_touched (take (i + 1) log) q then file else x)
touched_more log i e q file x y z lt at is next =
    next ∙ more_touched (is_touched (take i log) q) (is_here q (path_in e.change)) file x y is
    ∙ ap (λ (b : Bool). if b then file else x) (sym (ap (λ (es : List Entry). is_touched es q) (take_more log i e lt ∙ ap (λ (f : Entry). take i log ++ f ∷ []) (sym at)) ∙ any_push (λ f. is_here q (path_in f.change)) (take i log) e))

same_spot : (b : Bool) (x y : Spot) → b ≡ false → (if b then y else x) ≡ x
same_spot true x y is = absurd (cc)
same_spot false x y is = refl

pub record IsFirm (x y : Spot) : Type 0 where
  pub here : y.here ≡ x.here
  pub firm : y.loose ≡ false

firm_same : (x y : Spot) → y ≡ x → x.loose ≡ false → IsFirm x y
firm_same x y is firm = record { here = ap (λ (z : Spot). z.here) is; firm = ap (λ (z : Spot). z.loose) is ∙ firm }

step_firm : (change : Change) (q : List ℕ) (x : Spot) → is_here q (path_in change) ≡ false → x.loose ≡ false → IsFirm x (spot_by change q x)
step_firm (Put f) q x apart firm = firm_same x (spot_by (Put f) q x) (same_spot (bytes_eq q f.0) x (changed_spot (Some (kept f)) x) apart) firm
step_firm (Removed p) q x apart firm = firm_same x (spot_by (Removed p) q x) (same_spot (bytes_eq q p) x (changed_spot None x) apart) firm
step_firm (FailedPut f) q x apart firm = firm_same x (spot_by (FailedPut f) q x) (same_spot (bytes_eq q f.0) x (tried_spot (Some (kept f)) x) apart) firm
step_firm (FailedRemoval p) q x apart firm = firm_same x (spot_by (FailedRemoval p) q x) (same_spot (bytes_eq q p) x (tried_spot None x) apart) firm
step_firm (Loosened p) q x apart firm = firm_same x (spot_by (Loosened p) q x) (same_spot (bytes_eq q p) x (tried_spot x.after x) apart) firm
step_firm Synced q x apart firm = record { here = refl; firm = refl }

first_false : (a b : Bool) → (a || b) ≡ false → a ≡ false
first_false true b is = is
first_false false b is = refl

second_false : (a b : Bool) → (a || b) ≡ false → b ≡ false
second_false true b is = absurd (let e : true ≡ false = is in cc)
second_false false b is = is

firm_after : (es : List Entry) (q : List ℕ) (x : Spot) → is_touched es q ≡ false → x.loose ≡ false → IsFirm x (spot_after es q x)
firm_after [] q x apart firm = record { here = refl; firm = firm }
firm_after (e ∷ es) q x apart firm =
    let one = step_firm e.change q x (first_false (is_here q (path_in e.change)) (is_touched es q) apart) firm in
    let rest = firm_after es q (spot_by e.change q x) (second_false (is_here q (path_in e.change)) (is_touched es q) apart) one.firm in
    record { here = rest.here ∙ one.here; firm = rest.firm }

untouched_by : (b : Bool) (e : Entry) (es : List Entry) (q : List ℕ) → is_here q (path_in e.change) ≡ false → is_touched es q ≡ false → is_touched (if b then e ∷ es else es) q ≡ false
untouched_by true e es q apart rest = ap (λ (b : Bool). b || is_touched es q) apart ∙ rest
untouched_by false e es q apart rest = rest

untouched_until : (t : ℕ) (es : List Entry) (q : List ℕ) → is_touched es q ≡ false → is_touched (until t es) q ≡ false
untouched_until t [] q apart = refl
untouched_until t (e ∷ es) q apart =
    untouched_by (nat_le e.moment t) e (until t es) q (first_false (is_here q (path_in e.change)) (is_touched es q) apart) (untouched_until t es q (second_false (is_here q (path_in e.change)) (is_touched es q) apart))

not_chosen : (b : Bool) (x y : Option Kept) → b ≡ false → (if b then x else y) ≡ y
not_chosen true x y is = absurd (cc)
not_chosen false x y is = refl

firm_file : (choice : Choice) (x : Spot) → x.loose ≡ false → image_file choice x ≡ x.here
firm_file choice x firm = not_chosen x.loose (chosen_file choice x) x.here firm

either : (b : Bool) (file x y : Option Kept) → y ≡ (if b then file else x) → (b ≡ false → x ≡ file) → y ≡ file
either true file x y is other = is
either false file x y is other = is ∙ other refl

-- all of them are chosen
pub chosen_all : (choice : Choice) (first : List Listed) (log made new : List Entry) (t : ℕ) (q : List ℕ) (x : Spot) → new ≡ made ++ record { moment = 0; change = Synced } ∷ []
    → (spot_after made q x).here ≡ (if is_touched log q then image_file choice (spot_at first (until t log) q) else x.here) → x.here ≡ (spot_first first q).here
    → (spot_after new q x).here ≡ image_file choice (spot_at first (until t log) q)
chosen_all choice first log made new t q x is chosen same =
    ap (λ (es : List Entry). (spot_after es q x).here) is ∙ ap (λ (y : Spot). y.here) (pushed made (record { moment = 0; change = Synced }) q x)
    ∙ either (is_touched log q) (image_file choice (spot_at first (until t log) q)) x.here (spot_after made q x).here chosen
    (λ apart. let firm = firm_after (until t log) q (spot_first first q) (untouched_until t log q apart) refl in same ∙ sym firm.here ∙ sym (firm_file choice (spot_at first (until t log) q) firm.firm))

pub firm_all : (made new : List Entry) (s : State) → new ≡ made ++ record { moment = 0; change = Synced } ∷ [] → (replay new s).loose ≡ []
firm_all made new s is = ap (λ (es : List Entry). (replay es s).loose) is ∙ ap (λ (t : State). t.loose) (replay-push made (record { moment = 0; change = Synced }) s)

-- ---- copies

looked : List (List ℕ × Kept) → List ℕ → Option Kept
looked [] q = None
looked (e ∷ es) q = if bytes_eq q e.0 then Some e.1 else looked es q

looked_by : (b : Bool) (f : Listed) (stored : Option Listed) (rest : Option Kept) → option_map kept stored ≡ rest → option_map kept (if b then Some f else stored) ≡ (if b then Some (kept f) else rest)
looked_by true f stored rest is = refl
looked_by false f stored rest is = is

looked_first : (fs : List Listed) (q : List ℕ) → (spot_first fs q).here ≡ looked (map listing fs) q
unfolding looked
looked_first [] q = refl
looked_first (f ∷ fs) q = looked_by (bytes_eq q f.0) f (stored_first fs q) (looked (map listing fs) q) (looked_first fs q)

pub copies_here : (copies files : List Listed) (q : List ℕ) → map listing copies ≡ map listing files → (spot_first copies q).here ≡ (spot_first files q).here
copies_here copies files q same = looked_first copies q ∙ ap (λ (es : List (List ℕ × Kept)). looked es q) same ∙ sym (looked_first files q)

-- ---- an image of a disk

module _ (choice : Choice) (copies first : List Listed) (log made : List Entry) (t : ℕ) where
  pub image_tells : map listing copies ≡ map listing first
      → ((q : List ℕ) (x : Spot) → x.here ≡ (spot_first first q).here → (spot_after made q x).here ≡ image_file choice (spot_at first (until t log) q))
      → (q : List ℕ) → get (replay made (first_state copies)).files q ≡ image_file choice (spot_at first (until t log) q)
  image_tells same chosen q = here_after made (first_state copies) q (spot_first copies q) (first_here copies q) ∙ chosen q (spot_first copies q) (copies_here copies first q same)

  pub image_left : (files : Tree) → ((q : List ℕ) → get files q ≡ image_file choice (spot_at first (until t log) q)) → IsImage (replay (until t log) (first_state first)) files
  image_left files is q firm =
      let same : is_loose (replay (until t log) (first_state first)) q ≡ (spot_at first (until t log) q).loose = loose_after (until t log) (first_state first) q (spot_first first q) refl in
      is q ∙ firm_file choice (spot_at first (until t log) q) (sym same ∙ firm) ∙ sym (here_after (until t log) (first_state first) q (spot_first first q) (first_here first q))

-- what the calls of the code have given
pub told_image : (choice : Choice) (copies one two first : List Listed) (three log made : List Entry) (t : ℕ) → one ≡ first → two ≡ first → three ≡ log → map listing copies ≡ map listing one
    → ((q : List ℕ) (x : Spot) → x.here ≡ (spot_first two q).here → (spot_after made q x).here ≡ image_file choice (spot_at two (until t three) q))
    → (q : List ℕ) → get (replay made (first_state copies)).files q ≡ image_file choice (spot_at first (until t log) q)
told_image choice copies one two first three log made t a b c same chosen q =
    image_tells choice copies first log made t (same ∙ ap (λ (fs : List Listed). map listing fs) a)
    (λ p x is. chosen p x (is ∙ ap (λ (fs : List Listed). (spot_first fs p).here) (sym b)) ∙ (λ i. image_file choice (spot_at (b i) (until t (c i)) p))) q
