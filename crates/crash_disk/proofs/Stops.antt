-- What a stop at any moment of some calls leaves.
use Rattle.std.proofs.Common.{◌≡◌, inl, inr, ℕ, ◌<◌, List, [], IsTrue, IsFalse, Option, Some, IfSome, Result, Ok, Err, OnOk, refl, sym, ◌∙◌, ap, subst, arith}
use Rattle.std.specs.FinMap.{get}
use Rattle.std.specs.Option.{option_map}
use Rattle.std.proofs.Math.Nat.{le_refl}
use Rattle.std.proofs.lemmas.Bool.{cases_lt, false_from_ne_true}
use Rattle.outside_io.specs.Counts.{last_count}
use Rattle.crash_disk.specs.declared.disk.Disk.{Ghosts}
use Rattle.crash_disk.specs.Disks.{IsImage, State, Tree, is_loose}
use Rattle.outside_io.specs.declared.sink.Failed.{Failed}
use Rattle.crash_disk.proofs.Effects.{advances_then, touches_reading}
use Rattle.crash_disk.specs.Writes.{paths_of, with_writes}
use Rattle.crash_disk.specs.declared.batch.Write.{Write}
use Rattle.crash_disk.specs.Effects.{Advances, IsSameOff, Leaves, OnlyReads, StaysOff, Touches, at_rest, is_one, rested}
use Rattle.crash_disk.specs.Stops.{IsImageOff, IsSameBut, StopsLeave}

abbrev Paths : Type 0
Paths = List (List ℕ)

abbrev Has : Option State → Tree → Type 0
Has told image = IfSome told (λ s. IsImage s image)

image_off : (paths : Paths) (old s : State) (image : Tree) → IsSameOff paths old s → IsImage s image → IsImageOff paths old image
image_off paths old s image off is q apart firm =
    is q (false_from_ne_true (is_loose s q) (λ loose. let now : IsTrue (is_loose old q) = off.loose q apart loose in let before : IsFalse (is_loose old q) = firm in absurd (cc))) ∙ off.files q apart

image_of : (paths : Paths) (old : State) (before after : Option State) (image : Tree) → before ≡ Some old → StaysOff paths before after → Has after image → IsImageOff paths old image
image_of paths old before after image is off has =
    let found = off.told old is in
    image_off paths old found.0 image found.2 (subst (λ (o : Option State). Has o image) found.1 has)

-- what the calls of a disk told at first, and tell after one batch
pub leaves_at : {D : Type 0} (g : Ghosts D) (change : Tree → Tree) (a b : D) (tree : Tree) → Leaves g change a b → g.told a ≡ Some (at_rest tree) → g.told b ≡ Some (at_rest (change tree))
leaves_at g change a b tree leaves is = leaves ∙ ap (option_map (rested change)) is

-- the same from any state
pub rests_then : {D : Type 0} (g : Ghosts D) (change : Tree → Tree) (a b : D) (s : State) → Leaves g change a b → g.told a ≡ Some s → g.told b ≡ Some (at_rest (change s.files))
rests_then g change a b s leaves is = leaves ∙ ap (option_map (rested change)) is

abbrev pub NowIs : {D : Type 0} → Ghosts D → Type 0
NowIs {D} g = (d : D) → g.moment d < last_count → g.past d (g.moment d) ≡ g.told d

module _ {D : Type 0} {g : Ghosts D} where
  -- at each moment of calls that touch these paths alone, a stop leaves an image of what was told before, but for them
  pub stops_off : NowIs g → (P : Tree → Type 0) (paths : Paths) (s : State) {old new : D} → g.told old ≡ Some s → Touches g paths old new
      → ((image : Tree) → IsImageOff paths s image → P image) → StopsLeave g P old new
  stops_off now_is P paths s {old} {new} is touches here = record {
    each = λ short image left.
        let later = touches.goes.later in
        let before : g.moment old < last_count = omega (arith, later, short) in
        here image (elim (cases_lt (g.moment old) left.0) [
          | inr le ↦
              let first : left.0 ≡ g.moment old = omega (arith, le, left.1) in
              let same : g.past new left.0 ≡ Some s = ap (g.past new) first ∙ touches.goes.keeps (g.moment old) (omega arith) short ∙ now_is old before ∙ is in
              image_off paths s s image (record { files = λ q apart. refl; loose = λ q apart loose. loose }) (subst (λ (o : Option State). Has o image) same left.3)
          | inl after ↦ image_of paths s (g.told old) (g.past new left.0) image is (touches.each short left.0 after left.2) left.3
        ]);
  }

  -- the same where nothing is loose
  pub stops_by : NowIs g → (P : Tree → Type 0) (paths : Paths) (tree : Tree) {old new : D} → g.told old ≡ Some (at_rest tree) → Touches g paths old new
      → ((image : Tree) → IsSameBut paths tree image → P image) → StopsLeave g P old new
  stops_by now_is P paths tree is touches here = stops_off now_is P paths (at_rest tree) is touches (λ image off. here image (λ q apart. off q apart refl))

  pub stops_then : {P : Tree → Type 0} {a b c : D} → Advances g a b → Advances g b c → StopsLeave g P a b → StopsLeave g P b c → StopsLeave g P a c
  stops_then {P} {a} {b} {c} one two first second = record {
    each = λ short image left.
        let later = two.later in
        elim (cases_lt (g.moment b) left.0) [
          | inr le ↦ first.each (omega (arith, later, short)) image (left.0, left.1, le, subst (λ (o : Option State). Has o image) (two.keeps left.0 le short) left.3)
          | inl lt ↦ second.each short image (left.0, omega (arith, lt), left.2, left.3)
        ];
  }

  pub stops_more : {P : Tree → Type 0} (Q : Tree → Type 0) {a b : D} → ((image : Tree) → P image → Q image) → StopsLeave g P a b → StopsLeave g Q a b
  stops_more Q more only = record { each = λ short image left. more image (only.each short image left) }

  -- both at once
  pub stops_and : {P Q : Tree → Type 0} {a b : D} → StopsLeave g P a b → StopsLeave g Q a b → StopsLeave g (λ image. P image × Q image) a b
  stops_and one two = record { each = λ short image left. (one.each short image left, two.each short image left) }

-- what a disk tells in the end has P too: so after a failure the files are read as one of those that a stop may leave
pub told_has : {D : Type 0} {g : Ghosts D} {P : Tree → Type 0} {old new : D} (s : State) → NowIs g → g.moment new < last_count → Advances g old new → StopsLeave g P old new → g.told new ≡ Some s → P s.files
told_has {g} {old} {new} s now_is short goes stops is =
    stops.each short s.files (g.moment new, goes.later, le_refl (g.moment new), subst (λ (o : Option State). Has o s.files) (sym (now_is new short ∙ is)) (λ q firm. refl))

-- a batch that was written
pub record Wrote {D : Type 0} (g : Ghosts D) (writes : List Write) (a b : D) : Type 0 where
  pub touches : Touches g (paths_of writes) a b
  pub leaves : Leaves g (with_writes writes) a b

pub wrote : {D : Type 0} (g : Ghosts D) {given writes : List Write} {a b : D} → given ≡ writes → Touches g (paths_of given) a b → Leaves g (with_writes given) a b → Wrote g writes a b
wrote g {given} {writes} {a} {b} is touches leaves = record { touches = subst (λ (ws : List Write). Touches g (paths_of ws) a b) is touches; leaves = subst (λ (ws : List Write). Leaves g (with_writes ws) a b) is leaves }

pub began : {D : Type 0} {g : Ghosts D} {given writes : List Write} {a b : D} → given ≡ writes → Touches g (paths_of given) a b → Touches g (paths_of writes) a b
began {g} {a} {b} is touches = subst (λ (ws : List Write). Touches g (paths_of ws) a b) is touches

-- what calls leave where they touch nothing
pub told_same : (paths : Paths) (before after : Option State) (tree new : Tree) (q : List ℕ) → StaysOff paths before after → before ≡ Some (at_rest tree) → after ≡ Some (at_rest new) → IsFalse (is_one paths q) → get new q ≡ get tree q
told_same paths before after tree new q off is then apart =
    let found = off.told (at_rest tree) is in
    let same : at_rest new ≡ found.0 = let e : Some (at_rest new) ≡ Some found.0 = sym then ∙ found.1 in cc in
    ap (λ (s : State). get s.files q) same ∙ found.2.files q apart

-- what follows from Ok, at Ok
pub if_ok : {T : Type 0} {P Q : Type 0} (result : Result T Failed) → OnOk result P → (P → Q) → OnOk result Q
if_ok (Ok x) p f = f p
if_ok (Err e) p f = tt

-- after some batches: each stop since has left what has P, and these files are at rest
pub record Stage {D : Type 0} (g : Ghosts D) (P : Tree → Type 0) (a b : D) (tree : Tree) : Type 0 where
  pub goes : Advances g a b
  pub stops : StopsLeave g P a b
  pub told : g.told b ≡ Some (at_rest tree)

module _ {D : Type 0} {g : Ghosts D} (now_is : NowIs g) where
  -- the first batch
  pub stage_first : {P : Tree → Type 0} (writes : List Write) (tree : Tree) {a b : D} → g.told a ≡ Some (at_rest tree) → Wrote g writes a b → ((image : Tree) → IsSameBut (paths_of writes) tree image → P image) → Stage g P a b (with_writes writes tree)
  stage_first {P} writes tree {a} {b} is batch here = record {
    goes = batch.touches.goes;
    stops = stops_by now_is P (paths_of writes) tree is batch.touches here;
    told = leaves_at g (with_writes writes) a b tree batch.leaves is;
  }

  -- one more
  pub stage_next : {P : Tree → Type 0} (writes : List Write) {tree : Tree} {a b c : D} → Stage g P a b tree → Wrote g writes b c → ((image : Tree) → IsSameBut (paths_of writes) tree image → P image) → Stage g P a c (with_writes writes tree)
  stage_next {P} writes {tree} {a} {b} {c} stage batch here = record {
    goes = advances_then stage.goes batch.touches.goes;
    stops = stops_then stage.goes batch.touches.goes stage.stops (stops_by now_is P (paths_of writes) tree stage.told batch.touches here);
    told = leaves_at g (with_writes writes) b c tree batch.leaves stage.told;
  }

  -- one more that may have failed
  pub stage_stops : {P : Tree → Type 0} (writes : List Write) {tree : Tree} {a b c : D} → Stage g P a b tree → Touches g (paths_of writes) b c → ((image : Tree) → IsSameBut (paths_of writes) tree image → P image) → StopsLeave g P a c
  stage_stops {P} writes {tree} stage touches here = stops_then stage.goes touches.goes stage.stops (stops_by now_is P (paths_of writes) tree stage.told touches here)

  -- calls that only read
  pub stage_reads : {P : Tree → Type 0} {tree : Tree} {a b c : D} → Stage g P a b tree → OnlyReads g b c → ((image : Tree) → ((q : List ℕ) → get image q ≡ get tree q) → P image) → Stage g P a c tree
  stage_reads {P} {tree} stage reads here = record {
    goes = advances_then stage.goes reads.goes;
    stops = stops_then stage.goes reads.goes stage.stops (stops_by now_is P [] tree stage.told (touches_reading [] reads) (λ image same. here image (λ q. same q refl)));
    told = reads.same ∙ stage.told;
  }
