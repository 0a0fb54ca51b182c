-- Records are read where they are spelled, in both formats, and nowhere else.
use Rattle.std.proofs.Common.{◌≡◌, ℕ, zero, suc, Bool, cond, true, false, eqb, ltb, List, [], ◌∷◌, ◌++◌, length, take, drop, Option, Some, None, refl, sym, ap, subst, ◌∙◌, arith}
use Rattle.std.specs.Prelude.{bytes_eq, codes}
use Rattle.std.proofs.lemmas.Bool.{eqb-true, le-ltb}
use Rattle.std.proofs.lemmas.List.{append-nil, drop_at, length-append, nil_from_length, take-append-drop, take_at}
use Rattle.opam_names.specs.Names.{IsName}
use Rattle.opam_names.specs.declared.packages.Pkg.{Pkg}
use Rattle.opam_names.proofs.ByteOrders.{equal_bytes, same_bytes}
use Rattle.journal_text.specs.Words.{counted, optional, short_text}
use Rattle.journal_text.specs.Parts.{IsPackage, coming_bytes, entry_bytes, kept_bytes, pkg_bytes}
use Rattle.journal_text.specs.Records.{body_bytes, old_bytes, record_bytes}
use Rattle.journal_text.specs.Reading.{◌>>=◌, Read, after_head, body_at, change_at, coming_at, counted_at, entry_at, kept_at, name_at, old_body_at, old_record_at, old_removal_at, optional_at, pkg_at, record_at, whole_at}
use Rattle.journal_text.specs.declared.record.Entry.{Entry}
use Rattle.journal_text.specs.declared.record.KeptFiles.{KeptFiles}
use Rattle.journal_text.specs.declared.record.Placed.{Placed}
use Rattle.journal_text.specs.declared.record.Rec.{Rec}
use Rattle.journal_text.specs.declared.record.Rec.TheVariants.{Install, PutBack, Remove, Begin, End}
use Rattle.journal_text.proofs.Words.{IsBytes, IsBytes-drop, IsBytes-rest, ListFits, OptionFits, Reads, Takes, bind_some, both_again, both_takes, guard_held, reads_counted, reads_optional, some_is}
use Rattle.journal_text.proofs.PartsRead.{EntryFits, KeptFits, reads_entry, reads_kept, reads_name, reads_pkg}

-- ---- the eight bytes of a format, and nothing after the value

pub record Behind (head bytes rest : List ℕ) : Type 0 where
  pub parts : bytes ≡ head ++ rest
  pub rest_fits : IsBytes rest

head_takes : (head bytes rest : List ℕ) → IsBytes bytes → after_head head bytes ≡ Some rest → Behind head bytes rest
unfolding after_head
head_takes head bytes rest fits e =
    let n = length head in
    let g = guard_else (ltb (length bytes) n) (cond (bytes_eq (take n bytes) head) (Some (drop n bytes)) None) rest e in
    let h = guard_held (bytes_eq (take n bytes) head) (drop n bytes) rest g.1 in
    let front : take n bytes ≡ head = equal_bytes (take n bytes) head h.0 in
    record { parts = sym (take-append-drop n bytes) ∙ ap (λ (x : List ℕ). x ++ drop n bytes) front ∙ ap (λ (x : List ℕ). head ++ x) h.1; rest_fits = subst IsBytes h.1 (IsBytes-drop n bytes fits) }
  where
    guard_else : (b : Bool) (x : Option (List ℕ)) (y : List ℕ) → cond b None x ≡ Some y → (b ≡ false) × (x ≡ Some y)
    guard_else true x y e = absurd cc
    guard_else false x y e = (refl, e)

head_again : (head rest : List ℕ) → after_head head (head ++ rest) ≡ Some rest
unfolding after_head
head_again head rest =
    let long : ltb (length (head ++ rest)) (length head) ≡ false = le-ltb _ _ (omega (arith, length-append head rest)) in
    rw (long, take_at head rest (length head) refl, drop_at head rest (length head) refl, same_bytes head) refl

-- what a whole text has behind its head
pub record IsWhole {X : Type 0} (head : List ℕ) (one : List ℕ → Read X) (bytes : List ℕ) (x : X) : Type 0 where
  pub rest : List ℕ
  pub behind : Behind head bytes rest
  pub reads : one rest ≡ Some (x, [])

pub whole_takes : {X : Type 0} (head : List ℕ) (one : List ℕ → Read X) (bytes : List ℕ) (x : X) → IsBytes bytes → whole_at head one bytes ≡ Some x → IsWhole head one bytes x
unfolding whole_at
whole_takes {X} head one bytes x fits e =
    let a = bind_some (after_head head bytes) (λ rest. one rest >>= λ y. cond (eqb (length y.1) 0) (Some y.0) None) x e in
    let b = bind_some (one a.0) (λ y. cond (eqb (length y.1) 0) (Some y.0) None) x a.2 in
    let g = guard_held (eqb (length b.0.1) 0) b.0.0 x b.2 in
    let nothing : b.0.1 ≡ [] = nil_from_length b.0.1 (eqb-true _ _ g.0) in
    let same : b.0 ≡ (x, []) = λ i. (g.1 i, nothing i) in
    record { rest = a.0; behind = head_takes head bytes a.0 fits a.1; reads = b.1 ∙ ap (λ (y : X × List ℕ). Some y) same }

pub whole_again : {X : Type 0} (head : List ℕ) (one : List ℕ → Read X) (rest : List ℕ) (x : X) → one rest ≡ Some (x, []) → whole_at head one (head ++ rest) ≡ Some x
unfolding whole_at
whole_again head one rest x e = rw (head_again head rest, e) refl

-- ---- kinds

-- a package that comes
pub record ComingFits (pkg : Pkg) (opam : List ℕ) (files : List Placed) : Type 0 where
  pub is_package : IsPackage pkg
  pub kept_fits : KeptFits (record { opam = opam; files = files })

pub record RequestFits (roots : List (List ℕ)) (target : List Entry) (removals : List Pkg) : Type 0 where
  pub roots_fit : ListFits IsName roots
  pub target_fits : ListFits EntryFits target
  pub removals_fit : ListFits IsPackage removals

-- what has a spelling, its order aside
abbrev pub RecFits : Rec → Type 0
RecFits (Install pkg opam files) = ComingFits pkg opam files
RecFits (PutBack pkg opam files) = ComingFits pkg opam files
RecFits (Remove pkg kept) = IsPackage pkg × OptionFits KeptFits kept
RecFits (Begin roots target removals) = RequestFits roots target removals
RecFits End = Unit {0}

-- one byte more at the front
more : (b : ℕ) (bytes text rest : List ℕ) → Takes bytes text rest → Takes (b ∷ bytes) (b ∷ text) rest
more b bytes text rest t = record { parts = ap (λ (x : List ℕ). b ∷ x) t.parts; rest_fits = t.rest_fits }

abbrev coming : (Pkg → List ℕ → List Placed → Rec) → Pkg → KeptFiles → Rec
coming make pkg kept = make pkg kept.opam kept.files

-- what a reader of a package that comes has found
pub record Came (make : Pkg → List ℕ → List Placed → Rec) (bytes : List ℕ) (r : Rec) (rest : List ℕ) : Type 0 where
  pub pkg : Pkg
  pub opam : List ℕ
  pub files : List Placed
  pub is : make pkg opam files ≡ r
  pub takes : Takes bytes (coming_bytes pkg opam files) rest
  pub fits : ComingFits pkg opam files

coming_takes : (make : Pkg → List ℕ → List Placed → Rec) (bytes : List ℕ) (r : Rec) (rest : List ℕ) → IsBytes bytes → coming_at make bytes ≡ Some (r, rest) → Came make bytes r rest
coming_takes make bytes r rest fits e =
    let t = both_takes (coming make) pkg_bytes kept_bytes IsPackage KeptFits pkg_at kept_at reads_pkg reads_kept bytes r rest fits e in
    record { pkg = t.0; opam = t.1.opam; files = t.1.files; is = t.2; takes = t.3; fits = record { is_package = t.4; kept_fits = t.5 } }

coming_again : (make : Pkg → List ℕ → List Placed → Rec) (pkg : Pkg) (opam : List ℕ) (files : List Placed) (rest : List ℕ) → ComingFits pkg opam files → coming_at make (coming_bytes pkg opam files ++ rest) ≡ Some (make pkg opam files, rest)
coming_again make pkg opam files rest fits =
    both_again (coming make) pkg_bytes kept_bytes IsPackage KeptFits pkg_at kept_at reads_pkg reads_kept pkg (record { opam = opam; files = files }) rest fits.is_package fits.kept_fits

abbrev removal : Pkg → Option KeptFiles → Rec
removal pkg kept = Remove pkg kept

abbrev change : List Entry → List Pkg → List Entry × List Pkg
change target removals = (target, removals)

abbrev change_bytes : List Entry × List Pkg → List ℕ
change_bytes c = counted entry_bytes c.0 ++ counted pkg_bytes c.1

record ChangeFits (c : List Entry × List Pkg) : Type 0 where
  target_fits : ListFits EntryFits c.0
  removals_fit : ListFits IsPackage c.1

reads_entries : Reads (counted entry_bytes) (ListFits EntryFits) (counted_at entry_at)
reads_entries = reads_counted entry_bytes EntryFits entry_at reads_entry

reads_pkgs : Reads (counted pkg_bytes) (ListFits IsPackage) (counted_at pkg_at)
reads_pkgs = reads_counted pkg_bytes IsPackage pkg_at reads_pkg

reads_names : Reads (counted short_text) (ListFits IsName) (counted_at name_at)
reads_names = reads_counted short_text IsName name_at reads_name

change_takes : (bytes : List ℕ) (c : List Entry × List Pkg) (rest : List ℕ) → IsBytes bytes → change_at bytes ≡ Some (c, rest) → Takes bytes (change_bytes c) rest × ChangeFits c
change_takes bytes c rest fits e =
    let t = both_takes change (counted entry_bytes) (counted pkg_bytes) (ListFits EntryFits) (ListFits IsPackage) (counted_at entry_at) (counted_at pkg_at) reads_entries reads_pkgs bytes c rest fits e in
    subst (λ (q : List Entry × List Pkg). Takes bytes (change_bytes q) rest × ChangeFits q) t.2 (t.3, record { target_fits = t.4; removals_fit = t.5 })

change_again : (c : List Entry × List Pkg) (rest : List ℕ) → ChangeFits c → change_at (change_bytes c ++ rest) ≡ Some (c, rest)
change_again c rest fits =
    both_again change (counted entry_bytes) (counted pkg_bytes) (ListFits EntryFits) (ListFits IsPackage) (counted_at entry_at) (counted_at pkg_at) reads_entries reads_pkgs c.0 c.1 rest fits.target_fits fits.removals_fit

reads_change : Reads change_bytes ChangeFits change_at
reads_change = record { takes = change_takes; again = change_again }

abbrev request : List (List ℕ) → List Entry × List Pkg → Rec
request roots c = Begin roots c.0 c.1

reads_optional_kept : Reads (optional kept_bytes) (OptionFits KeptFits) (optional_at kept_at)
reads_optional_kept = reads_optional kept_bytes KeptFits kept_at reads_kept

-- what a reader of bodies has found
abbrev Found : List ℕ → Rec → List ℕ → Type 0
Found bytes r rest = Takes bytes (body_bytes r) rest × RecFits r

body_takes : (bytes : List ℕ) (r : Rec) (rest : List ℕ) → IsBytes bytes → body_at bytes ≡ Some (r, rest) → Found bytes r rest
unfolding body_at
body_takes [] r rest fits e = absurd cc
body_takes (zero ∷ bytes) r rest fits e = absurd cc
body_takes (suc zero ∷ bytes) r rest fits e =
    let t = coming_takes Install bytes r rest (IsBytes-rest 1 bytes fits) e in
    subst (λ (q : Rec). Found (1 ∷ bytes) q rest) t.is (more 1 bytes (coming_bytes t.pkg t.opam t.files) rest t.takes, t.fits)
body_takes (suc (suc zero) ∷ bytes) r rest fits e =
    let t = both_takes removal pkg_bytes (optional kept_bytes) IsPackage (OptionFits KeptFits) pkg_at (optional_at kept_at) reads_pkg reads_optional_kept bytes r rest (IsBytes-rest 2 bytes fits) e in
    subst (λ (q : Rec). Found (2 ∷ bytes) q rest) t.2 (more 2 bytes (pkg_bytes t.0 ++ optional kept_bytes t.1) rest t.3, (t.4, t.5))
body_takes (suc (suc (suc zero)) ∷ bytes) r rest fits e =
    let t = both_takes request (counted short_text) change_bytes (ListFits IsName) ChangeFits (counted_at name_at) change_at reads_names reads_change bytes r rest (IsBytes-rest 3 bytes fits) e in
    subst (λ (q : Rec). Found (3 ∷ bytes) q rest) t.2 (more 3 bytes (counted short_text t.0 ++ change_bytes t.1) rest t.3, record { roots_fit = t.4; target_fits = t.5.target_fits; removals_fit = t.5.removals_fit })
body_takes (suc (suc (suc (suc zero))) ∷ bytes) r rest fits e =
    subst (λ (q : Rec × List ℕ). Found (4 ∷ bytes) q.0 q.1) (some_is (End, bytes) (r, rest) e) (record { parts = refl; rest_fits = IsBytes-rest 4 bytes fits }, tt)
body_takes (suc (suc (suc (suc (suc zero)))) ∷ bytes) r rest fits e =
    let t = coming_takes PutBack bytes r rest (IsBytes-rest 5 bytes fits) e in
    subst (λ (q : Rec). Found (5 ∷ bytes) q rest) t.is (more 5 bytes (coming_bytes t.pkg t.opam t.files) rest t.takes, t.fits)
body_takes (suc (suc (suc (suc (suc (suc b))))) ∷ bytes) r rest fits e = absurd cc

body_again : (r : Rec) (rest : List ℕ) → RecFits r → body_at (body_bytes r ++ rest) ≡ Some (r, rest)
unfolding body_at
body_again (Install pkg opam files) rest fits = coming_again Install pkg opam files rest fits
body_again (PutBack pkg opam files) rest fits = coming_again PutBack pkg opam files rest fits
body_again (Remove pkg kept) rest fits =
    both_again removal pkg_bytes (optional kept_bytes) IsPackage (OptionFits KeptFits) pkg_at (optional_at kept_at) reads_pkg reads_optional_kept pkg kept rest fits.0 fits.1
body_again (Begin roots target removals) rest fits =
    both_again request (counted short_text) change_bytes (ListFits IsName) ChangeFits (counted_at name_at) change_at reads_names reads_change roots (target, removals) rest fits.roots_fit (record { target_fits = fits.target_fits; removals_fit = fits.removals_fit })
body_again End rest fits = refl

pub record_takes : (bytes : List ℕ) (r : Rec) → IsBytes bytes → record_at bytes ≡ Some r → (bytes ≡ record_bytes r) × RecFits r
record_takes bytes r fits e =
    let w = whole_takes (codes "OPAMREC2") body_at bytes r fits e in
    let t = body_takes w.rest r [] w.behind.rest_fits w.reads in
    (w.behind.parts ∙ ap (λ (x : List ℕ). codes "OPAMREC2" ++ x) (t.0.parts ∙ append-nil (body_bytes r)), t.1)

pub record_again : (r : Rec) → RecFits r → record_at (record_bytes r) ≡ Some r
record_again r fits =
    whole_again (codes "OPAMREC2") body_at (body_bytes r) r (ap body_at (sym (append-nil (body_bytes r))) ∙ body_again r [] fits)

-- ---- the old format

-- what an old body spells
abbrev old_body : Rec → Option (List ℕ)
old_body (Install pkg opam files) = Some (1 ∷ coming_bytes pkg opam files)
old_body (Remove pkg None) = Some (2 ∷ pkg_bytes pkg)
old_body (Remove pkg (Some kept)) = None
old_body (PutBack pkg opam files) = None
old_body (Begin roots target removals) = None
old_body End = None

record OldFound (bytes : List ℕ) (r : Rec) (rest : List ℕ) : Type 0 where
  body : List ℕ
  is : old_body r ≡ Some body
  takes : Takes bytes body rest
  fits : RecFits r

old_removal_takes : (bytes : List ℕ) (r : Rec) (rest : List ℕ) → IsBytes bytes → old_removal_at bytes ≡ Some (r, rest) → OldFound (2 ∷ bytes) r rest
old_removal_takes bytes r rest fits e =
    let b = bind_some (pkg_at bytes) (λ x. Some (Remove x.0 None, x.1)) (r, rest) e in
    let t = reads_pkg.takes bytes b.0.0 b.0.1 fits b.1 in
    subst (λ (q : Rec × List ℕ). OldFound (2 ∷ bytes) q.0 q.1) (some_is (Remove b.0.0 None, b.0.1) (r, rest) b.2)
    (record { body = 2 ∷ pkg_bytes b.0.0; is = refl; takes = more 2 bytes (pkg_bytes b.0.0) b.0.1 t.0; fits = (t.1, tt) })

old_body_takes : (bytes : List ℕ) (r : Rec) (rest : List ℕ) → IsBytes bytes → old_body_at bytes ≡ Some (r, rest) → OldFound bytes r rest
unfolding old_body_at
old_body_takes [] r rest fits e = absurd cc
old_body_takes (zero ∷ bytes) r rest fits e = absurd cc
old_body_takes (suc zero ∷ bytes) r rest fits e =
    let t = coming_takes Install bytes r rest (IsBytes-rest 1 bytes fits) e in
    subst (λ (q : Rec). OldFound (1 ∷ bytes) q rest) t.is (record { body = 1 ∷ coming_bytes t.pkg t.opam t.files; is = refl; takes = more 1 bytes (coming_bytes t.pkg t.opam t.files) rest t.takes; fits = t.fits })
old_body_takes (suc (suc zero) ∷ bytes) r rest fits e = old_removal_takes bytes r rest (IsBytes-rest 2 bytes fits) e
old_body_takes (suc (suc (suc b)) ∷ bytes) r rest fits e = absurd cc

old_body_again : (r : Rec) (body rest : List ℕ) → RecFits r → old_body r ≡ Some body → old_body_at (body ++ rest) ≡ Some (r, rest)
unfolding old_body_at
old_body_again (Install pkg opam files) body rest fits is =
    subst (λ (b : List ℕ). old_body_at (b ++ rest) ≡ Some (Install pkg opam files, rest)) (some_is (1 ∷ coming_bytes pkg opam files) body is) (coming_again Install pkg opam files rest fits)
old_body_again (Remove pkg None) body rest fits is =
    subst (λ (b : List ℕ). old_body_at (b ++ rest) ≡ Some (Remove pkg None, rest)) (some_is (2 ∷ pkg_bytes pkg) body is) (ap (λ (x : Read Pkg). x >>= λ y. Some (Remove y.0 None, y.1)) (reads_pkg.again pkg rest fits.0))
old_body_again (Remove pkg (Some kept)) body rest fits is = absurd cc
old_body_again (PutBack pkg opam files) body rest fits is = absurd cc
old_body_again (Begin roots target removals) body rest fits is = absurd cc
old_body_again End body rest fits is = absurd cc

old_whole : (r : Rec) (body : List ℕ) → old_body r ≡ Some body → old_bytes r ≡ Some (codes "OPAMREC1" ++ body)
old_whole (Install pkg opam files) body is = ap (λ (b : List ℕ). Some (codes "OPAMREC1" ++ b)) (some_is (1 ∷ coming_bytes pkg opam files) body is)
old_whole (Remove pkg None) body is = ap (λ (b : List ℕ). Some (codes "OPAMREC1" ++ b)) (some_is (2 ∷ pkg_bytes pkg) body is)
old_whole (Remove pkg (Some kept)) body is = absurd cc
old_whole (PutBack pkg opam files) body is = absurd cc
old_whole (Begin roots target removals) body is = absurd cc
old_whole End body is = absurd cc

-- the body of old bytes
record HasBody (r : Rec) (bytes : List ℕ) : Type 0 where
  body : List ℕ
  is : old_body r ≡ Some body
  whole : codes "OPAMREC1" ++ body ≡ bytes

has_body : (r : Rec) (bytes : List ℕ) → old_bytes r ≡ Some bytes → HasBody r bytes
has_body (Install pkg opam files) bytes is = record { body = 1 ∷ coming_bytes pkg opam files; is = refl; whole = some_is (codes "OPAMREC1" ++ 1 ∷ coming_bytes pkg opam files) bytes is }
has_body (Remove pkg None) bytes is = record { body = 2 ∷ pkg_bytes pkg; is = refl; whole = some_is (codes "OPAMREC1" ++ 2 ∷ pkg_bytes pkg) bytes is }
has_body (Remove pkg (Some kept)) bytes is = absurd cc
has_body (PutBack pkg opam files) bytes is = absurd cc
has_body (Begin roots target removals) bytes is = absurd cc
has_body End bytes is = absurd cc

pub old_record_takes : (bytes : List ℕ) (r : Rec) → IsBytes bytes → old_record_at bytes ≡ Some r → (old_bytes r ≡ Some bytes) × RecFits r
old_record_takes bytes r fits e =
    let w = whole_takes (codes "OPAMREC1") old_body_at bytes r fits e in
    let t = old_body_takes w.rest r [] w.behind.rest_fits w.reads in
    let is : w.rest ≡ t.body = t.takes.parts ∙ append-nil t.body in
    (old_whole r t.body t.is ∙ ap (λ (x : List ℕ). Some x) (ap (λ (x : List ℕ). codes "OPAMREC1" ++ x) (sym is) ∙ sym w.behind.parts), t.fits)

pub old_record_again : (r : Rec) (bytes : List ℕ) → RecFits r → old_bytes r ≡ Some bytes → old_record_at bytes ≡ Some r
old_record_again r bytes fits is =
    let h = has_body r bytes is in
    ap old_record_at (sym h.whole) ∙ whole_again (codes "OPAMREC1") old_body_at h.body r (ap old_body_at (sym (append-nil h.body)) ∙ old_body_again r h.body [] fits h.is)
