-- Bytes spell at most one record.
use Rattle.std.proofs.Common.{◌≡◌, ℕ, ◌^◌, ◌<◌, List, [], ◌∷◌, ◌++◌, length, get_or, take, drop, Bool, true, false, refl, sym, ◌∙◌, ap, append_assoc, arith}
use Rattle.std.specs.Prelude.{codes}
use Rattle.std.specs.Int.{Width, w16, w32, from_be_bytes, to_be_bytes}
use Rattle.std.specs.List.{flat_map, AllByRecursion}
use Rattle.std.proofs.lemmas.List.{append-nil, drop_at, take_at}
use Rattle.std.proofs.lemmas.List.Concat.{flat_map-cons}
use Rattle.std.proofs.lemmas.Nat.{from_be_bytes-to_be_bytes_2, from_be_bytes-to_be_bytes_4}
use Rattle.opam_names.specs.declared.packages.Pkg.{Pkg}
use Rattle.opam_top.specs.Records.{FilesFit, HasSpelling, HeadFits, InstallFits, PlacedFits, exec_byte, files_bytes, head_bytes, long_text, placed_bytes, record_bytes, short_text}
use Rattle.opam_top.specs.declared.records.Placed.{Placed}
use Rattle.opam_top.specs.declared.records.Rec.{Rec}
use Rattle.opam_top.specs.declared.records.Rec.TheVariants.{Install, Remove}

-- the same bytes split after as many of them are the same parts
split_same : (n : ℕ) (x y r s : List ℕ) → length x ≡ n → length y ≡ n → x ++ r ≡ y ++ s → (x ≡ y) × (r ≡ s)
split_same n x y r s lx ly is =
    (sym (take_at x r n lx) ∙ ap (take n) is ∙ take_at y s n ly, sym (drop_at x r n lx) ∙ ap (drop n) is ∙ drop_at y s n ly)

-- ---- texts

-- a text with its length before it, in numbers of this width
abbrev text : Width → List ℕ → List ℕ
text w bytes = to_be_bytes w (length bytes) ++ bytes

text_same : (w : Width) (limit n : ℕ) → ((k : ℕ) → length (to_be_bytes w k) ≡ n) → ((k : ℕ) → k < limit → from_be_bytes w (to_be_bytes w k) ≡ k)
    → (x y r s : List ℕ) → length x < limit → length y < limit → text w x ++ r ≡ text w y ++ s → (x ≡ y) × (r ≡ s)
text_same w limit n wide back x y r s lx ly is =
    let whole : to_be_bytes w (length x) ++ (x ++ r) ≡ to_be_bytes w (length y) ++ (y ++ s) = sym (append_assoc (to_be_bytes w (length x)) x r) ∙ is ∙ append_assoc (to_be_bytes w (length y)) y s in
    let two = split_same n (to_be_bytes w (length x)) (to_be_bytes w (length y)) (x ++ r) (y ++ s) (wide (length x)) (wide (length y)) whole in
    let len : length x ≡ length y = sym (back (length x) lx) ∙ ap (from_be_bytes w) two.0 ∙ back (length y) ly in
    split_same (length y) x y r s len refl two.1

short_same : (x y r s : List ℕ) → length x < 2 ^ 16 → length y < 2 ^ 16 → short_text x ++ r ≡ short_text y ++ s → (x ≡ y) × (r ≡ s)
short_same = text_same w16 (2 ^ 16) 2 (λ k. refl) from_be_bytes-to_be_bytes_2

long_same : (x y r s : List ℕ) → length x < 2 ^ 32 → length y < 2 ^ 32 → long_text x ++ r ≡ long_text y ++ s → (x ≡ y) × (r ≡ s)
long_same = text_same w32 (2 ^ 32) 4 (λ k. refl) from_be_bytes-to_be_bytes_4

-- ---- files

exec_same : (a b : Bool) → exec_byte a ≡ exec_byte b → a ≡ b
exec_same true true is = refl
exec_same true false is = absurd (omega arith)
exec_same false true is = absurd (omega arith)
exec_same false false is = refl

-- a first byte and two texts, and more bytes
regroup : (b : ℕ) (x y r : List ℕ) → (b ∷ x ++ y) ++ r ≡ (b ∷ []) ++ (x ++ (y ++ r))
regroup b x y r = ap (λ (bytes : List ℕ). b ∷ bytes) (append_assoc x y r)

placed_same : (f g : Placed) (r s : List ℕ) → PlacedFits f → PlacedFits g → placed_bytes f ++ r ≡ placed_bytes g ++ s → (f ≡ g) × (r ≡ s)
placed_same f g r s fits others is =
    let whole = sym (regroup (exec_byte f.exec) (short_text f.path) (long_text f.bytes) r) ∙ is ∙ regroup (exec_byte g.exec) (short_text g.path) (long_text g.bytes) s in
    let bit = split_same 1 (exec_byte f.exec ∷ []) (exec_byte g.exec ∷ []) (short_text f.path ++ (long_text f.bytes ++ r)) (short_text g.path ++ (long_text g.bytes ++ s)) refl refl whole in
    let exec : f.exec ≡ g.exec = exec_same f.exec g.exec (ap (λ (bytes : List ℕ). get_or bytes 0 0) bit.0) in
    let path = short_same f.path g.path (long_text f.bytes ++ r) (long_text g.bytes ++ s) fits.path others.path bit.1 in
    let bytes = long_same f.bytes g.bytes r s fits.bytes others.bytes path.1 in
    (λ i. record { path = path.0 i; exec = exec i; bytes = bytes.0 i }, bytes.1)

each_same : (fs gs : List Placed) → length fs ≡ length gs → AllByRecursion PlacedFits fs → AllByRecursion PlacedFits gs → flat_map placed_bytes fs ≡ flat_map placed_bytes gs → fs ≡ gs
each_same [] [] len fits others is = refl
each_same [] (g ∷ gs) len fits others is = absurd (omega arith)
each_same (f ∷ fs) [] len fits others is = absurd (omega arith)
each_same (f ∷ fs) (g ∷ gs) len fits others is =
    let whole : placed_bytes f ++ flat_map placed_bytes fs ≡ placed_bytes g ++ flat_map placed_bytes gs = sym (flat_map-cons placed_bytes f fs) ∙ is ∙ flat_map-cons placed_bytes g gs in
    let first = placed_same f g (flat_map placed_bytes fs) (flat_map placed_bytes gs) fits.0 others.0 whole in
    let more = each_same fs gs (omega (arith, len)) fits.1 others.1 first.1 in
    λ i. first.0 i ∷ more i

files_same : (fs gs : List Placed) → FilesFit fs → FilesFit gs → files_bytes fs ≡ files_bytes gs → fs ≡ gs
files_same fs gs fits others is =
    let two = split_same 4 (to_be_bytes w32 (length fs)) (to_be_bytes w32 (length gs)) (flat_map placed_bytes fs) (flat_map placed_bytes gs) refl refl is in
    let len : length fs ≡ length gs = sym (from_be_bytes-to_be_bytes_4 (length fs) fits.count) ∙ ap (from_be_bytes w32) two.0 ∙ from_be_bytes-to_be_bytes_4 (length gs) others.count in
    each_same fs gs len fits.each others.each two.1

-- ---- records

-- the format and the kind, and the package
abbrev front : ℕ → List ℕ
front kind = codes "OPAMREC1" ++ kind ∷ []

head_parts : (kind : ℕ) (pkg : Pkg) (r : List ℕ) → head_bytes kind pkg ++ r ≡ front kind ++ (short_text pkg.name ++ (short_text pkg.version ++ r))
head_parts kind pkg r = ap (λ (bytes : List ℕ). front kind ++ bytes) (append_assoc (short_text pkg.name) (short_text pkg.version) r)

head_same : (k j : ℕ) (p q : Pkg) (r s : List ℕ) → HeadFits p → HeadFits q → head_bytes k p ++ r ≡ head_bytes j q ++ s → (k ≡ j) × (p ≡ q) × (r ≡ s)
head_same k j p q r s fits others is =
    let whole = sym (head_parts k p r) ∙ is ∙ head_parts j q s in
    let kind = split_same 9 (front k) (front j) (short_text p.name ++ (short_text p.version ++ r)) (short_text q.name ++ (short_text q.version ++ s)) refl refl whole in
    let name = short_same p.name q.name (short_text p.version ++ r) (short_text q.version ++ s) fits.name others.name kind.1 in
    let version = short_same p.version q.version r s fits.version others.version name.1 in
    (ap (λ (bytes : List ℕ). get_or bytes 8 0) kind.0, λ i. record { name = name.0 i; version = version.0 i }, version.1)

install_parts : (p : Pkg) (a : List ℕ) (fs : List Placed) → record_bytes (Install p a fs) ≡ head_bytes 1 p ++ (long_text a ++ files_bytes fs)
install_parts p a fs = append_assoc (head_bytes 1 p) (long_text a) (files_bytes fs)

install_same : (p q : Pkg) (a b : List ℕ) (fs gs : List Placed) → InstallFits p a fs → InstallFits q b gs → record_bytes (Install p a fs) ≡ record_bytes (Install q b gs) → Install p a fs ≡ Install q b gs
install_same p q a b fs gs fits others is =
    let head = head_same 1 1 p q (long_text a ++ files_bytes fs) (long_text b ++ files_bytes gs) fits.head_fits others.head_fits (sym (install_parts p a fs) ∙ is ∙ install_parts q b gs) in
    let opam = long_same a b (files_bytes fs) (files_bytes gs) fits.opam_fits others.opam_fits head.2 in
    let files = files_same fs gs fits.files_fit others.files_fit opam.1 in
    λ i. Install (head.1 i) (opam.0 i) (files i)

remove_whole : (p : Pkg) → record_bytes (Remove p) ≡ head_bytes 2 p ++ []
remove_whole p = sym (append-nil (head_bytes 2 p))

pub one_record : (a b : Rec) → HasSpelling a → HasSpelling b → record_bytes a ≡ record_bytes b → a ≡ b
one_record (Install p a fs) (Install q b gs) fits others is = install_same p q a b fs gs fits others is
one_record (Install p a fs) (Remove q) fits others is =
    let head = head_same 1 2 p q (long_text a ++ files_bytes fs) [] fits.head_fits others (sym (install_parts p a fs) ∙ is ∙ remove_whole q) in absurd (omega (arith, head.0))
one_record (Remove p) (Install q b gs) fits others is =
    let head = head_same 2 1 p q [] (long_text b ++ files_bytes gs) fits others.head_fits (sym (remove_whole p) ∙ is ∙ install_parts q b gs) in absurd (omega (arith, head.0))
one_record (Remove p) (Remove q) fits others is =
    let head = head_same 2 2 p q [] [] fits others (sym (remove_whole p) ∙ is ∙ remove_whole q) in ap Remove head.1
