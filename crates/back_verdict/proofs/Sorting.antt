-- What is asked of lists in byte order is what is asked of them as they stood.
use Rattle.std.proofs.Common.{◌≡◌, ◌∙◌, ℕ, List, [], ◌∷◌, map, Bool, refl, sym, ap, subst}
use Rattle.std.specs.Prelude.{bytes_eq, find, Contains}
use Rattle.std.specs.List.{IsDistinct, list_all, list_any}
use Rattle.std.specs.List.Sorted.{IsPermutation}
use Rattle.std.proofs.lemmas.List.Sorted.{Contains-permutation, IsPermutation-sym, list_any-IsPermutation}
use Rattle.opam_names.specs.ByteOrderLaws.{OrderIsStable}
use Rattle.opam_names.specs.ByteOrders.{NeverFallsBy, has_key, in_order_by}
use Rattle.opam_names.specs.declared.packages.Pkg.{Pkg}
use Rattle.opam_filter.specs.Laws.{HoldingIsMonotone}
use Rattle.opam_filter.specs.Sets.{Rises, holds}
use Rattle.opam_filter.specs.declared.formula.Reduced.{Reduced}
use Rattle.opam_package.specs.declared.package.Member.{Member}
use Rattle.opam_package.specs.declared.package.Need.{Need}
use Rattle.opam_package.specs.declared.package.Package.{Package}
use Rattle.journal_text.specs.Parts.{own_name}
use Rattle.switch_state.specs.Sound.{NamesDiffer, member_pkg, member_pkgs, name_of, runs_on, share_class}
use Rattle.back_verdict.specs.Backs.{first_shared, is_met, with_last}
use Rattle.back_verdict.specs.Searches.{has_one_of, sorted_texts}
use Rattle.back_verdict.proofs.Lists.{any_swap, bool_same, bytes_turn}

abbrev pub pkg_name : Pkg → List ℕ
pkg_name pkg = pkg.name

-- ---- packages

holds_same : HoldingIsMonotone → (left : Reduced) (set sorted : List Pkg) → IsPermutation set sorted → holds left sorted ≡ holds left set
holds_same law left set sorted moved =
    bool_same (holds left sorted) (holds left set) (law.packages left sorted set (λ pkg is. Contains-permutation sorted set pkg (IsPermutation-sym set sorted moved) is))
    (law.packages left set sorted (λ pkg is. Contains-permutation set sorted pkg moved is))

runs_same : HoldingIsMonotone → (dependent : Package) (set sorted : List Pkg) → IsPermutation set sorted → runs_on sorted dependent ≡ runs_on set dependent
runs_same law dependent set sorted moved = λ i. list_all (λ (need : Need). holds_same law need.runtime set sorted moved i) dependent.items

pub met_sorted : HoldingIsMonotone → OrderIsStable pkg_name → (entries : List Member) (old : Member) (set sorted seen : List Pkg) (met : Bool) → set ≡ member_pkgs (with_last entries old) → sorted ≡ in_order_by pkg_name set → seen ≡ sorted
    → met ≡ runs_on seen old.package → met ≡ is_met entries old
met_sorted law order entries old set sorted seen met is put same says =
    says ∙ ap (λ (s : List Pkg). runs_on s old.package) (same ∙ put) ∙ runs_same law old.package set (in_order_by pkg_name set) (order.elements set)
    ∙ ap (λ (s : List Pkg). runs_on s old.package) is

names_of : (members : List Member) → map pkg_name (member_pkgs members) ≡ map name_of members
names_of [] = refl
names_of (member ∷ members) = ap (λ (names : List (List ℕ)). name_of member ∷ names) (names_of members)

pub rises_sorted : OrderIsStable pkg_name → (entries : List Member) (old : Member) (set sorted seen : List Pkg) → set ≡ member_pkgs (with_last entries old) → sorted ≡ in_order_by pkg_name set → seen ≡ sorted
    → NamesDiffer (with_last entries old) → Rises seen
rises_sorted order entries old set sorted seen is put same differ =
    let pkgs = member_pkgs (with_last entries old) in
    let apart : IsDistinct bytes_eq (map pkg_name pkgs) = subst (λ (names : List (List ℕ)). IsDistinct bytes_eq names) (sym (names_of (with_last entries old))) differ in
    subst (λ (s : List Pkg). Rises s) (sym (same ∙ put ∙ ap (in_order_by pkg_name) is)) (order.rising pkgs apart)

-- ---- classes

sorted_any : OrderIsStable own_name → (text : List ℕ) (texts : List (List ℕ)) → list_any (has_key own_name text) (sorted_texts texts) ≡ list_any (has_key own_name text) texts
sorted_any order text texts = sym (list_any-IsPermutation (has_key own_name text) texts (sorted_texts texts) (order.elements texts))

pub shared_sorted : OrderIsStable own_name → (old entry : Package) (sorted classes : List (List ℕ)) (shared : Bool) → sorted ≡ sorted_texts old.classes → classes ≡ entry.classes → shared ≡ has_one_of sorted classes → shared ≡ share_class old entry
shared_sorted order old entry sorted classes shared put same says =
    says ∙ ap (λ (s : List (List ℕ)). has_one_of s classes) put ∙ ap (has_one_of (sorted_texts old.classes)) same
    ∙ (λ i. list_any (λ (text : List ℕ). sorted_any order text old.classes i) entry.classes)
    ∙ any_swap (λ (class text : List ℕ). bytes_eq class text) old.classes entry.classes

key_turn : (text : List ℕ) (texts : List (List ℕ)) → list_any (has_key own_name text) texts ≡ list_any (bytes_eq text) texts
key_turn text texts = λ i. list_any (λ (other : List ℕ). bytes_turn other text i) texts

pub first_sorted : OrderIsStable own_name → (old entry : Member) (sorted classes : List (List ℕ)) → sorted ≡ sorted_texts entry.package.classes → classes ≡ old.package.classes
    → find (λ (text : List ℕ). list_any (has_key own_name text) sorted) classes ≡ first_shared old entry
first_sorted order old entry sorted classes put same =
    ap (λ (s : List (List ℕ)). find (λ (text : List ℕ). list_any (has_key own_name text) s) classes) put
    ∙ ap (λ (cs : List (List ℕ)). find (λ (text : List ℕ). list_any (has_key own_name text) (sorted_texts entry.package.classes)) cs) same
    ∙ (λ i. find (λ (text : List ℕ). (sorted_any order text entry.package.classes ∙ key_turn text entry.package.classes) i) old.package.classes)

pub never_falls : OrderIsStable own_name → (texts sorted : List (List ℕ)) → sorted ≡ sorted_texts texts → NeverFallsBy own_name sorted
never_falls order texts sorted is = subst (λ (s : List (List ℕ)). NeverFallsBy own_name s) (sym is) (order.ordered texts)
