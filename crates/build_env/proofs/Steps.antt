-- One export more, one package of the view more.
use Rattle.std.proofs.Common.{◌≡◌, ℕ, ◌+◌, ◌<◌, ◌≤◌, length, get_or, List, ◌∷◌, drop, take, sym, ap, subst, ◌∙◌}
use Rattle.std.proofs.lemmas.List.{drop_more, take_all}
use Rattle.std.proofs.lemmas.List.Elements.{All-more}
use Rattle.opam_names.specs.Names.{IsName}
use Rattle.opam_names.specs.declared.packages.Pkg.{Pkg}
use Rattle.package_vars.specs.declared.facts.Facts.{Facts}
use Rattle.build_env.specs.Environments.{Environment}
use Rattle.build_env.specs.Seen.{AreNamed, Named, by_name, with_export_seen, with_exports_seen, with_member, with_members}
use Rattle.build_env.specs.declared.export.Export.{Export}

pub one_export : (facts : Facts) (named : Named) (before after : Environment) (exports : List Export) (i : ℕ) (export : Export)
    → i < length exports → export ≡ get_or exports i export → after ≡ with_export_seen facts named before export
    → with_exports_seen facts named after (drop (i + 1) exports) ≡ with_exports_seen facts named before (drop i exports)
one_export facts named before after exports i export within is set =
    let later = drop (i + 1) exports in
    ap (λ env. with_exports_seen facts named env later) set
    ∙ ap (λ (e : Export). with_exports_seen facts named before (e ∷ later)) is
    ∙ ap (λ es. with_exports_seen facts named before es) (sym (drop_more exports i export within))

-- a package of the view more
pub one_member : (named after : Named) (members : List Pkg) (i : ℕ) (pkg : Pkg)
    → i < length members → pkg ≡ get_or members i pkg → after ≡ with_member named pkg
    → with_members named (drop i members) ≡ by_name members → with_members after (drop (i + 1) members) ≡ by_name members
one_member named after members i pkg within is set was =
    let later = drop (i + 1) members in
    ap (λ n. with_members n later) set
    ∙ ap (λ (p : Pkg). with_members named (p ∷ later)) is
    ∙ ap (λ ms. with_members named ms) (sym (drop_more members i pkg within))
    ∙ was

pub one_named : (members : List Pkg) (i : ℕ) (pkg : Pkg) → i < length members → pkg ≡ get_or members i pkg → AreNamed (take i members) → IsName pkg.name
    → AreNamed (take (i + 1) members)
one_named members i pkg within is before valid =
    All-more (λ p. IsName p.name) members i pkg within before (subst (λ (p : Pkg). IsName p.name) is valid)

pub all_named : (members : List Pkg) (i : ℕ) → length members ≤ i → AreNamed (take i members) → AreNamed members
all_named members i whole before = subst AreNamed (take_all i members whole) before
