-- What a member of a set runs with and needs there, by places in the set (opam manual, package formulas; file format: opam,
-- depends and depopts).
use Rattle.std.specs.Prelude.{ℕ, List, [], map, slice_get}
use Rattle.std.specs.declared.option.Option.{Option}
use Rattle.std.specs.declared.option.Option.TheVariants.{None, Some}
use Rattle.opam_names.specs.declared.packages.Pkg.{Pkg}
use Rattle.opam_package.specs.declared.package.Member.{Member}
use Rattle.opam_package.specs.declared.package.Package.{Package}
use Rattle.opam_package.specs.Dependencies.{is_edge, is_need}
use Rattle.action_graph.specs.Places.{places_from}

-- the packages of members
abbrev pub member_pkgs : List Member → List Pkg
member_pkgs members = map (λ member. member.package.pkg) members

-- their names
abbrev pub member_names : List Member → List (List ℕ)
member_names members = map (λ member. member.package.pkg.name) members

-- the places of the members that a package needs when it runs, from the least on
abbrev pub edge_places : Package → List Member → List ℕ
edge_places dependent members = places_from (λ (other : Member). is_edge dependent other.package.pkg) 0 members

-- the places of those that it needs when it runs or is built, from the least on
abbrev pub need_places : Package → List Member → List ℕ
need_places dependent members = places_from (λ (other : Member). is_need dependent other.package.pkg) 0 members

-- of a member, where there is one
abbrev pub member_edges : Option Member → List Member → List ℕ
member_edges None members = []
member_edges (Some member) members = edge_places member.package members

-- what a member needs, where there is one
abbrev pub member_needs : Option Member → List Member → List ℕ
member_needs None members = []
member_needs (Some member) members = need_places member.package members

-- the edges of the member at a place
abbrev pub edges_at : List Member → ℕ → List ℕ
edges_at members at = member_edges (slice_get members at) members

-- the needs of the member at a place
abbrev pub needs_at : List Member → ℕ → List ℕ
needs_at members at = member_needs (slice_get members at) members
