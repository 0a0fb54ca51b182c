-- What a build sees of the other packages (opam manual, package definitions: variables). That it is what the package needs, with all
-- that this needs when it runs, is this project's own.
use Rattle.std.specs.Prelude.{◌≡◌, ℕ, List}
use Rattle.opam_names.specs.declared.packages.Pkg.{Pkg}
use Rattle.opam_package.specs.declared.package.Member.{Member}
use Rattle.action_graph.specs.Links.{edges_at, needs_at, member_pkgs}
use Rattle.action_graph.specs.Places.{ArePlaces, IsIn, at_places}
use Rattle.action_graph.specs.Reach.{Reached}

-- the least set that has the needs of a member, and with each of its members all the edges of that one
abbrev pub IsViewed : List Member → ℕ → ℕ → Type 0
IsViewed members place = Reached (IsIn (needs_at members place)) (λ from. IsIn (edges_at members from))

-- the packages of that set, in the byte order of their names, as the members stand
abbrev pub IsView : List Member → ℕ → List Pkg → Type 0
IsView members place view = (places : List ℕ) × ArePlaces (IsViewed members place) places × (view ≡ at_places (member_pkgs members) places)
