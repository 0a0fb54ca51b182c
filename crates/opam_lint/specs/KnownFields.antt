-- The fields of an opam file that are known (opam manual, file format: opam).
use Rattle.std.specs.Prelude.{ℕ, List, [], ◌∷◌, Bool, codes, bytes_eq, ◌||◌}
use Rattle.std.specs.List.{list_any}
use Rattle.syntax_trees.specs.Signs.{begins_with}

-- fields that are read of a package
abbrev pub read_names : List (List ℕ)
read_names =
    codes "opam-version" ∷ codes "name" ∷ codes "version" ∷ codes "synopsis" ∷ codes "depends" ∷ codes "depopts" ∷ codes "conflicts"
    ∷ codes "conflict-class" ∷ codes "available" ∷ codes "build" ∷ codes "setenv" ∷ codes "build-env" ∷ []

-- fields for which a package may be refused
abbrev pub refused_names : List (List ℕ)
refused_names = codes "install" ∷ codes "remove" ∷ codes "patches" ∷ codes "extra-files" ∷ codes "substs" ∷ []

-- fields that are not looked at
abbrev pub other_names : List (List ℕ)
other_names =
    codes "maintainer" ∷ codes "authors" ∷ codes "license" ∷ codes "homepage" ∷ codes "doc" ∷ codes "bug-reports" ∷ codes "dev-repo"
    ∷ codes "description" ∷ codes "tags" ∷ codes "run-test" ∷ codes "depexts" ∷ codes "pin-depends" ∷ codes "messages"
    ∷ codes "post-messages" ∷ codes "flags" ∷ []

-- the name is one of these
abbrev pub is_among : List (List ℕ) → List ℕ → Bool
is_among names name = list_any (bytes_eq name) names

-- a field is known: its name is one of all these, or begins with `x-`
abbrev pub is_known : List ℕ → Bool
is_known name = is_among read_names name || is_among refused_names name || is_among other_names name || begins_with (codes "x-") name
