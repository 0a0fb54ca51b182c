-- How a command of a job is started: by `sh`, with all that it prints in a file of its build folder. This project's own.
use Rattle.std.specs.Prelude.{ℕ, List, ◌∷◌, codes}

-- what `sh` does with the words
abbrev pub script : List ℕ
script = codes "exec \"$@\" >opam.log 2>&1"

-- the arguments of `sh` for a command of these words
abbrev pub sh_args : List (List ℕ) → List (List ℕ)
sh_args words = codes "-c" ∷ script ∷ codes "sh" ∷ words
