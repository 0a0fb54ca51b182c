-- Texts, and the items that they spell as a reader expects: a lock, opam files, and a short sample.
use Rattle.std.specs.Prelude.{ℕ, ℤ, List, [], ◌∷◌, codes}
use Rattle.std.specs.declared.option.Option.TheVariants.{None}
use Rattle.syntax_trees.specs.declared.tree.RelOp.{RelOp}
use Rattle.syntax_trees.specs.declared.tree.RelOp.TheVariants.{Eq, Ge}
use Rattle.syntax_trees.specs.declared.tree.Node.{Node}
use Rattle.syntax_trees.specs.declared.tree.Span.{Span}
use Rattle.syntax_trees.specs.declared.tree.Value.{Value, roll-Value}
use Rattle.syntax_trees.specs.declared.tree.Value.TheOpen.{Value-F}
use Rattle.syntax_trees.specs.Files.{Entry, field_entry}

-- each value with the places of its first byte and past its last
abbrev pub span : ℕ → ℕ → Span
span from to = record { start = from; end = to }

-- a value at these places
abbrev pub spanned : Value-F Value Node → ℕ → ℕ → Node
spanned value from to = record { value = roll-Value value; span = span from to }

-- an identifier without a scope
abbrev pub word : List ℕ → ℕ → ℕ → Node
word name = spanned (Value-F.Ident (record { scope = None; name = name }))

-- a text in quotes
abbrev pub text : List ℕ → ℕ → ℕ → Node
text bytes = spanned (Value-F.Text bytes)

-- an integer
abbrev pub int : ℤ → ℕ → ℕ → Node
int number = spanned (Value-F.Int number)

-- a list
abbrev pub list_of : List Node → ℕ → ℕ → Node
list_of nodes = spanned (Value-F.List nodes)

-- a value with braces
abbrev pub braced : Node → List Node → ℕ → ℕ → Node
braced value nodes = spanned (Value-F.Braced value nodes)

-- a relation
abbrev pub related : RelOp → Node → Node → ℕ → ℕ → Node
related op left right = spanned (Value-F.Rel op left right)

-- a relation without a left side
abbrev pub pre_related : RelOp → Node → ℕ → ℕ → Node
pre_related op right = spanned (Value-F.PreRel op right)

-- values joined by `&`
abbrev pub conjoined : List Node → ℕ → ℕ → Node
conjoined nodes = spanned (Value-F.And nodes)

-- a short sample
abbrev pub sample_text : List ℕ
sample_text = codes "a:[ x \"y\"{>=\"2\"} ]"

-- its items
abbrev pub sample : List Entry
sample =
    field_entry (codes "a") (span 0 1) (
    list_of (
    word (codes "x") 4 5 ∷
    braced (text (codes "y") 6 9) (pre_related Ge (text (codes "2") 12 15) 10 15 ∷ []) 6 16 ∷
    []) 2 18) ∷
    []

-- a lock
abbrev pub lock_text : List ℕ
lock_text = codes "name: \"proj\"\ndepends: [\"alcotest\" {= \"1.7.0\" & with-test} \"app\" {= \"1.0\"} \"dune\" {= \"3.10.0\"} \"fmt\" {= \"0.9.0\"}]\n"

-- its items
abbrev pub lock : List Entry
lock =
    field_entry (codes "name") (span 0 4) (text (codes "proj") 6 12) ∷
    field_entry (codes "depends") (span 13 20) (
    list_of (
    braced (text (codes "alcotest") 23 33) (
    conjoined (pre_related Eq (text (codes "1.7.0") 37 44) 35 44 ∷ word (codes "with-test") 47 56 ∷ []) 35 56 ∷
    []) 23 57 ∷
    braced (text (codes "app") 58 63) (pre_related Eq (text (codes "1.0") 67 72) 65 72 ∷ []) 58 73 ∷
    braced (text (codes "dune") 74 80) (pre_related Eq (text (codes "3.10.0") 84 92) 82 92 ∷ []) 74 93 ∷
    braced (text (codes "fmt") 94 99) (pre_related Eq (text (codes "0.9.0") 103 110) 101 110 ∷ []) 94 111 ∷
    []) 22 112) ∷
    []

-- an opam file of a few fields
abbrev pub dune_text : List ℕ
dune_text = codes "opam-version: \"2.0\"\nbuild: [[\"ocaml\" \"boot.ml\" \"-j\" jobs] [\"./dune.exe\" \"build\" \"-p\" name]]\n"

-- its items
abbrev pub dune : List Entry
dune =
    field_entry (codes "opam-version") (span 0 12) (text (codes "2.0") 14 19) ∷
    field_entry (codes "build") (span 20 25) (
    list_of (
    list_of (
    text (codes "ocaml") 29 36 ∷
    text (codes "boot.ml") 37 46 ∷
    text (codes "-j") 47 51 ∷
    word (codes "jobs") 52 56 ∷
    []) 28 57 ∷
    list_of (
    text (codes "./dune.exe") 59 71 ∷
    text (codes "build") 72 79 ∷
    text (codes "-p") 80 84 ∷
    word (codes "name") 85 89 ∷
    []) 58 90 ∷
    []) 27 91) ∷
    []

-- an opam file with a condition on a word of a command
abbrev pub fmt_text : List ℕ
fmt_text = codes "opam-version: \"2.0\"\ndepends: [\"dune\" {>= \"2.0\" & build}]\nbuild: [[\"dune\" \"build\" \"-p\" name \"-j\" jobs \"@runtest\" {with-test}]]\n"

-- its items
abbrev pub fmt : List Entry
fmt =
    field_entry (codes "opam-version") (span 0 12) (text (codes "2.0") 14 19) ∷
    field_entry (codes "depends") (span 20 27) (
    list_of (
    braced (text (codes "dune") 30 36) (
    conjoined (pre_related Ge (text (codes "2.0") 41 46) 38 46 ∷ word (codes "build") 49 54 ∷ []) 38 54 ∷
    []) 30 55 ∷
    []) 29 56) ∷
    field_entry (codes "build") (span 57 62) (
    list_of (
    list_of (
    text (codes "dune") 66 72 ∷
    text (codes "build") 73 80 ∷
    text (codes "-p") 81 85 ∷
    word (codes "name") 86 90 ∷
    text (codes "-j") 91 95 ∷
    word (codes "jobs") 96 100 ∷
    braced (text (codes "@runtest") 101 111) (word (codes "with-test") 113 122 ∷ []) 101 123 ∷
    []) 65 124 ∷
    []) 64 125) ∷
    []

-- an opam file with a section and most kinds of values
abbrev pub app_text : List ℕ
app_text = codes "opam-version: \"2.0\"\ndepends: [\"fmt\" \"dune\" {>= \"2.0\"}]\navailable: os = \"linux\"\n"

-- its items
abbrev pub app : List Entry
app =
    field_entry (codes "opam-version") (span 0 12) (text (codes "2.0") 14 19) ∷
    field_entry (codes "depends") (span 20 27) (
    list_of (
    text (codes "fmt") 30 35 ∷
    braced (text (codes "dune") 36 42) (pre_related Ge (text (codes "2.0") 47 52) 44 52 ∷ []) 36 53 ∷
    []) 29 54) ∷
    field_entry (codes "available") (span 55 64) (related Eq (word (codes "os") 66 68) (text (codes "linux") 71 78) 66 78) ∷
    []

-- a field that comes twice is derived all the same
abbrev pub doubled_text : List ℕ
doubled_text = codes "a: x a: y"

-- its items, one name of which comes twice
abbrev pub doubled : List Entry
doubled =
    field_entry (codes "a") (span 0 1) (word (codes "x") 3 4) ∷
    field_entry (codes "a") (span 5 6) (word (codes "y") 8 9) ∷
    []
