-- Where a file goes for which an install file names no destination (opam manual, package definitions: `.install` files).
use Rattle.std.specs.Prelude.{ℕ, List, [], ◌∷◌, ◌++◌, ◌-◌, length, take, Bool, codes, nat_le, ◌==◌, ◌&&◌, if◌then◌else◌}
use Rattle.std.specs.List.{after_last, ends_with, list_any}
use Rattle.std.specs.declared.option.Option.{Option}
use Rattle.std.specs.declared.option.Option.TheVariants.{None, Some}
use Rattle.opam_names.specs.Paths.{joined}
use Rattle.install_sections.specs.declared.sections.Layout.{Layout}
use Rattle.install_sections.specs.declared.sections.Layout.TheVariants.{Pages}
use Rattle.install_sections.specs.declared.sections.Section.{Section}
use Rattle.install_sections.specs.Sections.{folder_text, laid}

-- a `.gz` at the end of the name of a page of the manual is set aside, once
abbrev pub uncompressed : List ℕ → List ℕ
uncompressed file = if ends_with ◌==◌ file (codes ".gz") then take (length file - 3) file else file

-- a full stop
abbrev pub is_dot : ℕ → Bool
is_dot b = b == 46

-- the chapters of the manual, `1` to `8`
abbrev pub is_chapter : ℕ → Bool
is_chapter b = nat_le 49 b && nat_le b 56

-- the chapter that a text begins with
abbrev pub first_chapter : List ℕ → Option ℕ
first_chapter [] = None
first_chapter (b ∷ bytes) = if is_chapter b then Some b else None

-- the chapter that stands behind the last dot of a name
abbrev pub dotted_chapter : List ℕ → Option ℕ
dotted_chapter name = if list_any is_dot name then first_chapter (after_last is_dot name) else None

-- the chapter of a page: of `x.1`, `x.1.gz` and `x.1p` it is 1; of `x`, `x.`, `x.9` and `x.1.gz.gz` there is none
abbrev pub chapter_of : List ℕ → Option ℕ
chapter_of file = dotted_chapter (uncompressed file)

-- a page with a chapter goes into the folder `man` and the chapter below the folder, another one into the folder itself
abbrev pub chapter_folder : List ℕ → Option ℕ → List ℕ
chapter_folder folder None = folder
chapter_folder folder (Some chapter) = joined folder (codes "man" ++ chapter ∷ [])

-- pages of the manual go by their chapters, all else into the folder of the section
abbrev pub laid_by_default : Layout → List ℕ → List ℕ → List ℕ → List ℕ
laid_by_default Pages folder name file = chapter_folder folder (chapter_of file)
laid_by_default layout folder name file = laid layout folder name

-- the folder of a file of this name, in a section, for the package of that name
abbrev pub default_folder : Section → List ℕ → List ℕ → List ℕ
default_folder section name file = laid_by_default section.layout (folder_text section.folder) name file
