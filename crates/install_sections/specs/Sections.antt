-- The sections of an install file (opam manual, package definitions: `.install` files): where the files of each go, and whether
-- they can be executed. Which sections have executable files is this project's own reading.
use Rattle.std.specs.Prelude.{ℕ, List, Bool, true, false, bytes_eq, codes, if◌then◌else◌}
use Rattle.std.specs.declared.option.Option.{Option}
use Rattle.std.specs.declared.option.Option.TheVariants.{None, Some}
use Rattle.opam_names.specs.Paths.{joined}
use Rattle.install_sections.specs.declared.sections.Folder.{Folder}
use Rattle.install_sections.specs.declared.sections.Folder.TheVariants.{Lib, Toplevel, Stublibs, Bin, Sbin, Share, Etc, Doc, Man}
use Rattle.install_sections.specs.declared.sections.Layout.{Layout}
use Rattle.install_sections.specs.declared.sections.Layout.TheVariants.{Own, Shared, Pages}
use Rattle.install_sections.specs.declared.sections.Section.{Section}

-- the folders below the prefix
abbrev pub folder_text : Folder → List ℕ
folder_text Lib = codes "lib"
folder_text Toplevel = codes "lib/toplevel"
folder_text Stublibs = codes "lib/stublibs"
folder_text Bin = codes "bin"
folder_text Sbin = codes "sbin"
folder_text Share = codes "share"
folder_text Etc = codes "etc"
folder_text Doc = codes "doc"
folder_text Man = codes "man"

-- a section by its folder, how files lie in that, and whether they can be executed
abbrev pub section : Folder → Layout → Bool → Section
section folder layout exec = record { folder = folder; layout = layout; exec = exec }

-- the table of sections
abbrev pub section_of : List ℕ → Option Section
section_of name =
    if bytes_eq name (codes "lib") then Some (section Lib Own false)
    else (if bytes_eq name (codes "libexec") then Some (section Lib Own true)
    else (if bytes_eq name (codes "lib_root") then Some (section Lib Shared false)
    else (if bytes_eq name (codes "libexec_root") then Some (section Lib Shared true)
    else (if bytes_eq name (codes "bin") then Some (section Bin Shared true)
    else (if bytes_eq name (codes "sbin") then Some (section Sbin Shared true)
    else (if bytes_eq name (codes "toplevel") then Some (section Toplevel Shared false)
    else (if bytes_eq name (codes "stublibs") then Some (section Stublibs Shared true)
    else (if bytes_eq name (codes "share") then Some (section Share Own false)
    else (if bytes_eq name (codes "share_root") then Some (section Share Shared false)
    else (if bytes_eq name (codes "etc") then Some (section Etc Own false)
    else (if bytes_eq name (codes "doc") then Some (section Doc Own false)
    else (if bytes_eq name (codes "man") then Some (section Man Pages false)
    else None))))))))))))

-- files lie in the folder of the package in that of the section, or in that of the section itself
abbrev pub laid : Layout → List ℕ → List ℕ → List ℕ
laid Own folder name = joined folder name
laid Shared folder name = folder
laid Pages folder name = folder

-- the folder of the files of a section, for the package of this name
abbrev pub folder_of : Section → List ℕ → List ℕ
folder_of section name = laid section.layout (folder_text section.folder) name
