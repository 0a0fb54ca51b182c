use Rattle.std.proofs.Common.{◌≡◌, ◌<◌}
use denote.Text.{Utf8}
use denote.Shadow.{shadow}
use Rattle.opam_main.specs.Folders.{folder_of}
use Rattle.opam_main.specs.Loose.{Has, KeepsAll}
use Rattle.opam_main.proofs.loose.Loose.add_folders.Given as goal

-- what was there stays, and after one turn the path's own folder is there
abbrev pub invariant-loop-turn : goal.invariant-loop-turn
invariant-loop-turn l =
    shadow (Utf8 l.entry) × KeepsAll l.initial.self.folders l.self.folders
    × (l.self ≡ record l.initial.self { folders = l.self.folders })
    × (l._turn ≡ 0 → l.entry ≡ l.path)
    × (0 < l._turn → Has l.self.folders (folder_of l.path))
