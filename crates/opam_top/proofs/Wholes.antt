-- Each package is decided once.
use Rattle.std.proofs.Common.{◌≡◌, ◌+◌, List, [], ◌∷◌, ◌++◌, length, map, Result, Ok, Err, refl, sym, ◌∙◌, ap, arith, append_assoc, length-append}
use Rattle.std.specs.Prelude.{count_by, fold}
use Rattle.std.proofs.lemmas.List.{append-nil, map-append}
use Rattle.opam_names.specs.declared.packages.Pkg.{Pkg}
use Rattle.opam_top.specs.Reports.{is_installed}
use Rattle.opam_top.specs.declared.decision.Decision.TheVariants.{Installed, Failed}
use Rattle.opam_top.specs.declared.decision.Reason.{Reason}
use Rattle.outside_io.specs.Shops.{Told, fate_of}
use Rattle.outside_io.specs.declared.workshop.Fate.{Fate}
use Rattle.opam_top.specs.Installs.{job_of}
use Rattle.opam_top.specs.Laws.{EachIsDecided, heard_pkg, member_pkg, pkg_of}
use Rattle.opam_top.specs.Outcomes.{Outcome, decided, undecided, verdict, with_member}
use Rattle.opam_top.specs.declared.member.Member.{Member}
use Rattle.opam_top.specs.declared.records.Placed.{Placed}
use Rattle.opam_top.specs.declared.records.Rec.{Rec}
use Rattle.opam_top.specs.declared.records.Rec.TheVariants.{Install}
use Rattle.opam_top.proofs.Looped.{with_heard}
use Rattle.opam_top.proofs.Progressed.{count_last}

-- one package more
decisions_more : (o : Outcome) (member : Member) (fate : Fate) (found : Result (List Placed) Reason) → map pkg_of (decided o member fate found).decisions ≡ map pkg_of o.decisions ++ member.pkg ∷ []
decisions_more o member fate (Ok files) = map-append pkg_of o.decisions (Installed member.pkg ∷ [])
decisions_more o member fate (Err reason) = map-append pkg_of o.decisions (Failed member.pkg reason ∷ [])

records_more : (o : Outcome) (member : Member) (fate : Fate) (found : Result (List Placed) Reason) → length o.records ≡ count_by is_installed o.decisions → length (decided o member fate found).records ≡ count_by is_installed (decided o member fate found).decisions
records_more o member fate (Ok files) same =
    let entry : Rec = Install member.pkg member.opam files in
    let last : count_by is_installed (o.decisions ++ Installed member.pkg ∷ []) ≡ count_by is_installed o.decisions + 1 = count_last is_installed o.decisions (Installed member.pkg) in
    length-append o.records (entry ∷ []) ∙ ap (λ n. n + 1) same ∙ sym last
records_more o member fate (Err reason) same =
    let last : count_by is_installed (o.decisions ++ Failed member.pkg reason ∷ []) ≡ count_by is_installed o.decisions + 0 = count_last is_installed o.decisions (Failed member.pkg reason) in
    omega (arith, same, last)

module _ (told : Told) where
  abbrev step : Outcome → Member → Outcome
  step = with_member told

  decisions_of : (o : Outcome) (members : List Member) → map pkg_of (fold step o members).decisions ≡ map pkg_of o.decisions ++ map member_pkg members
  decisions_of o [] = sym (append-nil (map pkg_of o.decisions))
  decisions_of o (member ∷ members) =
      decisions_of (step o member) members
      ∙ ap (λ (l : List Pkg). l ++ map member_pkg members) (decisions_more o member (fate_of told (job_of member)) (verdict told o.switch member))
      ∙ append_assoc (map pkg_of o.decisions) (member.pkg ∷ []) (map member_pkg members)

  heard_of : (o : Outcome) (members : List Member) → map heard_pkg (fold step o members).heard ≡ map heard_pkg o.heard ++ map member_pkg members
  heard_of o [] = sym (append-nil (map heard_pkg o.heard))
  heard_of o (member ∷ members) =
      let pair : Pkg × Fate = (member.pkg, fate_of told (job_of member)) in
      heard_of (step o member) members
      ∙ ap (λ (l : List Pkg). l ++ map member_pkg members) (ap (map heard_pkg) (with_heard told o member) ∙ map-append heard_pkg o.heard (pair ∷ []))
      ∙ append_assoc (map heard_pkg o.heard) (member.pkg ∷ []) (map member_pkg members)

  records_of : (o : Outcome) (members : List Member) → length o.records ≡ count_by is_installed o.decisions → length (fold step o members).records ≡ count_by is_installed (fold step o members).decisions
  records_of o [] same = same
  records_of o (member ∷ members) same = records_of (step o member) members (records_more o member (fate_of told (job_of member)) (verdict told o.switch member) same)

pub each_decided : EachIsDecided
each_decided told switch members = record {
  decisions = decisions_of told (undecided switch) members;
  heard = heard_of told (undecided switch) members;
  records = records_of told (undecided switch) members refl;
}
