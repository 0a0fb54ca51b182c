-- What is known after some items is the list of their placements, and the first of their faults.
use Rattle.std.proofs.Common.{◌≡◌, ℕ, List, [], ◌∷◌, ◌++◌, fold, sym, ap, ◌∙◌}
use Rattle.std.proofs.lemmas.List.{append_assoc, append-nil}
use Rattle.std.specs.List.{flat_map}
use Rattle.std.specs.declared.option.Option.{Option}
use Rattle.std.specs.declared.option.Option.TheVariants.{Some}
use Rattle.install_sections.specs.declared.judging.Judgement.{Judgement}
use Rattle.install_sections.specs.declared.placement.Verdict.{Verdict}
use Rattle.install_sections.specs.declared.placement.Verdict.TheVariants.{Places, Fails}
use Rattle.install_sections.specs.declared.fault.InstallFault.{InstallFault}
use Rattle.install_sections.specs.declared.fault.InstallFault.TheVariants.{Syntax, UnknownSection, Misc, NotAnItem, Unsafe, TooMany, Memory}
use Rattle.install_sections.specs.InstallFaults.{IsFirstOf, sooner, first_fault}
use Rattle.install_sections.specs.Judgements.{unread, with_verdict}
use Rattle.install_sections.specs.Placements.{excess_faults, faults_in, file_verdicts, items_in, placements_in, verdict_faults, verdict_placements}
use Rattle.syntax_trees.specs.Trees.{items_of}
use Rattle.syntax_trees.specs.declared.file.File.{File}
use Rattle.install_sections.proofs.FirstFaults.{first_of_both, sooner_assoc, sooner_none}

pub all_placements : (verdicts : List Verdict) (known : Judgement)
    → (fold with_verdict known verdicts).placements ≡ known.placements ++ flat_map verdict_placements verdicts
all_placements [] known = sym (append-nil known.placements)
all_placements (Places placement ∷ more) known =
    all_placements more (with_verdict known (Places placement))
    ∙ append_assoc known.placements (placement ∷ []) (flat_map verdict_placements more)
all_placements (Fails fault ∷ more) known = all_placements more (with_verdict known (Fails fault))

pub one_fault : (verdicts : List Verdict) (known : Judgement)
    → (fold with_verdict known verdicts).fault ≡ sooner known.fault (first_fault (flat_map verdict_faults verdicts))
one_fault [] known = sym (sooner_none known.fault)
one_fault (Places placement ∷ more) known = one_fault more (with_verdict known (Places placement))
one_fault (Fails fault ∷ more) known =
    one_fault more (with_verdict known (Fails fault))
    ∙ sooner_assoc known.fault (Some fault) (first_fault (flat_map verdict_faults more))

-- the same of a whole file
pub file_placements : (name : List ℕ) (file : File) (known : Judgement) → known ≡ fold with_verdict unread (file_verdicts name file)
    → known.placements ≡ placements_in name file
file_placements name file known is = ap (λ (j : Judgement). j.placements) is ∙ all_placements (file_verdicts name file) unread

pub file_fault : (name : List ℕ) (file : File) (known : Judgement) → known ≡ fold with_verdict unread (file_verdicts name file)
    → sooner known.fault (first_fault (excess_faults (items_in (items_of file)))) ≡ first_fault (faults_in name file)
file_fault name file known is =
    ap (λ (j : Judgement). sooner j.fault (first_fault (excess_faults (items_in (items_of file))))) is
    ∙ ap (λ f. sooner f (first_fault (excess_faults (items_in (items_of file))))) (one_fault (file_verdicts name file) unread)
    ∙ sym (first_of_both (flat_map verdict_faults (file_verdicts name file)) (excess_faults (items_in (items_of file))))

-- the fault that is told is the first of all
pub told_fault : (name : List ℕ) (file : File) (known : Judgement) (excess told : Option InstallFault) → known ≡ fold with_verdict unread (file_verdicts name file)
    → excess ≡ first_fault (excess_faults (items_in (items_of file))) → told ≡ sooner known.fault excess → first_fault (faults_in name file) ≡ told
told_fault name file known excess told is more same = sym (file_fault name file known is) ∙ ap (sooner known.fault) (sym more) ∙ sym same

-- whatever it is
pub is_first : (faults : List InstallFault) (fault : InstallFault) → first_fault faults ≡ Some fault → IsFirstOf faults fault
is_first faults (Syntax inner) is = is
is_first faults (UnknownSection span) is = is
is_first faults (Misc span) is = is
is_first faults (NotAnItem span) is = is
is_first faults (Unsafe span) is = is
is_first faults (TooMany span) is = is
is_first faults Memory is = tt
