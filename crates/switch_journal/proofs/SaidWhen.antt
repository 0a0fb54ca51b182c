-- What is said after an end.
use Rattle.std.proofs.Common.{◌≡◌, true, refl, Option, Some, None}
use Rattle.std.specs.Prelude.{is_some}
use Rattle.switch_journal.specs.Applying.{ended}
use Rattle.switch_journal.specs.Contents.{Contents}
use Rattle.switch_journal.specs.Keeping.{closed, if_small}
use Rattle.switch_journal.specs.declared.request.Open.{Open}

ended_by : (c : Contents) (request : Option Open) → is_some request ≡ true → if_small (closed c) ≡ ended c request
ended_by c None is = absurd (cc)
ended_by c (Some request) is = refl

-- an end, where a request is open
pub end_when : (c : Contents) → is_some c.request ≡ true → if_small (closed c) ≡ ended c c.request
end_when c is = ended_by c c.request is
