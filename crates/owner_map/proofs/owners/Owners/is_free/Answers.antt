use Rattle.std.proofs.Common.{sym, ◌∙◌, ap}
use Rattle.std.specs.List.{find, list_any}
use Rattle.std.specs.Option.{option_copied}
use Rattle.path_order.specs.Apart.{meets}
use Rattle.owner_map.specs.Owning.{Owning, path_of, paths_of}
use Rattle.owner_map.specs.Searching.{meets_text}
use Rattle.owner_map.proofs.Gathering.{none_met, some_met}
use Rattle.owner_map.proofs.owners.Owners.is_free.Goals as goal

pub returns-in-Some : goal.returns-in-Some
returns-in-Some c =
    let text = c.as_bytes-text.result.now in
    let owned = c.args.self.now.owned in
    let own = ap (λ (o : Owning). o.owned) c.self.view_is in
    let text-is = c.as_bytes-text.ensures.value ∙ c.as_str.ensures.value in
    ap (λ q. list_any (meets q) (paths_of owned)) (sym text-is) ∙ some_met path_of text owned c.in-Some.field-0.now (ap (find (meets_text path_of text)) (sym own) ∙ sym c.find_met.ensures ∙ ap option_copied c.in-Some.is)

pub returns : goal.returns
returns c =
    let text = c.as_bytes-text.result.now in
    let owned = c.args.self.now.owned in
    let own = ap (λ (o : Owning). o.owned) c.self.view_is in
    let text-is = c.as_bytes-text.ensures.value ∙ c.as_str.ensures.value in
    ap (λ q. list_any (meets q) (paths_of owned)) (sym text-is) ∙ none_met path_of text owned (ap (find (meets_text path_of text)) (sym own) ∙ sym c.find_met.ensures ∙ ap option_copied c.in-None.is)
