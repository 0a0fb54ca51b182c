-- An earlier request is ended where one is open.
use Rattle.std.proofs.Common.{◌≡◌, ◌∙◌, ap, inl, inr, Bool, true, false, subst, sym, refl, Option, Some, None}
use Rattle.std.specs.Prelude.{if◌then◌else◌, is_some}
use Rattle.crash_disk.specs.Disks.{Tree}
use Rattle.switch_state.specs.Begins.{IsAroundClose, state_closed}
use Rattle.switch_state.specs.Ends.{IsAroundEnd, state_ended}
use Rattle.std.specs.Option.{option_map}
use Rattle.switch_state.specs.State.{Recovers, SwitchState, request_in}
use Rattle.switch_state.specs.declared.request.OpenRequest.{OpenRequest}

closed_is : (state : SwitchState) → is_some state.request ≡ true → state_closed state ≡ state_ended state
closed_is state asked = rw asked refl

pub around_close : (state : SwitchState) (files : Tree) → is_some state.request ≡ true → (image : Tree) → IsAroundEnd state files image → IsAroundClose state files image
around_close state files asked image (inl before) = inl before
around_close state files asked image (inr after) = inr (subst (λ (s : SwitchState). Recovers s files image) (sym (closed_is state asked)) after)

asked_is : (request : Option OpenRequest) → is_some (option_map request_in request) ≡ is_some request
asked_is None = refl
asked_is (Some request) = refl

pub is_open_there : (request : Option OpenRequest) (state : SwitchState) (result : Bool) → result ≡ true → result ≡ is_some request → option_map request_in request ≡ state.request → is_some state.request ≡ true
is_open_there request state result is test same = sym (ap is_some same) ∙ asked_is request ∙ sym test ∙ is
