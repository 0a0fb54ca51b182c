use Rattle.change_laws.proofs.SoundLaw.{stays_sound}
use Rattle.change_laws.proofs.laws.stays_sound.Goals as goal

pub returns : goal.returns
returns c =
    stays_sound c.actions_keep_form.ensures c.requests_remove_first.ensures.kept c.installs_keep_sound.ensures.whole c.put_backs_keep_sound.ensures.whole c.removals_keep_sound.ensures.whole
