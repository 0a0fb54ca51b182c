use Rattle.std.proofs.Common.{refl, ap, ◌∙◌}
use Rattle.std.specs.FinMap.{get}
use Rattle.std.proofs.Math.Nat.{le_refl}
use Rattle.crash_disk.specs.Disks.{State}
use Rattle.crash_disk.specs.Log.{first_state}
use Rattle.crash_disk.specs.Memory.{shown}
use Rattle.crash_disk.proofs.Images.{image_left, told_image}
use Rattle.crash_disk.proofs.memory_disk.MemoryDisk.image.Goals as goal

pub returns-clause-told : goal.returns-clause-told
returns-clause-told c = record {
  state = (shown c.make_image.result).state;
  tells = refl;
  files = λ q.
      ap (λ (s : State). get s.files q) c.make_image.ensures.told
      ∙ told_image c.args.choice c.in_ok-first.first.items c.as_slice.result.now c.as_slice-2.result.now c.args.self.now.first.items c.as_slice-3.result.now c.args.self.now.log c.in_ok-log.log c.args.moment
      c.as_slice.ensures.value c.as_slice-2.ensures.value c.as_slice-3.ensures c.in_ok-first.ensures c.in_ok-log.ensures.chosen q;
  firm = ap (λ (s : State). s.loose) c.make_image.ensures.told ∙ c.in_ok-log.ensures.firm (first_state c.in_ok-first.first.items);
}

pub returns-clause-left : goal.returns-clause-left
returns-clause-left c = (
  c.args.moment,
  le_refl c.args.moment,
  c.requires,
  image_left c.args.choice c.in_ok-first.first.items c.args.self.now.first.items c.args.self.now.log c.in_ok-log.log c.args.moment (shown c.make_image.result).state.files (λ q.
      ap (λ (s : State). get s.files q) c.make_image.ensures.told
      ∙ told_image c.args.choice c.in_ok-first.first.items c.as_slice.result.now c.as_slice-2.result.now c.args.self.now.first.items c.as_slice-3.result.now c.args.self.now.log c.in_ok-log.log c.args.moment
      c.as_slice.ensures.value c.as_slice-2.ensures.value c.as_slice-3.ensures c.in_ok-first.ensures c.in_ok-log.ensures.chosen q),
)
