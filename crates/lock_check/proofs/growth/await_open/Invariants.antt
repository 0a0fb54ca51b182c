use Rattle.std.proofs.Common.{take}
use Rattle.lock_check.specs.Growth.{Awaits, is_open}
use Rattle.lock_check.proofs.growth.await_open.Given as goal

-- the first ones are looked at
abbrev pub invariant-loop-name : goal.invariant-loop-name
invariant-loop-name l = Awaits (is_open l.bound l.installed) (take l.name-index l.names) l.fn.waiting.keys l.waiting.keys
