use Rattle.std.proofs.Common.{◌≡◌, map, take}
use Rattle.device_link.proofs.line.copies.Given as goal

abbrev pub invariant-loop-name : goal.invariant-loop-name
invariant-loop-name l = l.texts.items ≡ map (λ name. name.now) (take l.name-index l.names)
