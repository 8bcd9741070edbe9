use Rattle.std.proofs.Common.{◌≡◌, ◌-◌, ◌<◌, ◌≤◌, true, false, length, take}
use Rattle.plan_audit.specs.Place.{has_faulty_line}
use Rattle.plan_audit.proofs.place.deciding_byte.Given as goal

abbrev pub invariant-loop-faulty : goal.invariant-loop-faulty
invariant-loop-faulty l =
    (l.sound < l.faulty) × (l.faulty ≤ length l.text)
    × (has_faulty_line (take l.sound l.text) ≡ false) × (has_faulty_line (take l.faulty l.text) ≡ true)

abbrev pub decreases-loop-faulty : goal.decreases-loop-faulty
decreases-loop-faulty l = l.faulty - l.sound
