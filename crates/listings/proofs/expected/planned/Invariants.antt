use Rattle.std.proofs.Common.{◌≡◌, take}
use Rattle.std.specs.List.{flat_map}
use Rattle.listings.specs.Expected.{completions_in}
use Rattle.listings.proofs.expected.planned.Given as goal

abbrev pub invariant-loop-class : goal.invariant-loop-class
invariant-loop-class l = l.expected.items ≡ flat_map completions_in (take l.class-index l.class-items)
