use Rattle.std.proofs.Common.{◌≡◌, ◌++◌, length}
use Rattle.std.specs.List.{AllByRecursion}
use Rattle.octets.specs.Pages.{joined, IsFull}
use Rattle.octets.proofs.paged.in_pages.Given as goal

abbrev pub invariant-loop-rest : goal.invariant-loop-rest
invariant-loop-rest l = (l.octets ≡ joined l.pages.items ++ l.rest) × AllByRecursion IsFull l.pages.items

abbrev pub decreases-loop-rest : goal.decreases-loop-rest
decreases-loop-rest l = length l.rest
