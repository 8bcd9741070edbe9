use Rattle.std.proofs.Common.{◌≡◌, ◌≤◌, length}
use Rattle.print_room.specs.Jobs.{canceling_each}
use Rattle.listings.specs.Removal.{named_jobs}
use Rattle.listings.proofs.removal.remove_named.Given as goal

-- the cancels that are still to come make the same state as all of them
abbrev pub invariant-loop-id : goal.invariant-loop-id
invariant-loop-id l = (l.room.last ≤ l.now) × (canceling_each l.now l.request.agent (named_jobs l.printer l.request l.room) l.room ≡ canceling_each l.now l.request.agent (named_jobs l.printer l.request l.initial.room) l.initial.room)

abbrev pub decreases-loop-id : goal.decreases-loop-id
decreases-loop-id l = length (named_jobs l.printer l.request l.room)
