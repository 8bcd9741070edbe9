use Rattle.std.proofs.Common.{◌≡◌, ◌++◌, take}
use Rattle.std.specs.List.{flat_map, All}
use Rattle.connections.specs.SendQueue.{joined, IsSome}
use Rattle.connections.proofs.queue.add_all.Given as goal

abbrev pub invariant-loop-document : goal.invariant-loop-document
invariant-loop-document l =
    (joined l.added.items ≡ joined l.initial.added.items ++ flat_map (λ d. d.contents) (take l.document-index l.documents)) × All IsSome l.added.items
