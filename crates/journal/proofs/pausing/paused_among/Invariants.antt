use Rattle.std.proofs.Common.{◌≡◌, ◌++◌, map, filter, drop}
use Rattle.std.specs.List.{enumerate_from}
use Rattle.spool.specs.Calls.{paused_at}
use Rattle.journal.proofs.pausing.paused_among.Given as goal

abbrev pub invariant-loop-place : goal.invariant-loop-place
invariant-loop-place l =
    l.names.items ++ map (λ found. found.1.name) (filter (λ found. paused_at l.engine.core.paused found.0) (enumerate_from l.place (drop l.place l.printers))) ≡ map (λ found. found.1.name) (filter (λ found. paused_at l.engine.core.paused found.0) (enumerate_from 0 l.printers))
