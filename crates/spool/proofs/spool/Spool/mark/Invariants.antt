use Rattle.std.proofs.Common.{◌≡◌, take, drop, map, ◌++◌}
use Rattle.spool.specs.Calls.{marked_by}
use Rattle.spool.proofs.spool.Spool.mark.Given as goal

abbrev pub invariant-loop-place : goal.invariant-loop-place
invariant-loop-place l = l.self ≡ record l.initial.self { jobs = map (marked_by l.printers l.stranded) (take l.place l.initial.self.jobs) ++ drop l.place l.initial.self.jobs }
