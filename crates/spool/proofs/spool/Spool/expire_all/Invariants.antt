use Rattle.std.proofs.Common.{◌≡◌, take, drop, map, ◌++◌}
use Rattle.spool.specs.Spooled.{expired}
use Rattle.spool.proofs.spool.Spool.expire_all.Given as goal

abbrev pub invariant-loop-place : goal.invariant-loop-place
invariant-loop-place l = l.self ≡ record l.initial.self { jobs = map (expired l.now) (take l.place l.initial.self.jobs) ++ drop l.place l.initial.self.jobs }
