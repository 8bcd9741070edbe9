use Rattle.std.proofs.Common.{◌<◌, length, arith}
use Rattle.spool.specs.Spooled.{expired}
use Rattle.spool.proofs.MappedJobs.{changed_more}
use Rattle.spool.proofs.spool.Spool.expire_all.Goals as goal

pub loop-place-preserved : goal.loop-place-preserved
loop-place-preserved c =
    let inside : c.loop-place.place < length c.args.self.now.jobs = omega (arith, c.loop-place-test.true, c.len-place-end.ensures) in
    changed_more (expired c.args.now) c.args.self.now c.loop-place.self c.expire_at.new.self c.loop-place.place inside c.loop-place.invariant c.expire_at.ensures
