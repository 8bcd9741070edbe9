use Rattle.std.proofs.Common.{sym, subst}
use Rattle.spool.specs.Spooled.{expired}
use Rattle.spool.specs.Jobs.{SpoolRecord}
use Rattle.spool.specs.OnDevice.{AllStay}
use Rattle.spool.proofs.OnDevice.{expired_on, stay_map, stay_retained, stay_then}
use Rattle.spool.proofs.spool.Spool.expire.Goals as goal

pub returns-clause-stay : goal.returns-clause-stay
returns-clause-stay c =
    let jobs = c.args.self.now.jobs in
    stay_then jobs c.expire_all.new.self.jobs c.forget.new.self.jobs
    (subst (λ (s : SpoolRecord). AllStay jobs s.jobs) (sym c.expire_all.ensures) (stay_map (expired c.args.now) (expired_on c.args.now) jobs))
    (subst (λ (s : SpoolRecord). AllStay c.expire_all.new.self.jobs s.jobs) (sym c.forget.ensures) (stay_retained c.expire_all.new.self.jobs))
