use Rattle.std.proofs.Common.{sym, subst}
use Rattle.spool.specs.Jobs.{SpoolRecord}
use Rattle.spool.specs.OnDevice.{AllStay}
use Rattle.spool.proofs.OnDevice.{stay_retained, stay_then}
use Rattle.spool.proofs.spool.Spool.cancel.Goals as goal

pub returns-clause-stay : goal.returns-clause-stay
returns-clause-stay c =
    stay_then c.args.self.now.jobs c.change-changed.new.self.jobs c.forget.new.self.jobs c.change-changed.ensures.stay
    (subst (λ (s : SpoolRecord). AllStay c.change-changed.new.self.jobs s.jobs) (sym c.forget.ensures) (stay_retained c.change-changed.new.self.jobs))
