use Rattle.std.proofs.Common.{sym, subst}
use Rattle.spool.specs.Jobs.{SpoolRecord}
use Rattle.spool.specs.OnDevice.{AllStay}
use Rattle.spool.proofs.OnDevice.{others_then, stay_retained}
use Rattle.spool.proofs.spool.Spool.report.Goals as goal

pub returns-then-ends_print-clause-others : goal.returns-then-ends_print-clause-others
returns-then-ends_print-clause-others c =
    let reported = c.report_job-documents.new.self.jobs in
    others_then c.args.id c.args.self.now.jobs reported c.forget.new.self.jobs c.report_job-documents.ensures.others
    (subst (λ (s : SpoolRecord). AllStay reported s.jobs) (sym c.forget.ensures) (stay_retained reported))
