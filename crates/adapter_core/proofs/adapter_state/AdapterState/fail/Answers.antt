use Rattle.std.proofs.Common.{sym, subst}
use Rattle.adapter_core.specs.AdapterState.{AdapterStateRecord, Lives, reported_events}
use Rattle.adapter_core.proofs.Lives.{lives_failed}
use Rattle.adapter_core.proofs.adapter_state.AdapterState.fail.Goals as goal

pub returns-clause-life : goal.returns-clause-life
returns-clause-life c = subst (λ (n : AdapterStateRecord). Lives c.args.self.now (reported_events c.fail_report-report.result) n) (sym c.drop_work.ensures) (lives_failed c.args.self.now c.fail_report-report.result c.fail_report-report.ensures)
