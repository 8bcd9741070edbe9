use Rattle.std.proofs.Common.{sym, subst}
use Rattle.adapter_core.specs.AdapterState.{AdapterStateRecord, Lives, reported_events}
use Rattle.adapter_core.proofs.Lives.{lives_reported}
use Rattle.adapter_core.proofs.adapter_state.AdapterState.next_report.Goals as goal

pub returns-clause-life : goal.returns-clause-life
returns-clause-life c = subst (λ (n : AdapterStateRecord). Lives c.args.self.now (reported_events c.due_report-report.result) n) (sym c.mark_reported.ensures) (lives_reported c.args.self.now c.due_report-report.result c.due_report-report.ensures)
