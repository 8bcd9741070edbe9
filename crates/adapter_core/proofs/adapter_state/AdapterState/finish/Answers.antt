use Rattle.std.proofs.Common.{sym, subst}
use Rattle.std.specs.Prelude.{◌∷◌}
use Rattle.adapter_core.specs.Life.{Printed}
use Rattle.adapter_core.specs.AdapterState.{AdapterStateRecord, Lives, reported_events}
use Rattle.adapter_core.proofs.Lives.{lives_finished}
use Rattle.adapter_core.proofs.adapter_state.AdapterState.finish.Goals as goal

pub returns-clause-life : goal.returns-clause-life
returns-clause-life c = subst (λ (n : AdapterStateRecord). Lives c.args.self.now (Printed ∷ reported_events c.end_report-report.result) n) (sym c.drop_work.ensures) (lives_finished c.args.self.now c.end_report-report.result c.end_report-report.ensures)
