use Rattle.std.proofs.Common.{sym, subst}
use Rattle.std.specs.Prelude.{[], ◌∷◌}
use Rattle.adapter_core.specs.Life.{Restarts}
use Rattle.adapter_core.specs.AdapterState.{AdapterStateRecord, Lives}
use Rattle.adapter_core.proofs.Lives.{lives_restarted}
use Rattle.adapter_core.proofs.adapter_state.AdapterState.restart.Goals as goal

pub returns-clause-life : goal.returns-clause-life
returns-clause-life c = subst (λ (n : AdapterStateRecord). Lives c.args.self.now (Restarts ∷ []) n) (sym c.pass_back.ensures) (lives_restarted c.args.self.now)
