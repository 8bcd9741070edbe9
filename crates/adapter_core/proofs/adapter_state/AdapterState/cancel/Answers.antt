use Rattle.std.proofs.Common.{sym, subst}
use Rattle.std.specs.Prelude.{[], ◌∷◌}
use Rattle.adapter_core.specs.Life.{Canceled}
use Rattle.adapter_core.specs.AdapterState.{AdapterStateRecord, Lives}
use Rattle.adapter_core.proofs.Lives.{lives_canceled}
use Rattle.adapter_core.proofs.adapter_state.AdapterState.cancel.Goals as goal

pub returns-clause-life : goal.returns-clause-life
returns-clause-life c = subst (λ (n : AdapterStateRecord). Lives c.args.self.now (Canceled c.args.job ∷ []) n) (sym c.mark.ensures) (lives_canceled c.args.self.now c.args.job)
