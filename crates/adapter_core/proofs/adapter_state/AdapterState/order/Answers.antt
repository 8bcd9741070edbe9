use Rattle.std.proofs.Common.{sym, subst}
use Rattle.std.specs.Prelude.{[], ◌∷◌}
use Rattle.adapter_core.specs.Life.{Ordered}
use Rattle.adapter_core.specs.AdapterState.{AdapterStateRecord, Lives}
use Rattle.adapter_core.proofs.Lives.{lives_ordered}
use Rattle.adapter_core.proofs.adapter_state.AdapterState.order.Goals as goal

pub returns-clause-life : goal.returns-clause-life
returns-clause-life c = subst (λ (n : AdapterStateRecord). Lives c.args.self.now (Ordered c.args.job c.args.octets c.args.times ∷ []) n) (sym c.begin.ensures) (lives_ordered c.args.self.now c.args.job c.args.octets c.args.times c.requires)
