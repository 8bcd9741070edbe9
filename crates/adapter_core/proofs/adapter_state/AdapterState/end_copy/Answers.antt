use Rattle.std.proofs.Common.{sym, subst}
use Rattle.std.specs.Prelude.{[], ◌∷◌}
use Rattle.adapter_core.specs.Life.{EndsCopy}
use Rattle.adapter_core.specs.AdapterState.{AdapterStateRecord, Lives}
use Rattle.adapter_core.proofs.Lives.{lives_copied}
use Rattle.adapter_core.proofs.adapter_state.AdapterState.end_copy.Goals as goal

pub returns-clause-life : goal.returns-clause-life
returns-clause-life c = subst (λ (n : AdapterStateRecord). Lives c.args.self.now (EndsCopy ∷ []) n) (sym c.pass_copy.ensures) (lives_copied c.args.self.now c.requires)
