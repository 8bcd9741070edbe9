use Rattle.std.proofs.Common.{sym, subst}
use Rattle.std.specs.Prelude.{[], ◌∷◌}
use Rattle.adapter_core.specs.Life.{Is}
use Rattle.adapter_core.specs.AdapterState.{AdapterStateRecord, Lives}
use Rattle.adapter_core.proofs.Lives.{lives_set}
use Rattle.adapter_core.proofs.adapter_state.AdapterState.set_printer.Goals as goal

pub returns-clause-life : goal.returns-clause-life
returns-clause-life c = subst (λ (n : AdapterStateRecord). Lives c.args.self.now (Is c.args.printer ∷ []) n) (sym c.put_printer.ensures) (lives_set c.args.self.now c.args.printer)
