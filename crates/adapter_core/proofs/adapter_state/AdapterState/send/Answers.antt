use Rattle.std.proofs.Common.{sym, subst, take}
use Rattle.std.specs.Prelude.{[], ◌∷◌}
use Rattle.adapter_core.specs.Life.{Sent}
use Rattle.adapter_core.specs.AdapterState.{AdapterStateRecord, Lives, due_in}
use Rattle.adapter_core.proofs.Lives.{lives_sent}
use Rattle.adapter_core.proofs.adapter_state.AdapterState.send.Goals as goal

pub returns-clause-life : goal.returns-clause-life
returns-clause-life c =
    let old = c.args.self.now in
    subst (λ (n : AdapterStateRecord). Lives old (Sent (take c.args.count (due_in old.work)) ∷ []) n) (sym c.pass.ensures) (lives_sent old c.args.count c.requires.some c.requires.due)
