use Rattle.adapter_core.proofs.Lives.{lives_taken}
use Rattle.adapter_core.proofs.adapter_state.AdapterState.take.Goals as goal

pub returns-clause-life : goal.returns-clause-life
returns-clause-life c = lives_taken c.args.self.now c.keep.new.self c.args.octets.now c.keep.result c.requires c.keep.ensures.ok
