use Rattle.adapter_core.proofs.SamplesOnLine.{setup_found}
use Rattle.adapter_core.proofs.least_squares_law.setup_is_found.Goals as goal

pub returns : goal.returns
returns c = setup_found c.args.samples.now c.args.one c.args.other c.args.setup c.args.rate c.requires.on c.requires.one c.requires.other c.requires.different c.requires.setup
