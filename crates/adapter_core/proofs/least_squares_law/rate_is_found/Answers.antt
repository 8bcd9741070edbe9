use Rattle.adapter_core.proofs.SamplesOnLine.{rate_found}
use Rattle.adapter_core.proofs.least_squares_law.rate_is_found.Goals as goal

pub returns : goal.returns
returns c = rate_found c.args.samples.now c.args.one c.args.setup c.args.rate c.requires.on c.requires.one c.requires.some c.requires.rate
