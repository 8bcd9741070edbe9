use Rattle.std.proofs.Common.{arith}
use Rattle.std.proofs.lemmas.Grind.{common_steps}
use Rattle.std.proofs.lemmas.List.Elements.{filter_map-append}
use Rattle.listings.proofs.expected.on_devices.Goals as goal

pub loop-device-preserved : goal.loop-device-preserved
loop-device-preserved c = grind (arith, common_steps, filter_map-append)
