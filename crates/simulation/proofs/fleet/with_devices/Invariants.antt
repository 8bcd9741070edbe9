use Rattle.settings_file.specs.Settings.{MeetsLimits}
use Rattle.simulation.proofs.fleet.with_devices.Given as goal

abbrev pub invariant-loop-device : goal.invariant-loop-device
invariant-loop-device l = MeetsLimits l.all
