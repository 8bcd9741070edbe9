use Rattle.std.proofs.lemmas.List.Elements.{All-set}
use Rattle.settings_file.specs.Settings.{IsPrinterEntry}
use Rattle.simulation.proofs.Further.{names_stay}
use Rattle.simulation.proofs.further_device.add_to_each.Goals as goal
use Rattle.std.proofs.Common.{◌+◌, ◌∙◌}

pub loop-printer-preserved : goal.loop-printer-preserved
loop-printer-preserved c = (
  names_stay c.loop-printer.printers c.add_member.new.printer c.printer-item.result c.loop-printer.printer-index c.in_ok-add_member.ensures.named ∙ c.loop-printer.invariant.0,
  All-set (IsPrinterEntry (c.args.place + 1)) c.loop-printer.printers c.loop-printer.printer-index c.add_member.new.printer c.in_ok-add_member.ensures.within c.loop-printer.invariant.1,
)
