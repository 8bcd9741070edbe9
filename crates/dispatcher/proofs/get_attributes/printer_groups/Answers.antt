use Rattle.dispatcher.proofs.Spelt.{printer_is_spelt}
use Rattle.dispatcher.proofs.get_attributes.printer_groups.Goals as goal

pub one-requires : goal.one-requires
one-requires c = printer_is_spelt c.args.printer.now.id c.args.printer.now.offer c.args.now c.args.requested.now c.args.room.now _ c.in_ok-group.ensures
