use Rattle.std.proofs.Common.{◌∙◌, ◌+◌, drop, arith}
use Rattle.std.proofs.lemmas.List.{at_drop_more}
use Rattle.settings_file.specs.Printer.{places_of}
use Rattle.settings_file.proofs.ItemLemmas.{places_followed, next_place}
use Rattle.settings_file.proofs.printer.find_devices.Goals as goal

pub loop-name-preserved : goal.loop-name-preserved
loop-name-preserved c =
    let here = at_drop_more (λ names. places_followed c.loop-name.places.items (places_of c.args.devices.now names)) c.args.names.now c.loop-name.name-index c.name-item.result (omega arith) in
    let next = next_place c.args.devices.now c.loop-name.places.items c.name-item.result c.in-Some.place (drop (c.loop-name.name-index + 1) c.args.names.now) (rw c.as_bytes.ensures at c.in-Some.ensures) in
    rw (c.in_ok-push-in-Some.ensures.items, c.new.ensures) (c.loop-name.invariant ∙ (rw (← c.name-item.is) at here) ∙ next)
