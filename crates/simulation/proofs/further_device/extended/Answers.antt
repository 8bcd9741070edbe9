use Rattle.std.proofs.Common.{rules, ◌≡◌, ◌+◌, ◌<◌, List, ◌∷◌, [], ◌++◌, ◌∙◌, All, None, true, length, sym, subst}
use Rattle.std.specs.Vec.{with_items}
use Rattle.std.proofs.lemmas.List.{with_items_is}
use Rattle.base_types.specs.declared.limits.TheConstants.Limits.{DEVICES}
use Rattle.settings_file.specs.Settings.{DeviceEntry, PrinterEntry, ServerSettings, IsPrinterEntry, MeetsLimits, device_named}
use Rattle.simulation.specs.Further.{is_within, names}
use Rattle.simulation.proofs.Further.{as_many, entry_is, extended_is, still_entries}
use Rattle.simulation.proofs.further_device.extended.Goals as goal

pub add_to_each-requires : goal.add_to_each-requires
add_to_each-requires c =
    let old = c.args.settings in
    let same : c.deref_mut.result.now ≡ old.printers = search rules in
    let count : c.len-place.result ≡ length old.devices = search rules in
    subst (All (IsPrinterEntry (c.len-place.result + 1))) (sym same) (still_entries c.len-place.result old.printers (subst (λ n. All (IsPrinterEntry n) old.printers) (sym count) c.requires.each_printer))

pub returns : goal.returns
returns c =
    let inside = c.settings-2.inside in
    let old : ServerSettings = record { uri_base = inside.uri_base; operators = inside.operators.items; devices = inside.devices.items; printers = inside.printers.items } in
    let is : old ≡ c.args.settings = c.settings-2.view_is in
    let device : DeviceEntry = c.args.device in
    let printers : List PrinterEntry = c.add_to_each.new.printers in
    let passes : is_within device ≡ true = search rules in
    let few : length old.devices < DEVICES = search rules in
    let new : device_named c.args.settings device.name ≡ None = search rules in
    let same : names printers ≡ names old.printers = search rules in
    let count : c.len-place.result ≡ length old.devices = search rules in
    let each : All (IsPrinterEntry (length old.devices + 1)) printers = subst (λ n. All (IsPrinterEntry (n + 1)) printers) count c.in_ok-add_to_each.ensures.within in
    let pushed : c.push.new.self.items ≡ old.devices ++ device ∷ [] = search rules in
    let kept : (with_items inside.printers printers).items ≡ printers = with_items_is inside.printers printers (as_many old.printers printers same ∙ search rules) in
    rw (pushed, kept)
    (extended_is old device printers (subst MeetsLimits (sym is) c.requires) (entry_is device (search rules) (search rules) (search rules) passes) few (subst (λ (s : ServerSettings). device_named s device.name ≡ None) (sym is) new) same each)
