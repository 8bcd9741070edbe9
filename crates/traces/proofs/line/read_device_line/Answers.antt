use Rattle.std.proofs.Common.{rules, refl, ◌≡◌}
use Rattle.std.specs.Prelude.{option_map}
use Rattle.traces.specs.declared.line.Line.TheVariants.{Device}
use Rattle.traces.proofs.Forms.{no_space, no_name, found_report, found_device}
use Rattle.traces.proofs.line.read_device_line.Goals as goal

pub returns-in_default : goal.returns-in_default
returns-in_default c = no_space c.args.devices.now c.args.operands.now (c.in_default.ensures.none refl)

pub returns-in_default-place_of : goal.returns-in_default-place_of
returns-in_default-place_of c =
    no_name c.args.devices.now c.args.operands.now c.in-Some.cut.0.now c.in-Some.cut.1.now c.in-Some.ensures.some (search rules)

pub returns : goal.returns
returns c =
    let is_report = found_report c.in-Some.cut.1.now c.in_ok-report.report c.in_ok-report.ensures in
    let is : c.map.result ≡ option_map (Device c.in-Some-place_of.place) c.in_ok-report.report = search rules in
    rw is (found_device c.args.devices.now c.args.operands.now c.in-Some.cut.0.now c.in-Some.cut.1.now c.in-Some-place_of.place c.in_ok-report.report c.in-Some.ensures.some (search rules) is_report)
