use Rattle.std.proofs.Common.{◌≡◌, ◌++◌, Some, rules, option_map}
use Rattle.std.specs.Prelude.{codes}
use Rattle.std.proofs.lemmas.Slice.Eq.{strip_prefix_is}
use Rattle.std.proofs.lemmas.Bool.Decides.{Decides-eqb}
use Rattle.traces.specs.declared.line.Line.TheVariants.{Open, In, End}
use Rattle.traces.proofs.Forms.{found_opening, found_in, found_end}
use Rattle.traces.proofs.line.read_line.Goals as goal

pub returns-in-Some-strip_prefix-2 : goal.returns-in-Some-strip_prefix-2
returns-in-Some-strip_prefix-2 c =
    let operands = c.in-Some-strip_prefix-2.operands in
    let is : c.args.text.now ≡ codes "dev " ++ operands.now =
    strip_prefix_is Decides-eqb c.args.text.now (codes "dev ") (Some operands) c.in-Some-strip_prefix-2.ensures.cases in
    rw is c.read_device_line.ensures

pub returns-in-Some-strip_prefix-3 : goal.returns-in-Some-strip_prefix-3
returns-in-Some-strip_prefix-3 c =
    let operands = c.in-Some-strip_prefix-3.operands in
    let is : c.args.text.now ≡ codes "open " ++ operands.now =
    strip_prefix_is Decides-eqb c.args.text.now (codes "open ") (Some operands) c.in-Some-strip_prefix-3.ensures.cases in
    let mapped : c.map-in-Some-strip_prefix-3.result ≡ option_map Open c.read_opening.result = search rules in
    rw mapped (found_opening c.args.devices.now c.args.text.now operands.now c.read_opening.result is c.read_opening.ensures)

pub returns-in-Some-strip_prefix-4 : goal.returns-in-Some-strip_prefix-4
returns-in-Some-strip_prefix-4 c =
    let operands = c.in-Some-strip_prefix-4.operands in
    let is : c.args.text.now ≡ codes "in " ++ operands.now =
    strip_prefix_is Decides-eqb c.args.text.now (codes "in ") (Some operands) c.in-Some-strip_prefix-4.ensures.cases in
    let mapped : c.map-in-Some-strip_prefix-4.result ≡ option_map In c.in_ok-read_input.field-0 = search rules in
    rw mapped (found_in c.args.devices.now c.args.text.now operands.now c.in_ok-read_input.field-0 is (c.in_ok-read_input.ensures {u = tt}))

pub returns-in-Some-strip_prefix-5 : goal.returns-in-Some-strip_prefix-5
returns-in-Some-strip_prefix-5 c =
    let digits = c.in-Some-strip_prefix-5.digits in
    let is : c.args.text.now ≡ codes "end " ++ digits.now =
    strip_prefix_is Decides-eqb c.args.text.now (codes "end ") (Some digits) c.in-Some-strip_prefix-5.ensures.cases in
    let mapped : c.map-in-Some-strip_prefix-5.result ≡ option_map End c.read_number.result = search rules in
    rw mapped (found_end c.args.devices.now c.args.text.now digits.now c.read_number.result is c.read_number.ensures)
