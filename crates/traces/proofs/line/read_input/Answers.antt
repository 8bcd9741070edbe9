use Rattle.std.proofs.Common.{refl, rules, ◌≡◌, option_map}
use Rattle.traces.proofs.Forms.{uncut_input, unnumbered_input, found_input}
use Rattle.traces.proofs.line.read_input.Goals as goal

pub returns-in_default : goal.returns-in_default
returns-in_default c = uncut_input c.args.operands.now (c.in_default.ensures.none refl)

pub returns-in_default-read_number : goal.returns-in_default-read_number
returns-in_default-read_number c = unnumbered_input c.args.operands.now c.in-Some.cut.0.now c.in-Some.cut.1.now c.in-Some.ensures.some c.in_default-read_number.ensures

pub returns : goal.returns
returns c =
    let is : c.map.result ≡ option_map (λ body. record { number = c.in-Some-read_number.number; bytes = body }) c.in_ok-bytes.bytes = search rules in
    rw is (found_input c.args.operands.now c.in-Some.cut.0.now c.in-Some.cut.1.now c.in-Some-read_number.number c.in_ok-bytes.bytes c.in-Some.ensures.some c.in-Some-read_number.ensures (c.in_ok-bytes.ensures {u = tt}))
