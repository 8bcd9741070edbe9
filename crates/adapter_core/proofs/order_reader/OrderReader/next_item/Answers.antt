use Rattle.std.proofs.Common.{rules, ◌≡◌, sym, ◌∙◌}
use Rattle.text.specs.FirstLine.{first_line_of}
use Rattle.text.specs.declared.line.FirstLine.TheVariants.{TooLong, Unfinished}
use Rattle.base_types.specs.declared.limits.TheConstants.Limits.{DEVICE_LINE_BYTES}
use Rattle.adapter_core.proofs.OrderStreams.{answers_again, answers_nothing, answers_too_long}
use Rattle.adapter_core.proofs.order_reader.OrderReader.next_item.Goals as goal

pub returns-in-Some-clause-answer : goal.returns-in-Some-clause-answer
returns-in-Some-clause-answer c = answers_again c.args.self.now c.in-Some.fault (search rules)

pub returns-in-Unfinished-clause-answer : goal.returns-in-Unfinished-clause-answer
returns-in-Unfinished-clause-answer c =
    let old = c.args.self.now in
    let outside : old.octets ≡ 0 = search rules in
    let begun : first_line_of DEVICE_LINE_BYTES old.rest ≡ Unfinished = rw (sym c.rest.ensures) (sym c.first_line.ensures ∙ c.in-Unfinished.is) in
    answers_nothing old (search rules) outside begun

pub returns-in-TooLong-clause-answer : goal.returns-in-TooLong-clause-answer
returns-in-TooLong-clause-answer c =
    let old = c.args.self.now in
    let outside : old.octets ≡ 0 = search rules in
    let long : first_line_of DEVICE_LINE_BYTES old.rest ≡ TooLong = rw (sym c.rest.ensures) (sym c.first_line.ensures ∙ c.in-TooLong.is) in
    rw (c.fail.ensures.kept, c.fail.ensures.answer) (answers_too_long old (search rules) outside long)
