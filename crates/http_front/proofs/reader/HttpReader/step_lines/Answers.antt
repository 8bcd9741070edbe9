use Rattle.std.proofs.Common.{sym, ◌≡◌, ◌∙◌}
use Rattle.text.specs.declared.line.FirstLine.TheVariants.{Whole, TooLong, Unfinished}
use Rattle.base_types.specs.declared.limits.TheConstants.Limits.{HTTP_HEAD_BYTES}
use Rattle.http_front.specs.Section.{section_in}
use Rattle.http_front.proofs.Sections.{section_within}
use Rattle.http_front.proofs.Prefixes.{waits_head, refuses_long}
use Rattle.http_front.proofs.reader.HttpReader.step_lines.Goals as goal

pub take_head-requires-clause-within : goal.take_head-requires-clause-within
take_head-requires-clause-within c =
    let lines : section_in HTTP_HEAD_BYTES c.args.self.now.rest ≡ Whole c.in-Whole.count = rw (sym c.rest.ensures) (sym c.section_in.ensures ∙ c.in-Whole.is) in
    section_within HTTP_HEAD_BYTES c.args.self.now.rest c.in-Whole.count lines

pub returns-in-Unfinished : goal.returns-in-Unfinished
returns-in-Unfinished c =
    let lines : section_in HTTP_HEAD_BYTES c.args.self.now.rest ≡ Unfinished = rw (sym c.rest.ensures) (sym c.section_in.ensures ∙ c.in-Unfinished.is) in
    waits_head c.args.self.now c.requires.head c.requires.begins lines

pub returns-in-TooLong : goal.returns-in-TooLong
returns-in-TooLong c =
    let lines : section_in HTTP_HEAD_BYTES c.args.self.now.rest ≡ TooLong = rw (sym c.rest.ensures) (sym c.section_in.ensures ∙ c.in-TooLong.is) in
    rw (c.refuse.ensures.state, c.refuse.ensures.answer) (refuses_long c.args.self.now c.requires.head c.requires.begins lines)
