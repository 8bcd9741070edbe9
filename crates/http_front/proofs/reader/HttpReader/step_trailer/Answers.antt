use Rattle.std.proofs.Common.{rules, subst, sym, ◌≡◌, ◌∙◌}
use Rattle.text.specs.declared.line.FirstLine.TheVariants.{Whole, TooLong}
use Rattle.base_types.specs.declared.limits.TheConstants.Limits.{HTTP_TRAILER_BYTES}
use Rattle.http_front.specs.declared.item.HttpItem.TheVariants as item
use Rattle.http_front.specs.declared.reader.Step.TheVariants as step
use Rattle.http_front.specs.Section.{section_in}
use Rattle.http_front.specs.Stream.{Steps, after_body}
use Rattle.http_front.proofs.Sections.{section_within}
use Rattle.http_front.proofs.Prefixes.{tail, refuses_trailer, ends_trailer}
use Rattle.http_front.proofs.reader.HttpReader.step_trailer.Goals as goal

pub pass-requires : goal.pass-requires
pass-requires c =
    let lines : section_in HTTP_TRAILER_BYTES c.args.self.now.rest ≡ Whole c.in-Whole.count = rw (sym c.rest.ensures) (sym c.section_in.ensures ∙ c.in-Whole.is) in
    section_within HTTP_TRAILER_BYTES c.args.self.now.rest c.in-Whole.count lines

pub returns-in-TooLong : goal.returns-in-TooLong
returns-in-TooLong c =
    let lines : section_in HTTP_TRAILER_BYTES c.args.self.now.rest ≡ TooLong = rw (sym c.rest.ensures) (sym c.section_in.ensures ∙ c.in-TooLong.is) in
    rw (c.refuse.ensures.state, c.refuse.ensures.answer) (refuses_trailer c.args.self.now c.args.last c.requires lines)

pub returns-in-Whole : goal.returns-in-Whole
returns-in-Whole c =
    let old = c.args.self.now in
    let lines : section_in HTTP_TRAILER_BYTES c.args.self.now.rest ≡ Whole c.in-Whole.count = rw (sym c.rest.ensures) (sym c.section_in.ensures ∙ c.in-Whole.is) in
    let new : c.pass.new.self ≡ tail old c.in-Whole.count (after_body c.args.last) = search (rules, c.pass.ensures, c.after_body.ensures) in
    subst (λ new. Steps old (step.Gives item.BodyEnd) new) (sym new) (ends_trailer old c.args.last c.in-Whole.count c.requires lines)
