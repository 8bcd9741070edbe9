use Rattle.std.proofs.Common.{◌≡◌, sym, ◌∙◌}
use Rattle.text.specs.FirstLine.{first_line_of}
use Rattle.text.specs.declared.line.FirstLine.TheVariants.{TooLong, Unfinished}
use Rattle.base_types.specs.declared.limits.TheConstants.Limits.{LPD_LINE_BYTES}
use Rattle.lpd.proofs.ReaderPlace.{answers_no_line, answers_too_long}
use Rattle.lpd.proofs.reader.LpdReader.next_line.Goals as goal

pub returns-in-Unfinished-clause-answer : goal.returns-in-Unfinished-clause-answer
returns-in-Unfinished-clause-answer c =
    let old = c.args.self.now in
    let begun : first_line_of LPD_LINE_BYTES old.rest ≡ Unfinished = rw (sym c.rest.ensures) (sym c.first_line.ensures ∙ c.in-Unfinished.is) in
    answers_no_line old c.requires.faultless c.requires.line begun

pub returns-in-TooLong-clause-answer : goal.returns-in-TooLong-clause-answer
returns-in-TooLong-clause-answer c =
    let old = c.args.self.now in
    let long : first_line_of LPD_LINE_BYTES old.rest ≡ TooLong = rw (sym c.rest.ensures) (sym c.first_line.ensures ∙ c.in-TooLong.is) in
    rw (c.fail.ensures.kept, c.fail.ensures.answer) (answers_too_long old c.requires.faultless c.requires.line long)
