use Rattle.std.proofs.Common.{sym, ◌≡◌, ◌∙◌}
use Rattle.text.specs.FirstLine.{first_line_of}
use Rattle.text.specs.declared.line.FirstLine.TheVariants.{TooLong}
use Rattle.base_types.specs.declared.limits.TheConstants.Limits.{HTTP_CHUNK_LINE_BYTES}
use Rattle.http_front.proofs.Prefixes.{refuses_long_size}
use Rattle.http_front.proofs.reader.HttpReader.step_size.Goals as goal

pub returns-in-TooLong : goal.returns-in-TooLong
returns-in-TooLong c =
    let line : first_line_of HTTP_CHUNK_LINE_BYTES c.args.self.now.rest ≡ TooLong = rw (sym c.rest.ensures) (sym c.first_line.ensures ∙ c.in-TooLong.is) in
    rw (c.refuse.ensures.state, c.refuse.ensures.answer) (refuses_long_size c.args.self.now c.args.room c.args.closes c.requires line)
