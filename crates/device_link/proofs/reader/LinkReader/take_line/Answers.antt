use Rattle.std.proofs.Common.{rules, ◌≡◌, None, take}
use Rattle.device_link.specs.Line.{report_in}
use Rattle.device_link.proofs.Streams.{answers_bad_line}
use Rattle.device_link.proofs.reader.LinkReader.take_line.Goals as goal

pub returns-in-None-clause-answer : goal.returns-in-None-clause-answer
returns-in-None-clause-answer c =
    let old = c.args.self.now in
    let parses : report_in old.greeted (take c.args.length old.rest) ≡ None = search (rules, c.in_ok-read_prefix.ensures {u = tt}, c.in-None.is) in
    rw (c.fail.ensures.kept, c.fail.ensures.answer) (answers_bad_line old c.args.length c.requires.faultless c.requires.line parses)
