use Rattle.std.proofs.Common.{rules, [], subst, drop, ◌+◌, None, Some, ◌≡◌, sym, take, Ok, Err}
use Rattle.lpd.specs.Items.{item_record, awaited_after}
use Rattle.lpd.specs.Stream.{Answers}
use Rattle.lpd.specs.Command.{meaning_of}
use Rattle.lpd.proofs.ReaderPlace.{answers_line, answers_bad_line}
use Rattle.lpd.proofs.reader.LpdReader.take_line.Goals as goal

pub returns-in-Err-clause-answer : goal.returns-in-Err-clause-answer
returns-in-Err-clause-answer c =
    let old = c.args.self.now in
    let parses : meaning_of old.awaited (take c.args.length old.rest) ≡ Err c.in-Err.fault = search (rules, c.in_ok-fault.ensures {u = tt}, c.in-Err.is) in
    rw (c.fail.ensures.kept, c.fail.ensures.answer) (answers_bad_line old c.args.length c.in-Err.fault c.requires.faultless c.requires.line c.requires.whole parses)

pub returns-in-Ok-clause-answer : goal.returns-in-Ok-clause-answer
returns-in-Ok-clause-answer c =
    let old = c.args.self.now in
    let parses : meaning_of old.awaited (take c.args.length old.rest) ≡ Ok (item_record c.in-Ok.item []) = search (rules, c.in_ok-fault.ensures {u = tt}, c.in-Ok.is) in
    let new : c.pass_line.new.self ≡ record { file = []; rest = drop (c.args.length + 1) old.rest; awaited = awaited_after (item_record c.in-Ok.item []); fault = None } = search (rules, c.pass_line.ensures, c.after.ensures, c.requires.faultless) in
    subst (λ reader. Answers old (Ok (Some c.in-Ok.item)) reader) (sym new) (answers_line old c.args.length c.in-Ok.item c.requires.faultless c.requires.line c.requires.whole parses)
