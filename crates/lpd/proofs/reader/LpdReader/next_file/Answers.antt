use Rattle.std.proofs.Common.{rules, ◌≡◌, ◌≢◌, ◌<◌, ◌≤◌, ◌+◌, sym, subst, length, take, drop, slice_index_or, Some, None, Ok}
use Rattle.lpd.specs.declared.item.LpdItem.TheVariants as item
use Rattle.lpd.specs.declared.reader.Awaited.TheVariants.{Subcommand}
use Rattle.lpd.specs.Stream.{LpdState, Answers}
use Rattle.lpd.proofs.ReaderPlace.{answers_file, answers_no_file, answers_no_zero}
use Rattle.lpd.proofs.reader.LpdReader.next_file.Goals as goal

pub returns-then-rest-length-clause-answer : goal.returns-then-rest-length-clause-answer
returns-then-rest-length-clause-answer c =
    let short : length c.args.self.now.rest ≤ c.args.length = rw (sym c.rest-rest.ensures) c.if-rest-length.true in
    answers_no_file c.args.self.now c.args.length c.requires.faultless c.requires.file short

pub returns-then-rest-length-ne0-clause-answer : goal.returns-then-rest-length-ne0-clause-answer
returns-then-rest-length-ne0-clause-answer c =
    let old = c.args.self.now in
    let within : c.args.length < length old.rest = rw (sym c.rest-rest.ensures) c.if-rest-length.false in
    let other : slice_index_or old.rest c.args.length 0 ≢ 0 = rw (sym c.rest-rest.ensures) c.if-rest-length-ne0.true in
    rw (c.fail.ensures.kept, c.fail.ensures.answer) (answers_no_zero old c.args.length c.requires.faultless c.requires.file within other)

pub returns-clause-answer : goal.returns-clause-answer
returns-clause-answer c =
    let old = c.args.self.now in
    let within : c.args.length < length old.rest = rw (sym c.rest-rest.ensures) c.if-rest-length.false in
    let zero : slice_index_or old.rest c.args.length 0 ≡ 0 = rw (sym c.rest-rest.ensures) c.if-rest-length-ne0.false in
    let new : c.lend.new.self ≡ record { file = take c.args.length old.rest; rest = drop (c.args.length + 1) old.rest; awaited = Subcommand; fault = None } = search (rules, c.lend.ensures, c.requires.faultless) in
    subst (λ (reader : LpdState). Answers old (Ok (Some item.File)) reader) (sym new) (answers_file old c.args.length c.requires.faultless c.requires.file within zero)
