use Rattle.std.proofs.Common.{rules, sym, ◌∙◌}
use Rattle.lpd.proofs.ReaderPlace.{answers_again, answers_over}
use Rattle.lpd.proofs.reader.LpdReader.next_item.Goals as goal

pub returns-in-Some-clause-answer : goal.returns-in-Some-clause-answer
returns-in-Some-clause-answer c = answers_again c.args.self.now c.in-Some.fault (search rules)

pub returns-in-Nothing-clause-answer : goal.returns-in-Nothing-clause-answer
returns-in-Nothing-clause-answer c = answers_over c.args.self.now (search rules) (sym c.awaited.ensures ∙ c.in-Nothing.is)
