use Rattle.std.proofs.Common.{rules, ◌+◌}
use Rattle.std.proofs.lemmas.List.{take_rest}
use Rattle.text.proofs.Cuts.{cut_found, found_nowhere}
use Rattle.text.proofs.split.cut_at.Goals as goal

pub returns-in-Some-clause-some : goal.returns-in-Some-clause-some
returns-in-Some-clause-some c =
    let text = c.args.text.now in
    let place = c.in-Some.place in
    rw (take_rest text (place + 1)) (cut_found c.args.separator text place (search rules))

pub returns-in-None-clause-none : goal.returns-in-None-clause-none
returns-in-None-clause-none c = λ none. found_nowhere c.args.separator c.args.text.now (search rules)
