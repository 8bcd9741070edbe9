use Rattle.std.proofs.Common.{rules, arith, ◌≢◌, ◌<◌, [], ◌∷◌, length, length-append, ap, ◌∙◌, inl, refl}
use Rattle.traces.specs.Lines.{lines_of}
use Rattle.traces.proofs.Texts.{nothing_in, first_line, last_line, no_line}
use Rattle.traces.proofs.lines.next_line.Goals as goal

pub returns-then-is_empty-clause-lines : goal.returns-then-is_empty-clause-lines
returns-then-is_empty-clause-lines c =
    let empty = nothing_in c.args.bytes.now (search rules) in
    ap lines_of empty ∙ no_line

pub returns-in-Some-clause-lines : goal.returns-in-Some-clause-lines
returns-in-Some-clause-lines c =
    let it = c.in-Some.ensures.some in
    ap lines_of it.joined ∙ first_line c.in-Some.cut.0.now c.in-Some.cut.1.now it.lacks

pub returns-in-Some-clause-one_line : goal.returns-in-Some-clause-one_line
returns-in-Some-clause-one_line c = c.in-Some.ensures.some.lacks

pub returns-in-Some-clause-cut : goal.returns-in-Some-clause-cut
returns-in-Some-clause-cut c = inl c.in-Some.ensures.some.joined

pub returns-in-Some-clause-shorter : goal.returns-in-Some-clause-shorter
returns-in-Some-clause-shorter c =
    omega (arith, ap length c.in-Some.ensures.some.joined, length-append c.in-Some.cut.0.now (10 ∷ c.in-Some.cut.1.now))

pub returns-in-None-clause-lines : goal.returns-in-None-clause-lines
returns-in-None-clause-lines c =
    let bytes = c.args.bytes.now in
    let filled : 0 < length bytes = search rules in
    let some : bytes ≢ [] = λ empty. omega (arith, ap length empty, filled) in
    rw no_line (last_line bytes (c.in-None.ensures.none refl) some)

pub returns-in-None-clause-one_line : goal.returns-in-None-clause-one_line
returns-in-None-clause-one_line c = c.in-None.ensures.none refl
