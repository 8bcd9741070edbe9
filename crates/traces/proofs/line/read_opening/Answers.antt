use Rattle.std.proofs.Common.{refl}
use Rattle.traces.proofs.Forms.{uncut_opening, unnumbered_opening, unnamed_opening}
use Rattle.traces.proofs.line.read_opening.Goals as goal

pub returns-in_default : goal.returns-in_default
returns-in_default c = uncut_opening c.args.operands.now (c.in_default.ensures.none refl)

pub returns-in_default-read_number : goal.returns-in_default-read_number
returns-in_default-read_number c = unnumbered_opening c.args.operands.now c.in-Some.cut.0.now c.in-Some.cut.1.now c.in-Some.ensures.some c.in_default-read_number.ensures

pub returns-in_default-of_word : goal.returns-in_default-of_word
returns-in_default-of_word c = unnamed_opening c.args.operands.now c.in-Some.cut.0.now c.in-Some.cut.1.now c.in-Some.ensures.some c.in_default-of_word.ensures.none
