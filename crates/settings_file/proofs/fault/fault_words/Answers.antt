use Rattle.std.proofs.Common.{rules}
use Rattle.std.proofs.lemmas.Result.{IfOk-weaker}
use Rattle.settings_file.specs.Fault.{missing, wrong_kind, out_of_range, unknown, twice}
use Rattle.settings_file.proofs.fault.fault_words.Goals as goal

pub returns-in-Missing : goal.returns-in-Missing
returns-in-Missing c = IfOk-weaker c.words_about.result _ _ (λ words is. (missing c.in-Missing.key, search rules, search (rules, is))) c.words_about.ensures

pub returns-in-WrongKind : goal.returns-in-WrongKind
returns-in-WrongKind c =
    IfOk-weaker c.words_about-in-WrongKind.result _ _ (λ words is. (wrong_kind c.in-WrongKind.key, search rules, search (rules, is))) c.words_about-in-WrongKind.ensures

pub returns-in-OutOfRange : goal.returns-in-OutOfRange
returns-in-OutOfRange c =
    IfOk-weaker c.words_about-in-OutOfRange.result _ _ (λ words is. (out_of_range c.in-OutOfRange.key, search rules, search (rules, is))) c.words_about-in-OutOfRange.ensures

pub returns-in-Unknown : goal.returns-in-Unknown
returns-in-Unknown c =
    IfOk-weaker c.words_about-in-Unknown.result _ _ (λ words is. (unknown c.in-Unknown.name, search rules, search (rules, is))) c.words_about-in-Unknown.ensures

pub returns-in-Twice : goal.returns-in-Twice
returns-in-Twice c =
    IfOk-weaker c.words_about-in-Twice.result _ _ (λ words is. (twice c.in-Twice.name, search rules, search (rules, is))) c.words_about-in-Twice.ensures
