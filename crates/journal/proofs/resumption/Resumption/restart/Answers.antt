use Rattle.std.proofs.Common.{refl, rules, ap, ◌∙◌, ◌++◌, ℕ, List}
use Rattle.journal.proofs.LostTurn.{restarts_so, restarts_lost}
use Rattle.journal.proofs.resumption.Resumption.restart.Goals as goal

pub returns-then-is_unconnected : goal.returns-then-is_unconnected
returns-then-is_unconnected c = restarts_so c.args.self (record { engine = c.args.self.engine; text = c.new.result; last = c.args.self.last; stored = c.args.self.stored }) refl c.new.ensures.items refl (search rules)

pub returns : goal.returns
returns c = restarts_lost c.args.self (record { engine = c.lose_all.new.engine; text = c.in_ok-text.text; last = c.args.self.last; stored = c.append.new.self }) (c.in_ok-text.ensures {u = tt}) (c.append.ensures ∙ ap (λ (t : List ℕ). c.args.self.stored.lines ++ t) c.deref.ensures.value)
