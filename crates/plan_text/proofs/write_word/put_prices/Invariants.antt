use Rattle.std.proofs.Common.{◌≡◌, ◌++◌, drop}
use Rattle.plan_text.specs.Writing.{prices_text}
use Rattle.plan_text.proofs.write_word.put_prices.Given as goal

abbrev pub invariant-loop-price : goal.invariant-loop-price
invariant-loop-price l = l.output.items ++ prices_text (drop l.price-index l.prices) ≡ l.initial.output.items ++ prices_text l.prices
