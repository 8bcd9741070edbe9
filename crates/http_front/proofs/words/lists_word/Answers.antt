use Rattle.std.proofs.Common.{rules, ◌==◌}
use Rattle.std.proofs.lemmas.Iterator.Search.{any_from_yields_List}
use Rattle.std.proofs.lemmas.Iterator.Splits.{YieldsList-from_slice_split}
use borrow.Author.Tests.{tests}
use Rattle.text.specs.Trimmed.{trimmed}
use Rattle.http_front.specs.Words.{is_word, lists_word}
use Rattle.http_front.proofs.words.lists_word.Goals as goal

pub returns : goal.returns
unfolding lists_word
returns c =
    any_from_yields_List (λ part. is_word (trimmed part) c.args.word.now) _ _ _ c.any.ensures.ran
    (YieldsList-from_slice_split _ (λ b. b == 44) c.args.value.now c.split.ensures.rest c.split.ensures.done c.split.ensures.closure (λ x b q k. search (rules, tests)))
    (λ x b q k. search (rules, tests))
