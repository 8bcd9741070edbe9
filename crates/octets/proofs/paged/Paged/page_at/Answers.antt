use Rattle.std.proofs.Common.{List, ℕ, length, drop, ◌/◌, ◌%◌, ◌<◌, ◌≤◌, sym, subst, rules}
use Rattle.octets.specs.declared.page.TheConstants.{PAGE_BYTES}
use Rattle.octets.specs.Document.{IsPrefixOf}
use Rattle.octets.specs.Pages.{octets_in}
use Rattle.octets.proofs.PageLemmas.{in_page, in_last}
use Rattle.octets.proofs.paged.Paged.page_at.Goals as goal

pub returns-then-page-len-clause-prefix : goal.returns-then-page-len-clause-prefix
returns-then-page-len-clause-prefix c =
    let paged = c.args.self.now in
    let low : c.args.start / PAGE_BYTES < length paged.pages.items = search rules in
    subst (λ (page : List ℕ). IsPrefixOf (drop (c.args.start % PAGE_BYTES) page) (drop c.args.start (octets_in paged))) (sym c.index.ensures)
    (in_page paged.pages.items paged.last c.args.start c.index.result.now c.requires.paged.full low).1

pub returns-else-page-len-clause-within : goal.returns-else-page-len-clause-within
returns-else-page-len-clause-within c =
    let paged = c.args.self.now in
    let high : length paged.pages.items ≤ c.args.start / PAGE_BYTES = search rules in
    (in_last paged.pages.items paged.last c.args.start c.requires.paged.full c.requires.paged.room c.requires.start high).0

pub returns-else-page-len-clause-prefix : goal.returns-else-page-len-clause-prefix
returns-else-page-len-clause-prefix c =
    let paged = c.args.self.now in
    let high : length paged.pages.items ≤ c.args.start / PAGE_BYTES = search rules in
    (in_last paged.pages.items paged.last c.args.start c.requires.paged.full c.requires.paged.room c.requires.start high).1
