use Rattle.std.proofs.Common.{◌≡◌, ◌++◌, ◌∷◌, [], List, ℕ, length, sym, ap, subst, arith}
use Rattle.std.specs.List.{AllByRecursion}
use Rattle.std.proofs.lemmas.List.{take-append-drop}
use Rattle.octets.specs.declared.page.TheConstants.{PAGE_BYTES}
use Rattle.octets.specs.Pages.{joined, IsFull}
use Rattle.octets.proofs.PageLemmas.{one_more, full-append}
use Rattle.octets.proofs.paged.in_pages.Goals as goal

pub loop-rest-preserved : goal.loop-rest-preserved
loop-rest-preserved c =
    let rest = c.loop-rest.rest.now in
    let pages = c.loop-rest.pages.items in
    let page = c.in_ok-page_of.field-0 in
    let tail = c.split_at.result.1.now in
    let page_is : page ≡ c.split_at.result.0.now = c.in_ok-page_of.ensures {u = tt} in
    let cut : rest ≡ page ++ tail = rw (page_is, c.split_at.ensures.front, c.split_at.ensures.back) (sym (take-append-drop PAGE_BYTES rest)) in
    let full : IsFull page = omega (arith, ap length page_is, c.split_at.ensures.front_len) in
    subst (λ (l : List (List ℕ)). (c.args.octets.now ≡ joined l ++ tail) × AllByRecursion IsFull l) (sym (c.in_ok-push.ensures {u = tt}).items)
    (one_more c.args.octets.now pages page rest tail c.loop-rest.invariant.0 cut, full-append pages (page ∷ []) c.loop-rest.invariant.1 (full, tt))
