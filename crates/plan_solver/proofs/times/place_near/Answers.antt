use Rattle.std.proofs.Common.{◌≡◌, ◌∙◌, ℕ, ◌<◌, List, length, get_or, ap, sym, arith, rules}
use Rattle.std.proofs.lemmas.List.{get_or_read}
use Rattle.plan_problem.proofs.Places.{found_at}
use Rattle.plan_solver.proofs.times.place_near.Goals as goal

pub returns-then-eq : goal.returns-then-eq
returns-then-eq c =
    let ids = c.args.class.now.ids in
    let near = c.args.near in
    let read : c.index-ids-near.result ≡ get_or c.ids-ids.result.now near 0 = get_or_read c.ids-ids.result.now near c.index-ids-near.result (omega (arith, c.if-near-ids.true)) c.index-ids-near.is 0 in
    let same : get_or c.ids-ids.result.now near 0 ≡ get_or ids near 0 = ap (λ (list : List ℕ). get_or list near 0) c.ids-ids.ensures.ids in
    let asked : c.index-ids-near.result ≡ c.args.job = search rules in
    let below : near < length ids = omega (arith, c.if-near-ids.true, ap (λ (list : List ℕ). length list) c.ids-ids.ensures.ids) in
    sym (found_at ids c.args.job near c.ids-ids.ensures.class.rising below (sym same ∙ sym read ∙ asked))
