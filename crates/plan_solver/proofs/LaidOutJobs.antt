-- Jobs in columns before the search begins.
use Rattle.std.proofs.Common.{◌≡◌, ℕ, ◌+◌, ◌<◌, List, [], ◌∷◌, ◌++◌, length, vec_len, get_or, set, ap, subst, sym, inl, inr, ◌∙◌, refl, arith}
use Rattle.std.specs.List.{range_with_len}
use Rattle.std.specs.List.Sorted.{IsPermutation}
use Rattle.std.proofs.lemmas.Bool.{cases_eq}
use Rattle.std.proofs.lemmas.List.{append_assoc, get_or_push, get_or_append_left, length_push}
use Rattle.std.proofs.lemmas.List.Sorted.{IsPermutation-append_comm, IsPermutation-append_right}
use Rattle.plan_solver.specs.declared.begun.Begun.{Begun}
use Rattle.plan_solver.specs.declared.costs.Costs.{Costs}
use Rattle.plan_solver.specs.declared.costs.Place.{Place}
use Rattle.plan_solver.specs.Costs.{cost_of, nowhere}
use Rattle.plan_solver.specs.AllPlaces.{place_on}
use Rattle.plan_solver.specs.Begun.{IsBegun, IsFairBeside, IsLaidOut}
use Rattle.plan_solver.specs.Layout.{next_place, place_before}
use Rattle.plan_solver.specs.Matching.{HasRoom, IsFair, IsTight}
use Rattle.plan_solver.proofs.Laid.{laid_none, laid_now, shows_none, shows_now}
use Rattle.plan_solver.proofs.ColumnGrowth.{by_device_more, by_device_none}

-- prices that are fair towards the next places of the devices are fair towards the free places
pub fair_free_from : (costs : Costs) (b : Begun) → IsLaidOut costs b → ((q : ℕ) → q < vec_len b.matching.columns → IsFairBeside costs b.by_device.items b.matching q) → IsFair (cost_of costs) b.matching.jobs.items b.matching.prices.items b.free.items []
fair_free_from costs b h next = record {
  at = λ q f lq lf.
      let lt : f < vec_len costs.waits = omega (arith, lf, h.shows.one_each) in
      let same : place_on f (length (get_or b.by_device.items f [])) ≡ get_or b.free.items f nowhere = ap (λ k. place_on f k) (h.by_device.counts f lt) ∙ sym (h.shows.next f lt) in
      rw (← same) (omega (arith, next q (omega (arith, lq, h.jobs, b.matching.jobs.ok.0)) f lt));
}

-- a beginning that is laid out, fair and with room is one from which the search may begin
pub begun_from : (costs : Costs) (b : Begun) → IsLaidOut costs b → IsFair (cost_of costs) b.matching.jobs.items b.matching.prices.items b.matching.columns.items b.matching.duals.items → HasRoom (cost_of costs) b.matching.jobs.items b.matching.prices.items b.free.items b.slacks.items → IsPermutation (range_with_len 0 (vec_len costs.rows)) (b.matching.jobs.items ++ b.left.items) → IsBegun costs b
begun_from costs b h fair room all = record {
  matched = record {
    jobs = h.jobs;
    prices = h.prices;
    duals = h.duals;
    fair = fair;
    fair_free = record { at = λ q f lq lf. omega (arith, room.at q f lq (omega (arith, lf, h.shows.one_each, h.one_each, b.slacks.ok.0))) };
    tight = h.tight;
  };
  laid = h.laid;
  by_device = h.by_device;
  shows = h.shows;
  one_each = h.one_each;
  room = room;
  all = all;
}

-- with other slacks
pub laid_out_with : (costs : Costs) (b b' : Begun) → IsLaidOut costs b → b' ≡ record b { slacks = b'.slacks } → vec_len b'.slacks ≡ vec_len b.slacks → IsLaidOut costs b'
laid_out_with costs b b' h same len = subst (λ (x : Begun). IsLaidOut costs x) (sym same) (record {
  jobs = h.jobs;
  prices = h.prices;
  duals = h.duals;
  tight = h.tight;
  laid = h.laid;
  by_device = h.by_device;
  shows = h.shows;
  one_each = len ∙ h.one_each;
})

-- jobs that were laid out, once their slacks are set
pub begun_by : (costs : Costs) (b b' : Begun) → IsLaidOut costs b → b' ≡ record b { slacks = b'.slacks } → vec_len b'.slacks ≡ vec_len b.slacks → IsFair (cost_of costs) b.matching.jobs.items b.matching.prices.items b.matching.columns.items b.matching.duals.items → HasRoom (cost_of costs) b.matching.jobs.items b.matching.prices.items b.free.items b'.slacks.items → IsPermutation (range_with_len 0 (vec_len costs.rows)) (b.matching.jobs.items ++ b.left.items) → IsBegun costs b'
begun_by costs b b' h same len fair room all =
    let with' : Begun = record b { slacks = b'.slacks } in
    subst (λ (x : Begun). IsBegun costs x) (sym same) (begun_from costs with' (laid_out_with costs b with' h refl len) fair room all)

-- no job in any column
pub begun_none : (costs : Costs) (b : Begun) → IsLaidOut costs b → b.matching.jobs.items ≡ [] → IsPermutation (range_with_len 0 (vec_len costs.rows)) b.left.items → IsBegun costs b
begun_none costs b h none all =
    begun_from costs b h
    (record { at = λ q c lq lc. absurd (omega (arith, lq, ap length none)) })
    (record { at = λ q f lq lf. absurd (omega (arith, lq, ap length none)) })
    (rw none all)

pub laid_out_none : (costs : Costs) (b : Begun) → b.matching.columns.items ≡ [] → vec_len b.matching.columns ≡ 0 → vec_len b.matching.jobs ≡ 0 → vec_len b.matching.prices ≡ 0 → vec_len b.matching.duals ≡ 0
    → length b.free.items ≡ vec_len costs.waits → ((d : ℕ) → d < vec_len costs.waits → get_or b.free.items d nowhere ≡ record { device = d; after = 0 })
    → length b.by_device.items ≡ vec_len costs.waits → ((d : ℕ) → d < vec_len costs.waits → get_or b.by_device.items d [] ≡ []) → vec_len b.slacks ≡ vec_len costs.waits → IsLaidOut costs b
laid_out_none costs b none columns jobs prices duals free places by_device empty slacks = record {
  jobs = omega arith;
  prices = omega arith;
  duals = omega arith;
  tight = record { at = λ c lt. absurd (omega (arith, lt, ap length none)) };
  laid = laid_none (vec_len costs.waits) b.matching.columns.items none;
  by_device = by_device_none (vec_len costs.waits) b.matching.columns.items b.by_device.items none by_device empty;
  shows = shows_none (vec_len costs.waits) b.matching.columns.items b.free.items none free places;
  one_each = slacks;
}

-- one column more, whose job is charged the cost of the place with the dual
tight_more : (costs : Costs) (jobs prices : List ℕ) (columns : List Place) (duals : List ℕ) (job price dual : ℕ) (place : Place) → length jobs ≡ length columns → length prices ≡ length columns → length duals ≡ length columns → IsTight (cost_of costs) jobs prices columns duals
    → price ≡ cost_of costs job place + dual → IsTight (cost_of costs) (jobs ++ job ∷ []) (prices ++ price ∷ []) (columns ++ place ∷ []) (duals ++ dual ∷ [])
tight_more costs jobs prices columns duals job price dual place lj lp lr h is = record {
  at = λ c lt. elim (cases_eq c (length columns)) [
    | inl e ↦ rw (e, get_or_push columns place nowhere (length columns) refl, get_or_push jobs job 0 (length columns) lj, get_or_push prices price 0 (length columns) lp, get_or_push duals dual 0 (length columns) lr) is
    | inr ne ↦
        let before : c < length columns = omega (arith, lt, length_push columns place) in
        rw (get_or_append_left columns (place ∷ []) nowhere c before, get_or_append_left jobs (job ∷ []) 0 c (omega (arith, before, lj)), get_or_append_left prices (price ∷ []) 0 c (omega (arith, before, lp)), get_or_append_left duals (dual ∷ []) 0 c (omega (arith, before, lr))) (h.at c before)
  ];
}

pub laid_out_more : (costs : Costs) (b b' : Begun) (device job price dual : ℕ) → IsLaidOut costs b → device < vec_len costs.waits → price ≡ cost_of costs job (get_or b.free.items device nowhere) + dual
    → b'.matching.columns.items ≡ b.matching.columns.items ++ get_or b.free.items device nowhere ∷ [] → b'.matching.duals.items ≡ b.matching.duals.items ++ dual ∷ [] → b'.matching.jobs.items ≡ b.matching.jobs.items ++ job ∷ [] → b'.matching.prices.items ≡ b.matching.prices.items ++ price ∷ []
    → vec_len b'.matching.columns ≡ vec_len b.matching.columns + 1 → vec_len b'.matching.duals ≡ vec_len b.matching.duals + 1 → vec_len b'.matching.jobs ≡ vec_len b.matching.jobs + 1 → vec_len b'.matching.prices ≡ vec_len b.matching.prices + 1
    → b'.by_device.items ≡ set b.by_device.items device (get_or b.by_device.items device [] ++ length b.matching.columns.items ∷ []) → b'.free.items ≡ set b.free.items device (place_before (get_or b.free.items device nowhere)) → vec_len b'.slacks ≡ vec_len b.slacks → IsLaidOut costs b'
laid_out_more costs b b' device job price dual h lt is es er ej ep ls lr lj lp el ef ek =
    let s = b.matching in
    let devices = vec_len costs.waits in
    let place = next_place device s.columns.items in
    let grown : b'.matching.columns.items ≡ s.columns.items ++ place ∷ [] = es ∙ ap (λ (p : Place). s.columns.items ++ p ∷ []) (h.shows.next device lt) in
    record {
      jobs = omega (arith, ls, lj, h.jobs);
      prices = omega (arith, ls, lp, h.prices);
      duals = omega (arith, ls, lr, h.duals);
      tight = rw (es, er, ej, ep) (tight_more costs s.jobs.items s.prices.items s.columns.items s.duals.items job price dual (get_or b.free.items device nowhere) (omega (arith, h.jobs, s.jobs.ok.0, s.columns.ok.0)) (omega (arith, h.prices, s.prices.ok.0, s.columns.ok.0)) (omega (arith, h.duals, s.duals.ok.0, s.columns.ok.0)) h.tight is);
      laid = laid_now devices device s.columns.items b.free.items b'.matching.columns.items h.laid h.shows lt es;
      by_device = by_device_more devices s.columns.items b'.matching.columns.items place b.by_device.items b'.by_device.items h.by_device lt refl grown el;
      shows = shows_now devices device s.columns.items b.free.items b'.matching.columns.items b'.free.items h.shows lt es ef;
      one_each = omega (arith, ek, h.one_each);
    }

-- of jobs in columns and jobs that are left, one more in a column
pub matched_more : (jobs left : List ℕ) (job : ℕ) → IsPermutation ((jobs ++ left) ++ job ∷ []) ((jobs ++ job ∷ []) ++ left)
matched_more jobs left job =
    rw (append_assoc jobs left (job ∷ []), append_assoc jobs (job ∷ []) left) (IsPermutation-append_right jobs (left ++ job ∷ []) (job ∷ left) (IsPermutation-append_comm left (job ∷ [])))
