-- The way and the prices of a matching.
use Rattle.std.specs.Prelude.{◌==◌, ℕ, zero, suc, ◌+◌, List, [], ◌∷◌, ◌++◌, cond, map, slice_index, slice_index_or, ℤ, pos, neg_ℤ, vec_len}
use Rattle.plan_solver.specs.declared.costs.Costs.{Costs}
use Rattle.plan_solver.specs.declared.costs.Place.{Place}
use Rattle.plan_solver.specs.declared.matching.Matching.{Matching}
use Rattle.plan_solver.specs.declared.times.Entries.{Entries}
use Rattle.plan_solver.specs.Costs.{cost_of, nowhere}

-- the ids of the jobs in those of the first m columns that are on the device, the latest column first
abbrev pub queue_of_columns : (device : ℕ) → List ℕ → List Place → List ℕ → ℕ → List ℕ
queue_of_columns device ids columns jobs zero = []
queue_of_columns device ids columns jobs (suc m) = cond ((slice_index_or columns m nowhere).device == device) (slice_index ids (slice_index jobs m) ∷ queue_of_columns device ids columns jobs m) (queue_of_columns device ids columns jobs m)

-- the duals of those of the first m columns that are on the device, the earliest first
abbrev pub duals_of_columns : (device : ℕ) → List Place → List ℕ → ℕ → List ℕ
duals_of_columns device columns duals zero = []
duals_of_columns device columns duals (suc m) = cond ((slice_index_or columns m nowhere).device == device) (duals_of_columns device columns duals m ++ slice_index duals m ∷ []) (duals_of_columns device columns duals m)

-- the cost of the jobs in the first m columns
abbrev pub cost_of_columns : Costs → List Place → List ℕ → ℕ → ℕ
cost_of_columns costs columns jobs zero = 0
cost_of_columns costs columns jobs (suc m) = cost_of_columns costs columns jobs m + cost_of costs (slice_index jobs m) (slice_index_or columns m nowhere)

-- the price of a dual, which is its negative
abbrev pub price_of_dual : ℕ → ℤ
price_of_dual dual = neg_ℤ (pos dual)

-- the values of a function at the first n devices
abbrev pub of_devices : {X : Type 0} → (ℕ → X) → ℕ → List X
of_devices f zero = []
of_devices f (suc n) = of_devices f n ++ f n ∷ []

abbrev pub way_of : Entries → Matching → List (List ℕ)
way_of e s = of_devices (λ device. queue_of_columns device e.ids.items s.columns.items s.jobs.items (vec_len s.columns)) (vec_len e.costs.waits)

abbrev pub place_prices_of : Entries → Matching → List (List ℤ)
place_prices_of e s = of_devices (λ device. map price_of_dual (duals_of_columns device s.columns.items s.duals.items (vec_len s.columns))) (vec_len e.costs.waits)
