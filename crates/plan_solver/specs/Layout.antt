-- The used places: those of each device without gaps, from the last place on.
use Rattle.std.specs.Prelude.{◌≡◌, ◌==◌, ℕ, ◌+◌, ◌<◌, ◌≤◌, List, [], length, count_by, slice_index, slice_index_or, take, vec_len}
use Rattle.plan_solver.specs.declared.costs.Costs.{Costs}
use Rattle.plan_solver.specs.declared.costs.Place.{Place}
use Rattle.plan_solver.specs.declared.matching.Matching.{Matching}
use Rattle.plan_solver.specs.Costs.{cost_of, nowhere}
use Rattle.plan_solver.specs.Matching.{IsFairlyMatched}

-- the number of the places that are on the device
unfoldable pub taken : ℕ → List Place → ℕ
taken device places = count_by (λ place. place.device == device) places

-- each column is on one of the devices, and has as many places after it as columns before it are on the same device
pub record IsLaid (devices : ℕ) (columns : List Place) : Type 0 where
  pub known : (c : ℕ) → c < length columns → (slice_index_or columns c nowhere).device < devices
  pub places : (c : ℕ) → c < length columns → (slice_index_or columns c nowhere).after ≡ taken (slice_index_or columns c nowhere).device (take c columns)

-- the place before all used places of the device
abbrev pub next_place : ℕ → List Place → Place
next_place device columns = record { device = device; after = taken device columns }

-- exactly one place is free on each device, its next place
pub record ShowsNext (devices : ℕ) (columns free : List Place) : Type 0 where
  pub one_each : length free ≡ devices
  pub next : (device : ℕ) → device < devices → slice_index_or free device nowhere ≡ next_place device columns

-- the place before a place
abbrev pub place_before : Place → Place
place_before place = record { device = place.device; after = place.after + 1 }

-- jobs in the last places of the devices, with prices and duals that are fair for the next places too
pub record IsFilled (costs : Costs) (s : Matching) : Type 0 where
  pub matched : IsFairlyMatched (cost_of costs) s []
  pub laid : IsLaid (vec_len costs.waits) s.columns.items
  pub next : (q device : ℕ) → q < vec_len s.columns → device < vec_len costs.waits → slice_index s.prices.items q ≤ cost_of costs (slice_index s.jobs.items q) (next_place device s.columns.items)
