-- Jobs in columns, with prices and duals. A column is a used place; its dual is the negative of its price.
use Rattle.std.specs.Prelude.{◌≡◌, ◌≢◌, ◌⊎◌, ℕ, ◌+◌, ◌<◌, ◌≤◌, List, [], length, slice_index, slice_index_or, vec_len}
use Rattle.plan_solver.specs.declared.costs.Place.{Place}
use Rattle.plan_solver.specs.declared.matching.Matching.{Matching}
use Rattle.plan_solver.specs.Costs.{nowhere}

-- the charge of each job q is at most the cost of any of the places and that place's dual together; a place past the end of `duals` has the dual 0
pub record IsFair (cost : ℕ → Place → ℕ) (jobs prices : List ℕ) (places : List Place) (duals : List ℕ) : Type 0 where
  pub at : (q c : ℕ) → q < length jobs → c < length places → slice_index prices q ≤ cost (slice_index jobs q) (slice_index_or places c nowhere) + slice_index duals c

-- the charge of the job in column c is exactly the cost of its place and the dual together
pub record IsTight (cost : ℕ → Place → ℕ) (jobs prices : List ℕ) (places : List Place) (duals : List ℕ) : Type 0 where
  pub at : (c : ℕ) → c < length places → slice_index prices c ≡ cost (slice_index jobs c) (slice_index_or places c nowhere) + slice_index duals c

-- jobs in columns with prices and duals that are fair for the free places too
pub record IsFairlyMatched (cost : ℕ → Place → ℕ) (s : Matching) (free : List Place) : Type 0 where
  pub jobs : vec_len s.jobs ≡ vec_len s.columns
  pub prices : vec_len s.prices ≡ vec_len s.columns
  pub duals : vec_len s.duals ≡ vec_len s.columns
  pub fair : IsFair cost s.jobs.items s.prices.items s.columns.items s.duals.items
  pub fair_free : IsFair cost s.jobs.items s.prices.items free []
  pub tight : IsTight cost s.jobs.items s.prices.items s.columns.items s.duals.items

-- each price plus the slack of a free place is at most the cost of that place; the slacks are those of the first free places
pub record HasRoom (cost : ℕ → Place → ℕ) (jobs prices : List ℕ) (free : List Place) (slacks : List ℕ) : Type 0 where
  pub at : (q f : ℕ) → q < length jobs → f < length slacks → slice_index prices q + slice_index slacks f ≤ cost (slice_index jobs q) (slice_index_or free f nowhere)

-- there is one more job than columns, the last one, whose charge is 0 so far
pub record HasNewJob (s : Matching) : Type 0 where
  pub jobs : vec_len s.jobs ≡ vec_len s.columns + 1
  pub prices : vec_len s.prices ≡ vec_len s.columns + 1
  pub duals : vec_len s.duals ≡ vec_len s.columns
  pub uncharged : slice_index s.prices.items (vec_len s.columns) ≡ 0

-- column c has the job that it had and isn't the last column; or it has the job of the column from which it was reached, and was reached no later than the last column
abbrev pub AreMoved : (jobs jobs' prices prices' froms ranks : List ℕ) → ℕ → ℕ → Type 0
AreMoved jobs jobs' prices prices' froms ranks last c =
    ((slice_index jobs' c ≡ slice_index jobs c) × (slice_index prices' c ≡ slice_index prices c) × (c ≢ last))
    ⊎ ((slice_index jobs' c ≡ slice_index jobs (slice_index froms c)) × (slice_index prices' c ≡ slice_index prices (slice_index froms c)) × (slice_index ranks c ≤ slice_index ranks last))
