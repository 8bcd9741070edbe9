-- The search for the nearest free place: shortest ways from a new job over the columns, by Dijkstra's method (E. W. Dijkstra, A note on two problems in connexion with graphs, 1959).
use Rattle.std.specs.Prelude.{◌≡◌, ◌≢◌, ◌⊎◌, ℕ, ◌+◌, ◌-◌, ◌<◌, ◌≤◌, List, Option, Some, None, length, slice_index, slice_index_or, slice_set, nat_lt, sum_by, if◌then◌else◌, ◌==◌, vec_len}
use Rattle.plan_solver.specs.declared.costs.Costs.{Costs}
use Rattle.plan_solver.specs.declared.costs.Place.{Place}
use Rattle.plan_solver.specs.declared.costs.TheConstants.{UNABLE}
use Rattle.plan_solver.specs.declared.search.Exit.{Exit}
use Rattle.plan_solver.specs.declared.search.Search.{Search}
use Rattle.plan_solver.specs.declared.search.TheConstants.{UNSETTLED, FAR}
use Rattle.plan_solver.specs.declared.matching.Matching.{Matching}
use Rattle.plan_solver.specs.Costs.{cost_of, nowhere}

-- the place of the least length among the unsettled columns of the first n, if a length is below `reach`
abbrev pub IsNearestOf : List ℕ → List ℕ → ℕ → (reach : ℕ) → Option ℕ → Type 0
IsNearestOf lengths ranks n reach None = (k : ℕ) → k < n → slice_index ranks k ≡ UNSETTLED → reach ≤ slice_index lengths k
IsNearestOf lengths ranks n reach (Some c) =
    (c < n) × (slice_index ranks c ≡ UNSETTLED) × (slice_index lengths c < reach) × ((k : ℕ) → k < n → slice_index ranks k ≡ UNSETTLED → slice_index lengths c ≤ slice_index lengths k)

-- the length and origin of a column after a way to it, where `length` is that of the way over the column `origin`
abbrev pub IsReached : (rank origin length old new from from' : ℕ) → Type 0
IsReached rank origin length old new from from' =
    ((rank ≢ UNSETTLED) × (new ≡ old) × (from' ≡ from)) ⊎ ((rank ≡ UNSETTLED) × (length < old) × (new ≡ length) × (from' ≡ origin)) ⊎ ((rank ≡ UNSETTLED) × (old ≤ length) × (new ≡ old) × (from' ≡ from))

-- the same for a relaxed column: a way that isn't shorter than `reach` leaves the column unchanged
abbrev pub IsRelaxed : (reach rank origin length old new from from' : ℕ) → Type 0
IsRelaxed reach rank origin length old new from from' =
    ((reach ≤ length) × (new ≡ old) × (from' ≡ from)) ⊎ IsReached rank origin length old new from from'

abbrev pub IsExitOf : (cost : ℕ → Place → ℕ) (job price base q : ℕ) → List Place → Exit → Type 0
IsExitOf cost job price base q free exit =
    (exit.place < length free) × (exit.length ≡ base + (cost job (slice_index_or free exit.place nowhere) - price)) × (exit.from ≡ q)

-- A search from a new job, the last of `jobs`, over n columns: the length of each column, the column from which it was reached, and the rank in which it was settled; `top` is the next rank.
pub record IsSearched (cost : ℕ → Place → ℕ) (jobs prices : List ℕ) (columns : List Place) (duals : List ℕ) (free : List Place) (lengths froms ranks : List ℕ) (exit : Exit) (top n : ℕ) : Type 0 where
  pub root : slice_index lengths n ≡ 0
  pub root_rank : slice_index ranks n ≡ 0
  pub top_above : 0 < top
  pub ranked : (q : ℕ) → q ≤ n → slice_index ranks q ≢ UNSETTLED → slice_index ranks q < top
  pub onward : (q c : ℕ) → q ≤ n → c < n → slice_index ranks q ≢ UNSETTLED → (slice_index lengths c + slice_index prices q ≤ slice_index lengths q + (cost (slice_index jobs q) (slice_index_or columns c nowhere) + slice_index duals c)) ⊎ (exit.length + slice_index prices q ≤ slice_index lengths q + (cost (slice_index jobs q) (slice_index_or columns c nowhere) + slice_index duals c))
  pub out : (q f : ℕ) → q ≤ n → f < length free → slice_index ranks q ≢ UNSETTLED → exit.length + slice_index prices q ≤ slice_index lengths q + cost (slice_index jobs q) (slice_index_or free f nowhere)
  pub ordered : (q c : ℕ) → q ≤ n → c < n → slice_index ranks q ≢ UNSETTLED → slice_index ranks c ≡ UNSETTLED → slice_index lengths q ≤ slice_index lengths c
  pub within : (q : ℕ) → q ≤ n → slice_index ranks q ≢ UNSETTLED → slice_index lengths q ≤ exit.length
  pub origin : (c : ℕ) → c < n → slice_index froms c ≤ n
  pub falling : (c : ℕ) → c < n → slice_index ranks (slice_index froms c) < slice_index ranks c
  pub origin_settled : (c : ℕ) → c < n → slice_index ranks (slice_index froms c) ≢ UNSETTLED
  pub edge : (c : ℕ) → c < n → slice_index lengths c < FAR → slice_index lengths c + slice_index prices (slice_index froms c) ≡ slice_index lengths (slice_index froms c) + (cost (slice_index jobs (slice_index froms c)) (slice_index_or columns c nowhere) + slice_index duals c)
  pub near : exit.length ≤ UNABLE
  pub exit_origin : exit.from ≤ n
  pub exit_settled : slice_index ranks exit.from ≢ UNSETTLED
  pub exit_place : exit.place < length free
  pub exit_edge : exit.length + slice_index prices exit.from ≡ slice_index lengths exit.from + cost (slice_index jobs exit.from) (slice_index_or free exit.place nowhere)

-- the new job is the last of `jobs`, and has no column yet
pub record IsSized (s : Matching) (x : Search) : Type 0 where
  pub jobs : vec_len s.jobs ≡ vec_len s.columns + 1
  pub prices : vec_len s.prices ≡ vec_len s.columns + 1
  pub duals : vec_len s.duals ≡ vec_len s.columns
  pub lengths : vec_len x.lengths ≡ vec_len s.columns + 1
  pub froms : vec_len x.froms ≡ vec_len s.columns + 1
  pub ranks : vec_len x.ranks ≡ vec_len s.columns + 1

-- the length kept for each free place is at most that of the way of any settled job to it
pub record AreNears (cost : ℕ → Place → ℕ) (jobs prices : List ℕ) (free : List Place) (lengths ranks nears : List ℕ) (n : ℕ) : Type 0 where
  pub one_each : length nears ≡ length free
  pub at : (q f : ℕ) → q ≤ n → f < length free → slice_index ranks q ≢ UNSETTLED → slice_index nears f + slice_index prices q ≤ slice_index lengths q + cost (slice_index jobs q) (slice_index_or free f nowhere)

abbrev pub KeepsNears : Costs → Matching → List Place → Search → Type 0
KeepsNears t s free x = AreNears (cost_of t) s.jobs.items s.prices.items free x.lengths.items x.ranks.items x.nears.items (vec_len s.columns)

abbrev pub SearchedFrom : Costs → Matching → List Place → Search → Type 0
SearchedFrom t s free x = IsSearched (cost_of t) s.jobs.items s.prices.items s.columns.items s.duals.items free x.lengths.items x.froms.items x.ranks.items x.exit x.settled (vec_len s.columns)

-- 1 for the rank of an unsettled column, 0 for another
abbrev pub open_of : ℕ → ℕ
open_of r = if r == UNSETTLED then 1 else 0

-- the number of unsettled columns
unfoldable pub open_count : List ℕ → ℕ
open_count ranks = sum_by open_of ranks

-- 1 for the length of a column that no way has reached, 0 for another
abbrev pub far_of : ℕ → ℕ
far_of length = if nat_lt length FAR then 0 else 1

-- the number of columns that no way has reached
unfoldable pub far_count : List ℕ → ℕ
far_count lengths = sum_by far_of lengths

-- the first `count` entries are the columns that were reached: each unsettled one is among them, and there is room for the columns that no way has reached
pub record AreListed (lengths ranks reached : List ℕ) (count len : ℕ) : Type 0 where
  pub room : count + far_count lengths < len
  pub known : (i : ℕ) → i < count → slice_index reached i + 1 < len
  pub there : (c : ℕ) → c + 1 < len → slice_index ranks c ≡ UNSETTLED → slice_index lengths c < FAR → (i : ℕ) × (i < count) × (slice_index reached i ≡ c)

pub record IsListed (x : Search) : Type 0 where
  pub len : vec_len x.reached ≡ vec_len x.lengths
  pub columns : AreListed x.lengths.items x.ranks.items x.reached.items x.count (vec_len x.reached)

-- the list after a column with this length was reached
abbrev pub IsNoted : (length c : ℕ) (reached reached' : List ℕ) (count count' : ℕ) → Type 0
IsNoted length c reached reached' count count' =
    ((FAR ≤ length) × (reached' ≡ slice_set reached count c) × (count' ≡ count + 1)) ⊎ ((length < FAR) × (reached' ≡ reached) × (count' ≡ count))

-- no unsettled column is nearer than the nearest free place
pub record IsFinished (s : Matching) (x : Search) : Type 0 where
  pub far : (c : ℕ) → c < vec_len s.columns → slice_index x.ranks.items c ≡ UNSETTLED → x.exit.length ≤ slice_index x.lengths.items c
  pub room : x.settled < UNSETTLED

-- a search from a new job at column n for one of `places` free places, before any way is taken
pub record IsBlank (n places : ℕ) (x : Search) : Type 0 where
  pub lengths : vec_len x.lengths ≡ n + 1
  pub froms : vec_len x.froms ≡ n + 1
  pub ranks : vec_len x.ranks ≡ n + 1
  pub far : (c : ℕ) → c < n → slice_index x.lengths.items c ≡ FAR
  pub root : slice_index x.lengths.items n ≡ 0
  pub from_root : (c : ℕ) → c < n → slice_index x.froms.items c ≡ n
  pub unsettled : (c : ℕ) → c < n → slice_index x.ranks.items c ≡ UNSETTLED
  pub root_rank : slice_index x.ranks.items n ≡ 0
  pub far_exit : x.exit.length ≡ FAR
  pub settled : x.settled ≡ 1
  pub counted : open_count x.ranks.items ≤ n
  pub nears : vec_len x.nears ≡ places
  pub listed : IsListed x
