-- The impressions of one copy of a job.
use Rattle.std.specs.Prelude.{ℕ, ◌+◌, ◌-◌, ◌/◌, min, max, Option, Some, None}
use Rattle.base_types.specs.declared.limits.TheConstants.Limits.{IMPRESSIONS, OCTETS_PER_IMPRESSION}

-- as given, else one for each 4,096 octets begun; at least 1, and at most IMPRESSIONS
abbrev pub impressions_of : Option ℕ → ℕ → ℕ
impressions_of (Some given) octets = min (max given 1) IMPRESSIONS
impressions_of None octets = min (max ((octets + (OCTETS_PER_IMPRESSION - 1)) / OCTETS_PER_IMPRESSION) 1) IMPRESSIONS
