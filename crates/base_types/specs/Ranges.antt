-- The ranges of the server's numbers.
use Rattle.std.specs.Prelude.{ℕ, ◌≤◌}
use Rattle.base_types.specs.declared.limits.TheConstants.Limits.{LAST_JOB_ID, LAST_MOMENT, HIGHEST_PRIORITY, IMPRESSIONS, COPIES, RATE, SETUP, NOT_BEFORE}

-- an IPP job-id (RFC 8011, section 5.3.2)
abbrev pub IsJobId : ℕ → Type 0
IsJobId number = (1 ≤ number) × (number ≤ LAST_JOB_ID)

-- ms since the server's start
abbrev pub IsMoment : ℕ → Type 0
IsMoment millis = millis ≤ LAST_MOMENT

-- a job-priority (RFC 8011, section 5.2.1)
abbrev pub IsPriority : ℕ → Type 0
IsPriority level = (1 ≤ level) × (level ≤ HIGHEST_PRIORITY)

-- the estimated impressions of one copy of a job
abbrev pub IsImpressions : ℕ → Type 0
IsImpressions impressions = (1 ≤ impressions) × (impressions ≤ IMPRESSIONS)

-- copies of a job (RFC 8011, section 5.2.5)
abbrev pub IsCopies : ℕ → Type 0
IsCopies copies = (1 ≤ copies) × (copies ≤ COPIES)

-- a device's time for one impression, in ms
abbrev pub IsRate : ℕ → Type 0
IsRate rate = (1 ≤ rate) × (rate ≤ RATE)

-- a device's time before a job's first impression, in ms
abbrev pub IsSetup : ℕ → Type 0
IsSetup setup = setup ≤ SETUP

-- a moment before which a device begins no job
abbrev pub IsNotBefore : ℕ → Type 0
IsNotBefore moment = moment ≤ NOT_BEFORE
