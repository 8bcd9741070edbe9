-- The samples of jobs, and their sums.
use Rattle.std.specs.Prelude.{ℕ, ◌+◌, ◌*◌, ◌<◌, ◌≤◌, List, length, sum_by}
use Rattle.base_types.specs.declared.limits.TheConstants.Limits.{JOB_TIME}
use Rattle.adapter_core.specs.declared.sample.Sample.{Sample}

-- the most impressions of all copies of a job: IMPRESSIONS * COPIES
abbrev pub most_impressions : ℕ
most_impressions = 9990000

-- the most samples: 2 ^ 20
abbrev pub most_samples : ℕ
most_samples = 1048576

-- a job can have this sample
pub record IsSample (s : Sample) : Type 0 where
  pub some : 0 < s.impressions
  pub impressions : s.impressions ≤ most_impressions
  pub ms : s.ms ≤ JOB_TIME

-- the number of samples, and the sums of their impressions, of their ms, of the squares of the impressions, and of the products of both
pub record Sums : Type 0 where
  pub count : ℕ
  pub impressions : ℕ
  pub ms : ℕ
  pub squares : ℕ
  pub products : ℕ

abbrev pub square_of : Sample → ℕ
square_of s = s.impressions * s.impressions

abbrev pub product_of : Sample → ℕ
product_of s = s.impressions * s.ms

abbrev pub sums_of : List Sample → Sums
sums_of samples = record {
  count = length samples;
  impressions = sum_by (λ (s : Sample). s.impressions) samples;
  ms = sum_by (λ (s : Sample). s.ms) samples;
  squares = sum_by square_of samples;
  products = sum_by product_of samples;
}

-- the sums with one more sample
abbrev pub with_sample : Sample → Sums → Sums
with_sample s sums = record {
  count = sums.count + 1;
  impressions = sums.impressions + s.impressions;
  ms = sums.ms + s.ms;
  squares = sums.squares + square_of s;
  products = sums.products + product_of s;
}

-- the bounds of the sums
pub record InRange (sums : Sums) : Type 0 where
  pub count : sums.count ≤ most_samples
  pub impressions : sums.impressions ≤ sums.count * most_impressions
  pub ms : sums.ms ≤ sums.count * JOB_TIME
  pub squares : sums.squares ≤ sums.count * 99800100000000
  pub products : sums.products ≤ sums.count * 5988041964000000000
