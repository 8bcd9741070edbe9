-- The setup and the rate of least squares: with them the sum over the samples of the squares of `ms - setup - impressions * rate` is least. They solve the normal equations `count * setup + impressions * rate = ms` and `impressions * setup + squares * rate = products`.
use Rattle.std.specs.Prelude.{◌≡◌, ℕ, ◌+◌, ◌-◌, ◌*◌, ◌/◌, ◌==◌, min, max, if◌then◌else◌, All, List, Option, Some, None}
use Rattle.base_types.specs.declared.limits.TheConstants.Limits.{RATE, SETUP}
use Rattle.adapter_core.specs.declared.sample.Sample.{Sample}
use Rattle.adapter_core.specs.Sums.{Sums}

-- the whole number nearest to a quotient; of two, the greater one
abbrev pub nearest : ℕ → ℕ → ℕ
nearest dividend divisor = (2 * dividend + divisor) / (2 * divisor)

-- the determinant of the normal equations: 0 if all samples have the same number of impressions
abbrev pub determinant : Sums → ℕ
determinant sums = sums.count * sums.squares - sums.impressions * sums.impressions

-- the setup that solves the equations, times the determinant; 0 if it is negative
abbrev pub setup_numerator : Sums → ℕ
setup_numerator sums = sums.ms * sums.squares - sums.impressions * sums.products

-- the setup that solves both equations, rounded to whole ms, within its limit
abbrev pub setup_of : Sums → Option ℕ
setup_of sums = if determinant sums == 0 then None else Some (min (nearest (setup_numerator sums) (determinant sums)) SETUP)

-- the rate that solves the second equation with this setup, rounded to whole ms, within its limits: the rate of least squares for a known setup
abbrev pub rate_of : ℕ → Sums → Option ℕ
rate_of setup sums = if sums.squares == 0 then None else Some (min (max (nearest (sums.products - setup * sums.impressions) sums.squares) 1) RATE)

-- each sample is on the line: the setup once, and the rate for each impression
abbrev pub AreOn : ℕ → ℕ → List Sample → Type 0
AreOn setup rate samples = All (λ (s : Sample). s.ms ≡ setup + s.impressions * rate) samples
