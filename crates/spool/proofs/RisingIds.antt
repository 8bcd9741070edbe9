-- Lists of jobs by rising id.
use Rattle.std.proofs.Common.{◌≡◌, ◌⊎◌, ℕ, zero, suc, ◌<◌, ◌≤◌, Bool, true, false, cond, List, [], ◌∷◌, length, map, filter, refl, sym, arith, add-one, Contains, inl, inr, ap, subst}
use Rattle.std.specs.Prelude.{slice_index}
use Rattle.std.specs.List.Sorted.{IsStrictlyIncreasing}
use Rattle.job_objects.specs.Job.{JobRecord}
use Rattle.spool.specs.Spooled.{SpooledRecord}
use Rattle.spool.specs.Jobs.{SpoolRecord}
use Rattle.spool.specs.Calls.{is_ready}
use Rattle.spool.specs.Ready.{ready_jobs}
use Rattle.spool.specs.Spool.{IsSpool}

-- the numbers rise, and none is below one
abbrev pub RisesFrom : ℕ → List ℕ → Type 0
RisesFrom low [] = Unit {0}
RisesFrom low (x ∷ xs) = (low ≤ x) × RisesFrom (suc x) xs

tail_increases : (x : ℕ) (xs : List ℕ) → IsStrictlyIncreasing (x ∷ xs) → IsStrictlyIncreasing xs
tail_increases x xs h k below = rw (add-one) (rw (add-one) at (h (suc k) (omega (arith, below))))

pub rises_from_increasing : (low : ℕ) (xs : List ℕ) → (0 < length xs → low ≤ slice_index xs 0) → IsStrictlyIncreasing xs → RisesFrom low xs
rises_from_increasing low [] first h = tt
rises_from_increasing low (x ∷ xs) first h =
    (first (omega arith), rises_from_increasing (suc x) xs (λ some. h 0 (omega (arith, some))) (tail_increases x xs h))

pub increasing_from_rises : (low : ℕ) (xs : List ℕ) → RisesFrom low xs → IsStrictlyIncreasing xs
increasing_from_rises low [] h k below = absurd (omega (arith, below))
increasing_from_rises low (x ∷ []) h k below = absurd (omega (arith, below))
increasing_from_rises low (x ∷ y ∷ ys) h zero below = h.1.0
increasing_from_rises low (x ∷ y ∷ ys) h (suc k) below = rw (add-one) (rw (add-one) at (increasing_from_rises (suc x) (y ∷ ys) h.1 k (omega (arith, below))))

rises_lower : (low more : ℕ) (xs : List ℕ) → low ≤ more → RisesFrom more xs → RisesFrom low xs
rises_lower low more [] le h = tt
rises_lower low more (x ∷ xs) le h = (omega (arith, le, h.0), h.1)

filter_step : (b : Bool) (low : ℕ) (job : JobRecord) (jobs : List JobRecord) → low ≤ job.id → RisesFrom (suc job.id) (map (λ j. j.id) jobs) → RisesFrom low (map (λ j. j.id) (cond b (job ∷ jobs) jobs))
filter_step true low job jobs le h = (le, h)
filter_step false low job jobs le h = rises_lower low (suc job.id) (map (λ j. j.id) jobs) (omega (arith, le)) h

-- some of the jobs have rising ids too
pub filter_rises : (test : JobRecord → Bool) (low : ℕ) (jobs : List JobRecord) → RisesFrom low (map (λ j. j.id) jobs) → RisesFrom low (map (λ j. j.id) (filter test jobs))
filter_rises test low [] h = tt
filter_rises test low (job ∷ jobs) h = filter_step (test job) low job (filter test jobs) h.0 (filter_rises test (suc job.id) jobs h.1)

-- all numbers of a rising list are at least its bound
pub above_low : (low : ℕ) (xs : List ℕ) (x : ℕ) → RisesFrom low xs → Contains xs x → low ≤ x
above_low low [] x h (k, below, is) = absurd (omega (arith, below))
above_low low (y ∷ ys) x h (zero, below, is) = omega (arith, is, h.0)
above_low low (y ∷ ys) x h (suc k, below, is) = omega (arith, h.0, above_low (suc y) ys x h.1 (k, omega (arith, below), is))

-- an id is the id of the first job, if this job passes, or the id of a later job that passes
pub head_or : (b : Bool) (job : JobRecord) (jobs : List JobRecord) (id : ℕ) → Contains (map (λ j. j.id) (cond b (job ∷ jobs) jobs)) id → ((b ≡ true) × (id ≡ job.id)) ⊎ Contains (map (λ j. j.id) jobs) id
head_or true job jobs id (zero, below, is) = inl (refl, sym is)
head_or true job jobs id (suc k, below, is) = inr (k, omega (arith, below), is)
head_or false job jobs id found = inr found

-- jobs of tests that exclude each other have different ids
pub different_ids : (p q : JobRecord → Bool) → ((job : JobRecord) → p job ≡ true → q job ≡ true → ⊥) → (low : ℕ) (jobs : List JobRecord) → RisesFrom low (map (λ j. j.id) jobs) → (id : ℕ) → Contains (map (λ j. j.id) (filter p jobs)) id → Contains (map (λ j. j.id) (filter q jobs)) id → ⊥
different_ids p q apart low [] h id (k, below, is) other = absurd (omega (arith, below))
different_ids p q apart low (job ∷ jobs) h id one other = elim (head_or (p job) job (filter p jobs) id one) [
  | inl first ↦ elim (head_or (q job) job (filter q jobs) id other) [
    | inl second ↦ apart job first.0 second.0
    | inr later ↦ absurd (omega (arith, first.1, above_low (suc job.id) (map (λ j. j.id) (filter q jobs)) id (filter_rises q (suc job.id) jobs h.1) later))
  ]
  | inr earlier ↦ elim (head_or (q job) job (filter q jobs) id other) [
    | inl second ↦ absurd (omega (arith, second.1, above_low (suc job.id) (map (λ j. j.id) (filter p jobs)) id (filter_rises p (suc job.id) jobs h.1) earlier))
    | inr later ↦ different_ids p q apart (suc job.id) jobs h.1 id earlier later
  ]
]

jobs_ids : (jobs : List SpooledRecord) → map (λ j. j.id) (map (λ s. s.job) jobs) ≡ map (λ s. s.job.id) jobs
jobs_ids [] = refl
jobs_ids (s ∷ jobs) = ap (λ (xs : List ℕ). s.job.id ∷ xs) (jobs_ids jobs)

-- the jobs of a spool are by rising id, and so do those of them that are ready
module _ (spool : SpoolRecord) (is : IsSpool spool) where
  pub job_ids_rise : RisesFrom 0 (map (λ j. j.id) (map (λ s. s.job) spool.jobs))
  job_ids_rise = subst (λ (xs : List ℕ). RisesFrom 0 xs) (sym (jobs_ids spool.jobs)) (rises_from_increasing 0 (map (λ s. s.job.id) spool.jobs) (λ some. omega arith) is.rising)

  pub ready_ids_rise : (paused : List Bool) → RisesFrom 0 (map (λ j. j.id) (ready_jobs paused spool.jobs))
  ready_ids_rise paused = filter_rises (is_ready paused) 0 (map (λ s. s.job) spool.jobs) job_ids_rise

  pub ready_increase : (paused : List Bool) → IsStrictlyIncreasing (map (λ j. j.id) (ready_jobs paused spool.jobs))
  ready_increase paused = increasing_from_rises 0 (map (λ j. j.id) (ready_jobs paused spool.jobs)) (ready_ids_rise paused)
