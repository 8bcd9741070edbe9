-- The marks of jobs, which are hashes of their times.
use Rattle.std.specs.Prelude.{ℕ, ◌+◌, ◌*◌, ◌^◌, ◌%◌, List, [], ◌∷◌}

-- the hash of some times, with one more time
abbrev pub mixed : ℕ → ℕ → ℕ
mixed mark time = ((mark * 31) % 2 ^ 64 + time) % 2 ^ 64

-- the hash of some times, with more times
abbrev pub mixed_all : ℕ → List ℕ → ℕ
mixed_all mark [] = mark
mixed_all mark (time ∷ times) = mixed_all (mixed mark time) times

-- the hash of the times of a job
abbrev pub mark_of : List ℕ → ℕ
mark_of times = mixed_all 0 times
