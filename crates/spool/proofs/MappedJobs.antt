-- A list changed from its beginning on, place by place.
use Rattle.std.proofs.Common.{◌≡◌, ℕ, zero, suc, ◌+◌, ◌<◌, List, [], ◌∷◌, ◌++◌, length, map, take, drop, refl, ◌∙◌, ap, arith}
use Rattle.spool.specs.Spooled.{SpooledRecord}
use Rattle.spool.specs.Jobs.{SpoolRecord, map_at}

map_more : (f : SpooledRecord → SpooledRecord) (jobs : List SpooledRecord) (i : ℕ) → i < length jobs → map_at i f (map f (take i jobs) ++ drop i jobs) ≡ map f (take (suc i) jobs) ++ drop (suc i) jobs
map_more f [] i inside = absurd (omega (arith, inside))
map_more f (s ∷ jobs) zero inside = refl
map_more f (s ∷ jobs) (suc i) inside = ap (λ (js : List SpooledRecord). f s ∷ js) (map_more f jobs i (omega (arith, inside)))

-- the job at the next place is changed too
pub changed_more : (f : SpooledRecord → SpooledRecord) (old leading spool : SpoolRecord) (i : ℕ) → i < length old.jobs → leading ≡ record old { jobs = map f (take i old.jobs) ++ drop i old.jobs } → spool ≡ record leading { jobs = map_at i f leading.jobs } → spool ≡ record old { jobs = map f (take (i + 1) old.jobs) ++ drop (i + 1) old.jobs }
changed_more f old leading spool i inside so_far is =
    let next : suc i ≡ i + 1 = omega arith in
    is
    ∙ (ap (λ (s : SpoolRecord). record s { jobs = map_at i f s.jobs }) so_far
    ∙ (ap (λ (js : List SpooledRecord). record old { jobs = js }) (map_more f old.jobs i inside)
    ∙ ap (λ (n : ℕ). record old { jobs = map f (take n old.jobs) ++ drop n old.jobs }) next))
