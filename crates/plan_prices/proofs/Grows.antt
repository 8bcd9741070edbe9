-- the growth of the waits by a class
use Rattle.std.proofs.Common.{◌≡◌, ℕ, suc, ◌+◌, ◌*◌, ◌≤◌, List, [], ◌∷◌, length, refl, ap, arith, get_or, All}
use Rattle.std.proofs.lemmas.Nat.{mul-le}
use Rattle.std.proofs.lemmas.List.Elements.{All-cons}
use Rattle.base_types.specs.declared.limits.TheConstants.Limits.{JOB_TIME}
use Rattle.plan_problem.specs.Class.{Class, IsClass, wait_in}
use Rattle.plan_prices.specs.Way.{IsWay}
use Rattle.plan_prices.specs.Total.{busy_time}
use Rattle.plan_prices.specs.Waits.{waits_from, waits_after, GrowsByTimes}
use Rattle.plan_prices.proofs.Bounds.{busy_small, part_short, length_names, wait_at_most}

pub waits_from_length : (c : Class) (d : ℕ) (w : List (List ℕ)) → length (waits_from c d w) ≡ length w
waits_from_length c d [] = refl
waits_from_length c d (q ∷ qs) = ap suc (waits_from_length c (suc d) qs)

busy_at_most : (c : Class) → IsClass c → (d : ℕ) (q : List ℕ) → length q ≤ length c.ids → busy_time c d q ≤ length c.ids * JOB_TIME
busy_at_most c ok d q few = omega (arith, busy_small c ok d q, mul-le (length q) JOB_TIME (length c.ids) JOB_TIME few (omega arith))

waits_from_grow : (c : Class) → IsClass c → (most : ℕ) → All (λ wait. wait ≤ most) c.waits → (d : ℕ) (w : List (List ℕ)) → ((i : ℕ) → length (get_or w i []) ≤ length c.ids) → All (λ wait. wait ≤ most + length c.ids * JOB_TIME) (waits_from c d w)
waits_from_grow c ok most h d [] short = λ i v below. absurd (omega (arith, below))
waits_from_grow c ok most h d (q ∷ qs) short =
    let busy : busy_time c d q ≤ length c.ids * JOB_TIME = busy_at_most c ok d q (short 0) in
    All-cons (λ wait. wait ≤ most + length c.ids * JOB_TIME) (wait_in c d + busy_time c d q) (waits_from c (suc d) qs)
    (omega (arith, wait_at_most c most h d, busy))
    (waits_from_grow c ok most h (suc d) qs (λ i. short (suc i)))

pub waits_grow : (c : Class) → IsClass c → (w : List (List ℕ)) → IsWay c w → GrowsByTimes c (waits_after c w)
waits_grow c ok w way most h = waits_from_grow c ok most h 0 w (λ i. omega (arith, part_short w i, length_names c ok w way))
