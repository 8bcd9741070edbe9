-- Totals list by list, as they are added up, and by places from the end.
use Rattle.std.proofs.Common.{◌≡◌, ℕ, suc, ◌+◌, ◌*◌, List, [], ◌∷◌, length, refl, ap, ◌∙◌, arith}
use Rattle.plan_problem.specs.Class.{Class, wait_in}
use Rattle.plan_prices.specs.Total.{time_on, list_cost, cost_from}

-- the ends of a list's jobs, on a device that is free at a moment
abbrev pub list_total : Class → ℕ → ℕ → List ℕ → ℕ
list_total c device free [] = 0
list_total c device free (job ∷ jobs) = (free + time_on c job device) + list_total c device (free + time_on c job device) jobs

-- the totals of all lists, for the devices from a device on
abbrev pub total_from : Class → ℕ → List (List ℕ) → ℕ
total_from c device [] = 0
total_from c device (jobs ∷ lists) = list_total c device (wait_in c device) jobs + total_from c (suc device) lists

-- a device that is free t later ends each job t later
pub list_total-later : (c : Class) (d free t : ℕ) (jobs : List ℕ) → list_total c d (free + t) jobs ≡ list_total c d free jobs + length jobs * t
list_total-later c d free t [] = omega arith
list_total-later c d free t (j ∷ js) =
    let x : ℕ = time_on c j d in
    let e : list_total c d (free + t + x) js ≡ list_total c d (free + x) js + length js * t =
    ap (λ n. list_total c d n js) (let q : free + t + x ≡ free + x + t = omega arith in q) ∙ list_total-later c d (free + x) t js in
    omega (arith, e)

pub list_cost_is : (c : Class) (d free : ℕ) (jobs : List ℕ) → list_total c d free jobs ≡ list_cost c d free jobs
list_cost_is c d free [] = refl
list_cost_is c d free (j ∷ js) =
    omega (arith, list_total-later c d free (time_on c j d) js, list_cost_is c d free js)

pub cost_from_is : (c : Class) (d : ℕ) (way : List (List ℕ)) → total_from c d way ≡ cost_from c d way
cost_from_is c d [] = refl
cost_from_is c d (q ∷ qs) = omega (arith, list_cost_is c d (wait_in c d) q, cost_from_is c (suc d) qs)
