-- The queue of a device, column by column.
use Rattle.std.proofs.Common.{◌≡◌, ◌≢◌, ℕ, zero, suc, ◌+◌, ◌<◌, ◌≤◌, List, [], ◌∷◌, ◌++◌, get_or, ap, sym, ◌∙◌, refl, append_assoc, arith, inl, inr}
use Rattle.std.proofs.lemmas.Bool.{eq-eqb, ne_eqb, cases_eq}
use Rattle.plan_solver.specs.declared.costs.Costs.{Costs}
use Rattle.plan_solver.specs.declared.costs.Place.{Place}
use Rattle.plan_solver.specs.Costs.{cost_of, nowhere}
use Rattle.plan_solver.specs.Answer.{cost_of_columns, queue_of_columns}

-- a column on the device adds its job first
pub queue-here : (device : ℕ) (ids : List ℕ) (columns : List Place) (jobs : List ℕ) (m : ℕ) → (get_or columns m nowhere).device ≡ device → queue_of_columns device ids columns jobs (suc m) ≡ get_or ids (get_or jobs m 0) 0 ∷ queue_of_columns device ids columns jobs m
queue-here device ids columns jobs m e = rw (eq-eqb (get_or columns m nowhere).device device e) refl

-- another column adds nothing
pub queue-other : (device : ℕ) (ids : List ℕ) (columns : List Place) (jobs : List ℕ) (m : ℕ) → (get_or columns m nowhere).device ≢ device → queue_of_columns device ids columns jobs (suc m) ≡ queue_of_columns device ids columns jobs m
queue-other device ids columns jobs m ne = rw (ne_eqb (get_or columns m nowhere).device device ne) refl

pub queue_more : (device : ℕ) (ids : List ℕ) (columns : List Place) (jobs : List ℕ) (m s id : ℕ) (xs xs' whole : List ℕ) → m ≡ suc s → (get_or columns s nowhere).device ≡ device → id ≡ get_or ids (get_or jobs s 0) 0 → xs' ≡ xs ++ id ∷ [] → xs ++ queue_of_columns device ids columns jobs m ≡ whole → xs' ++ queue_of_columns device ids columns jobs s ≡ whole
queue_more device ids columns jobs m s id xs xs' whole em ed ei ex e =
    let here = queue-here device ids columns jobs s ed in
    let next : queue_of_columns device ids columns jobs m ≡ id ∷ queue_of_columns device ids columns jobs s = ap (λ k. queue_of_columns device ids columns jobs k) em ∙ here ∙ ap (λ k. k ∷ queue_of_columns device ids columns jobs s) (sym ei) in
    rw (ex, append_assoc) (ap (λ q. xs ++ q) (sym next) ∙ e)

-- the cost of the first columns is at most the cost of all columns
pub cost_of_columns-le : (costs : Costs) (columns : List Place) (jobs : List ℕ) (m n : ℕ) → m ≤ n → cost_of_columns costs columns jobs m ≤ cost_of_columns costs columns jobs n
cost_of_columns-le costs columns jobs m zero le = rw (let z : m ≡ 0 = omega arith in z) (omega arith)
cost_of_columns-le costs columns jobs m (suc n) le = elim (cases_eq m (suc n)) [
  | inl e ↦ rw e (omega arith)
  | inr ne ↦ omega (arith, cost_of_columns-le costs columns jobs m n (omega arith))
]

-- one column more
pub cost_of_columns-fits : (costs : Costs) (columns : List Place) (jobs : List ℕ) (m n cost : ℕ) → m < n → cost ≡ cost_of costs (get_or jobs m 0) (get_or columns m nowhere) → cost_of_columns costs columns jobs m + cost ≤ cost_of_columns costs columns jobs n
cost_of_columns-fits costs columns jobs m n cost lt e = let le : cost_of_columns costs columns jobs (suc m) ≤ cost_of_columns costs columns jobs n = cost_of_columns-le costs columns jobs (suc m) n (omega arith) in omega (arith, le, e)
