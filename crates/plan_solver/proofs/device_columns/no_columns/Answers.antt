use Rattle.std.proofs.Common.{◌≡◌, ℕ, ◌+◌, ◌<◌, List, [], ◌∷◌, ◌++◌, length, get_or, ap, inl, inr, ◌∙◌, arith, rules}
use Rattle.std.proofs.lemmas.Bool.{cases_eq}
use Rattle.std.proofs.lemmas.List.{get_or_push, get_or_append_left}
use Rattle.plan_solver.proofs.device_columns.no_columns.Goals as goal

empty_more : (n : ℕ) (xs ys : List (List ℕ)) → ys ≡ xs ++ [] ∷ [] → length xs ≡ n → ((d : ℕ) → d < n → get_or xs d [] ≡ []) → (d : ℕ) → d < n + 1 → get_or ys d [] ≡ []
empty_more n xs ys e len h d lt = elim (cases_eq d n) [
  | inl is ↦ rw (e, is) (get_or_push xs [] [] n len)
  | inr ne ↦ let below : d < n = omega arith in rw (e, get_or_append_left xs ([] ∷ []) [] d (omega arith)) (h d below)
]

pub loop-preserved : goal.loop-preserved
loop-preserved c = record {
  len = search rules;
  empty = empty_more c.loop.counter c.loop.by_device.items c.push.new.self.items ((c.in_ok-push.ensures {u = tt}).items ∙ ap (λ (l : List ℕ). c.loop.by_device.items ++ l ∷ []) c.new.ensures) (omega (arith, c.loop.invariant.len, c.loop.by_device.ok.0)) c.loop.invariant.empty;
}
