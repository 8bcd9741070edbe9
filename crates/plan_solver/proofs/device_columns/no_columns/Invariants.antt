use Rattle.std.proofs.Common.{◌≡◌, ℕ, ◌<◌, [], vec_len, get_or}
use Rattle.plan_solver.proofs.device_columns.no_columns.Given as goal

abbrev pub invariant-loop : goal.invariant-loop
invariant-loop l = record {
  len : vec_len l.by_device ≡ l.counter;
  empty : (d : ℕ) → d < l.counter → get_or l.by_device.items d [] ≡ [];
}
