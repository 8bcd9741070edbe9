-- Equal jobs have equal marks.
use Rattle.std.proofs.Common.{◌≡◌, ℕ, ◌<◌, [], length, get_or, sym, ap, ◌∙◌, arith}
use Rattle.std.specs.Option.{unwrap_or}
use Rattle.std.proofs.lemmas.List.{ext_get_or}
use Rattle.plan_problem.specs.Class.{Class}
use Rattle.plan_prices.specs.Order.{AreEqual, AreMarks}
use Rattle.plan_solver.specs.declared.costs.TheConstants.{UNABLE}
use Rattle.plan_solver.specs.declared.times.Entries.{Entries}
use Rattle.plan_solver.specs.Costs.{row_of}
use Rattle.plan_solver.specs.Entries.{IsRead}
use Rattle.plan_solver.specs.Marks.{mark_of}

-- the times of equal jobs are the same
rows_same : (c : Class) (e : Entries) → IsRead c e → (one other : ℕ) → one < length c.ids → other < length c.ids → AreEqual c (get_or c.ids one 0) (get_or c.ids other 0) → row_of e.costs one ≡ row_of e.costs other
rows_same c e read one other l m same =
    let wide = read.widths one [] (omega (arith, l, read.rows, e.costs.rows.ok.0)) in
    let wide' = read.widths other [] (omega (arith, m, read.rows, e.costs.rows.ok.0)) in
    ext_get_or UNABLE (row_of e.costs one) (row_of e.costs other) (wide ∙ sym wide') (λ d n.
    let below : d < length c.waits = omega (arith, n, wide) in
    read.times one d l below ∙ ap (λ o. unwrap_or o UNABLE) (same d) ∙ sym (read.times other d m below))

pub are_marks : (c : Class) (e : Entries) → IsRead c e → AreMarks c e.marks.items
are_marks c e read = record {
  one_each = omega (arith, read.marks, e.marks.ok.0);
  equal = λ one other l m same. read.marked one l ∙ ap mark_of (rows_same c e read one other l m same) ∙ sym (read.marked other m);
}
