use Rattle.std.proofs.Common.{◌≡◌, ℕ, ◌<◌, [], None, length, get_or, ap, sym, ◌∙◌, refl, subst, arith, inl, inr}
use Rattle.std.specs.Option.{IsSome}
use Rattle.std.proofs.lemmas.Bool.{cases_eq}
use Rattle.std.proofs.lemmas.List.{get_or_default, get_or_read}
use Rattle.plan_problem.specs.Class.{Class, IsClass, time_in}
use Rattle.plan_problem.proofs.Places.{place_at}
use Rattle.plan_prices.specs.Able.{EachAble}
use Rattle.plan_prices.proofs.able.each_able.Goals as goal

-- a time is in the job's row
row_of_id : (c : Class) → IsClass c → (k d : ℕ) → k < length c.ids → time_in c (get_or c.ids k 0) d ≡ get_or (get_or c.rows k []) d None
row_of_id c ok k d lt = ap (λ p. get_or (get_or c.rows p []) d None) (place_at c.ids ok.rising k lt)

row_able : (c : Class) → IsClass c → EachAble c → (k : ℕ) → k < length c.ids → (d : ℕ) × IsSome (get_or (get_or c.rows k []) d None)
row_able c ok able k lt = let at = able k 0 lt in (at.0, subst IsSome (row_of_id c ok k at.0 lt) at.1)

able_rows : (c : Class) → IsClass c → ((k : ℕ) → k < length c.ids → (d : ℕ) × IsSome (get_or (get_or c.rows k []) d None)) → EachAble c
able_rows c ok rows k o lt =
    let at = rows k lt in
    (at.0, rw (get_or_default c.ids k o 0 lt) (subst IsSome (sym (row_of_id c ok k at.0 lt)) at.1))

pub returns-then-not-has_time : goal.returns-then-not-has_time
returns-then-not-has_time c =
    let class = c.args.class.now in
    let ok = c.rows-row-items.ensures.class in
    let below : c.loop-row.row-index < length c.rows-row-items.result.now = c.loop-row-test.true in
    let read : c.row-item.result ≡ get_or class.rows c.loop-row.row-index [] = get_or_read c.rows-row-items.result.now c.loop-row.row-index _ below c.row-item.is [] ∙ ap (λ l. get_or l c.loop-row.row-index []) c.rows-row-items.ensures.rows in (
      (λ t. cc),
      (λ able.
          let at = row_able class ok able c.loop-row.row-index (omega (arith, below, ap length c.rows-row-items.ensures.rows, ok.one_row_each)) in
          (c.if-not-has_time.ensures {u = tt}).1 (at.0, rw (c.times.ensures, read) at.1)),
    )

pub loop-row-preserved : goal.loop-row-preserved
loop-row-preserved c j lt =
    let class = c.args.class.now in
    let at = c.loop-row.row-index in
    let below : at < length c.rows-row-items.result.now = c.loop-row-test.true in
    let read : c.row-item.result ≡ get_or class.rows at [] = get_or_read c.rows-row-items.result.now at _ below c.row-item.is [] ∙ ap (λ l. get_or l at []) c.rows-row-items.ensures.rows in
    elim (cases_eq j at) [
      | inl e ↦
          let found = (c.if-not-has_time.ensures {u = tt}).0 refl in
          (found.0, rw (e, ← read, ← c.times.ensures) found.1)
      | inr ne ↦ c.loop-row.invariant j (omega (arith, lt, ne))
    ]

pub returns : goal.returns
returns c =
    let class = c.args.class.now in
    let ok = c.rows-row-items.ensures.class in (
      (λ t. able_rows class ok (λ k lt. c.loop-row.invariant k (omega (arith, lt, ok.one_row_each, ap length c.rows-row-items.ensures.rows, c.loop-row-test.false)))),
      (λ able. refl),
    )
