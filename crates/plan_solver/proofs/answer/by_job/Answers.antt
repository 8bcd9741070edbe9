use Rattle.std.proofs.Common.{◌≡◌, ◌≢◌, ◌<◌, length, get_or, sym, inl, inr, refl, arith}
use Rattle.std.proofs.lemmas.Bool.{cases_eq}
use Rattle.std.proofs.lemmas.List.{get_or-set_same, get_or-set_other}
use Rattle.std.proofs.lemmas.List.Sums.{sum_by-set, sum_by_more}
use Rattle.plan_solver.proofs.Apart.{jobs-apart, jobs-below}
use Rattle.plan_solver.proofs.answer.by_job.Goals as goal

pub index_mut-requires : goal.index_mut-requires
index_mut-requires c =
    omega (arith, jobs-below (length c.args.jobs.now) c.args.jobs.now c.requires.all c.loop-c.c c.loop-c-test.true, c.loop-c.invariant.len)

pub loop-c-preserved : goal.loop-c-preserved
loop-c-preserved c =
    let jobs = c.args.jobs.now in
    let prices = c.args.prices.now in
    let at = c.loop-c.c in
    let i = c.loop-c.invariant in
    let was = c.loop-c.charged in
    let j = get_or jobs at 0 in
    let lt = c.loop-c-test.true in
    let in_list : j < length was.items = omega (arith, jobs-below (length jobs) jobs c.requires.all at lt, was.ok.0, i.len) in
    let unset : get_or was.items j 0 ≡ 0 = i.blank j (λ k below. jobs-apart (length jobs) jobs c.requires.all k at below lt) in
    record {
      len = i.len;
      done = λ k below. elim (cases_eq k at) [
        | inl e ↦ rw (e, get_or-set_same was.items j (get_or prices at 0) 0 in_list) refl
        | inr ne ↦
            let before : k < at = omega arith in
            let other : get_or jobs k 0 ≢ j = jobs-apart (length jobs) jobs c.requires.all k at before lt in
            rw (get_or-set_other was.items j (get_or jobs k 0) (get_or prices at 0) 0 other) (i.done k before)
      ];
      blank = λ q none.
          let other : q ≢ j = λ e. none at (omega arith) (sym e) in
          rw (get_or-set_other was.items j q (get_or prices at 0) 0 other) (i.blank q (λ k below. none k (omega arith)));
      low = λ q. elim (cases_eq q j) [
        | inl e ↦ rw (e, get_or-set_same was.items j (get_or prices at 0) 0 in_list) (c.requires.low at (omega (arith, lt, c.requires.len)))
        | inr ne ↦ rw (get_or-set_other was.items j q (get_or prices at 0) 0 ne) (i.low q)
      ];
      total = omega (arith, sum_by-set (λ x. x) was.items j (get_or prices at 0) 0 in_list, unset, i.total, sum_by_more (λ x. x) prices at 0 (omega (arith, lt, c.requires.len)));
    }
