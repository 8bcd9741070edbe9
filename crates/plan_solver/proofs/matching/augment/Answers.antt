use Rattle.std.proofs.Common.{◌≡◌, ◌≢◌, ℕ, ◌+◌, ◌<◌, ◌≤◌, List, [], ◌∷◌, ◌++◌, length, vec_len, get_or, set, ap, inl, inr, ◌∙◌, arith}
use Rattle.std.specs.Global.{Vec}
use Rattle.std.proofs.lemmas.Bool.{cases_eq}
use Rattle.std.proofs.lemmas.List.{get_or_push, get_or_append_left, get_or-set_same, get_or-set_other}
use Rattle.plan_solver.specs.declared.costs.Place.{Place}
use Rattle.plan_solver.specs.Costs.{cost_of, nowhere}
use Rattle.plan_solver.proofs.Raised.{Raises, Moves, raises_from, fair_now, free_now, free_up, tight_now, falls_along}
use Rattle.plan_solver.proofs.Room.{room_moved, room_up}
use Rattle.plan_solver.proofs.Bounds.{price_low, dual_low}
use Rattle.plan_solver.proofs.matching.augment.Goals as goal

pub search_exit-requires-clause-duals_low : goal.search_exit-requires-clause-duals_low
search_exit-requires-clause-duals_low c = dual_low c.args.costs.now c.args.matching.now c.args.free.now c.requires.matched c.requires.some

pub raise_all-requires-clause-duals_low : goal.raise_all-requires-clause-duals_low
raise_all-requires-clause-duals_low c = λ k lt. dual_low c.args.costs.now c.args.matching.now c.args.free.now c.requires.matched c.requires.some k (omega (arith, c.requires.matched.duals))

pub raise_all-requires-clause-prices_low : goal.raise_all-requires-clause-prices_low
raise_all-requires-clause-prices_low c = λ q lt.
    let s = c.args.matching.now in
    let n = vec_len s.columns in
    let ep : c.push-2.new.self.items ≡ s.prices.items ++ 0 ∷ [] = (c.in_ok-push-2.ensures {u = tt}).items in
    let len : vec_len c.push-2.new.self ≡ n + 1 = omega (arith, (c.in_ok-push-2.ensures {u = tt}).len, c.requires.matched.prices) in
    let lp : length s.prices.items ≡ n = omega (arith, s.prices.ok.0, c.requires.matched.prices) in
    elim (cases_eq q n) [
      | inl e ↦ rw (ep, e, get_or_push s.prices.items 0 0 n lp) (omega arith)
      | inr d ↦
          let below : q < n = omega arith in
          rw (ep, get_or_append_left s.prices.items (0 ∷ []) 0 q (omega arith)) (price_low c.args.costs.now s c.args.free.now c.requires.matched c.requires.some q below)
    ]

linked : (xs ys : List ℕ) (n v : ℕ) → ys ≡ set xs n v → n < length xs → ((k : ℕ) → k < n → get_or ys k 0 ≡ get_or xs k 0) × (get_or ys n 0 ≡ v)
linked xs ys n v e lt = (λ k below. let ne : k ≢ n = omega arith in rw e (get_or-set_other xs n k v 0 ne), rw e (get_or-set_same xs n v 0 lt))

column_pushed : (xs ys : List Place) (n : ℕ) (v : Place) → ys ≡ xs ++ v ∷ [] → length xs ≡ n → ((k : ℕ) → k < n → get_or ys k nowhere ≡ get_or xs k nowhere) × (get_or ys n nowhere ≡ v)
column_pushed xs ys n v e l = (λ k below. rw e (get_or_append_left xs (v ∷ []) nowhere k (omega arith)), rw e (get_or_push xs v nowhere n l))

pushed : (xs ys : List ℕ) (n v : ℕ) → ys ≡ xs ++ v ∷ [] → length xs ≡ n → ((k : ℕ) → k < n → get_or ys k 0 ≡ get_or xs k 0) × (get_or ys n 0 ≡ v)
pushed xs ys n v e l = (λ k below. rw e (get_or_append_left xs (v ∷ []) 0 k (omega arith)), rw e (get_or_push xs v 0 n l))

pub move_jobs-requires-clause-falling : goal.move_jobs-requires-clause-falling
move_jobs-requires-clause-falling c =
    let s = c.args.matching.now in
    let x = c.in_ok-search.search in
    let y = c.raise_all.new.matching in
    let t = c.add_column.new.matching in
    let w = c.add_column.new.search in
    let n = vec_len s.columns in
    let en : c.len-last.result ≡ n = c.len-last.ensures in
    let ej : c.push.new.self.items ≡ s.jobs.items ++ c.args.job ∷ [] = (c.in_ok-push.ensures {u = tt}).items in
    let ep : c.push-2.new.self.items ≡ s.prices.items ++ 0 ∷ [] = (c.in_ok-push-2.ensures {u = tt}).items in
    let found = c.in_ok-search.ensures {u = tt} in
    let added = c.in_ok-add_column.ensures {u = tt} in
    let up = c.raise_all.ensures in
    let len : vec_len c.push-2.new.self ≡ n + 1 = omega (arith, (c.in_ok-push-2.ensures {u = tt}).len, c.requires.matched.prices) in
    let h : Raises (cost_of c.args.costs.now) c.push.new.self.items c.push-2.new.self.items s.columns.items s.duals.items c.args.free.now x.lengths.items x.froms.items x.ranks.items y.prices.items y.duals.items x.exit x.settled n =
    raises_from _ s.jobs.items s.prices.items _ _ _ _ _ _ _ _ _ _ _ _ n c.args.job ej ep (omega (arith, s.jobs.ok.0, c.requires.matched.jobs)) (omega (arith, s.prices.ok.0, c.requires.matched.prices)) (omega (arith, s.columns.ok.0))
    c.requires.matched.fair c.requires.matched.fair_free c.requires.matched.tight found.searched found.finished.far
    (λ q le. up.prices q (omega arith)) (λ k lt. up.duals k (omega (arith, c.requires.matched.duals))) in
    let es : vec_len y.columns ≡ n = ap (λ (v : Vec Place). vec_len v) up.same.1 in
    let ef : w.froms.items ≡ set x.froms.items n x.exit.from = added.froms ∙ ap (λ k. set x.froms.items k x.exit.from) es in
    let er : w.ranks.items ≡ set x.ranks.items n x.settled = added.ranks ∙ ap (λ k. set x.ranks.items k x.settled) es in
    let from = linked x.froms.items w.froms.items n x.exit.from ef (omega (arith, x.froms.ok.0, found.sizes.froms)) in
    let rank = linked x.ranks.items w.ranks.items n x.settled er (omega (arith, x.ranks.ok.0, found.sizes.ranks)) in
    rw en (falls_along h w.froms.items w.ranks.items from.0 from.1 rank.0 rank.1)

pub returns-clause-matched : goal.returns-clause-matched
returns-clause-matched c =
    let s = c.args.matching.now in
    let x = c.in_ok-search.search in
    let y = c.raise_all.new.matching in
    let t = c.add_column.new.matching in
    let w = c.add_column.new.search in
    let n = vec_len s.columns in
    let en : c.len-last.result ≡ n = c.len-last.ensures in
    let ej : c.push.new.self.items ≡ s.jobs.items ++ c.args.job ∷ [] = (c.in_ok-push.ensures {u = tt}).items in
    let ep : c.push-2.new.self.items ≡ s.prices.items ++ 0 ∷ [] = (c.in_ok-push-2.ensures {u = tt}).items in
    let found = c.in_ok-search.ensures {u = tt} in
    let added = c.in_ok-add_column.ensures {u = tt} in
    let up = c.raise_all.ensures in
    let len : vec_len c.push-2.new.self ≡ n + 1 = omega (arith, (c.in_ok-push-2.ensures {u = tt}).len, c.requires.matched.prices) in
    let h : Raises (cost_of c.args.costs.now) c.push.new.self.items c.push-2.new.self.items s.columns.items s.duals.items c.args.free.now x.lengths.items x.froms.items x.ranks.items y.prices.items y.duals.items x.exit x.settled n =
    raises_from _ s.jobs.items s.prices.items _ _ _ _ _ _ _ _ _ _ _ _ n c.args.job ej ep (omega (arith, s.jobs.ok.0, c.requires.matched.jobs)) (omega (arith, s.prices.ok.0, c.requires.matched.prices)) (omega (arith, s.columns.ok.0))
    c.requires.matched.fair c.requires.matched.fair_free c.requires.matched.tight found.searched found.finished.far
    (λ q le. up.prices q (omega arith)) (λ k lt. up.duals k (omega (arith, c.requires.matched.duals))) in
    let es : vec_len y.columns ≡ n = ap (λ (v : Vec Place). vec_len v) up.same.1 in
    let ef : w.froms.items ≡ set x.froms.items n x.exit.from = added.froms ∙ ap (λ k. set x.froms.items k x.exit.from) es in
    let er : w.ranks.items ≡ set x.ranks.items n x.settled = added.ranks ∙ ap (λ k. set x.ranks.items k x.settled) es in
    let from = linked x.froms.items w.froms.items n x.exit.from ef (omega (arith, x.froms.ok.0, found.sizes.froms)) in
    let rank = linked x.ranks.items w.ranks.items n x.settled er (omega (arith, x.ranks.ok.0, found.sizes.ranks)) in
    let z = c.move_jobs.new.matching in
    let last = c.move_jobs.ensures in
    let jobs_is : t.jobs.items ≡ c.push.new.self.items = ap (λ (v : Vec ℕ). v.items) (added.same.0 ∙ up.same.0) in
    let prices_is : t.prices.items ≡ y.prices.items = ap (λ (v : Vec ℕ). v.items) added.same.1 in
    let at = get_or c.args.free.now x.exit.place nowhere in
    let column = column_pushed s.columns.items t.columns.items n at (added.columns ∙ ap (λ (v : Vec Place). v.items ++ at ∷ []) up.same.1) (omega (arith, s.columns.ok.0)) in
    let dual = pushed y.duals.items t.duals.items n 0 added.duals (omega (arith, y.duals.ok.0, up.sizes.duals, es)) in
    let m : Moves (cost_of c.args.costs.now) c.push.new.self.items c.push-2.new.self.items s.columns.items s.duals.items c.args.free.now x.lengths.items x.froms.items x.ranks.items y.prices.items y.duals.items t.columns.items t.duals.items w.froms.items w.ranks.items z.jobs.items z.prices.items x.exit x.settled n = record {
      raised = h;
      room = found.finished.room;
      column = column.0;
      column_new = column.1;
      dual = dual.0;
      dual_new = dual.1;
      from = from.0;
      from_new = from.1;
      rank = rank.0;
      rank_new = rank.1;
      moved = λ k le. rw (jobs_is, prices_is, en) at (last.moved k (omega (arith, en)));
    } in
    let columns_is : z.columns.items ≡ t.columns.items = ap (λ (v : Vec Place). v.items) last.same.0 in
    let duals_is : z.duals.items ≡ t.duals.items = ap (λ (v : Vec ℕ). v.items) last.same.1 in
    let columns_len : vec_len z.columns ≡ n + 1 = omega (arith, ap (λ (v : Vec Place). vec_len v) last.same.0, added.columns_len, es) in
    let duals_len : vec_len z.duals ≡ n + 1 = omega (arith, ap (λ (v : Vec ℕ). vec_len v) last.same.1, added.duals_len, up.sizes.duals, es) in
    let jobs_in : (q : ℕ) → q < length z.jobs.items → q ≤ n = λ q lt. omega (arith, z.jobs.ok.0, last.jobs_len, en) in
    let columns_in : (k : ℕ) → k < length z.columns.items → k ≤ n = λ k lt. omega (arith, z.columns.ok.0, columns_len) in
    record {
      jobs = omega (arith, last.jobs_len, en, columns_len);
      prices = omega (arith, last.prices_len, en, columns_len);
      duals = omega (arith, duals_len, columns_len);
      fair = record { at = λ q k lq lk. rw (columns_is, duals_is) (fair_now m q k (jobs_in q lq) (columns_in k lk)) };
      fair_free = record { at = λ q f lq lf. omega (arith, free_now m q f (jobs_in q lq) lf) };
      tight = record { at = λ k lk. rw (columns_is, duals_is) (tight_now m k (columns_in k lk)) };
    }

pub returns-clause-room : goal.returns-clause-room
returns-clause-room c =
    let s = c.args.matching.now in
    let x = c.in_ok-search.search in
    let y = c.raise_all.new.matching in
    let t = c.add_column.new.matching in
    let w = c.add_column.new.search in
    let z = c.move_jobs.new.matching in
    let n = vec_len s.columns in
    let en : c.len-last.result ≡ n = c.len-last.ensures in
    let ej : c.push.new.self.items ≡ s.jobs.items ++ c.args.job ∷ [] = (c.in_ok-push.ensures {u = tt}).items in
    let ep : c.push-2.new.self.items ≡ s.prices.items ++ 0 ∷ [] = (c.in_ok-push-2.ensures {u = tt}).items in
    let found = c.in_ok-search.ensures {u = tt} in
    let added = c.in_ok-add_column.ensures {u = tt} in
    let up = c.raise_all.ensures in
    let tight = c.tighten.ensures in
    let last = c.move_jobs.ensures in
    let len : vec_len c.push-2.new.self ≡ n + 1 = omega (arith, (c.in_ok-push-2.ensures {u = tt}).len, c.requires.matched.prices) in
    let raised_is : y.jobs.items ≡ c.push.new.self.items = ap (λ (v : Vec ℕ). v.items) up.same.0 in
    let jobs_is : t.jobs.items ≡ c.push.new.self.items = ap (λ (v : Vec ℕ). v.items) (added.same.0 ∙ up.same.0) in
    let prices_is : t.prices.items ≡ y.prices.items = ap (λ (v : Vec ℕ). v.items) added.same.1 in
    let es : vec_len y.columns ≡ n = ap (λ (v : Vec Place). vec_len v) up.same.1 in
    let ef : w.froms.items ≡ set x.froms.items n x.exit.from = added.froms ∙ ap (λ k. set x.froms.items k x.exit.from) es in
    let from = linked x.froms.items w.froms.items n x.exit.from ef (omega (arith, x.froms.ok.0, found.sizes.froms)) in
    let inside : (k : ℕ) → k ≤ n → get_or w.froms.items k 0 ≤ n = λ k le. elim (cases_eq k n) [
      | inl e ↦ rw (e, from.1) found.searched.exit_origin
      | inr d ↦ let lt : k < n = omega arith in rw (from.0 k lt) (found.searched.origin k lt)
    ] in
    let h : Raises (cost_of c.args.costs.now) c.push.new.self.items c.push-2.new.self.items s.columns.items s.duals.items c.args.free.now x.lengths.items x.froms.items x.ranks.items y.prices.items y.duals.items x.exit x.settled n =
    raises_from _ s.jobs.items s.prices.items _ _ _ _ _ _ _ _ _ _ _ _ n c.args.job ej ep (omega (arith, s.jobs.ok.0, c.requires.matched.jobs)) (omega (arith, s.prices.ok.0, c.requires.matched.prices)) (omega (arith, s.columns.ok.0))
    c.requires.matched.fair c.requires.matched.fair_free c.requires.matched.tight found.searched found.finished.far
    (λ q le. up.prices q (omega arith)) (λ k lt. up.duals k (omega (arith, c.requires.matched.duals))) in
    let fair : (q f : ℕ) → q ≤ n → f < length c.args.free.now → get_or y.prices.items q 0 ≤ cost_of c.args.costs.now (get_or c.push.new.self.items q 0) (get_or c.args.free.now f nowhere) = λ q f le lt. free_up h q f le lt in
    let room = room_up (cost_of c.args.costs.now) s.jobs.items s.prices.items c.push.new.self.items c.push-2.new.self.items y.prices.items x.lengths.items x.ranks.items x.nears.items c.args.free.now c.args.slacks.now c.tighten.new.slacks x.exit.length n c.args.job ej ep (omega (arith, s.jobs.ok.0, c.requires.matched.jobs)) (omega (arith, s.prices.ok.0, c.requires.matched.prices))
    c.requires.room c.requires.few found.searched.root_rank found.finished.far found.searched.within (λ q le. up.prices q (omega arith)) fair found.nears tight.less tight.near in
    record { at = λ q f lq lf. room_moved (cost_of c.args.costs.now) c.push.new.self.items z.jobs.items y.prices.items z.prices.items w.froms.items w.ranks.items c.args.free.now c.tighten.new.slacks (length c.args.slacks.now) n inside (λ k le. rw (jobs_is, prices_is, en) at (last.moved k (omega (arith, en)))) room q f (omega (arith, lq, z.jobs.ok.0, last.jobs_len, en)) (omega (arith, lf, tight.len)) }
