use Rattle.std.proofs.Common.{◌≡◌, ◌≢◌, ℕ, ◌+◌, ◌<◌, List, length, get_or, set, ◌∙◌, arith, rules}
use Rattle.std.proofs.Math.ListN.{replicate}
use Rattle.std.proofs.lemmas.List.{get_or-set_same, get_or-set_other, get_or-replicate}
use Rattle.plan_solver.specs.declared.search.TheConstants.{UNSETTLED, FAR}
use Rattle.plan_solver.proofs.Listed.{far_count-le, far_count-reached}
use Rattle.plan_solver.proofs.Count.{open_count-set, open_count-le}
use Rattle.plan_solver.proofs.search.blank.Goals as goal

-- a list of one number, with one place changed
others : (xs : List ℕ) (n len a b c : ℕ) → xs ≡ replicate len a → len ≡ n + 1 → c < n → get_or (set xs n b) c 0 ≡ a
others xs n len a b c e el lt =
    let ne : c ≢ n = omega arith in
    get_or-set_other xs n c b 0 ne ∙ rw e (get_or-replicate len c a 0 (omega arith))

at_end : (xs : List ℕ) (n len b : ℕ) → length xs ≡ len → len ≡ n + 1 → get_or (set xs n b) n 0 ≡ b
at_end xs n len b e el = get_or-set_same xs n b 0 (omega arith)

pub returns : goal.returns
returns c =
    let ls = c.in_ok-lengths.lengths in
    let fs = c.in_ok-froms.froms in
    let rs = c.in_ok-ranks.ranks in
    let gave_l = c.in_ok-lengths.ensures {u = tt} in
    let gave_f = c.in_ok-froms.ensures {u = tt} in
    let gave_r = c.in_ok-ranks.ensures {u = tt} in
    let el : ls.items ≡ replicate c.args.len FAR = gave_l.items_if_clones_equal (λ y e. e) in
    let er : rs.items ≡ replicate c.args.len UNSETTLED = gave_r.items_if_clones_equal (λ y e. e) in
    let ef : fs.items ≡ replicate c.args.len c.args.new = gave_f.items_if_clones_equal (λ y e. e) in
    let ll : length ls.items ≡ c.args.len = omega (arith, ls.ok.0, gave_l.len) in
    let lr : length rs.items ≡ c.args.len = omega (arith, rs.ok.0, gave_r.len) in
    let at : get_or rs.items c.args.new 0 ≡ UNSETTLED = rw er (get_or-replicate c.args.len c.args.new UNSETTLED 0 (omega (arith, c.requires))) in
    let count = open_count-set rs.items c.args.new 0 (omega (arith, c.requires)) at (λ e. omega (arith, e)) in
    let ts = c.in_ok-reached.reached in
    let gave_t = c.in_ok-reached.ensures {u = tt} in
    let first : get_or ls.items c.args.new 0 ≡ FAR = rw el (get_or-replicate c.args.len c.args.new FAR 0 (omega (arith, c.requires))) in
    let far = far_count-reached ls.items c.args.new 0 (omega (arith, c.requires)) (omega (arith, first)) (omega arith) in
    record {
      lengths = omega (arith, gave_l.len, c.requires);
      froms = omega (arith, gave_f.len, c.requires);
      ranks = omega (arith, gave_r.len, c.requires);
      far = λ k lt. others ls.items c.args.new c.args.len FAR 0 k el c.requires lt;
      root = at_end ls.items c.args.new c.args.len 0 ll c.requires;
      from_root = λ k lt. rw ef (get_or-replicate c.args.len k c.args.new 0 (omega (arith, c.requires)));
      unsettled = λ k lt. others rs.items c.args.new c.args.len UNSETTLED 0 k er c.requires lt;
      root_rank = at_end rs.items c.args.new c.args.len 0 lr c.requires;
      far_exit = search rules;
      settled = search rules;
      listed = record {
        len = omega (arith, ts.ok.0, gave_t.len, gave_l.len);
        columns = record {
          room = omega (arith, far, far_count-le ls.items, c.requires, gave_t.len);
          known = λ i lt. absurd (omega (arith, lt));
          there = λ k lt unsettled short. absurd (omega (arith, short, others ls.items c.args.new c.args.len FAR 0 k el c.requires (omega (arith, lt, c.requires, gave_t.len))));
        };
      };
      nears = omega (arith, (c.in_ok-nears.ensures {u = tt}).len);
      counted = omega (arith, count, open_count-le rs.items, c.requires);
    }
