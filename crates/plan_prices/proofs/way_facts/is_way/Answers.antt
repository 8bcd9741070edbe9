use Rattle.std.proofs.Common.{◌≡◌, true, length, ap, sym, ◌∙◌}
use Rattle.std.proofs.lemmas.Bool.{both_ways, ne_eqb}
use Rattle.plan_prices.proofs.Names.{way_from_parts}
use Rattle.plan_prices.proofs.way_facts.is_way.Goals as goal
use Rattle.plan_prices.proofs.way_facts.is_way.Goals.{then-queues-waits, else-queues-waits, then-names_known, else-names_known, then-none_twice, else-none_twice}

pub returns-then-all_named : goal.returns-then-all_named
returns-then-all_named c = elim c.if-none_twice.branch [
  | then-none_twice w ↦ elim c.if-names_known.branch [
    | then-names_known v ↦ elim c.if-queues-waits.branch [
      | then-queues-waits u ↦
          let known : u.names_known.result ≡ true = cc in
          let twice : v.none_twice.result ≡ true = cc in
          let named : w.all_named.result ≡ true = cc in
          let lists : length c.args.way.now ≡ length c.args.class.now.waits = ap length (sym c.queues.ensures) ∙ u.if-queues-waits.true ∙ ap length c.waits.ensures.waits in (
            λ able. way_from_parts c.args.class.now c.args.way.now lists (u.names_known.ensures.0 known) (v.none_twice.ensures.0 twice) (w.all_named.ensures.0 named) (c.all_able.ensures.0 able),
            λ way. c.all_able.ensures.1 way.able,
          )
      | else-queues-waits u ↦ absurd (both_ways c.if-queues-waits.value (u.value-is ∙ ne_eqb (length c.queues.result.now) (length c.waits.result.now) u.if-queues-waits.false) v.if-names_known.true)
    ]
    | else-names_known v ↦ absurd (both_ways c.if-names_known.value (v.value-is ∙ v.if-names_known.false) w.if-none_twice.true)
  ]
  | else-none_twice w ↦ absurd (both_ways c.if-none_twice.value (w.value-is ∙ w.if-none_twice.false) c.if-all_named.true)
]
