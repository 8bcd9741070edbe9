use Rattle.std.proofs.Common.{refl, inl, inr}
use Rattle.plan_prices.proofs.Each.{none_is_true}
use Rattle.plan_prices.proofs.Names.{way_from_parts}
use Rattle.plan_checker.proofs.class_verdict.judge.Goals as goal

pub totals_agree-requires-clause-way : goal.totals_agree-requires-clause-way
totals_agree-requires-clause-way c =
    let missing = c.if-not-none_missing.ensures.0 refl in
    way_from_parts c.args.class.now c.args.priced.now.way c.requires.queues (c.if-not-names_known.ensures.0 refl) (c.if-not-none_twice.ensures.0 refl) missing.jobs (c.if-not-all_able.ensures.0 refl)

pub returns-then-not-names_known : goal.returns-then-not-names_known
returns-then-not-names_known c = inl (refl, λ h. none_is_true (c.if-not-names_known.ensures.1 h))

pub returns-then-not-none_twice : goal.returns-then-not-none_twice
returns-then-not-none_twice c = inr (c.if-not-names_known.ensures.0 refl, inl (refl, λ h. none_is_true (c.if-not-none_twice.ensures.1 h.in_way)))

pub returns-then-not-none_elsewhere : goal.returns-then-not-none_elsewhere
returns-then-not-none_elsewhere c = inr (c.if-not-names_known.ensures.0 refl, inl (refl, λ h. none_is_true (c.if-not-none_elsewhere.ensures.1 h.elsewhere)))

pub returns-then-not-none_missing : goal.returns-then-not-none_missing
returns-then-not-none_missing c = inr (c.if-not-names_known.ensures.0 refl, inr (record { in_way = c.if-not-none_twice.ensures.0 refl; elsewhere = c.if-not-none_elsewhere.ensures.0 refl }, inl (refl, λ h. none_is_true (c.if-not-none_missing.ensures.1 h))))

pub returns-then-not-all_able : goal.returns-then-not-all_able
returns-then-not-all_able c = inr (c.if-not-names_known.ensures.0 refl, inr (record { in_way = c.if-not-none_twice.ensures.0 refl; elsewhere = c.if-not-none_elsewhere.ensures.0 refl }, inr (c.if-not-none_missing.ensures.0 refl, inl (refl, λ h. none_is_true (c.if-not-all_able.ensures.1 h)))))

pub returns-then-not-waits_follow : goal.returns-then-not-waits_follow
returns-then-not-waits_follow c = inr (c.if-not-names_known.ensures.0 refl, inr (record { in_way = c.if-not-none_twice.ensures.0 refl; elsewhere = c.if-not-none_elsewhere.ensures.0 refl }, inr (c.if-not-none_missing.ensures.0 refl, inr (c.if-not-all_able.ensures.0 refl, inl (refl, λ h. none_is_true (c.if-not-waits_follow.ensures.1 h))))))

pub returns-then-not-no_place_positive : goal.returns-then-not-no_place_positive
returns-then-not-no_place_positive c = inr (c.if-not-names_known.ensures.0 refl, inr (record { in_way = c.if-not-none_twice.ensures.0 refl; elsewhere = c.if-not-none_elsewhere.ensures.0 refl }, inr (c.if-not-none_missing.ensures.0 refl, inr (c.if-not-all_able.ensures.0 refl, inr (c.if-not-waits_follow.ensures.0 refl, inl (refl, λ h. none_is_true (c.if-not-no_place_positive.ensures.1 (rw c.places.ensures h))))))))

pub returns-then-not-all_fair : goal.returns-then-not-all_fair
returns-then-not-all_fair c = inr (c.if-not-names_known.ensures.0 refl, inr (record { in_way = c.if-not-none_twice.ensures.0 refl; elsewhere = c.if-not-none_elsewhere.ensures.0 refl }, inr (c.if-not-none_missing.ensures.0 refl, inr (c.if-not-all_able.ensures.0 refl, inr (c.if-not-waits_follow.ensures.0 refl, inr (rw c.places.ensures at (c.if-not-no_place_positive.ensures.0 refl), inl (refl, λ h. none_is_true (c.if-not-all_fair.ensures.1 h))))))))

pub returns-then-not-totals_agree : goal.returns-then-not-totals_agree
returns-then-not-totals_agree c = inr (c.if-not-names_known.ensures.0 refl, inr (record { in_way = c.if-not-none_twice.ensures.0 refl; elsewhere = c.if-not-none_elsewhere.ensures.0 refl }, inr (c.if-not-none_missing.ensures.0 refl, inr (c.if-not-all_able.ensures.0 refl, inr (c.if-not-waits_follow.ensures.0 refl, inr (rw c.places.ensures at (c.if-not-no_place_positive.ensures.0 refl), inr (c.if-not-all_fair.ensures.0 refl, inl (refl, λ h. none_is_true (c.if-not-totals_agree.ensures.1 h)))))))))

pub returns : goal.returns
returns c = (c.if-not-names_known.ensures.0 refl, (record { in_way = c.if-not-none_twice.ensures.0 refl; elsewhere = c.if-not-none_elsewhere.ensures.0 refl }, (c.if-not-none_missing.ensures.0 refl, (c.if-not-all_able.ensures.0 refl, (c.if-not-waits_follow.ensures.0 refl, (rw c.places.ensures at (c.if-not-no_place_positive.ensures.0 refl), (c.if-not-all_fair.ensures.0 refl, (c.if-not-totals_agree.ensures.0 refl, tt))))))))
