use Rattle.std.proofs.Common.{◌≡◌, ◌<◌, [], ◌∷◌, ◌++◌, length, get_or, set, ap, ◌∙◌, refl, vec_len, arith, rules}
use Rattle.std.specs.Global.{Vec}
use Rattle.plan_solver.specs.declared.costs.Place.{Place}
use Rattle.plan_solver.proofs.Laid.{fair_later, laid_now, room_later, matched_with, shown_low, shows_now}
use Rattle.plan_solver.specs.Layout.{next_place}
use Rattle.plan_solver.proofs.ColumnGrowth.{by_device_more}
use Rattle.plan_solver.proofs.solver.add_job.Goals as goal

pub advance-requires-clause-room : goal.advance-requires-clause-room
advance-requires-clause-room c =
    let s = c.in_ok-device.ensures {u = tt} in
    let columns = c.args.matching.now.columns in
    omega (arith, shown_low (vec_len c.args.costs.now.waits) c.in_ok-device.device columns.items c.args.free.now c.requires.shows (omega (arith, s.place, c.requires.shows.one_each)) (omega (arith, columns.ok.0, columns.small)))

pub lift-requires-clause-matched : goal.lift-requires-clause-matched
lift-requires-clause-matched c =
    let s = c.in_ok-device.ensures {u = tt} in
    let now = c.augment.new.matching in
    matched_with c.args.costs.now now c.args.free.now _ s.matched (fair_later c.args.costs.now c.in_ok-device.device now.jobs.items now.prices.items c.args.free.now _ s.matched.fair_free s.place c.advance.ensures)

pub slack-requires-clause-fair : goal.slack-requires-clause-fair
slack-requires-clause-fair c = λ q lq.
    let s = c.in_ok-device.ensures {u = tt} in
    let now = c.augment.new.matching in
    let fair = fair_later c.args.costs.now c.in_ok-device.device now.jobs.items now.prices.items c.args.free.now _ s.matched.fair_free s.place c.advance.ensures in
    omega (arith, fair.at q c.in_ok-device.device (omega (arith, lq, s.matched.jobs, now.jobs.ok.0)) (search rules))

pub lift-requires-clause-room : goal.lift-requires-clause-room
lift-requires-clause-room c =
    let s = c.in_ok-device.ensures {u = tt} in
    let now = c.augment.new.matching in
    room_later c.args.costs.now c.in_ok-device.device c.slack.result now.jobs.items now.prices.items c.args.free.now _ c.augment.new.slacks _ s.room (search rules) (search rules) c.advance.ensures (search rules) (λ q lq. search rules)

pub returns-clause-laid : goal.returns-clause-laid
returns-clause-laid c =
    let s = c.in_ok-device.ensures {u = tt} in
    let same : c.lift.new.matching.columns.items ≡ c.augment.new.matching.columns.items = ap (λ (v : Vec Place). v.items) c.lift.ensures.same.1 in
    laid_now (vec_len c.args.costs.now.waits) c.in_ok-device.device c.args.matching.now.columns.items c.args.free.now _ c.requires.laid c.requires.shows (omega (arith, s.place, c.requires.shows.one_each)) (same ∙ s.columns)

pub returns-clause-shows : goal.returns-clause-shows
returns-clause-shows c =
    let s = c.in_ok-device.ensures {u = tt} in
    let same : c.lift.new.matching.columns.items ≡ c.augment.new.matching.columns.items = ap (λ (v : Vec Place). v.items) c.lift.ensures.same.1 in
    shows_now (vec_len c.args.costs.now.waits) c.in_ok-device.device c.args.matching.now.columns.items c.args.free.now _ _ c.requires.shows (omega (arith, s.place, c.requires.shows.one_each)) (same ∙ s.columns) c.advance.ensures

pub returns-clause-by_device : goal.returns-clause-by_device
returns-clause-by_device c =
    let s = c.in_ok-device.ensures {u = tt} in
    let device = c.in_ok-device.device in
    let columns = c.args.matching.now.columns in
    let same : c.lift.new.matching.columns.items ≡ c.augment.new.matching.columns.items = ap (λ (v : Vec Place). v.items) c.lift.ensures.same.1 in
    let lt : device < vec_len c.args.costs.now.waits = omega (arith, s.place, c.requires.shows.one_each) in
    let place = next_place device columns.items in
    let grown : c.lift.new.matching.columns.items ≡ columns.items ++ place ∷ [] = same ∙ s.columns ∙ ap (λ (p : Place). columns.items ++ p ∷ []) (c.requires.shows.next device lt) in
    let count : c.len-column.result ≡ length columns.items = omega (arith, c.len-column.ensures, columns.ok.0) in
    let longer = (c.in_ok-add_to_device.ensures {u = tt}) ∙ ap (λ n. set c.args.by_device.now device (get_or c.args.by_device.now device [] ++ n ∷ [])) count in
    by_device_more (vec_len c.args.costs.now.waits) columns.items _ place c.args.by_device.now c.add_to_device.new.by_device c.requires.by_device lt refl grown longer
