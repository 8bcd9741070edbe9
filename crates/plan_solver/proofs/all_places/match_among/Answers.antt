use Rattle.std.proofs.Common.{◌≡◌, [], ◌∷◌, ◌++◌, length, vec_len, get_or, set, ap, ◌∙◌, arith, Contains}
use Rattle.std.proofs.lemmas.List.Elements.{Contains-get_or}
use Rattle.plan_solver.specs.Costs.{nowhere}
use Rattle.plan_solver.proofs.ColumnGrowth.{by_device_more}
use Rattle.plan_solver.proofs.Gaps.{known_more, laid_next, matched_left, shows_left, some_free, taken_next}
use Rattle.plan_solver.proofs.all_places.match_among.Goals as goal

pub augment-requires-clause-some : goal.augment-requires-clause-some
augment-requires-clause-some c = some_free c.args.costs.now c.args.matching.now.columns.items c.args.free.now c.args.job c.requires.fill c.requires.shows c.requires.job (omega (arith, c.requires.room, c.args.matching.now.columns.ok.0))

pub returns-clause-known : goal.returns-clause-known
returns-clause-known c = known_more (vec_len c.args.costs.now.rows) c.args.matching.now.jobs.items c.augment.new.matching.jobs.items c.args.job c.requires.known c.requires.job (c.in_ok-at.ensures {u = tt}).jobs

pub returns-clause-matched : goal.returns-clause-matched
returns-clause-matched c =
    let s = c.in_ok-at.ensures {u = tt} in
    let left = c.in_ok-left.ensures {u = tt} in
    matched_left c.args.costs.now c.augment.new.matching c.args.free.now c.in_ok-left.left.items (get_or c.args.free.now c.in_ok-at.at nowhere) s.matched left.only

pub returns-clause-laid : goal.returns-clause-laid
returns-clause-laid c =
    let s = c.in_ok-at.ensures {u = tt} in
    let columns = c.args.matching.now.columns in
    let free = c.args.free.now in
    let at = c.in_ok-at.at in
    let p = get_or free at nowhere in
    let known = known_more (vec_len c.args.costs.now.rows) c.args.matching.now.jobs.items c.augment.new.matching.jobs.items c.args.job c.requires.known c.requires.job s.jobs in
    let found : Contains free p = Contains-get_or free at nowhere s.place in
    let next = taken_next c.args.costs.now c.augment.new.matching columns.items free p c.requires.fill s.matched c.requires.shows (omega (arith, c.requires.room, columns.ok.0)) known s.columns found in
    laid_next (vec_len c.args.costs.now.waits) columns.items _ p c.requires.laid (c.requires.shows.only p found).0 next s.columns

pub returns-clause-shows : goal.returns-clause-shows
returns-clause-shows c =
    let s = c.in_ok-at.ensures {u = tt} in
    let left = c.in_ok-left.ensures {u = tt} in
    let columns = c.args.matching.now.columns in
    let free = c.args.free.now in
    let at = c.in_ok-at.at in
    let p = get_or free at nowhere in
    let known = known_more (vec_len c.args.costs.now.rows) c.args.matching.now.jobs.items c.augment.new.matching.jobs.items c.args.job c.requires.known c.requires.job s.jobs in
    let found : Contains free p = Contains-get_or free at nowhere s.place in
    let next = taken_next c.args.costs.now c.augment.new.matching columns.items free p c.requires.fill s.matched c.requires.shows (omega (arith, c.requires.room, columns.ok.0)) known s.columns found in
    shows_left c.args.costs.now columns.items _ free c.in_ok-left.left.items p c.requires.shows next s.columns left.kept left.only

pub returns-clause-by_device : goal.returns-clause-by_device
returns-clause-by_device c =
    let s = c.in_ok-at.ensures {u = tt} in
    let columns = c.args.matching.now.columns in
    let free = c.args.free.now in
    let at = c.in_ok-at.at in
    let p = get_or free at nowhere in
    let known = known_more (vec_len c.args.costs.now.rows) c.args.matching.now.jobs.items c.augment.new.matching.jobs.items c.args.job c.requires.known c.requires.job s.jobs in
    let found : Contains free p = Contains-get_or free at nowhere s.place in
    let next = taken_next c.args.costs.now c.augment.new.matching columns.items free p c.requires.fill s.matched c.requires.shows (omega (arith, c.requires.room, columns.ok.0)) known s.columns found in
    let count : c.len-column.result ≡ length columns.items = omega (arith, c.len-column.ensures, columns.ok.0) in
    let longer = (c.in_ok-add_to_device.ensures {u = tt}) ∙ ap (λ n. set c.args.by_device.now p.device (get_or c.args.by_device.now p.device [] ++ n ∷ [])) count in
    by_device_more (vec_len c.args.costs.now.waits) columns.items _ p c.args.by_device.now c.add_to_device.new.by_device c.requires.by_device (c.requires.shows.only p found).0 next s.columns longer

pub add_to_device-requires : goal.add_to_device-requires
add_to_device-requires c =
    let at = c.in_ok-at.at in
    let found : Contains c.args.free.now (get_or c.args.free.now at nowhere) = Contains-get_or c.args.free.now at nowhere (c.in_ok-at.ensures {u = tt}).place in
    omega (arith, (c.requires.shows.only (get_or c.args.free.now at nowhere) found).0, c.requires.by_device.one_each)
