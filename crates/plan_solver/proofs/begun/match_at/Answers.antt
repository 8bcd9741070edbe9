use Rattle.std.proofs.Common.{◌≡◌, ◌+◌, ◌<◌, [], ◌∷◌, ◌++◌, List, ℕ, length, vec_len, get_or, set, ap, ◌∙◌, refl, arith}
use Rattle.std.specs.Vec.{with_items}
use Rattle.std.proofs.lemmas.List.{get_or_read, with_items_is}
use Rattle.std.proofs.Math.ListN.{length-set}
use Rattle.plan_solver.specs.declared.begun.Begun.{Begun}
use Rattle.plan_solver.specs.declared.costs.Place.{Place}
use Rattle.plan_solver.specs.Costs.{cost_at, cost_of, nowhere}
use Rattle.plan_solver.specs.Layout.{place_before}
use Rattle.plan_solver.proofs.LaidOutJobs.{laid_out_more}
use Rattle.plan_solver.proofs.Laid.{shown_low}
use Rattle.plan_solver.proofs.begun.match_at.Goals as goal

pub advance-requires-clause-room : goal.advance-requires-clause-room
advance-requires-clause-room c =
    let h = c.requires.laid_out in
    let b = c.args.begun.now in
    let columns = b.matching.columns in
    rw (c.deref_mut-2.ensures.value) (omega (arith, shown_low (vec_len c.args.costs.now.waits) c.args.stay.device columns.items b.free.items h.shows (omega (arith, c.requires.device, h.shows.one_each, b.free.ok.0)) (omega (arith, columns.ok.0, columns.small))))

pub returns-clause-laid_out : goal.returns-clause-laid_out
returns-clause-laid_out c =
    let h = c.requires.laid_out in
    let b = c.args.begun.now in
    let costs = c.args.costs.now in
    let device = c.args.stay.device in
    let columns = b.matching.columns in
    let lt : device < vec_len costs.waits = omega (arith, c.requires.device, h.shows.one_each, b.free.ok.0) in
    let place : c.index-place.result.now ≡ get_or b.free.items device nowhere = get_or_read b.free.items device _ (omega (arith, c.requires.device, b.free.ok.0)) c.index-place.ensures nowhere in
    let count : c.len-column.result ≡ length columns.items = omega (arith, c.len-column.ensures, columns.ok.0) in
    let by_device : c.add_to_device.new.by_device ≡ set b.by_device.items device (get_or b.by_device.items device [] ++ length columns.items ∷ []) =
    (c.in_ok-add_to_device.ensures {u = tt}) ∙ ap (λ (l : List (List ℕ)). set l device (get_or l device [] ++ c.len-column.result ∷ [])) c.deref_mut.ensures.value ∙ ap (λ n. set b.by_device.items device (get_or b.by_device.items device [] ++ n ∷ [])) count in
    let free : c.advance.new.free ≡ set b.free.items device (place_before (get_or b.free.items device nowhere)) =
    c.advance.ensures ∙ ap (λ (l : List Place). set l device (place_before (get_or l device nowhere))) c.deref_mut-2.ensures.value in
    let cost : c.cost.result ≡ cost_of costs c.args.job (get_or b.free.items device nowhere) =
    c.cost.ensures.value ∙ ap (λ (w : List ℕ). cost_at w c.row.result.now c.index-place.result.now) c.deref.ensures.value ∙ ap (λ (r : List ℕ). cost_at costs.waits.items r c.index-place.result.now) c.row.ensures ∙ ap (λ (p : Place). cost_of costs c.args.job p) place in
    let by_device_len : length c.add_to_device.new.by_device ≡ b.by_device.len = omega (arith, ap length by_device, length-set b.by_device.items device (get_or b.by_device.items device [] ++ length columns.items ∷ []), b.by_device.ok.0) in
    let free_len : length c.advance.new.free ≡ b.free.len = omega (arith, ap length free, length-set b.free.items device (place_before (get_or b.free.items device nowhere)), b.free.ok.0) in
    let new : Begun = record {
      matching = record { columns = c.push.new.self; duals = c.push-2.new.self; jobs = c.push-3.new.self; prices = c.push-4.new.self };
      by_device = with_items b.by_device c.add_to_device.new.by_device;
      free = with_items b.free c.advance.new.free;
      slacks = b.slacks;
      left = b.left;
    } in
    let column = c.in_ok-push.ensures {u = tt} in
    let dual = c.in_ok-push-2.ensures {u = tt} in
    let job = c.in_ok-push-3.ensures {u = tt} in
    let price = c.in_ok-push-4.ensures {u = tt} in
    laid_out_more costs b new device c.args.job (c.cost.result + c.args.stay.dual) c.args.stay.dual h lt (omega (arith, cost))
    (column.items ∙ ap (λ (p : Place). columns.items ++ p ∷ []) place) dual.items job.items price.items column.len dual.len job.len price.len
    (with_items_is b.by_device c.add_to_device.new.by_device by_device_len ∙ by_device) (with_items_is b.free c.advance.new.free free_len ∙ free) refl
