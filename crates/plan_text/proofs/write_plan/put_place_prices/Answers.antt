use Rattle.plan_text.proofs.Lines.{joined4, place_prices_text_is}
use Rattle.plan_text.proofs.write_plan.put_place_prices.Goals as goal

pub returns : goal.returns
returns c =
    joined4 _ _ _ _ _ _ _ _ _ _ (c.in_ok-extend_from_slice.ensures {u = tt}).items (c.in_ok-extend_from_slice-2.ensures {u = tt}).items (c.in_ok-put_prices.ensures {u = tt}) (c.in_ok-extend_from_slice-3.ensures {u = tt}).items
    (place_prices_text_is c.args.device.now c.args.places.now c.as_bytes.result.now c.prices.result.now c.as_bytes.ensures c.prices.ensures)
