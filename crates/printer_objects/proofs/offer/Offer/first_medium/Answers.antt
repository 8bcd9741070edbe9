use Rattle.std.proofs.Common.{◌≡◌, ◌∙◌, ℕ, List, sym, ap, arith, Some, None, find}
use Rattle.std.specs.List.{flat_map}
use Rattle.std.specs.Option.{option_copied}
use Rattle.printer_objects.specs.declared.together.Listed.TheVariants.{Media}
use Rattle.std.specs.Str.{bytes_eq}
use Rattle.printer_objects.specs.Offer.{listed_at}
use Rattle.printer_objects.proofs.Searches.{found_at, not_at}
use Rattle.printer_objects.proofs.offer.Offer.first_medium.Goals as goal

pub returns-in-Some : goal.returns-in-Some
returns-in-Some c =
    let here : Some c.in-Some.medium.now ≡ find (bytes_eq c.args.name.now) (listed_at Media c.args.self.now c.place-item.result) = ap option_copied (sym c.in-Some.is) ∙ c.medium_at.ensures in
    found_at (bytes_eq c.args.name.now) (listed_at Media c.args.self.now) c.places-places.result.now c.loop-place.place-index c.place-item.result _ (omega (arith, c.loop-place-test.true)) c.place-item.is here
    ∙ (c.loop-place.invariant
    ∙ ap (λ (places : List ℕ). find (bytes_eq c.args.name.now) (flat_map (listed_at Media c.args.self.now) places)) c.places-places.ensures)

pub loop-place-preserved : goal.loop-place-preserved
loop-place-preserved c =
    let none : None ≡ find (bytes_eq c.args.name.now) (listed_at Media c.args.self.now c.place-item.result) = ap option_copied (sym c.in_default.is) ∙ c.medium_at.ensures in
    sym (not_at (bytes_eq c.args.name.now) (listed_at Media c.args.self.now) c.places-places.result.now c.loop-place.place-index c.place-item.result (omega (arith, c.loop-place-test.true)) c.place-item.is none) ∙ c.loop-place.invariant
