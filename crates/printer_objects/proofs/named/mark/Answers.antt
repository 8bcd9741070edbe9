use Rattle.std.proofs.Common.{◌≡◌, ◌<◌, ◌+◌, rules, sym, subst, List, ℕ, true, false, length, take, take_all, get_or}
use Rattle.std.specs.Str.{bytes_eq}
use Rattle.printer_objects.specs.PrinterAttribute.{printer_table}
use Rattle.printer_objects.proofs.NamedMarks.{MarkedSoFar, all_marked, both_true, low_at, name_at, one_met, one_unmet}
use Rattle.printer_objects.proofs.named.mark.Goals.{then-eq, else-eq}
use Rattle.printer_objects.proofs.named.mark.Goals as goal

pub loop-place-preserved : goal.loop-place-preserved
loop-place-preserved c =
    let asked = c.args.asked.now in
    let places = c.places_of-place-items.result.now in
    let k = c.loop-place.place-index in
    let p : ℕ = get_or places k 0 in
    let inside : k < length places = c.loop-place-test.true in
    let is : p ≡ get_or places k p = search rules in
    let low : p < 34 = low_at places k (both_true _ _ c.places_of-place-items.ensures).0 inside in
    elim c.if-eq.branch [
      | then-eq w ↦
          let same : bytes_eq asked (name_at printer_table p) ≡ true = search rules in
          subst (MarkedSoFar asked c.args.marks.now (take (k + 1) places)) (sym w.marks-is) (one_met asked c.args.marks.now c.loop-place.marks places k p inside is low c.loop-place.invariant same)
      | else-eq w ↦
          let same : bytes_eq asked (name_at printer_table p) ≡ false = search rules in
          subst (MarkedSoFar asked c.args.marks.now (take (k + 1) places)) (sym w.marks-is) (one_unmet asked c.args.marks.now c.loop-place.marks places k p inside is c.loop-place.invariant same)
    ]

pub returns : goal.returns
returns c =
    let places = c.places_of-place-items.result.now in
    let whole : take c.loop-place.place-index places ≡ places = take_all c.loop-place.place-index places c.loop-place-test.false in
    all_marked c.args.asked.now c.args.marks.now c.loop-place.marks places c.told-marks c.places_of-place-items.ensures (subst (λ (ps : List ℕ). MarkedSoFar c.args.asked.now c.args.marks.now ps c.loop-place.marks) whole c.loop-place.invariant)
