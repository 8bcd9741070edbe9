use Rattle.std.proofs.Common.{◌∙◌, ℕ, Option, sym, subst}
use Rattle.print_room.specs.State.{State}
use Rattle.print_room.specs.StillGood.{HoldsFor, IsStillGood}
use Rattle.print_room.proofs.StillGood.{good_at}
use Rattle.print_room.proofs.room.PrintRoom.is_still_good.Goals as goal

pub returns-in-Some : goal.returns-in-Some
returns-in-Some c = λ is.
    let s : State = c.args.self.now in
    let known : HoldsFor c.self.inside.good_for s = subst (λ (t : State). HoldsFor c.self.inside.good_for t) c.self.view_is c.self.invariant.7 in
    let held : IsStillGood c.in-Some.then s = subst (λ (o : Option ℕ). HoldsFor o s) c.in-Some.is known in
    (held.0, held.1, good_at c.in-Some.then c.args.now s held.0 (sym c.waits_stay.ensures ∙ is) held.2)
