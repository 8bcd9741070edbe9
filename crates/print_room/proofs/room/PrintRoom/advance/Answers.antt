use Rattle.std.proofs.Common.{◌≤◌, sym, subst}
use Rattle.print_room.specs.State.{State}
use Rattle.print_room.proofs.Devices.{all_keep_later}
use Rattle.print_room.proofs.StillGood.{holds_later}
use Rattle.print_room.proofs.room.PrintRoom.advance.Goals as goal

pub invariant_of-self : goal.invariant_of-self
invariant_of-self c = (
  all_keep_later c.self.inside.last c.args.now c.self.inside.devices.items (subst (λ (s : State). s.last ≤ c.args.now) (sym c.self.view_is) c.requires) c.self.invariant.0,
  c.self.invariant.1,
  c.self.invariant.2,
  c.self.invariant.3,
  c.self.invariant.4,
  c.self.invariant.5,
  c.self.invariant.6,
  holds_later c.self.inside.good_for _ c.args.now c.self.invariant.7,
  c.self.invariant.8,
)
