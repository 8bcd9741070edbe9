use Rattle.std.proofs.Common.{ℕ, arith, sym, ◌∙◌}
use Rattle.connections.specs.Connections.{ConnectionState}
use Rattle.connections.proofs.Keys.{none_after, none_left, within}
use Rattle.connections.proofs.table.keys.Goals as goal

pub returns-in-Some : goal.returns-in-Some
returns-in-Some c =
    let slots = c.args.connections.now.slots in
    let last : ℕ × ConnectionState = (c.in-Some.last, c.in-Some.field-0-1.now) in
    let are = sym c.iter.ensures.rest ∙ c.in-Some.ensures.steps in
    let room = within slots 0 c.next_back.new.self last are in
    λ key above. none_after slots 0 c.next_back.new.self last key are (omega (arith, above, room, c.min.ensures, c.saturating_add.ensures, c.capacity-most.ensures.slots, c.capacity-most.type_inv))

pub returns-in-None : goal.returns-in-None
returns-in-None c = λ key above. none_left c.args.connections.now.slots 0 key (sym c.iter.ensures.rest ∙ c.in-None.ensures.steps.0)
