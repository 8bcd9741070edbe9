use Rattle.std.proofs.Common.{◌∙◌, refl, List, ℕ, subst, inl, inr}
use Rattle.server.specs.Enqueuing.{Enqueues}
use Rattle.server.specs.Polls.{Found}
use Rattle.server.specs.Rel.{Chooses, Then}
use Rattle.server.proofs.Steps.{quietly_as, quietly_chosen, quietly_from}
use Rattle.server.proofs.DeviceOrders.{breaks}
use Rattle.server.proofs.Joins.{notifies_then}
use Rattle.server.proofs.engine.Engine.show.Goals as goal

pub returns-in-Ok : goal.returns-in-Ok
returns-in-Ok g c =
    quietly_as _ _ _ _ _ _ _
    (λ l hs l' fits fits' it. inl (subst (λ (bytes : List ℕ). Then (Chooses Found) (Enqueues c.args.origin.key bytes) l hs l') (c.deref.ensures.value ∙ c.in-Ok.ensures) it))
    (quietly_chosen _ Found _ _ _ _ _ c.enqueue.ensures)

pub returns-in-Err : goal.returns-in-Err
returns-in-Err g c =
    quietly_as _ _ _ _ _ _ _ (λ l hs l' fits fits' it. inr it)
    (notifies_then c.refused.ensures (quietly_from _ _ _ _ _ _ _ _ c.self.view_is refl (breaks _ _ _ _ _ c.break_off.ensures)))
