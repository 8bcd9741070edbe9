use Rattle.std.proofs.Common.{List, ℕ, subst}
use Rattle.server.specs.Answering.{Replies}
use Rattle.server.specs.Enqueuing.{EnqueuesResponse}
use Rattle.server.specs.Polls.{Found}
use Rattle.server.specs.Rel.{Nothing, Chooses, Then}
use Rattle.server.proofs.Steps.{quietly_as, quietly_chosen, quietly_nothing}
use Rattle.server.proofs.ResponseBytes.{replied, lost, no_reply, as_equal}
use Rattle.server.proofs.engine.Engine.reply.Goals as goal

pub returns-in_default : goal.returns-in_default
returns-in_default g c = as_equal _ (Replies c.args.origin.key c.args.origin.id c.args.request c.args.query) _ _ _ _ _ _ c.in-Some.is (quietly_as _ Nothing _ _ _ _ _ (λ l hs l' fits fits' it. no_reply _ _ _ _ _ l hs l' c.in_default.not-Ipp it) (quietly_nothing _ _ _))

pub returns-in-Ok : goal.returns-in-Ok
returns-in-Ok g c =
    as_equal _ (Replies c.args.origin.key c.args.origin.id c.args.request c.args.query) _ _ _ _ _ _ c.in-Some.is (quietly_as _ _ _ _ _ _ _
    (λ l hs l' fits fits' it. replied _ _ _ _ _ _ l hs l' c.in-Ipp.is (c.in-Ok.bytes.items, c.in-Ok.ensures, subst (λ (bytes : List ℕ). Then (Chooses Found) (EnqueuesResponse c.args.origin.key bytes) l hs l') c.deref.ensures.value it))
    (quietly_chosen _ Found _ _ _ _ _ c.enqueue_reply.ensures))

pub returns-in-Err : goal.returns-in-Err
returns-in-Err g c = as_equal _ (Replies c.args.origin.key c.args.origin.id c.args.request c.args.query) _ _ _ _ _ _ c.in-Some.is (quietly_as _ _ _ _ _ _ _ (λ l hs l' fits fits' it. lost _ _ _ _ _ _ l hs l' c.in-Ipp.is it) c.lose_reply.ensures)
