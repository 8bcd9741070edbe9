use Rattle.std.proofs.Common.{◌≡◌, ◌≤◌, ◌∙◌, ◌∷◌, List, ℕ, arith, length, sym, ap, subst}
use Rattle.print_room.specs.Jobs.{canceling, canceling_each}
use Rattle.print_room.specs.State.{State}
use Rattle.listings.specs.Removal.{named_jobs}
use Rattle.listings.proofs.RemovalCancels.{next_named, none_named}
use Rattle.listings.proofs.removal.remove_named.Goals as goal

pub cancel-requires-clause-free : goal.cancel-requires-clause-free
cancel-requires-clause-free c = (next_named c.args.now c.args.printer c.args.request.now c.loop-id.room c.in-Some.id c.in-Some.ensures.kept (sym c.in-Some.ensures.value)).is_free

pub loop-id-smaller : goal.loop-id-smaller
loop-id-smaller c =
    let request = c.args.request.now in
    let next = next_named c.args.now c.args.printer request c.loop-id.room c.in-Some.id c.in-Some.ensures.kept (sym c.in-Some.ensures.value) in
    let others : named_jobs c.args.printer request c.loop-id.room ≡ c.in-Some.id ∷ named_jobs c.args.printer request c.cancel.new.room = subst (λ (s : State). named_jobs c.args.printer request c.loop-id.room ≡ c.in-Some.id ∷ named_jobs c.args.printer request s) (sym c.cancel.ensures) next.others in
    let sizes = ap (λ (ids : List ℕ). length ids) others in
    omega arith

pub loop-id-preserved : goal.loop-id-preserved
loop-id-preserved c =
    let request = c.args.request.now in
    let next = next_named c.args.now c.args.printer request c.loop-id.room c.in-Some.id c.in-Some.ensures.kept (sym c.in-Some.ensures.value) in
    let all : canceling_each c.args.now request.agent (named_jobs c.args.printer request c.loop-id.room) c.loop-id.room ≡ canceling_each c.args.now request.agent (named_jobs c.args.printer request (canceling c.args.now c.in-Some.id request.agent c.loop-id.room)) (canceling c.args.now c.in-Some.id request.agent c.loop-id.room) = ap (λ (ids : List ℕ). canceling_each c.args.now request.agent ids c.loop-id.room) next.others in (
      subst (λ (s : State). s.last ≤ c.args.now) (sym c.cancel.ensures) (omega arith),
      subst (λ (s : State). canceling_each c.args.now request.agent (named_jobs c.args.printer request s) s ≡ canceling_each c.args.now request.agent (named_jobs c.args.printer request c.args.room.now) c.args.room.now) (sym c.cancel.ensures) (sym all ∙ c.loop-id.invariant.1),
    )

pub returns : goal.returns
returns c =
    let request = c.args.request.now in
    let none = none_named c.args.printer request c.loop-id.room (sym c.in_default.ensures.value) in
    c.advance.ensures.state ∙ (ap (λ (ids : List ℕ). canceling_each c.args.now request.agent ids c.loop-id.room) (sym none) ∙ c.loop-id.invariant.1)
