use Rattle.std.proofs.Common.{rules, ◌≡◌, ◌∙◌, ◌≤◌, ◌<◌, ◌++◌, ℕ, List, [], ◌∷◌, map, take, length, get_or, All, ap, sym, subst}
use Rattle.std.proofs.lemmas.List.{map_more}
use Rattle.std.proofs.lemmas.List.Elements.{All-append, All-cons, All-nil}
use Rattle.base_types.specs.declared.limits.TheConstants.Limits.{NOT_BEFORE}
use Rattle.base_types.specs.Device.{Device}
use Rattle.print_room.specs.Activity.{KeepsTime, wait_of}
use Rattle.print_room.proofs.room.PrintRoom.waits.Goals as goal

pub loop-device-preserved : goal.loop-device-preserved
loop-device-preserved c =
    let IsShort : ℕ → Type 0 = λ wait. wait ≤ NOT_BEFORE in
    let now = c.args.now in
    let place = c.loop-device.device-index in
    let devices : List Device = c.deref-device-items.result.now in
    let device : Device = c.device-item.result in
    let waits : List ℕ = c.loop-device.waits.items in
    let at : device ≡ get_or devices place device = search rules in
    let inside : place < length devices = search rules in
    let kept : KeepsTime c.self.inside.last device.activity = search rules in
    let short : IsShort c.wait_of.result = c.wait_of.ensures.short c.self.inside.last (search rules) kept in
    let more : c.push.new.self.items ≡ waits ++ c.wait_of.result ∷ [] = c.in_ok-push.ensures.items in (
      more
          ∙ (ap (λ (ws : List ℕ). ws ++ c.wait_of.result ∷ []) c.loop-device.invariant.0
          ∙ (ap (λ (wait : ℕ). map (wait_of now) (take place devices) ++ wait ∷ []) (c.wait_of.ensures.value ∙ ap (wait_of now) at)
          ∙ sym (map_more (wait_of now) devices place device inside))),
      subst (λ (ws : List ℕ). All IsShort ws) (sym more) (All-append IsShort waits (c.wait_of.result ∷ []) c.loop-device.invariant.1 (All-cons IsShort c.wait_of.result [] short (All-nil IsShort))),
    )
