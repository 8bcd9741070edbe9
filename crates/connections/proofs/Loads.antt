-- How much a connection can bring yet.
use Rattle.std.proofs.Common.{◌≡◌, ◌≤◌, ◌<◌, ◌+◌, arith, ℕ, Bool, true, false, refl, sym, ◌∙◌, ap, subst, Some, inl, inr}
use Rattle.std.specs.Prelude.{◌||◌, ◌⊎◌, if◌then◌else◌}
use Rattle.http_front.specs.declared.item.HttpItem.{HttpItem}
use Rattle.http_front.specs.declared.item.HttpItem.TheVariants as item
use Rattle.lpd.specs.Stream as Lpd
use Rattle.device_link.specs.Stream as Link
use Rattle.settings_file.specs.Settings.{ServerSettings}
use Rattle.connections.specs.declared.ask.Ask.{Ask}
use Rattle.connections.specs.declared.peer.Peer.{Peer}
use Rattle.connections.specs.declared.peer.Peer.TheVariants as of
use Rattle.connections.specs.declared.step.Step.{Step}
use Rattle.connections.specs.declared.step.Step.TheVariants as step
use Rattle.connections.specs.States.{IppClientState}
use Rattle.connections.specs.Steps.{due_bytes}
use Rattle.connections.specs.Peers.{HandlesIpp, NextPeer, work}
use Rattle.connections.specs.Connections.{ConnectionState, load, with_peer, is_draining, is_broken, is_kept, Takes}

at_most : (x : Bool) (n : ℕ) → (if x then 0 else n) ≤ n
at_most true n = omega arith
at_most false n = omega arith

load_within : (c : ConnectionState) → load c ≤ 1 + work c.peer
load_within c = at_most (c.draining || c.broken) (1 + work c.peer)

load_counts : (c : ConnectionState) → (c.draining || c.broken) ≡ false → load c ≡ 1 + work c.peer
load_counts c counts = ap (λ (x : Bool). if x then 0 else 1 + work c.peer) counts

none_off : (x : Bool) (n : ℕ) → (if x || true then 0 else n) ≡ 0
none_off true n = refl
none_off false n = refl

-- a step after which nothing more comes
abbrev pub IsLast : Step → Type 0
IsLast (step.Due due last) = last ≡ true
IsLast (step.Asks ask last) = last ≡ true
IsLast (step.Breaks ask) = Unit {0}

load_as : (c d : ConnectionState) (n : ℕ) → d ≡ c → load c ≤ n → load d ≤ n
load_as c d n is most = subst (λ (x : ConnectionState). load x ≤ n) (sym is) most

off_last : (last off : Bool) (n : ℕ) → last ≡ true → (if last || off then 0 else n) ≤ 0
off_last true off n is = omega arith
off_last false off n is = cc

off_broken : (last : Bool) (n : ℕ) → (if last || true then 0 else n) ≤ 0
off_broken true n = omega arith
off_broken false n = omega arith

-- the load after a step is at most the peer's work, and nothing after the last step
takes_within : (what : Step) (asked : Ask) (c d : ConnectionState) (p : Peer) → Takes what (with_peer p c) asked d → load d ≤ 1 + work p
takes_within (step.Due due last) asked c d p (inl (is, now)) = load_as (is_kept (due_bytes due) (is_draining last (with_peer p c))) d (1 + work p) now (load_within (is_kept (due_bytes due) (is_draining last (with_peer p c))))
takes_within (step.Due due last) asked c d p (inr (is, full, now)) = load_as (is_broken (is_draining last (with_peer p c))) d (1 + work p) now (load_within (is_broken (is_draining last (with_peer p c))))
takes_within (step.Asks ask last) asked c d p (is, now) = load_as (is_draining last (with_peer p c)) d (1 + work p) now (load_within (is_draining last (with_peer p c)))
takes_within (step.Breaks ask) asked c d p (is, now) = load_as (is_broken (with_peer p c)) d (1 + work p) now (load_within (is_broken (with_peer p c)))

takes_last : (what : Step) (asked : Ask) (c d : ConnectionState) (p : Peer) → IsLast what → Takes what (with_peer p c) asked d → load d ≤ 0
takes_last (step.Due due last) asked c d p ends (inl (is, now)) = load_as (is_kept (due_bytes due) (is_draining last (with_peer p c))) d 0 now (off_last last c.broken (1 + work p) ends)
takes_last (step.Due due last) asked c d p ends (inr (is, full, now)) = load_as (is_broken (is_draining last (with_peer p c))) d 0 now (off_broken last (1 + work p))
takes_last (step.Asks ask last) asked c d p ends (is, now) = load_as (is_draining last (with_peer p c)) d 0 now (off_last last c.broken (1 + work p) ends)
takes_last (step.Breaks ask) asked c d p ends (is, now) = load_as (is_broken (with_peer p c)) d 0 now (off_broken c.draining (1 + work p))

part_reader : (what : Step) (t u : IppClientState) → HandlesIpp item.BodyPart what t u → u.reader ≡ t.reader
part_reader (step.Due due last) t u it = ap (λ (x : IppClientState). x.reader) it.1
part_reader (step.Asks ask last) t u it = absurd it
part_reader (step.Breaks ask) t u it = ap (λ (x : IppClientState). x.reader) it.1

item_reader : (what : Step) (it : HttpItem) (t u : IppClientState) → HandlesIpp it what t u → u.reader ≡ t.reader
item_reader what (item.Head closes) t u (is, same, begun) = ap (λ (x : IppClientState). x.reader) same
item_reader what item.Continue t u (is, same) = ap (λ (x : IppClientState). x.reader) same
item_reader what item.BodyPart t u takes_item = part_reader what t u takes_item
item_reader what item.BodyEnd t u (same, begun, ends) = ap (λ (x : IppClientState). x.reader) same
item_reader what (item.Refuse refusal) t u (is, same) = ap (λ (x : IppClientState). x.reader) same

part_unreported : (what : Step) (t u : IppClientState) → HandlesIpp item.BodyPart what t u → u.unreported ≡ t.unreported
part_unreported (step.Due due last) t u it = ap (λ (x : IppClientState). x.unreported) it.1
part_unreported (step.Asks ask last) t u it = absurd it
part_unreported (step.Breaks ask) t u it = ap (λ (x : IppClientState). x.unreported) it.1

item_unreported : (what : Step) (it : HttpItem) (t u : IppClientState) → HandlesIpp it what t u → u.unreported ≡ t.unreported
item_unreported what (item.Head closes) t u (is, same, begun) = ap (λ (x : IppClientState). x.unreported) same
item_unreported what item.Continue t u (is, same) = ap (λ (x : IppClientState). x.unreported) same
item_unreported what item.BodyPart t u takes_item = part_unreported what t u takes_item
item_unreported what item.BodyEnd t u (same, begun, ends) = ap (λ (x : IppClientState). x.unreported) same
item_unreported what (item.Refuse refusal) t u (is, same) = ap (λ (x : IppClientState). x.unreported) same

-- the peer has less to bring, or the step is the last
abbrev Less : Step → Peer → Peer → Type 0
Less what x y = (work y < work x) ⊎ IsLast what

less : (settings : ServerSettings) (what : Step) (x y : Peer) → NextPeer settings (Some what) x y → Less what x y
less settings what (of.Ipp t) (of.Ipp u) (inl (on, is, same)) =
    inl (rw (ap (λ (x : IppClientState). x.reader) same, ap (λ (x : IppClientState). x.unreported) same, on) (omega arith))
less settings what (of.Ipp t) (of.Ipp u) (inr (off, (it, reader, answers, falls, takes_item))) =
    let reads : u.reader ≡ reader = item_reader what it (record t { reader = reader }) u takes_item in
    let all_reported : u.unreported ≡ false = item_unreported what it (record t { reader = reader }) u takes_item ∙ off in
    inl (rw (reads, all_reported, off) (omega (arith, falls)))
less settings what (of.Lpd t) (of.Lpd u) (inl (it, reader, answers, falls, takes_item)) = inl (subst (λ r. Lpd.work r < Lpd.work t.reader) (sym takes_item.0) falls)
less settings what (of.Lpd t) (of.Lpd u) (inr (inl (fault, answers, is, same))) = inr (subst IsLast (sym is) refl)
less settings what (of.Lpd t) (of.Lpd u) (inr (inr (answers, is, same))) = inr (subst IsLast (sym is) tt)
less settings what (of.Device t) (of.Device u) (inl (it, reader, answers, falls, takes_item)) = inl (subst (λ r. Link.work r < Link.work t.reader) (sym takes_item.0) falls)
less settings what (of.Device t) (of.Device u) (inr (inl (fault, answers, is, same))) = inr (subst IsLast (sym is) tt)
less settings what (of.Device t) (of.Device u) (inr (inr (answers, is, same))) = inr (subst IsLast (sym is) tt)
less settings what (of.Ipp t) (of.Lpd u) next = absurd next
less settings what (of.Ipp t) (of.Device u) next = absurd next
less settings what (of.Lpd t) (of.Ipp u) next = absurd next
less settings what (of.Lpd t) (of.Device u) next = absurd next
less settings what (of.Device t) (of.Ipp u) next = absurd next
less settings what (of.Device t) (of.Lpd u) next = absurd next

falls_by : (what : Step) (asked : Ask) (c d : ConnectionState) (p : Peer) → (c.draining || c.broken) ≡ false → Less what c.peer p → Takes what (with_peer p c) asked d → load d < load c
falls_by what asked c d p counts (inl falls) takes = omega (arith, load_counts c counts, takes_within what asked c d p takes, falls)
falls_by what asked c d p counts (inr last) takes = omega (arith, load_counts c counts, takes_last what asked c d p last takes)

-- an ask makes the load less
pub falls : (settings : ServerSettings) (what : Step) (asked : Ask) (c d : ConnectionState) (p : Peer) → (c.draining || c.broken) ≡ false → NextPeer settings (Some what) c.peer p → Takes what (with_peer p c) asked d → load d < load c
falls settings what asked c d p counts next takes = falls_by what asked c d p counts (less settings what c.peer p next) takes
