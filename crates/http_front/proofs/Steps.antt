-- The state of a reader after a step.
use Rattle.std.specs.Prelude.{ℕ, suc, zero, ◌≡◌, ◌⊎◌, ◌+◌, ◌-◌, ◌<◌, ◌≤◌, ◌==◌, false, List, [], ◌∷◌, ◌++◌, length, map, take, drop}
use Rattle.std.proofs.Common.{arith, refl, subst, sym, ap, ◌∙◌, zero-add, inl, inr}
use Rattle.std.proofs.lemmas.List.{append_assoc, append-nil, take-append-drop, length-take-le, length-drop}
use Rattle.http_front.specs.declared.awaited.Awaited.{Awaited}
use Rattle.http_front.specs.declared.awaited.Awaited.TheVariants.{Head, Body, Nothing}
use Rattle.http_front.specs.declared.awaited.Following.{Following}
use Rattle.http_front.specs.Stream.{HttpElement, HasByte, Goes, Waits, PrefixIs, body_prefix, ParsesIn, Parses, Exchanges, LeadsIn, Leads, HttpState, IsOver, HasRead, Advances, work}

-- one after the other

pub leads_then : (n m : ℕ) (a : Awaited) (bytes : List ℕ) (first : List HttpElement) (b : Awaited) (mid : List ℕ) (later : List HttpElement) (c : Awaited) (left : List ℕ) → LeadsIn n a bytes first b mid → LeadsIn m b mid later c left → Leads a bytes (first ++ later) c left
leads_then zero m a bytes first b mid later c left x y =
    let on : LeadsIn m a bytes later c left = subst (λ q. LeadsIn m q bytes later c left) x.1 (subst (λ r. LeadsIn m b r later c left) x.2 y) in
    subst (λ s. Leads a bytes (s ++ later) c left) (sym x.0) (m, on)
leads_then (suc n) m a bytes first b mid later c left x y =
    let r = leads_then n m x.2 x.1 x.3 b mid later c left x.6 y in
    (suc r.0, (x.0, x.1, x.2, x.3 ++ later, x.4, ap (λ s. s ++ later) x.5 ∙ append_assoc x.0 x.3 later, r.1))

pub parses_then : (n m : ℕ) (a : Awaited) (bytes : List ℕ) (first : List HttpElement) (b : Awaited) (mid : List ℕ) (later : List HttpElement) → LeadsIn n a bytes first b mid → ParsesIn m b mid later → Parses a bytes (first ++ later)
parses_then zero m a bytes first b mid later x y =
    let on : ParsesIn m a bytes later = subst (λ q. ParsesIn m q bytes later) x.1 (subst (λ r. ParsesIn m b r later) x.2 y) in
    subst (λ s. Parses a bytes (s ++ later)) (sym x.0) (m, on)
parses_then (suc n) m a bytes first b mid later x y =
    let r = parses_then n m x.2 x.1 x.3 b mid later x.6 y in
    (suc r.0, (x.0, x.1, x.2, x.3 ++ later, x.4, ap (λ s. s ++ later) x.5 ∙ append_assoc x.0 x.3 later, r.1))

leads_one : (a : Awaited) (bytes : List ℕ) (parsed : List HttpElement) (b : Awaited) (left : List ℕ) → PrefixIs a bytes (Goes parsed left b) → Leads a bytes parsed b left
leads_one a bytes parsed b left prefix = (suc zero, (parsed, left, b, [], prefix, sym (append-nil parsed), (refl, refl, refl)))

-- a reader for which something counts goes on
on_from : (stream : List ℕ) (given : List HttpElement) (old : HttpState) (left : List ℕ) (parsed : List HttpElement) (new : HttpState) → (IsOver old → ⊥) → Leads old.awaited old.rest parsed new.awaited new.rest → Leads Head stream given old.awaited left → (IsOver old ⊎ (left ≡ old.rest)) → HasRead stream (given ++ parsed) new
on_from stream given old left parsed new counts on leads (inl over) = absurd (counts over)
on_from stream given old left parsed new counts on leads (inr same) =
    let here : LeadsIn leads.0 Head stream given old.awaited old.rest = subst (λ l. LeadsIn leads.0 Head stream given old.awaited l) same leads.1 in
    record { left = new.rest; leads = leads_then leads.0 on.0 Head stream given old.awaited old.rest parsed new.awaited new.rest here on.1; kept = inr refl }

advance_by : (old : HttpState) (parsed : List HttpElement) (new : HttpState) → (IsOver old → ⊥) → Leads old.awaited old.rest parsed new.awaited new.rest → Advances old parsed new
advance_by old parsed new counts on stream given reaches = on_from stream given old reaches.left parsed new counts on reaches.leads reaches.kept

not_over : (old : HttpState) (parsed : List HttpElement) (rest : List ℕ) (next : Awaited) → PrefixIs old.awaited old.rest (Goes parsed rest next) → IsOver old → ⊥
not_over old parsed rest next prefix over =
    let no : Goes parsed rest next ≡ Waits = subst (λ (a : Awaited). PrefixIs a old.rest (Goes parsed rest next)) over prefix in
    (cc)

pub advance : (old : HttpState) (parsed : List HttpElement) (new : HttpState) → PrefixIs old.awaited old.rest (Goes parsed new.rest new.awaited) → Advances old parsed new
advance old parsed new prefix = advance_by old parsed new (not_over old parsed new.rest new.awaited prefix) (leads_one old.awaited old.rest parsed new.awaited new.rest prefix)

pub advances_nothing : (old : HttpState) → Advances old [] old
advances_nothing old stream given reaches = subst (λ g. HasRead stream g old) (sym (append-nil given)) reaches

pub advances_then : (old mid new : HttpState) (parsed : List HttpElement) → Advances old [] mid → Advances mid parsed new → Advances old parsed new
advances_then old mid new parsed first second stream given reaches =
    second stream given (subst (λ g. HasRead stream g mid) (append-nil given) (first stream given reaches))

-- the prefix is not known yet

waits_in : (old : HttpState) (left : List ℕ) → PrefixIs old.awaited old.rest Waits → (IsOver old ⊎ (left ≡ old.rest)) → PrefixIs old.awaited left Waits
waits_in old left waits (inl over) = subst (λ (a : Awaited). PrefixIs a left Waits) (sym over) refl
waits_in old left waits (inr same) = subst (λ (bytes : List ℕ). PrefixIs old.awaited bytes Waits) (sym same) waits

pub tells_all : (old : HttpState) → PrefixIs old.awaited old.rest Waits → (stream : List ℕ) (given : List HttpElement) → HasRead stream given old → Exchanges stream given
tells_all old waits stream given reaches =
    let here : PrefixIs old.awaited reaches.left Waits = waits_in old reaches.left waits reaches.kept in
    let parses : Parses Head stream (given ++ []) = parses_then reaches.leads.0 zero Head stream given old.awaited reaches.left [] reaches.leads.1 (refl, here) in
    subst (λ parsed. Parses Head stream parsed) (append-nil given) parses

-- a part of a body, byte by byte

byte_prefix : (byte : ℕ) (bytes : List ℕ) (next : Following) (count more : ℕ) → count ≡ more + 1 → Goes (HasByte byte ∷ []) bytes (Body more next) ≡ body_prefix count next (byte ∷ bytes)
byte_prefix byte bytes next count more is =
    let some : (count == 0) ≡ false = grind (arith, is) in
    let one : count - 1 ≡ more = omega (arith, is) in
    rw (some, one) refl

pub leads_part : (part more : List ℕ) (count : ℕ) (next : Following) → Leads (Body (length part + count) next) (part ++ more) (map HasByte part) (Body count next) more
leads_part [] more count next = (zero, (refl, ap (λ n. Body n next) (sym (zero-add count)), refl))
leads_part (byte ∷ part) more count next =
    let tail = leads_part part more count next in
    (suc tail.0, (HasByte byte ∷ [], part ++ more, Body (length part + count) next, map HasByte part, byte_prefix byte (part ++ more) next _ _ (omega arith), refl, tail.1))

body_counts : (old : HttpState) (count : ℕ) (next : Following) → old.awaited ≡ Body count next → IsOver old → ⊥
body_counts old count next is over = let no : Body count next ≡ Nothing = sym is ∙ over in (cc)

pub lends : (old : HttpState) (count : ℕ) (next : Following) (size : ℕ) → old.awaited ≡ Body count next → size ≤ length old.rest → size ≤ count → Advances old (map HasByte (take size old.rest)) (record { part = take size old.rest; rest = drop size old.rest; awaited = Body (count - size) next })
lends old count next size is within fits =
    let parsed = map HasByte (take size old.rest) in
    let left = drop size old.rest in
    let after = Body (count - size) next in
    let on : Leads (Body (length (take size old.rest) + (count - size)) next) (take size old.rest ++ left) parsed after left = leads_part (take size old.rest) left (count - size) next in
    let all : length (take size old.rest) + (count - size) ≡ count = rw (length-take-le size old.rest within) (omega (arith, fits)) in
    let bytes : Leads (Body (length (take size old.rest) + (count - size)) next) old.rest parsed after left = subst (λ (b : List ℕ). Leads (Body (length (take size old.rest) + (count - size)) next) b parsed after left) (take-append-drop size old.rest) on in
    let here : Leads (Body count next) old.rest parsed after left = subst (λ (n : ℕ). Leads (Body n next) old.rest parsed after left) all bytes in
    advance_by old parsed (record { part = take size old.rest; rest = left; awaited = after }) (body_counts old count next is) (subst (λ (a : Awaited). Leads a old.rest parsed after left) (sym is) here)

-- a byte was lent
pub lends_less : (old : HttpState) (count : ℕ) (next : Following) (size : ℕ) → 0 < size → size ≤ length old.rest → work (record { part = take size old.rest; rest = drop size old.rest; awaited = Body (count - size) next }) < work old
lends_less old count next size some within = omega (arith, some, within, length-drop size old.rest)
