-- The acts of an IPP client are exchanges, one after the other.
use Rattle.std.proofs.Common.{◌≡◌, ◌+◌, ℕ, Bool, true, false, List, [], ◌∷◌, ◌++◌, length, refl, sym, ◌∙◌, ap, subst, append_assoc, append-nil, Option, Some, None, ◌⊎◌, inl, inr, All}
use Rattle.std.specs.Prelude.{if◌then◌else◌, map}
use Rattle.std.specs.List.{flat_map}
use Rattle.std.proofs.lemmas.List.{map-append, length-append}
use Rattle.std.proofs.lemmas.List.Elements.{All-cons, All-nil, All-head, All-tail}
use Rattle.print_room.specs.State.{State}
use Rattle.http_front.specs.declared.refusal.HttpRejection.{HttpRejection}
use Rattle.http_front.specs.declared.item.HttpItem.{HttpItem}
use Rattle.http_front.specs.declared.item.HttpItem.TheVariants as item
use Rattle.http_front.specs.Reply.{continue_head}
use Rattle.http_front.specs.Stream.{HttpElement, HasHead, Invites, HasByte, EndsBody, IsRefused, elements_of, is_last, Exchanges, ParsesFirst, SomeParse, FirstStays}
use Rattle.http_front.specs.Order.{Place, Between, Headed, Within, is_none, in_order, ElementsInOrder}
use Rattle.ipp_operations.specs.declared.parsed_request.ParsedRequest.{ParsedRequest}
use Rattle.ipp_operations.specs.declared.parsed_request.ParsedRequest.TheVariants as asks
use Rattle.connections.specs.Reply.{refusal_head}
use Rattle.wires.specs.declared.wire.Door.{Door}
use Rattle.wires.specs.declared.wire.Door.TheVariants.{Ipp, Lpd, Devices}
use Rattle.connections.specs.declared.step.Step.{Step}
use Rattle.connections.specs.Steps.{StepsIpp, EndsBody as Ends, asked_step, closes_after, body_after, grown}
use Rattle.connections.specs.Entry.{PeerRecord, Http, Queue, Link, Entry, opening_peer, closes_of}
use Rattle.lpd.specs.Items.{ItemRecord}
use Rattle.lpd.specs.Session.{SessionState}
use Rattle.settings_file.specs.Settings.{ServerSettings}
use Rattle.server.specs.Ledger.{Ledger, Fate}
use Rattle.server.specs.Turn.{Trace}
use Rattle.promises.specs.Orders.{RunPart}
use Rattle.promises.specs.Answers.{Act, NextIpp, IsNext, IsOwed, AreActs, IsAnswered, IsLast, IsCutOff, ClientTalk, AreAnswered, WasAnswered, WasCutOff}
use Rattle.promises.specs.Exchanges.{Exchange, elements_of_begun, elements_of_exchange, IsAnswerTo, IsExchange, invitation, due_in, Prefix, Nothing, Begun, elements_of_prefix, due_prefix, elements_of_refusal, due_refusal, AreExchanges, ActsAreExchanges, ByExchanges, IsOneMore, UntilBroken, IsByExchanges, WasByExchanges, AreByExchanges}

no_false : false ≡ true → ⊥
no_false is = cc

-- ---- the order of elements

none_prefix : (parsed later : List HttpElement) → is_none (parsed ++ later) ≡ true → is_none parsed ≡ true
none_prefix [] later is = refl
none_prefix (one ∷ parsed) later is = is

ends_prefix : (t : Bool) (parsed later : List HttpElement) → (in_order Between (parsed ++ later) ≡ true → in_order Between parsed ≡ true) → (if t then is_none (parsed ++ later) else in_order Between (parsed ++ later)) ≡ true → (if t then is_none parsed else in_order Between parsed) ≡ true
ends_prefix true parsed later prefix is = none_prefix parsed later is
ends_prefix false parsed later prefix is = prefix is

-- a prefix of elements in order is in order
order_prefix : (place : Place) (parsed later : List HttpElement) → in_order place (parsed ++ later) ≡ true → in_order place parsed ≡ true
order_prefix place [] later is = refl
order_prefix Between (HasHead closes ∷ parsed) later is = order_prefix (Headed closes) parsed later is
order_prefix Between (Invites ∷ parsed) later is = is
order_prefix Between (HasByte byte ∷ parsed) later is = is
order_prefix Between (EndsBody ∷ parsed) later is = is
order_prefix Between (IsRefused refusal ∷ parsed) later is = none_prefix parsed later is
order_prefix (Headed closes) (HasHead other ∷ parsed) later is = is
order_prefix (Headed closes) (Invites ∷ parsed) later is = order_prefix (Within closes 0) parsed later is
order_prefix (Headed closes) (HasByte byte ∷ parsed) later is = order_prefix (Within closes 1) parsed later is
order_prefix (Headed closes) (EndsBody ∷ parsed) later is = ends_prefix (is_last closes 0) parsed later (order_prefix Between parsed later) is
order_prefix (Headed closes) (IsRefused refusal ∷ parsed) later is = none_prefix parsed later is
order_prefix (Within closes count) (HasHead other ∷ parsed) later is = is
order_prefix (Within closes count) (Invites ∷ parsed) later is = is
order_prefix (Within closes count) (HasByte byte ∷ parsed) later is = order_prefix (Within closes (count + 1)) parsed later is
order_prefix (Within closes count) (EndsBody ∷ parsed) later is = ends_prefix (is_last closes count) parsed later (order_prefix Between parsed later) is
order_prefix (Within closes count) (IsRefused refusal ∷ parsed) later is = none_prefix parsed later is

-- the first elements of a stream are in order
first_ordered : ElementsInOrder → SomeParse → FirstStays → (stream : List ℕ) (parsed : List HttpElement) → ParsesFirst stream parsed → in_order Between parsed ≡ true
first_ordered ordered some stays stream parsed first =
    let all = some stream in
    let it = stays stream [] parsed all.0 first (subst (λ (bytes : List ℕ). Exchanges bytes all.0) (sym (append-nil stream)) all.1) in
    order_prefix Between parsed it.0 (subst (λ (xs : List HttpElement). in_order Between xs ≡ true) it.1 (ordered stream all.0 all.1))

-- ---- where a client is

-- the place after the beginning of an exchange
abbrev place_of : Prefix → Place
place_of Nothing = Between
place_of (Begun closes true body) = Within closes (length body)
place_of (Begun closes false []) = Headed closes
place_of (Begun closes false (byte ∷ body)) = Within closes (length (byte ∷ body))

-- something may come yet, or nothing
data Mode : Type 0 where
  Goes : (prefix : Prefix) → Mode
  Over : (prefix : Prefix) (refusal : Option HttpRejection) → Mode

abbrev goes : Mode → List HttpElement → Bool
goes (Goes prefix) later = in_order (place_of prefix) later
goes (Over prefix refusal) later = is_none later

abbrev Leads : Mode → List HttpElement → Type 0
Leads mode parsed = (later : List HttpElement) → in_order Between (parsed ++ later) ≡ goes mode later

-- the kept part of the prefix
abbrev Keeps : Prefix → Bool → List ℕ → Type 0
Keeps Nothing closes body = Unit {0}
Keeps (Begun also invites octets) closes body = (closes ≡ also) × (body ≡ octets)

abbrev Fits : Mode → Bool → List ℕ → Type 0
Fits (Goes prefix) closes body = Keeps prefix closes body
Fits (Over prefix refusal) closes body = Unit {0}

abbrev elements_of_mode : Mode → List HttpElement
elements_of_mode (Goes prefix) = elements_of_prefix prefix ++ elements_of_refusal None
elements_of_mode (Over prefix refusal) = elements_of_prefix prefix ++ elements_of_refusal refusal

abbrev due_mode : Mode → List ℕ
due_mode (Goes prefix) = due_prefix prefix ++ due_refusal None
due_mode (Over prefix refusal) = due_prefix prefix ++ due_refusal refusal

leads_on : (mode now : Mode) (parsed more : List HttpElement) → Leads mode parsed → ((later : List HttpElement) → goes mode (more ++ later) ≡ goes now later) → Leads now (parsed ++ more)
leads_on mode now parsed more leads step later = ap (λ (xs : List HttpElement). in_order Between xs) (append_assoc parsed more later) ∙ (leads (more ++ later) ∙ step later)

-- ---- one item

-- the exchange isn't whole yet
record Grows (mode now : Mode) (more : List HttpElement) (asked : List RunPart) (bytes : List ℕ) : Type 0 where
  reads_as : elements_of_mode mode ++ more ≡ elements_of_mode now
  due : due_mode mode ++ bytes ≡ due_mode now
  none : asked ≡ []

-- the exchange becomes whole
record Completes (id : ℕ) (mode now : Mode) (more : List HttpElement) (asked : List RunPart) (bytes : List ℕ) : Type 0 where
  whole : Exchange
  is : IsExchange id whole
  reads_as : elements_of_mode mode ++ more ≡ elements_of_exchange whole
  due : due_mode mode ++ bytes ≡ due_in whole
  its : asked ≡ whole.asked
  no_elements : elements_of_mode now ≡ []
  due_none : due_mode now ≡ []

record Stepped (id : ℕ) (mode : Mode) (parsed more : List HttpElement) (closes : Bool) (body : List ℕ) (asked : List RunPart) (bytes : List ℕ) : Type 0 where
  now : Mode
  leads : Leads now (parsed ++ more)
  fits : Fits now closes body
  comes : Grows mode now more asked bytes ⊎ Completes id mode now more asked bytes

-- a head
head_comes : (id : ℕ) (mode : Mode) (parsed : List HttpElement) (next : Bool) (asked : List RunPart) (bytes : List ℕ) → Leads mode parsed → goes mode (HasHead next ∷ []) ≡ true → asked ≡ [] → bytes ≡ [] → Stepped id mode parsed (HasHead next ∷ []) next [] asked bytes
head_comes id (Goes Nothing) parsed next asked bytes leads ok none quiet = record {
  now = Goes (Begun next false []);
  leads = leads_on (Goes Nothing) (Goes (Begun next false [])) parsed (HasHead next ∷ []) leads (λ later. refl);
  fits = (refl, refl);
  comes = inl (record { reads_as = refl; due = quiet; none = none });
}
head_comes id (Goes (Begun closes true body)) parsed next asked bytes leads ok none quiet = absurd (no_false ok)
head_comes id (Goes (Begun closes false [])) parsed next asked bytes leads ok none quiet = absurd (no_false ok)
head_comes id (Goes (Begun closes false (byte ∷ body))) parsed next asked bytes leads ok none quiet = absurd (no_false ok)
head_comes id (Over prefix refusal) parsed next asked bytes leads ok none quiet = absurd (no_false ok)

-- an invitation
invitation_comes : (id : ℕ) (mode : Mode) (parsed : List HttpElement) (closes : Bool) (body : List ℕ) (asked : List RunPart) (bytes : List ℕ) → Leads mode parsed → Fits mode closes body → goes mode (Invites ∷ []) ≡ true → asked ≡ [] → bytes ≡ continue_head → Stepped id mode parsed (Invites ∷ []) closes body asked bytes
invitation_comes id (Goes Nothing) parsed closes body asked bytes leads fits ok none is = absurd (no_false ok)
invitation_comes id (Goes (Begun also true octets)) parsed closes body asked bytes leads fits ok none is = absurd (no_false ok)
invitation_comes id (Goes (Begun also false (byte ∷ octets))) parsed closes body asked bytes leads fits ok none is = absurd (no_false ok)
invitation_comes id (Over prefix refusal) parsed closes body asked bytes leads fits ok none is = absurd (no_false ok)
invitation_comes id (Goes (Begun also false [])) parsed closes body asked bytes leads fits ok none is = record {
  now = Goes (Begun also true []);
  leads = leads_on (Goes (Begun also false [])) (Goes (Begun also true [])) parsed (Invites ∷ []) leads (λ later. refl);
  fits = fits;
  comes = inl (record { reads_as = refl; due = is ∙ sym (append-nil continue_head); none = none });
}

byte_on : (closes invites : Bool) (body : List ℕ) (byte : ℕ) (later : List HttpElement) → in_order (place_of (Begun closes invites body)) (HasByte byte ∷ later) ≡ in_order (place_of (Begun closes invites (body ++ byte ∷ []))) later
byte_on closes true body byte later = ap (λ (n : ℕ). in_order (Within closes n) later) (sym (length-append body (byte ∷ [])))
byte_on closes false [] byte later = refl
byte_on closes false (one ∷ body) byte later = ap (λ (n : ℕ). in_order (Within closes n) later) (sym (length-append (one ∷ body) (byte ∷ [])))

bytes_on : (part : List ℕ) (closes invites : Bool) (body : List ℕ) (later : List HttpElement) → in_order (place_of (Begun closes invites body)) (map HasByte part ++ later) ≡ in_order (place_of (Begun closes invites (body ++ part))) later
bytes_on [] closes invites body later = ap (λ (octets : List ℕ). in_order (place_of (Begun closes invites octets)) later) (sym (append-nil body))
bytes_on (byte ∷ part) closes invites body later =
    byte_on closes invites body byte (map HasByte part ++ later)
    ∙ (bytes_on part closes invites (body ++ byte ∷ []) later ∙ ap (λ (octets : List ℕ). in_order (place_of (Begun closes invites octets)) later) (append_assoc body (byte ∷ []) part))

more_elements : (closes : Bool) (prefix : List HttpElement) (body part : List ℕ) → ((HasHead closes ∷ (prefix ++ map HasByte body)) ++ []) ++ map HasByte part ≡ (HasHead closes ∷ (prefix ++ map HasByte (body ++ part))) ++ []
more_elements closes prefix body part =
    ap (λ (xs : List HttpElement). xs ++ map HasByte part) (append-nil (HasHead closes ∷ (prefix ++ map HasByte body)))
    ∙ (ap (λ (xs : List HttpElement). HasHead closes ∷ xs) (append_assoc prefix (map HasByte body) (map HasByte part) ∙ ap (λ (xs : List HttpElement). prefix ++ xs) (sym (map-append HasByte body part)))
    ∙ sym (append-nil (HasHead closes ∷ (prefix ++ map HasByte (body ++ part)))))

-- a part of a body, which may be empty
part_comes : (id : ℕ) (mode : Mode) (part : List ℕ) (parsed : List HttpElement) (closes : Bool) (body after : List ℕ) (asked : List RunPart) (bytes : List ℕ) → Leads mode parsed → Fits mode closes body → goes mode (map HasByte part) ≡ true → after ≡ body ++ part → asked ≡ [] → bytes ≡ [] → Stepped id mode parsed (map HasByte part) closes after asked bytes
part_comes id (Goes Nothing) [] parsed closes body after asked bytes leads fits ok grows none quiet = record {
  now = Goes Nothing;
  leads = leads_on (Goes Nothing) (Goes Nothing) parsed [] leads (λ later. refl);
  fits = tt;
  comes = inl (record { reads_as = refl; due = quiet; none = none });
}
part_comes id (Goes Nothing) (byte ∷ part) parsed closes body after asked bytes leads fits ok grows none quiet = absurd (no_false ok)
part_comes id (Goes (Begun also invites octets)) part parsed closes body after asked bytes leads fits ok grows none quiet = record {
  now = Goes (Begun also invites (octets ++ part));
  leads = leads_on (Goes (Begun also invites octets)) (Goes (Begun also invites (octets ++ part))) parsed (map HasByte part) leads (bytes_on part also invites octets);
  fits = (fits.0, grows ∙ ap (λ (xs : List ℕ). xs ++ part) fits.1);
  comes = inl (record {
    reads_as = more_elements also (if invites then Invites ∷ [] else []) octets part;
    due = ap (λ (xs : List ℕ). (invitation invites ++ []) ++ xs) quiet ∙ append-nil (invitation invites ++ []);
    none = none;
  });
}
part_comes id (Over prefix refusal) [] parsed closes body after asked bytes leads fits ok grows none quiet = record {
  now = Over prefix refusal;
  leads = leads_on (Over prefix refusal) (Over prefix refusal) parsed [] leads (λ later. refl);
  fits = tt;
  comes = inl (record {
    reads_as = append-nil (elements_of_prefix prefix ++ elements_of_refusal refusal);
    due = ap (λ (xs : List ℕ). (due_prefix prefix ++ due_refusal refusal) ++ xs) quiet ∙ append-nil (due_prefix prefix ++ due_refusal refusal);
    none = none;
  });
}
part_comes id (Over prefix refusal) (byte ∷ part) parsed closes body after asked bytes leads fits ok grows none quiet = absurd (no_false ok)

-- the end of a body
answered_by : (id : ℕ) (closes : Bool) (it : ParsedRequest) (asked : List RunPart) (bytes : List ℕ) → IsOwed id closes (asked_step closes it) asked bytes → IsAnswerTo id closes it asked bytes
answered_by id closes asks.TooShort asked bytes owed = owed
answered_by id closes (asks.Refused status request) asked bytes owed = owed
answered_by id closes (asks.Event request event) asked bytes owed = owed

is_exchange : (id : ℕ) (closes invites : Bool) (body : List ℕ) (what : Step) (asked : List RunPart) (bytes : List ℕ) → Ends closes body what → IsOwed id closes what asked bytes → IsExchange id (record { closes = closes; invites = invites; body = body; asked = asked; answer = bytes })
is_exchange id closes invites body what asked bytes (inl (it, asks, is)) owed = inl (it, asks, answered_by id closes it asked bytes (subst (λ (s : Step). IsOwed id closes s asked bytes) is owed))
is_exchange id closes invites body what asked bytes (inr (request, has, is)) owed = (let it = subst (λ (s : Step). IsOwed id closes s asked bytes) is owed in inr (request, has, it.0, it.1))

ends_on : (closes invites : Bool) (body : List ℕ) (later : List HttpElement) → in_order (place_of (Begun closes invites body)) (EndsBody ∷ later) ≡ (if is_last closes (length body) then is_none later else in_order Between later)
ends_on closes true body later = refl
ends_on closes false [] later = refl
ends_on closes false (byte ∷ body) later = refl

module _ (id : ℕ) (also invites : Bool) (octets : List ℕ) (parsed : List HttpElement) (closes : Bool) (body : List ℕ) (asked : List RunPart) (bytes : List ℕ) where
  whole : Exchange
  whole = record { closes = also; invites = invites; body = octets; asked = asked; answer = bytes }

  end_elements : (elements_of_prefix (Begun also invites octets) ++ elements_of_refusal None) ++ EndsBody ∷ [] ≡ elements_of_exchange (record { closes = also; invites = invites; body = octets; asked = asked; answer = bytes })
  end_elements = ap (λ (xs : List HttpElement). xs ++ EndsBody ∷ []) (append-nil (elements_of_begun also invites octets))

  end_due : (due_prefix (Begun also invites octets) ++ due_refusal None) ++ bytes ≡ invitation invites ++ bytes
  end_due = ap (λ (xs : List ℕ). xs ++ bytes) (append-nil (invitation invites))

  end_comes : IsExchange id (record { closes = also; invites = invites; body = octets; asked = asked; answer = bytes }) → Leads (Goes (Begun also invites octets)) parsed → (t : Bool) → is_last also (length octets) ≡ t → Stepped id (Goes (Begun also invites octets)) parsed (EndsBody ∷ []) closes body asked bytes
  end_comes is leads true last = record {
    now = Over Nothing None;
    leads = leads_on (Goes (Begun also invites octets)) (Over Nothing None) parsed (EndsBody ∷ []) leads
        (λ later. ends_on also invites octets later ∙ ap (λ (t : Bool). if t then is_none later else in_order Between later) last);
    fits = tt;
    comes = inr (record { whole = record { closes = also; invites = invites; body = octets; asked = asked; answer = bytes }; is = is; reads_as = end_elements; due = end_due; its = refl; no_elements = refl; due_none = refl });
  }
  end_comes is leads false last = record {
    now = Goes Nothing;
    leads = leads_on (Goes (Begun also invites octets)) (Goes Nothing) parsed (EndsBody ∷ []) leads
        (λ later. ends_on also invites octets later ∙ ap (λ (t : Bool). if t then is_none later else in_order Between later) last);
    fits = tt;
    comes = inr (record { whole = record { closes = also; invites = invites; body = octets; asked = asked; answer = bytes }; is = is; reads_as = end_elements; due = end_due; its = refl; no_elements = refl; due_none = refl });
  }

body_ends : (id : ℕ) (mode : Mode) (parsed : List HttpElement) (closes : Bool) (body : List ℕ) (what : Step) (asked : List RunPart) (bytes : List ℕ) → Leads mode parsed → Fits mode closes body → goes mode (EndsBody ∷ []) ≡ true → Ends closes body what → IsOwed id closes what asked bytes → Stepped id mode parsed (EndsBody ∷ []) closes [] asked bytes
body_ends id (Goes Nothing) parsed closes body what asked bytes leads fits ok ends owed = absurd (no_false ok)
body_ends id (Goes (Begun also invites octets)) parsed closes body what asked bytes leads fits ok ends owed =
    end_comes id also invites octets parsed closes [] asked bytes
    (is_exchange id also invites octets what asked bytes (subst (λ (xs : List ℕ). Ends also xs what) fits.1 (subst (λ (t : Bool). Ends t body what) fits.0 ends)) (subst (λ (t : Bool). IsOwed id t what asked bytes) fits.0 owed)) leads (is_last also (length octets)) refl
body_ends id (Over prefix refusal) parsed closes body what asked bytes leads fits ok ends owed = absurd (no_false ok)

-- a refusal
refused_on : (place : Place) (refusal : HttpRejection) (later : List HttpElement) → in_order place (IsRefused refusal ∷ later) ≡ is_none later
refused_on Between refusal later = refl
refused_on (Headed closes) refusal later = refl
refused_on (Within closes count) refusal later = refl

refusal_comes : (id : ℕ) (mode : Mode) (parsed : List HttpElement) (refusal : HttpRejection) (closes : Bool) (body : List ℕ) (asked : List RunPart) (bytes : List ℕ) → Leads mode parsed → goes mode (IsRefused refusal ∷ []) ≡ true → asked ≡ [] → bytes ≡ refusal_head refusal → Stepped id mode parsed (IsRefused refusal ∷ []) closes body asked bytes
refusal_comes id (Goes prefix) parsed refusal closes body asked bytes leads ok none is = record {
  now = Over prefix (Some refusal);
  leads = leads_on (Goes prefix) (Over prefix (Some refusal)) parsed (IsRefused refusal ∷ []) leads (λ later. refused_on (place_of prefix) refusal later);
  fits = tt;
  comes = inl (record {
    reads_as = ap (λ (xs : List HttpElement). xs ++ IsRefused refusal ∷ []) (append-nil (elements_of_prefix prefix));
    due = ap (λ (xs : List ℕ). xs ++ bytes) (append-nil (due_prefix prefix)) ∙ ap (λ (xs : List ℕ). due_prefix prefix ++ xs) is;
    none = none;
  });
}
refusal_comes id (Over prefix other) parsed refusal closes body asked bytes leads ok none is = absurd (no_false ok)

-- any
stepped : (id : ℕ) (what_item : HttpItem) (part : List ℕ) (mode : Mode) (parsed : List HttpElement) (closes : Bool) (body : List ℕ) (what : Step) (asked : List RunPart) (bytes : List ℕ) → Leads mode parsed → Fits mode closes body → goes mode (elements_of what_item part) ≡ true → StepsIpp what_item closes body what
    → IsOwed id (closes_after what_item closes) what asked bytes → Stepped id mode parsed (elements_of what_item part) (closes_after what_item closes) (body_after what_item what part body) asked bytes
stepped id (item.Head next) part mode parsed closes body what asked bytes leads fits ok comes owed =
    let it = subst (λ (s : Step). IsOwed id next s asked bytes) comes owed in head_comes id mode parsed next asked bytes leads ok it.0 it.1
stepped id item.Continue part mode parsed closes body what asked bytes leads fits ok comes owed =
    let it = subst (λ (s : Step). IsOwed id closes s asked bytes) comes owed in invitation_comes id mode parsed closes body asked bytes leads fits ok it.0 it.1
stepped id item.BodyPart part mode parsed closes body what asked bytes leads fits ok (inl comes) owed =
    let it = subst (λ (s : Step). IsOwed id closes s asked bytes) comes owed in
    part_comes id mode part parsed closes body (grown what part body) asked bytes leads fits ok (ap (λ (s : Step). grown s part body) comes) it.0 it.1
stepped id item.BodyPart part mode parsed closes body what asked bytes leads fits ok (inr comes) owed = absurd (subst (λ (s : Step). IsOwed id closes s asked bytes) comes owed)
stepped id item.BodyEnd part mode parsed closes body what asked bytes leads fits ok comes owed = body_ends id mode parsed closes body what asked bytes leads fits ok comes owed
stepped id (item.Refuse refusal) part mode parsed closes body what asked bytes leads fits ok comes owed =
    let it = subst (λ (s : Step). IsOwed id closes s asked bytes) comes owed in refusal_comes id mode parsed refusal closes body asked bytes leads ok it.0 it.1

-- ---- all of them

record Walked (id : ℕ) (mode : Mode) (parsed : List HttpElement) (acts : List Act) (acted_on : List HttpElement) : Type 0 where
  exchanges : List Exchange
  each : All (λ (x : Exchange). IsExchange id x) exchanges
  prefix : Prefix
  refusal : Option HttpRejection
  more : List HttpElement
  to : acted_on ≡ parsed ++ more
  reads_as : elements_of_mode mode ++ more ≡ flat_map elements_of_exchange exchanges ++ (elements_of_prefix prefix ++ elements_of_refusal refusal)
  asked : flat_map (λ (a : Act). a.asked) acts ≡ flat_map (λ (x : Exchange). x.asked) exchanges
  due : due_mode mode ++ flat_map (λ (a : Act). a.bytes) acts ≡ flat_map due_in exchanges ++ (due_prefix prefix ++ due_refusal refusal)
  ordered : in_order Between acted_on ≡ true

walked_none : (id : ℕ) (mode : Mode) (parsed acted_on : List HttpElement) → acted_on ≡ parsed → in_order Between parsed ≡ true → Walked id mode parsed [] acted_on
walked_none id (Goes prefix) parsed acted_on same order = record {
  exchanges = [];
  each = All-nil (λ (x : Exchange). IsExchange id x);
  prefix = prefix;
  refusal = None;
  more = [];
  to = same ∙ sym (append-nil parsed);
  reads_as = append-nil (elements_of_prefix prefix ++ elements_of_refusal None);
  asked = refl;
  due = append-nil (due_prefix prefix ++ due_refusal None);
  ordered = ap (λ (xs : List HttpElement). in_order Between xs) same ∙ order;
}
walked_none id (Over prefix refusal) parsed acted_on same order = record {
  exchanges = [];
  each = All-nil (λ (x : Exchange). IsExchange id x);
  prefix = prefix;
  refusal = refusal;
  more = [];
  to = same ∙ sym (append-nil parsed);
  reads_as = append-nil (elements_of_prefix prefix ++ elements_of_refusal refusal);
  asked = refl;
  due = append-nil (due_prefix prefix ++ due_refusal refusal);
  ordered = ap (λ (xs : List HttpElement). in_order Between xs) same ∙ order;
}

-- one list after another, each a step
joined : {A : Type 0} (old more later now rest : List A) → old ++ more ≡ now → now ++ later ≡ rest → old ++ (more ++ later) ≡ rest
joined old more later now rest one two = sym (append_assoc old more later) ∙ (ap (λ xs. xs ++ later) one ∙ two)

-- the item that was there in part is whole now
parted : {A : Type 0} (old more later now one all rest : List A) → old ++ more ≡ one → now ≡ [] → now ++ later ≡ all ++ rest → old ++ (more ++ later) ≡ (one ++ all) ++ rest
parted old more later now one all rest is none two =
    joined old more later one ((one ++ all) ++ rest) is (ap (λ xs. one ++ xs) (ap (λ xs. xs ++ later) (sym none) ∙ two) ∙ sym (append_assoc one all rest))

walked_more : (id : ℕ) (mode : Mode) (parsed more : List HttpElement) (closes : Bool) (body : List ℕ) (a : Act) (acts : List Act) (acted_on : List HttpElement) (s : Stepped id mode parsed more closes body a.asked a.bytes) → Walked id s.now (parsed ++ more) acts acted_on → Walked id mode parsed (a ∷ acts) acted_on
walked_more id mode parsed more closes body a acts acted_on s w = by s.comes
  where
    by : Grows mode s.now more a.asked a.bytes ⊎ Completes id mode s.now more a.asked a.bytes → Walked id mode parsed (a ∷ acts) acted_on
    by (inl g) = record {
      exchanges = w.exchanges;
      each = w.each;
      prefix = w.prefix;
      refusal = w.refusal;
      more = more ++ w.more;
      to = w.to ∙ append_assoc parsed more w.more;
      reads_as = joined (elements_of_mode mode) more w.more (elements_of_mode s.now) (flat_map elements_of_exchange w.exchanges ++ (elements_of_prefix w.prefix ++ elements_of_refusal w.refusal)) g.reads_as w.reads_as;
      asked = ap (λ (its : List RunPart). its ++ flat_map (λ (b : Act). b.asked) acts) g.none ∙ w.asked;
      due = joined (due_mode mode) a.bytes (flat_map (λ (b : Act). b.bytes) acts) (due_mode s.now) (flat_map due_in w.exchanges ++ (due_prefix w.prefix ++ due_refusal w.refusal)) g.due w.due;
      ordered = w.ordered;
    }
    by (inr c) = record {
      exchanges = c.whole ∷ w.exchanges;
      each = All-cons (λ (x : Exchange). IsExchange id x) c.whole w.exchanges c.is w.each;
      prefix = w.prefix;
      refusal = w.refusal;
      more = more ++ w.more;
      to = w.to ∙ append_assoc parsed more w.more;
      reads_as = parted (elements_of_mode mode) more w.more (elements_of_mode s.now) (elements_of_exchange c.whole) (flat_map elements_of_exchange w.exchanges) (elements_of_prefix w.prefix ++ elements_of_refusal w.refusal) c.reads_as c.no_elements w.reads_as;
      asked = ap (λ (its : List RunPart). its ++ flat_map (λ (b : Act). b.asked) acts) c.its ∙ ap (λ (its : List RunPart). c.whole.asked ++ its) w.asked;
      due = parted (due_mode mode) a.bytes (flat_map (λ (b : Act). b.bytes) acts) (due_mode s.now) (due_in c.whole) (flat_map due_in w.exchanges) (due_prefix w.prefix ++ due_refusal w.refusal) c.due c.due_none w.due;
      ordered = w.ordered;
    }

same_elements : (acted_on parsed : List HttpElement) (ends closes : Bool) (left body : List ℕ) → Http acted_on ends left ≡ Http parsed closes body → acted_on ≡ parsed
same_elements acted_on parsed ends closes left body is = cc

module _ (ordered : ElementsInOrder) (some : SomeParse) (stays : FirstStays) where
  walk : (id : ℕ) (acts : List Act) (mode : Mode) (parsed : List HttpElement) (closes : Bool) (body : List ℕ) (acted_on : List HttpElement) (ends : Bool) (left : List ℕ) → Leads mode parsed → Fits mode closes body → in_order Between parsed ≡ true → AreActs id (Http parsed closes body) acts (Http acted_on ends left) → Walked id mode parsed acts acted_on
  walk id [] mode parsed closes body acted_on ends left leads fits order are = walked_none id mode parsed acted_on (same_elements acted_on parsed ends closes left body are) order
  walk id (a ∷ acts) mode parsed closes body acted_on ends left leads fits now (before, is, none, later) =
      let next : NextIpp a.read parsed closes body a.what a.after = subst (λ (t : PeerRecord). IsNext a.state.settings a.read t a.what a.after) before is.next in
      let more : List HttpElement = elements_of next.item next.part in
      let owed : IsOwed id (closes_after next.item closes) a.what a.asked a.bytes = subst (λ (t : PeerRecord). IsOwed id (closes_of t) a.what a.asked a.bytes) next.is is.owed in
      let order : in_order Between (parsed ++ elements_of next.item next.part) ≡ true = first_ordered ordered some stays a.read (parsed ++ elements_of next.item next.part) next.first in
      let s : Stepped id mode parsed (elements_of next.item next.part) (closes_after next.item closes) (body_after next.item a.what next.part body) a.asked a.bytes =
      stepped id next.item next.part mode parsed closes body a.what a.asked a.bytes leads fits (sym (leads (elements_of next.item next.part)) ∙ order) next.comes owed in
      walked_more id mode parsed (elements_of next.item next.part) (closes_after next.item closes) (body_after next.item a.what next.part body) a acts acted_on s
      (walk id acts s.now (parsed ++ elements_of next.item next.part) (closes_after next.item closes) (body_after next.item a.what next.part body) acted_on ends left s.leads s.fits
      order (subst (λ (t : PeerRecord). AreActs id t acts (Http acted_on ends left)) next.is later))

  pub acts_are_exchanges : ActsAreExchanges
  acts_are_exchanges id acts parsed closes body are =
      let w = walk id acts (Goes Nothing) [] false [] parsed closes body (λ later. refl) tt refl are in
      record {
        order = w.ordered;
        exchanges = w.exchanges;
        each = w.each;
        prefix = w.prefix;
        refusal = w.refusal;
        parsed = w.to ∙ w.reads_as;
        asked = w.asked;
        due = w.due;
      }

  -- ---- the connections of a trace

  -- the acts of an LPD client, and of a device, lead to no progress of an IPP client
  no_lpd : (settings : ServerSettings) (read : List ℕ) (items : List ItemRecord) (session : Option SessionState) (what : Step) (after : PeerRecord) → IsNext settings read (Queue items session) what after → (items' : List ItemRecord) × (session' : Option SessionState) × (after ≡ Queue items' session')
  no_lpd settings read items session what after (inl next) = (items ++ next.parsed ∷ [], next.session_after, next.is)
  no_lpd settings read items session what after (inr next) = (items, session, next.is)

  no_queue : (parsed : List HttpElement) (closes : Bool) (body : List ℕ) (items : List ItemRecord) (session : Option SessionState) → Http parsed closes body ≡ Queue items session → ⊥
  no_queue parsed closes body items session is = cc

  no_link : (parsed : List HttpElement) (closes : Bool) (body : List ℕ) (progress : PeerRecord) → Http parsed closes body ≡ progress → progress ≡ opening_peer Devices → ⊥
  no_link parsed closes body progress is its = cc

  lpd_acts : (id : ℕ) (acts : List Act) (items : List ItemRecord) (session : Option SessionState) (parsed : List HttpElement) (closes : Bool) (body : List ℕ) → AreActs id (Queue items session) acts (Http parsed closes body) → ⊥
  lpd_acts id [] items session parsed closes body are = no_queue parsed closes body items session are
  lpd_acts id (a ∷ acts) items session parsed closes body (before, is, none, later) =
      let next = no_lpd a.state.settings a.read items session a.what a.after (subst (λ (t : PeerRecord). IsNext a.state.settings a.read t a.what a.after) before is.next) in
      lpd_acts id acts next.0 next.1 parsed closes body (subst (λ (t : PeerRecord). AreActs id t acts (Http parsed closes body)) next.2 later)

  device_acts : (id : ℕ) (acts : List Act) (parsed : List HttpElement) (closes : Bool) (body : List ℕ) → AreActs id (opening_peer Devices) acts (Http parsed closes body) → ⊥
  device_acts id [] parsed closes body are = no_link parsed closes body (opening_peer Devices) are refl
  device_acts id (a ∷ acts) parsed closes body (before, is, none, later) = subst (λ (t : PeerRecord). IsNext a.state.settings a.read t a.what a.after) before is.next

  by_door : (id : ℕ) (door : Door) (acts : List Act) (parsed : List HttpElement) (closes : Bool) (body : List ℕ) → AreActs id (opening_peer door) acts (Http parsed closes body) → AreExchanges id parsed (flat_map (λ (a : Act). a.asked) acts) (flat_map (λ (a : Act). a.bytes) acts)
  by_door id Ipp acts parsed closes body are = acts_are_exchanges id acts parsed closes body are
  by_door id Lpd acts parsed closes body are = absurd (lpd_acts id acts [] None parsed closes body are)
  by_door id Devices acts parsed closes body are = absurd (device_acts id acts parsed closes body are)

  answered_so : (opening : State) (key : ℕ) (handled : List RunPart) (e : Entry) (parsed : List HttpElement) (closes : Bool) (body : List ℕ) → e.progress ≡ Http parsed closes body → IsAnswered opening key handled e → ByExchanges key handled parsed e
  answered_so opening key handled e parsed closes body is a =
      let are = by_door e.id a.door a.acts parsed closes body (subst (λ (t : PeerRecord). AreActs e.id (opening_peer a.door) a.acts t) is a.are) in
      record {
        earlier = a.earlier;
        since = a.since;
        whole = a.whole;
        are = subst (λ (its : List RunPart). AreExchanges e.id parsed its e.due) (sym a.asked) (subst (λ (bytes : List ℕ). AreExchanges e.id parsed (flat_map (λ (x : Act). x.asked) a.acts) bytes) (sym a.due) are);
      }

  -- the result of an IPP client's acts before its connection broke
  last_http : (opening : State) (handled : List RunPart) (whole : List ℕ) (after : PeerRecord) (parsed : List HttpElement) (closes : Bool) (body : List ℕ) → IsLast opening handled whole after (Http parsed closes body) → (until : List HttpElement) × (last : Bool) × (left : List ℕ) × (after ≡ Http until last left) × IsOneMore until parsed
  last_http opening handled whole (Http until last left) parsed closes body (inl is) = (until, last, left, refl, inl (sym (same_elements until parsed last closes left body is)))
  last_http opening handled whole (Http until last left) parsed closes body (inr (state, read, what, of, prefix, next)) =
      (until, last, left, refl, inr (next.item, next.part, same_elements parsed (until ++ elements_of next.item next.part) closes (closes_after next.item last) body (body_after next.item what next.part left) next.is))
  last_http opening handled whole (Queue items session) parsed closes body (inl is) = absurd (no_queue parsed closes body items session (sym is))
  last_http opening handled whole (Queue items session) parsed closes body (inr (state, read, what, of, prefix, next)) =
      let it = no_lpd state.settings read items session what (Http parsed closes body) next in absurd (no_queue parsed closes body it.0 it.1 it.2)
  last_http opening handled whole (Link reports device) parsed closes body (inl is) = cc
  last_http opening handled whole (Link reports device) parsed closes body (inr (state, read, what, of, prefix, next)) = absurd next

  cut_so : (opening : State) (key : ℕ) (handled : List RunPart) (e : Entry) (parsed : List HttpElement) (closes : Bool) (body : List ℕ) → e.progress ≡ Http parsed closes body → IsCutOff opening key handled e → UntilBroken key handled parsed e
  cut_so opening key handled e parsed closes body is cut =
      let b = cut.until in
      let it = last_http opening handled e.read b.after parsed closes body (subst (λ (t : PeerRecord). IsLast opening handled e.read b.after t) is b.last) in
      record {
        earlier = cut.earlier;
        since = cut.since;
        whole = cut.whole;
        until = it.0;
        last = it.4;
        answered = flat_map (λ (a : Act). a.asked) b.acts;
        unanswered = b.unanswered;
        asked = b.asked;
        one = b.one;
        are = subst (λ (bytes : List ℕ). AreExchanges e.id it.0 (flat_map (λ (x : Act). x.asked) b.acts) bytes) (sym b.due) (by_door e.id cut.door b.acts it.0 it.1 it.2 (subst (λ (t : PeerRecord). AreActs e.id (opening_peer cut.door) b.acts t) it.3 b.are));
      }

  so : (opening : State) (key : ℕ) (handled : List RunPart) (e : Entry) (progress : PeerRecord) → e.progress ≡ progress → (ClientTalk progress → e.broken ≡ false → IsAnswered opening key handled e) → (ClientTalk progress → e.broken ≡ true → IsCutOff opening key handled e) → IsByExchanges key handled progress e
  so opening key handled e (Http parsed closes body) is answered cut = (λ sound. answered_so opening key handled e parsed closes body is (answered tt sound), λ broken. cut_so opening key handled e parsed closes body is (cut tt broken))
  so opening key handled e (Queue items session) is answered cut = tt
  so opening key handled e (Link reports device) is answered cut = tt

  -- of a connection that was closed
  was_so : (opening : State) (handled : List RunPart) (e : Entry) (progress : PeerRecord) → e.progress ≡ progress → (t : Bool) → e.broken ≡ t → WasAnswered opening handled e → WasCutOff opening handled e → WasByExchanges handled e
  was_so opening handled e (Http parsed closes body) is false sound answered cut =
      let it = answered (subst ClientTalk (sym is) tt) sound in
      (it.0, it.1, it.2, it.3, so opening it.0 it.1 e e.progress refl (λ client unbroken. it.4) (λ client broken. absurd (no_false (sym sound ∙ broken))))
  was_so opening handled e (Http parsed closes body) is true broke answered cut =
      let it = cut (subst ClientTalk (sym is) tt) broke in
      (it.0, it.1, it.2, it.3, so opening it.0 it.1 e e.progress refl (λ client unbroken. absurd (no_false (sym unbroken ∙ broke))) (λ client broken. it.4))
  was_so opening handled e (Queue items session) is t broke answered cut = (0, [], handled, refl, subst (λ (progress : PeerRecord). IsByExchanges 0 [] progress e) (sym is) tt)
  was_so opening handled e (Link reports device) is t broke answered cut = (0, [], handled, refl, subst (λ (progress : PeerRecord). IsByExchanges 0 [] progress e) (sym is) tt)

  all_so : (opening : State) (handled : List RunPart) (closed : List (Entry × Fate)) → All (λ (it : Entry × Fate). WasAnswered opening handled it.0) closed → All (λ (it : Entry × Fate). WasCutOff opening handled it.0) closed → All (λ (it : Entry × Fate). WasByExchanges handled it.0) closed
  all_so opening handled [] answered cut = All-nil (λ (it : Entry × Fate). WasByExchanges handled it.0)
  all_so opening handled (one ∷ closed) answered cut =
      All-cons (λ (it : Entry × Fate). WasByExchanges handled it.0) one closed
      (was_so opening handled one.0 one.0.progress refl one.0.broken refl (All-head (λ (it : Entry × Fate). WasAnswered opening handled it.0) one closed answered) (All-head (λ (it : Entry × Fate). WasCutOff opening handled it.0) one closed cut))
      (all_so opening handled closed (All-tail (λ (it : Entry × Fate). WasAnswered opening handled it.0) one closed answered) (All-tail (λ (it : Entry × Fate). WasCutOff opening handled it.0) one closed cut))

  pub by_exchanges : (opening : State) (trace : Trace) (l : Ledger) → AreAnswered opening trace l → AreByExchanges opening trace l
  by_exchanges opening trace l all = record {
    handled = all.handled;
    timed = all.timed;
    run = all.run;
    notified = all.notified;
    each = λ key e there. so opening key all.handled e e.progress refl (all.answered key e there) (all.cut_off key e there);
    closed = all_so opening all.handled l.closed all.closed all.closed_cut_off;
    first = all.first;
    closed_first = all.closed_first;
    acted_on = all.acted_on;
  }
