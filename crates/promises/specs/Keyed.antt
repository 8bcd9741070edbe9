-- What a wire and an observer see of a trace, and the keys that accepted connections get. If no memory was refused, that leads to one ledger.
use Rattle.std.specs.Prelude.{◌≡◌, false, List, [], ◌∷◌, map}
use Rattle.std.specs.List.{flat_map}
use Rattle.print_room.specs.State.{State}
use Rattle.server.specs.Polls.{Happening, Polled, Notified, Chosen, Choice, Found, Opened, Asked, Rested, Looked}
use Rattle.server.specs.Ledger.{Ledger, opening_ledger}
use Rattle.server.specs.Turn.{Action, Turned, Served_body, Reported, Ticked, Trace, Runs, has_refusal}
use Rattle.server.specs.Law.{happenings_in}

-- the choice of the key that an accepted connection gets
abbrev pub key_chosen : Choice → List Happening
key_chosen Found = []
key_chosen (Opened key) = Chosen (Opened key) ∷ []
key_chosen (Asked part loss) = []
key_chosen Rested = []
key_chosen (Looked keys) = []

abbrev pub keyed_one : Happening → List Happening
keyed_one (Polled poll) = Polled poll ∷ []
keyed_one (Notified note) = Notified note ∷ []
keyed_one (Chosen choice) = key_chosen choice

-- the happenings that a wire and an observer see, and the keys
abbrev pub keyed : List Happening → List Happening
keyed hs = flat_map keyed_one hs

abbrev pub keyed_of : Action → Action
keyed_of (Turned moment hs) = Turned moment (keyed hs)
keyed_of (Served_body moment body answer hs) = Served_body moment body answer (keyed hs)
keyed_of (Reported moment device parsed hs) = Reported moment device parsed (keyed hs)
keyed_of (Ticked moment hs) = Ticked moment (keyed hs)

abbrev pub keyed_in : Trace → Trace
keyed_in trace = map keyed_of trace

-- two traces that are seen alike, with the same keys, lead to one ledger if no memory was refused in them
abbrev pub SeenLeadsToOne : Type 0
SeenLeadsToOne =
    (opening : State) (one other : Trace) (l m : Ledger) → Runs one (opening_ledger opening) l → Runs other (opening_ledger opening) m
    → keyed_in one ≡ keyed_in other → has_refusal (happenings_in one) ≡ false → l ≡ m
