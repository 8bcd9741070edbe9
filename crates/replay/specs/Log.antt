-- A log: the printed text of an engine's notes.
use Rattle.std.specs.Prelude.{ℕ, ◌≡◌, ◌⊎◌, Bool, List, [], ◌∷◌, ◌++◌, Option, None, option_map}
use Rattle.dispatcher.specs.Notes.{Note, Planned, Canceled, DeviceRefused, Refused}
use Rattle.server.specs.Polls.{Happening, Polled, Notified, Chosen}
use Rattle.traces.specs.Printed.{dispatch_lines, cancel_line}

-- whether the texts of plans are printed, the names of the devices, and the text so far; `None` if memory was refused
pub record LogRecord : Type 0 where
  pub texts : Bool
  pub names : List (List ℕ)
  pub observed : Option (List ℕ)

-- the printed text of a note
abbrev pub note_text : Bool → List (List ℕ) → Note → List ℕ
note_text texts names (Planned plan started) = dispatch_lines texts names plan started
note_text texts names (Canceled cancel) = cancel_line names cancel
note_text texts names (DeviceRefused id why) = []
note_text texts names (Refused place id) = []

-- the text of a note is appended, or memory was refused
abbrev pub LogsNote : LogRecord → Note → LogRecord → Type 0
LogsNote old note new =
    (new ≡ record old { observed = option_map (λ text. text ++ note_text old.texts old.names note) old.observed })
    ⊎ (new ≡ record old { observed = None })

-- the printed text of a happening, which is that of its note
abbrev pub happening_text : Bool → List (List ℕ) → Happening → List ℕ
happening_text texts names (Polled poll) = []
happening_text texts names (Notified note) = note_text texts names note
happening_text texts names (Chosen choice) = []

abbrev pub happenings_text : Bool → List (List ℕ) → List Happening → List ℕ
happenings_text texts names [] = []
happenings_text texts names (h ∷ hs) = happening_text texts names h ++ happenings_text texts names hs
