-- The notes that a `NoteLog` has logged.
use Rattle.std.specs.Prelude.{◌≡◌, ◌⊎◌, List, [], ◌∷◌, ◌++◌, Option, Some, None, option_map, map}
use Rattle.plan_prices.specs.Plan.{PlanRecord}
use Rattle.plan_prices.specs.declared.plan.PlannedClass.{PlannedClass}
use Rattle.print_room.specs.declared.started.Started.{Started}
use Rattle.dispatcher.specs.Notes.{Note, Planned, Canceled, DeviceRefused, Refused}
use Rattle.server.specs.declared.note_log.LoggedNote.{LoggedNote}
use Rattle.server.specs.declared.note_log.LoggedNote.TheVariants as handle

abbrev pub class_word : PlannedClass → LoggedNote
class_word class = handle.Class class.priority class.priced.total

-- the logged notes of a plan, if a plan was made: the plan, its classes, and its stranded jobs
abbrev pub plan_words : Option PlanRecord → List LoggedNote
plan_words None = []
plan_words (Some plan) = handle.Planned ∷ (map class_word plan.classes ++ map handle.Stranded plan.stranded)

abbrev pub dispatch_words : Option PlanRecord → List Started → List LoggedNote
dispatch_words plan started = plan_words plan ++ map handle.Began started

-- the logged notes of a note
abbrev pub words_of : Note → List LoggedNote
words_of (Planned plan started) = dispatch_words plan started
words_of (Canceled cancel) = handle.Canceled cancel ∷ []
words_of (DeviceRefused id why) = handle.DeviceRefused id why ∷ []
words_of (Refused place id) = handle.Refused place id ∷ []

-- the logged notes of a note are appended, or memory for them is refused and the log is lost; a lost log stays lost
abbrev pub LogsNote : Option (List LoggedNote) → Note → Option (List LoggedNote) → Type 0
LogsNote old note new = (new ≡ option_map (λ kept. kept ++ words_of note) old) ⊎ (new ≡ None)
