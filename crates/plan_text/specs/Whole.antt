-- The plan of a text, or the fault of its first faulty line. The lines are read in order, each a step from the state before it. By a law, the text of a plan is read as that plan, and no other text is (`TextOf.antt`).
use Rattle.std.specs.Prelude.{◌==◌, ◌+◌, ◌-◌, not, ℕ, List, [], ◌∷◌, length, take, slice_index_or, Result, Ok, Err, if◌then◌else◌}
use Rattle.text.specs.Parts.{words_of, texts_of}
use Rattle.base_types.specs.declared.limits.TheConstants.Limits.{HIGHEST_PRIORITY, DEFAULT_PRIORITY}
use Rattle.plan_text.specs.declared.fault.TextFault.{TextFault}
use Rattle.plan_text.specs.declared.fault.TextFault.TheVariants.{BadLine, NoEnd}
use Rattle.plan_text.specs.declared.stage.Stage.TheVariants as stages
use Rattle.plan_text.specs.NamedPlan.{NamedPlan}
use Rattle.text.specs.Steps.{◌>>=◌}
use Rattle.plan_text.specs.Line.{line_at}
use Rattle.plan_text.specs.Steps.{DraftRecord, opened_at, is_at, next}

-- a line is checked by itself, and then in its place; no line may follow `end`
unfoldable pub line_next : DraftRecord → List ℕ → Result DraftRecord TextFault
line_next draft line = if is_at draft stages.Ended then Err BadLine else (line_at (words_of line) >>= λ parsed. next draft parsed)

abbrev pub lines_next : DraftRecord → List (List ℕ) → Result DraftRecord TextFault
lines_next draft [] = Ok draft
lines_next draft (line ∷ lines) = line_next draft line >>= λ then'. lines_next then' lines

-- the state before the first line
abbrev pub empty_draft : ℕ → DraftRecord
empty_draft priority = record { stage = stages.Start; devices = []; classes = []; stranded = []; jobs = 0; below = HIGHEST_PRIORITY + 1; last = 0; opened = opened_at priority }

abbrev pub plan_of : DraftRecord → NamedPlan
plan_of draft = record { devices = draft.devices; plan = record { classes = draft.classes; stranded = draft.stranded } }

-- the plan after all lines, where `rest` follows the last line feed
unfoldable pub ended : DraftRecord → List ℕ → Result NamedPlan TextFault
ended draft rest =
    if not (is_at draft stages.Ended) then Err NoEnd
    else if length rest == 0 then Ok (plan_of draft) else Err BadLine

unfoldable pub plan_from : List (List ℕ) → List ℕ → Result NamedPlan TextFault
plan_from lines rest = lines_next (empty_draft DEFAULT_PRIORITY) lines >>= λ draft. ended draft rest

unfoldable pub plan_in : List (List ℕ) → Result NamedPlan TextFault
plan_in parts = plan_from (take (length parts - 1) parts) (slice_index_or parts (length parts - 1) [])

-- the plan of a text, or its first fault
abbrev pub plan_at : List ℕ → Result NamedPlan TextFault
plan_at text = plan_in (texts_of text)
