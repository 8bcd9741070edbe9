-- The start of a server: its engine is at the trace of the lines that are stored.
use Rattle.std.specs.Prelude.{ℕ, List}
use Rattle.settings_file.specs.Settings.{ServerSettings, MeetsLimits}
use Rattle.print_room.specs.Opening.{opening}
use Rattle.server.specs.State.{EngineState}
use Rattle.journal.specs.File.{HasPlayed}
use Rattle.journal.specs.Resuming.{Resumes}
use Rattle.journal.specs.declared.resumption.Resumption.{Resumption}

-- some lines were played, from the opening state of some settings within the limits
pub record IsPlaying (r : Resumption) : Type 0 where
  pub settings : ServerSettings
  pub within : MeetsLimits settings
  pub first : ℕ
  pub file : List ℕ
  pub resumes : Resumes (opening settings first) file r

-- further lines were played
abbrev pub GoesOn : Resumption → Resumption → Type 0
GoesOn old new = IsPlaying old → IsPlaying new

-- the engine is at a trace whose file is these lines, from the opening state of some settings within the limits
pub record HasStarted (lines : List ℕ) (engine : EngineState) : Type 0 where
  pub settings : ServerSettings
  pub within : MeetsLimits settings
  pub first : ℕ
  pub played : HasPlayed (opening settings first) lines engine
