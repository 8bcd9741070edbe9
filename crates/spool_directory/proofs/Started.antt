-- The lines that an engine played are those that are stored.
use Rattle.std.proofs.Common.{◌≡◌, ℕ, List, [], ◌++◌, sym, subst}
use Rattle.settings_file.specs.Settings.{ServerSettings, MeetsLimits}
use Rattle.print_room.specs.Opening.{opening}
use Rattle.server.specs.State.{EngineState}
use Rattle.server.specs.Refinement.{IsAt}
use Rattle.journal.specs.File.{HasPlayed, KeepsPlayed}
use Rattle.journal.specs.Resuming.{Extends, RestartsAs}
use Rattle.journal.specs.declared.resumption.Resumption.{Resumption}
use Rattle.journal.specs.declared.restarting.Restarted.{Restarted}
use Rattle.spool_directory.specs.Starting.{IsPlaying, GoesOn, HasStarted}

-- one more line was played
pub one_more : (first middle last : Resumption) (more : List ℕ) → GoesOn first middle → Extends more middle last → GoesOn first last
one_more first middle last more goes extends playing =
    let p = goes playing in
    record { settings = p.settings; within = p.within; first = p.first; file = p.file ++ more; resumes = extends (opening p.settings p.first) p.file p.resumes }

-- the connections were lost
pub restarted : (r : Resumption) (s : Restarted) → IsPlaying r → RestartsAs r s → HasStarted s.stored.lines s.engine
restarted r s playing restarts =
    let p = restarts (opening playing.settings playing.first) playing.file playing.resumes in
    record {
      settings = playing.settings;
      within = playing.within;
      first = playing.first;
      played = subst (λ (t : List ℕ). HasPlayed (opening playing.settings playing.first) t s.engine) (sym p.2) (record { trace = p.1.trace ++ p.1.lost; reaches = p.1.reaches; is_file = p.1.is_longer });
    }

-- no line was played
pub begun : (settings : ServerSettings) (first : ℕ) (lines : List ℕ) (engine : EngineState) → MeetsLimits settings → IsAt (opening settings first) [] engine → lines ≡ [] → HasStarted lines engine
begun settings first lines engine within reaches none = record {
  settings = settings;
  within = within;
  first = first;
  played = record { trace = []; reaches = reaches; is_file = none };
}

-- turns were stored after them
pub later : (lines more : List ℕ) (old new : EngineState) → HasStarted lines old → KeepsPlayed lines old more new → HasStarted more new
later lines more old new started keeps = record { settings = started.settings; within = started.within; first = started.first; played = keeps (opening started.settings started.first) started.played }

-- no line was played, and turns were stored then
pub renewed : (settings : ServerSettings) (first : ℕ) (none more : List ℕ) (fresh renewed : EngineState) → MeetsLimits settings → IsAt (opening settings first) [] fresh → none ≡ []
    → KeepsPlayed none fresh more renewed → HasStarted more renewed
renewed settings first none more fresh new within reaches empty keeps = later none more fresh new (begun settings first none fresh within reaches empty) keeps
