-- The result of the settings of a trace.
use Rattle.std.proofs.Common.{◌≡◌, ℕ, suc, Bool, List, [], ◌++◌, Option, Some, MatchResult, Ok, sym, ap, subst, ◌∙◌, inl, inr}
use Rattle.std.specs.Option.{ForSome}
use Rattle.settings_file.specs.declared.fault.SettingsFault.TheVariants as code
use Rattle.settings_file.specs.Fault.{Fault, not_toml, fault_of}
use Rattle.settings_file.specs.Reading.{IsFaultOf}
use Rattle.traces.specs.Lines.{HasNoStop, lines_of}
use Rattle.program.specs.declared.exit_status.ExitStatus.{ExitStatus}
use Rattle.program.specs.declared.exit_status.ExitStatus.TheVariants as Ends
use Rattle.program.specs.Output.{ProgramOutput, output_after}
use Rattle.program.specs.RefusedSettings.{settings_refused}
use Rattle.std.specs.Str.{IsUtf8}
use Rattle.settings_file.specs.Settings.{ServerSettings, device_names}
use Rattle.settings_file.specs.Reading.{settings_of}
use Rattle.print_room.specs.Opening.{opening}
use Rattle.replay.specs.declared.play.Play.{Play}
use Rattle.replay.specs.Acting.{standing, IsStart, PlaysAll, PlaysFirst}
use Rattle.replay.specs.Log.{LogRecord}
use Rattle.replay.specs.Playing.{LinesPlay}
use Rattle.replay.specs.Replay.{LinesGive, SettingsGive, SettingsLeave, TraceGives, start}

abbrev refusal : List ℕ → ProgramOutput
refusal text = record { text = text; status = Ends.Refused }

line_alone : (out old line : List ℕ) → old ≡ [] → out ≡ old ++ line → out ≡ line
line_alone out old line none is = is ∙ ap (λ o. o ++ line) none

some_is : (named : Fault) → Some named ≡ Some not_toml → named ≡ not_toml
some_is named e = cc

pub settings_give_fault : (texts : Bool) (settings rest : List ℕ) (count : ℕ) (fault : Option Fault) (named : Fault) (old out : List ℕ)
    → (status : ExitStatus) → ForSome fault (IsFaultOf settings) → fault ≡ Some named → old ≡ [] → out ≡ old ++ (settings_refused named).text → status ≡ Ends.Refused → SettingsGive texts settings rest count (record { text = out; status = status })
settings_give_fault texts settings rest count fault named old out status known is none output two = subst (λ s. SettingsGive texts settings rest count (record { text = out; status = s })) (sym two) (
    let line : out ≡ (settings_refused named).text = line_alone out old _ none output in
    elim (known named is) [
      | inl unread ↦ inl (unread.0, ap refusal (line ∙ ap (λ f. (settings_refused f).text) unread.1))
      | inr read ↦ inr (read.0, subst (λ r. MatchResult r (λ good. LinesGive texts good (suc count) (lines_of rest) (refusal out)) (λ f. refusal out ≡ settings_refused f)) (sym read.1) (ap refusal line))
    ])

pub trace_gives_no_settings : (texts : Bool) (trace : List ℕ) (named : Fault) (old out : List ℕ) (status : ExitStatus) → HasNoStop trace → fault_of code.NotToml ≡ Some named → old ≡ [] → out ≡ old ++ (settings_refused named).text → status ≡ Ends.Refused → TraceGives texts trace (record { text = out; status = status })
trace_gives_no_settings texts trace named old out status unsplit is none output two =
    inl (unsplit, ap (λ s. record { text = out; status = s }) two ∙ ap refusal (line_alone out old _ none output ∙ ap (λ f. (settings_refused f).text) (some_is named (sym is))))

-- ---- settings that are good

-- the text printed after an empty text
alone : (before : List ℕ) (text : ProgramOutput) → before ≡ [] → output_after before text ≡ text
alone before text none = ap (λ b. output_after b text) none

lines_give : (texts : Bool) (read : ServerSettings) (play : Play) (number : ℕ) (lines : List (List ℕ)) (before : List ℕ) (all : ProgramOutput) → IsStart texts read play → before ≡ [] → PlaysAll play number lines before all → LinesGive texts read number lines all
lines_give texts read play number lines before all starts none plays =
    let reaches = plays.moves (opening read 1) [] starts.reaches in
    let as_printed : plays.output ≡ all = sym (plays.printed ∙ alone before plays.output none) in
    let named : LinesPlay texts (device_names read) number lines (standing play) plays.actions plays.output = subst (λ (l : LogRecord). LinesPlay l.texts l.names number lines (standing play) plays.actions plays.output) starts.log plays.plays in
    record {
      actions = plays.actions;
      ledger = reaches.0;
      plays = subst (λ s. LinesPlay texts (device_names read) number lines start plays.actions s) as_printed (subst (λ s. LinesPlay texts (device_names read) number lines s plays.actions plays.output) starts.starts named);
      runs = reaches.1;
    }

pub settings_give : (texts : Bool) (settings rest : List ℕ) (count : ℕ) (play : Play) (before out : List ℕ) (status : ExitStatus) (utf8 : IsUtf8 settings) → (read : ServerSettings) → settings_of settings ≡ Ok read → IsStart texts read play → before ≡ []
    → PlaysAll play (suc count) (lines_of rest) before (record { text = out; status = status }) → SettingsGive texts settings rest count (record { text = out; status = status })
settings_give texts settings rest count play before out status utf8 read is starts none plays =
    inr (utf8, subst (λ r. MatchResult r (λ good. LinesGive texts good (suc count) (lines_of rest) (record { text = out; status = status })) (λ f. record { text = out; status = status } ≡ settings_refused f)) (sym is) (lines_give texts read play (suc count) (lines_of rest) before _ starts none plays))

pub settings_leave : (texts : Bool) (settings rest : List ℕ) (count : ℕ) (play : Play) (before left : List ℕ) (read : ServerSettings) → settings_of settings ≡ Ok read → IsStart texts read play → before ≡ []
    → PlaysFirst play (suc count) (lines_of rest) before left → SettingsLeave texts settings rest count left
settings_leave texts settings rest count play before left read is starts none first =
    inr (record { read = read; reads = is; first = first.first; others = first.others; lines = first.cut; gives = lines_give texts read play (suc count) first.first before _ starts none first.plays })
