-- A server that is notified the lines of a trace, line by line.
use Rattle.std.proofs.Common.{◌≡◌, ℕ, suc, Bool, true, List, [], ◌∷◌, ◌++◌, refl, sym, ap, ◌∙◌, subst, inl, inr, codes, append_assoc, append-nil, Option, Some, None, Result, Ok, Err, OnErr}
use Rattle.std.specs.Fmt.{decimal}
use Rattle.server.specs.State.{EngineState}
use Rattle.server.specs.Refinement.{IsAt}
use Rattle.server.specs.Turn.{Trace}
use Rattle.program.specs.declared.exit_status.ExitStatus.{ExitStatus}
use Rattle.program.specs.declared.exit_status.ExitStatus.TheVariants as Ends
use Rattle.program.specs.Output.{ProgramOutput, refused_as, output_after}
use Rattle.replay.specs.declared.play.Play.{Play}
use Rattle.traces.specs.declared.line.Line.{Line}
use Rattle.traces.specs.declared.line_fault.LineFault.{LineFault}
use Rattle.replay.specs.Acting.{standing, Moves, IsReady, Acts, PlaysAll, PlaysFirst}
use Rattle.replay.specs.Log.{LogRecord}
use Rattle.replay.specs.Playing.{Standing, IsBad, may_come, Plays, LinesPlay}
use Rattle.traces.specs.TraceLine.{IsLine}

pub moves_nothing : (e : EngineState) → Moves e [] e
moves_nothing e opening trace reaches = subst (λ t. IsAt opening t e) (sym (append-nil trace)) reaches

pub moves_then : (a b c : EngineState) (first later : Trace) → Moves a first b → Moves b later c → Moves a (first ++ later) c
moves_then a b c first later p q opening trace reaches = subst (λ t. IsAt opening t c) (append_assoc trace first later) (q opening (trace ++ first) (p opening trace reaches))

-- The result of the lines before. With it, the result of any lines after them is the result of all lines.
pub record Reached (texts : Bool) (names : List (List ℕ)) (first : ℕ) (all : List (List ℕ)) (begun : Standing) (start : EngineState) (done : List ℕ) (number : ℕ) (rest : List (List ℕ)) (now : Standing) (engine : EngineState) : Type 0 where
  pub actions : Trace
  pub passed : List (List ℕ)
  pub whole : all ≡ passed ++ rest
  pub moves : Moves start actions engine
  pub gives : (tail : List (List ℕ)) (later : Trace) (output : ProgramOutput) → LinesPlay texts names number tail now later output → LinesPlay texts names first (passed ++ tail) begun (actions ++ later) (output_after done output)

-- before the first line
pub reached_start : (texts : Bool) (names : List (List ℕ)) (number : ℕ) (lines : List (List ℕ)) (now : Standing) (engine : EngineState) → Reached texts names number lines now engine [] number lines now engine
reached_start texts names number lines now engine = record { actions = []; passed = []; whole = refl; moves = moves_nothing engine; gives = λ tail later output h. h }

-- one line more
reached_next : (texts : Bool) (names : List (List ℕ)) (first : ℕ) (all : List (List ℕ)) (begun : Standing) (start : EngineState) (done : List ℕ) (number : ℕ) (bytes : List ℕ) (more : List (List ℕ)) (now : Standing) (engine : EngineState) (line : Line) (here : Trace) (text : List ℕ) (new : Standing) (after : EngineState)
    → Reached texts names first all begun start done number (bytes ∷ more) now engine → IsLine names bytes line → may_come line now ≡ true → Plays texts names line now here text new → Moves engine here after
    → Reached texts names first all begun start (done ++ text) (suc number) more new after
reached_next texts names first all begun start done number bytes more now engine line here text new after r is comes plays moves = record {
  actions = r.actions ++ here;
  passed = r.passed ++ bytes ∷ [];
  whole = r.whole ∙ sym (append_assoc r.passed (bytes ∷ []) more);
  moves = moves_then start engine after r.actions here r.moves moves;
  gives = λ tail later output h.
      let step = r.gives (bytes ∷ tail) (here ++ later) (output_after text output) (inr (line, here, text, new, later, output, is, comes, plays, h, refl, refl)) in
      subst (λ ls. LinesPlay texts names first ls begun ((r.actions ++ here) ++ later) (record output { text = (done ++ text) ++ output.text })) (sym (append_assoc r.passed (bytes ∷ []) tail))
      (subst (λ ds. LinesPlay texts names first (r.passed ++ bytes ∷ tail) begun ds (record output { text = (done ++ text) ++ output.text })) (sym (append_assoc r.actions here later))
      (subst (λ t. LinesPlay texts names first (r.passed ++ bytes ∷ tail) begun (r.actions ++ (here ++ later)) (record output { text = t })) (sym (append_assoc done text output.text)) step));
}

-- after the last line
at_end : (texts : Bool) (names : List (List ℕ)) (first : ℕ) (all : List (List ℕ)) (begun : Standing) (start : EngineState) (done : List ℕ) (number : ℕ) (rest : List (List ℕ)) (now : Standing) (engine : EngineState)
    → (r : Reached texts names first all begun start done number rest now engine) → LinesPlay texts names first r.passed begun r.actions (record { text = done; status = Ends.Done })
at_end texts names first all begun start done number rest now engine r =
    let step = r.gives [] [] (record { text = []; status = Ends.Done }) (refl, refl) in
    subst (λ ls. LinesPlay texts names first ls begun r.actions (record { text = done; status = Ends.Done })) (append-nil r.passed)
    (subst (λ ds. LinesPlay texts names first (r.passed ++ []) begun ds (record { text = done; status = Ends.Done })) (append-nil r.actions)
    (subst (λ t. LinesPlay texts names first (r.passed ++ []) begun (r.actions ++ []) (record { text = t; status = Ends.Done })) (append-nil done) step))

-- memory was refused
pub left_off : (play now : Play) (number next : ℕ) (lines rest : List (List ℕ)) (before done left : List ℕ)
    → Reached play.log.texts play.log.names number lines (standing play) play.engine done next rest (standing now) now.engine → left ≡ before ++ done → PlaysFirst play number lines before left
left_off play now number next lines rest before done left r is = record {
  first = r.passed;
  others = rest;
  cut = r.whole;
  plays = record {
    actions = r.actions;
    output = record { text = done; status = Ends.Done };
    new = now.engine;
    plays = at_end _ _ _ _ _ _ _ _ _ _ _ r;
    moves = r.moves;
    printed = ap (λ t. record { text = t; status = Ends.Done }) is;
  };
}

-- all lines were good
pub all_done : (play now : Play) (number next : ℕ) (lines rest : List (List ℕ)) (before done left : List ℕ)
    → Reached play.log.texts play.log.names number lines (standing play) play.engine done next rest (standing now) now.engine → rest ≡ [] → left ≡ before ++ done → PlaysAll play number lines before (record { text = left; status = Ends.Done })
all_done play now number next lines rest before done left r none is =
    let passed : r.passed ≡ lines = sym (append-nil r.passed) ∙ ap (λ ls. r.passed ++ ls) (sym none) ∙ sym r.whole in
    record {
      actions = r.actions;
      output = record { text = done; status = Ends.Done };
      new = now.engine;
      plays = subst (λ ls. LinesPlay play.log.texts play.log.names number ls (standing play) r.actions (record { text = done; status = Ends.Done })) passed (at_end _ _ _ _ _ _ _ _ _ _ _ r);
      moves = r.moves;
      printed = ap (λ t. record { text = t; status = Ends.Done }) is;
    }

-- a line was bad
pub at_bad : (play now : Play) (number next printed : ℕ) (lines rest : List (List ℕ)) (before done left bytes : List ℕ) (more : List (List ℕ)) (status : ExitStatus)
    → Reached play.log.texts play.log.names number lines (standing play) play.engine done next rest (standing now) now.engine → rest ≡ bytes ∷ more → IsBad play.log.names bytes (standing now) → printed ≡ next
    → left ≡ before ++ (done ++ (refused_as (codes "line " ++ decimal printed)).text) → status ≡ Ends.Refused → PlaysAll play number lines before (record { text = left; status = status })
at_bad play now number next printed lines rest before done left bytes more status r cut bad same is ends =
    let refused : ProgramOutput = refused_as (codes "line " ++ decimal next) in
    let step = r.gives (bytes ∷ more) [] refused (inl (bad, refl, refl)) in
    let whole : r.passed ++ bytes ∷ more ≡ lines = ap (λ ls. r.passed ++ ls) (sym cut) ∙ sym r.whole in
    record {
      actions = r.actions ++ [];
      output = output_after done refused;
      new = now.engine;
      plays = subst (λ ls. LinesPlay play.log.texts play.log.names number ls (standing play) (r.actions ++ []) (output_after done refused)) whole step;
      moves = subst (λ ds. Moves play.engine ds now.engine) (sym (append-nil r.actions)) r.moves;
      printed = rw (is, ends, same) refl;
    }

-- one line more was acted on
pub went_on : (play old new : Play) (number next after : ℕ) (lines rest : List (List ℕ)) (before done out1 out2 bytes : List ℕ) (more : List (List ℕ)) (fault : Option LineFault)
    → Acts old bytes out1 fault new out2 → fault ≡ None → old.log ≡ play.log → IsReady old
    → Reached play.log.texts play.log.names number lines (standing play) play.engine done next rest (standing old) old.engine → rest ≡ bytes ∷ more → out1 ≡ before ++ done → after ≡ suc next
    → (more_done : List ℕ) × (out2 ≡ before ++ more_done) × Reached play.log.texts play.log.names number lines (standing play) play.engine more_done after more (standing new) new.engine × (new.log ≡ play.log) × IsReady new
went_on play old new number next after lines rest before done out1 out2 bytes more fault acts is same ready r cut out one =
    let did : Acts old bytes out1 None new out2 = subst (λ f. Acts old bytes out1 f new out2) is acts in
    let line : Line = did.0 in
    let text : List ℕ = did.1 in
    let does = did.4 in
    let known : IsLine play.log.names bytes line = subst (λ (l : LogRecord). IsLine l.names bytes line) same did.2 in
    let plays : Plays play.log.texts play.log.names line (standing old) does.actions text (standing new) = subst (λ (l : LogRecord). Plays l.texts l.names line (standing old) does.actions text (standing new)) same does.is in
    let here : Reached play.log.texts play.log.names number lines (standing play) play.engine done next (bytes ∷ more) (standing old) old.engine = subst (λ ls. Reached play.log.texts play.log.names number lines (standing play) play.engine done next ls (standing old) old.engine) cut r in (
      done ++ text,
      did.5 ∙ ap (λ o. o ++ text) out ∙ append_assoc before done text,
      subst (λ n. Reached play.log.texts play.log.names number lines (standing play) play.engine (done ++ text) n more (standing new) new.engine) (sym one) (reached_next _ _ _ _ _ _ _ _ _ _ _ _ line does.actions text _ _ here known did.3 plays does.moves),
      does.log ∙ same,
      record { silent = ap (λ (l : LogRecord). l.observed) does.log ∙ ready.silent; prompt = does.prompt },
    )

-- the result for bad bytes
pub stood_still : (play old new : Play) (bytes out1 out2 : List ℕ) (answer : Option LineFault) (fault : LineFault) → Acts old bytes out1 answer new out2 → answer ≡ Some fault → old.log ≡ play.log → IsBad play.log.names bytes (standing old) × (out2 ≡ out1)
stood_still play old new bytes out1 out2 answer fault acts is same =
    let did : Acts old bytes out1 (Some fault) new out2 = subst (λ a. Acts old bytes out1 a new out2) is acts in
    (subst (λ (l : LogRecord). IsBad l.names bytes (standing old)) same did.0, did.1)

-- one text after another
pub joined : (before out1 mid new done text : List ℕ) → new ≡ mid ++ text → mid ≡ out1 → out1 ≡ before ++ done → new ≡ before ++ (done ++ text)
joined before out1 mid new done text en em eo = en ∙ ap (λ o. o ++ text) (em ∙ eo) ∙ append_assoc before done text

pub on_err : {T E P : Type 0} (r : Result T E) → P → OnErr r P
on_err (Ok x) p = tt
on_err (Err e) p = p
