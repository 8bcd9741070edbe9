use Rattle.std.proofs.Common.{ℕ, Bool, List, take, Option, Some, None, IfSome, IsNone, inr, refl, subst}
use Rattle.std.specs.Io.KnownBytes.{Appends}
use Rattle.program.specs.declared.exit_status.ExitStatus.{ExitStatus}
use Rattle.replay.specs.Replay.{InputGives, InputLeaves}
use Rattle.replay.proofs.run.play_input.Goals as goal

-- the text to be written where the output can't be written whole
left_to_write : (texts : Bool) (before after : Option (List ℕ)) (due : List ℕ) (answer : Option ExitStatus) → IfSome answer (λ status. InputGives texts before after (record { text = due; status = status })) → (IsNone answer → InputLeaves texts before after due) → InputLeaves texts before after due
left_to_write texts before after due None gives leaves = leaves refl
left_to_write texts before after due (Some status) gives leaves = inr (inr (record { text = due; status = status }, gives, refl))

pub returns-then-write_prefix-len : goal.returns-then-write_prefix-len
returns-then-write_prefix-len g c =
    let due : List ℕ = c.answer_input-due.new.output.items in
    inr (
      refl,
      due,
      c.write_prefix.result,
      left_to_write c.args.texts (g.R.Read.remaining c.args.reader.now) (g.R.Read.remaining c.answer_input-due.new.reader) due c.answer_input-due.result c.answer_input-due.ensures.some c.answer_input-due.ensures.none,
      subst (λ (bytes : List ℕ). Appends (g.W.Write.contents c.args.writer.now) (g.W.Write.contents c.write_prefix.new.writer) (take c.write_prefix.result bytes)) c.deref.ensures.value c.write_prefix.ensures.prefix,
    )
