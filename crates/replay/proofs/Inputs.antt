-- The bytes that an input gives, and the bytes that are left in it.
use Rattle.std.proofs.Common.{◌≡◌, ℕ, Bool, List, Option, Some, None, IfSome, IfOk, Result, Ok, Err, refl, sym, subst, inl, inr, take}
use Rattle.std.specs.Result.{result_ok}
use Rattle.std.specs.Io.KnownBytes.{Appends}
use Rattle.base_types.specs.declared.limits.TheConstants.Limits.{INPUT_BYTES}
use Rattle.program.specs.declared.exit_status.ExitStatus.TheVariants as Ends
use Rattle.program.specs.Input.{IsWhole}
use Rattle.program.specs.Output.{ProgramOutput}
use Rattle.replay.specs.Replay.{TraceGives, InputGives, InputLeaves, Replays}

pub some_of_ok : {T E : Type 0} (r : Result T E) (o : Option T) (P : T → Type 0) → o ≡ result_ok r → IfOk r P → IfSome o P
some_of_ok (Ok x) o P e h = subst (λ p. IfSome p P) (sym e) h
some_of_ok (Err x) o P e h = subst (λ p. IfSome p P) (sym e) tt

pub if_some_weaker : {T : Type 0} (o : Option T) (P Q : T → Type 0) → ((x : T) → P x → Q x) → IfSome o P → IfSome o Q
if_some_weaker None P Q f h = tt
if_some_weaker (Some x) P Q f h = f x h

pub input_gives : (texts : Bool) (before after : Option (List ℕ)) (trace lent : List ℕ) (output : ProgramOutput) → IsWhole INPUT_BYTES before after trace → lent ≡ trace → TraceGives texts lent output → InputGives texts before after output
input_gives texts before after trace lent output whole same gives = inl (trace, whole, subst (λ t. TraceGives texts t output) same gives)

pub fails : (texts : Bool) (before after held holds : Option (List ℕ)) (text lent : List ℕ) (n : ℕ) → InputLeaves texts before after text → lent ≡ text → Appends held holds (take n lent) → Replays texts before after held holds Ends.Failed
fails texts before after held holds text lent n left same written = inr (refl, text, n, left, subst (λ t. Appends held holds (take n t)) same written)
