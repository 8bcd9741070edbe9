-- The state of a decoder that was fed bytes, in segments of any length.
use Rattle.std.specs.Prelude.{◌≡◌, ◌≢◌, ◌<◌, ◌≤◌, ℕ, ◌+◌, max, nat_le, ◌==◌, List, ◌++◌, length, take, drop, get_or, if◌then◌else◌, Option, Some, None, Result, Ok, Err}
use Rattle.base_types.specs.declared.limits.TheConstants.Limits.{IPP_HEAD_BYTES}
use Rattle.ipp_codec.specs.declared.fault.CodecFault.{CodecFault}
use Rattle.ipp_codec.specs.declared.fault.CodecFault.TheVariants.{Short}
use Rattle.ipp_codec.specs.declared.fault.DecodeError.{DecodeError}
use Rattle.ipp_codec.specs.declared.fault.DecodeError.TheVariants.{Fault, OutOfMemory}
use Rattle.ipp_codec.specs.declared.place.Place.{Place}
use Rattle.ipp_codec.specs.declared.place.Place.TheVariants.{Outside}
use Rattle.ipp_codec.specs.declared.place.Walk.{Walk}
use Rattle.ipp_codec.specs.declared.stage.Stage.{Stage}
use Rattle.ipp_codec.specs.declared.stage.Stage.TheVariants.{Awaiting, Whole, Faulty}
use Rattle.ipp_codec.specs.declared.stage.Fed.{Fed}
use Rattle.ipp_codec.specs.declared.stage.Fed.TheVariants.{More, Head}
use Rattle.ipp_codec.specs.declared.stage.Reached.{Reached}
use Rattle.ipp_codec.specs.Message.{IppMessage}
use Rattle.ipp_codec.specs.Spelling.{Element, bytes_of}
use Rattle.ipp_codec.specs.Grammar.{Spells}
use Rattle.ipp_codec.specs.Place.{place_from, Follows}
use Rattle.ipp_codec.specs.FirstFault.{First, HeadFault}
use Rattle.ipp_codec.specs.Decoding.{fault_within}

-- the state of a decoder: the bytes that it keeps, the number of those that are read, the place after them, and the stage
pub record DecoderState : Type 0 where
  pub head : List ℕ
  pub walked : ℕ
  pub place : Place
  pub stage : Stage

-- numbers of eight bits
abbrev pub IsBytes : List ℕ → Type 0
IsBytes bytes = (i : ℕ) → get_or bytes i 0 < 256

-- the bytes begin with elements that lead to the place, and these bytes are left
abbrev pub Leads : List ℕ → Place → List ℕ → Type 0
Leads bytes place rest = (es : List Element) × Follows Outside es × (bytes ≡ bytes_of es ++ rest) × (place ≡ place_from Outside es)

-- no bytes are read before the header is whole; then whole elements are read, and bytes of the next element are missing
abbrev pub IsRead : DecoderState → Type 0
IsRead d = (d.walked < 8 → d.place ≡ Outside) × (8 ≤ d.walked → Leads (drop 8 d.head) d.place (drop d.walked d.head) × First d.place (drop d.walked d.head) Short)

-- the result of `decode` by the stage, and the bytes that are kept for it: all bytes while more are awaited, else those of the head
abbrev pub IsAtStage : Stage → List ℕ → DecoderState → Type 0
IsAtStage Awaiting fed d = (d.head ≡ fed) × HeadFault fed Short × IsRead d
IsAtStage Whole fed d = (length d.head ≤ IPP_HEAD_BYTES) × ((m : IppMessage) × Spells d.head m)
IsAtStage (Faulty fault) fed d = (fault ≢ Short) × HeadFault fed fault × (8 ≤ length d.head)

-- The decoder was fed these bytes. It keeps a prefix of them, with at least as much of the header as was fed.
pub record HasDecoded (fed : List ℕ) (d : DecoderState) : Type 0 where
  pub bytes : IsBytes fed
  pub prefix : (rest : List ℕ) × (fed ≡ d.head ++ rest)
  pub header : take 8 d.head ≡ take 8 fed
  pub known : IsAtStage d.stage fed d

-- a segment is taken in
abbrev pub TakesIn : DecoderState → List ℕ → DecoderState → Type 0
TakesIn old segment new = (fed : List ℕ) → HasDecoded fed old → HasDecoded (fed ++ segment) new

-- the result of feeding a segment
abbrev pub Feeds : DecoderState → List ℕ → Result Fed DecodeError → DecoderState → Type 0
Feeds old segment (Ok More) new = TakesIn old segment new × (new.stage ≡ Awaiting)
Feeds old segment (Ok (Head count)) new = TakesIn old segment new × (new.stage ≡ Whole) × (length new.head ≡ length old.head + count) × (count ≤ length segment)
Feeds old segment (Err (Fault fault)) new = TakesIn old segment new × (new.stage ≡ Faulty fault)
Feeds old segment (Err OutOfMemory) new = new ≡ old

-- ---- steps

-- the progress of a decoder, to which it may return
abbrev pub reached_of : DecoderState → Reached
reached_of d = record { length = length d.head; walked = d.walked; place = d.place; stage = d.stage }

-- the decoder at an earlier progress
abbrev pub returned : DecoderState → Reached → DecoderState
returned d reached = record { head = take reached.length d.head; walked = reached.walked; place = reached.place; stage = reached.stage }

-- A decoder may have this progress.
pub record CanReach (reached : Reached) : Type 0 where
  pub within : reached.walked ≤ reached.length
  pub header : reached.walked < 8 → reached.length < 8
  pub whole : reached.stage ≡ Whole → 9 ≤ reached.length

-- more bytes of the head are awaited, and the limit isn't reached
abbrev pub MayCome : DecoderState → Type 0
MayCome d = (d.stage ≡ Awaiting) × (length d.head < IPP_HEAD_BYTES)

-- the result of feeding a segment of which `count` bytes were kept
abbrev pub answer_at : Stage → ℕ → Result Fed DecodeError
answer_at Awaiting count = Ok More
answer_at Whole count = Ok (Head count)
answer_at (Faulty fault) count = Err (Fault fault)

-- bytes of the header are kept; it is read once it is whole
abbrev pub with_header : DecoderState → List ℕ → DecoderState
with_header d prefix = record d { head = d.head ++ prefix; walked = if length (d.head ++ prefix) == 8 then 8 else d.walked }

-- the stage of a fault: for `Short`, more bytes are awaited
abbrev pub stage_of : CodecFault → Stage
stage_of Short = Awaiting
stage_of fault = Faulty fault

-- the stage after elements, followed by the end byte or a fault, where this many bytes are kept
abbrev pub stage_at : Option CodecFault → ℕ → Stage
stage_at None kept = Whole
stage_at (Some fault) kept = stage_of (fault_within fault (nat_le IPP_HEAD_BYTES kept))

-- the number of bytes that are kept, of `all` bytes whose elements have `length` bytes
abbrev pub kept_of : Option CodecFault → ℕ → ℕ → ℕ
kept_of None length all = length + 1
kept_of (Some Short) length all = all
kept_of (Some fault) length all = length

-- the bytes that are kept, where `length` bytes are before the end byte and `kept` were kept before
abbrev pub ended : Option CodecFault → ℕ → ℕ → List ℕ → List ℕ
ended None kept length head = take (max kept (length + 1)) head
ended (Some fault) kept length head = head

-- the decoder after a walk over the bytes after those that were read
abbrev pub advanced : DecoderState → Walk → ℕ → DecoderState
advanced d walk kept = record {
  head = ended walk.fault kept (d.walked + walk.length) d.head;
  walked = d.walked + walk.length;
  place = walk.place;
  stage = stage_at walk.fault (length d.head);
}
