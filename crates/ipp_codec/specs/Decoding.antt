-- The contract of the reader of a head, before the limit of a head is applied.
use Rattle.std.specs.Prelude.{◌≡◌, ◌≤◌, ℕ, List, ◌++◌, length, take, Result, Ok, Err, Bool, true}
use Rattle.base_types.specs.declared.limits.TheConstants.Limits.{IPP_HEAD_BYTES}
use Rattle.ipp_codec.specs.declared.fault.CodecFault.{CodecFault}
use Rattle.ipp_codec.specs.declared.fault.CodecFault.TheVariants.{Short, TooLarge}
use Rattle.ipp_codec.specs.Message.{IppMessage}
use Rattle.ipp_codec.specs.Spelling.{spelling}
use Rattle.ipp_codec.specs.declared.view.MessageView.{MessageView}
use Rattle.ipp_codec.specs.Grammar.{IsMessage, Spells}
use Rattle.ipp_codec.specs.FirstFault.{FirstFault, HeadFault}
use Rattle.ipp_codec.specs.Views.{message_shown}

-- the length of the spelling at the beginning, or the first fault
abbrev pub Lengths : List ℕ → Result ℕ CodecFault → Type 0
Lengths bytes (Ok n) = (m : IppMessage) × (tail : List ℕ) × IsMessage m × (bytes ≡ spelling m ++ tail) × (n ≡ length (spelling m))
Lengths bytes (Err f) = FirstFault bytes f

-- a missing byte is a byte too many, if the bytes go on after the limit
abbrev pub fault_within : CodecFault → Bool → CodecFault
fault_within Short true = TooLarge
fault_within f _ = f

-- the message that a prefix of the bytes spells, with the prefix's length, or the first fault
abbrev pub Decodes : List ℕ → Result (MessageView × ℕ) CodecFault → Type 0
Decodes bytes (Ok x) = (x.1 ≤ IPP_HEAD_BYTES) × (x.1 ≤ length bytes) × Spells (take x.1 bytes) (message_shown x.0)
Decodes bytes (Err f) = HeadFault bytes f
