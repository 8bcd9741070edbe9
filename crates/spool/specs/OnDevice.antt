-- The jobs that devices have. Until its device ends it, such a job stays in the spool with its documents, byte for byte.
use Rattle.std.specs.Prelude.{ℕ, ◌≡◌, Bool, true, false, List, []}
use Rattle.std.specs.Option.{option_map_or}
use Rattle.octets.specs.Document.{DocumentRecord}
use Rattle.spool.specs.Spooled.{SpooledRecord}
use Rattle.spool.specs.Jobs.{spooled_at}

-- whether a device has the job of this id
abbrev pub is_on_device : ℕ → List SpooledRecord → Bool
is_on_device id jobs = option_map_or (λ s. s.on_device) (spooled_at id jobs) false

-- the documents of the job of this id
abbrev pub documents_at : ℕ → List SpooledRecord → List DocumentRecord
documents_at id jobs = option_map_or (λ s. s.documents) (spooled_at id jobs) []

-- a device still has the job of this id, with its documents unchanged
pub record Stays (id : ℕ) (old new : List SpooledRecord) : Type 0 where
  pub on_device : is_on_device id new ≡ true
  pub documents : documents_at id new ≡ documents_at id old

-- each job that a device has stays with it
abbrev pub AllStay : List SpooledRecord → List SpooledRecord → Type 0
AllStay old new = (id : ℕ) → is_on_device id old ≡ true → Stays id old new

-- each job that a device has, except this job, stays with the device
abbrev pub OthersStay : ℕ → List SpooledRecord → List SpooledRecord → Type 0
OthersStay one old new = (id : ℕ) → ¬ (id ≡ one) → is_on_device id old ≡ true → Stays id old new
