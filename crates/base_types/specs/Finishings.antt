-- The finishings of a job's sheets.
use Rattle.std.specs.Prelude.{Bool, false, not, ◌&&◌, ◌||◌, IsTrue}
use Rattle.base_types.specs.declared.finishings.Finishings.{Finishings}

abbrev pub no_finishings : Finishings
no_finishings = record { staple = false; punch = false; bind = false }

-- each wanted finishing is among those that are there
pub record HasFinishings (there wanted : Finishings) : Type 0 where
  pub staple : IsTrue wanted.staple → IsTrue there.staple
  pub punch : IsTrue wanted.punch → IsTrue there.punch
  pub bind : IsTrue wanted.bind → IsTrue there.bind

-- whether each wanted finishing is among those that are there
abbrev pub has_finishings : Finishings → Finishings → Bool
has_finishings there wanted =
    (not wanted.staple || there.staple) && ((not wanted.punch || there.punch) && (not wanted.bind || there.bind))
