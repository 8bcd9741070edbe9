-- The state of a device at a moment.
use Rattle.std.specs.Prelude.{ℕ, List, Option, map, filter}
use Rattle.base_types.specs.declared.device.Activity.{Activity}
use Rattle.base_types.specs.declared.device.Medium.{Medium}
use Rattle.base_types.specs.declared.finishings.Finishings.{Finishings}

pub record Device : Type 0 where
  pub rate_one : ℕ
  pub rate_two : Option ℕ
  pub setup : ℕ
  pub formats : List (List ℕ)
  pub finishings : Finishings
  pub media : List Medium
  pub activity : Activity
  -- the moment before which the device begins no job
  pub not_before : ℕ

-- the names of the media that are loaded
abbrev pub loaded_media : Device → List (List ℕ)
loaded_media device = map (λ m. m.name) (filter (λ m. m.loaded) device.media)
