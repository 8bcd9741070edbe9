-- The columns, device by device.
use Rattle.std.specs.Prelude.{◌≡◌, ℕ, ◌<◌, List, [], length, slice_index, slice_index_or}
use Rattle.plan_solver.specs.declared.costs.Place.{Place}
use Rattle.plan_solver.specs.Costs.{nowhere}
use Rattle.plan_solver.specs.Layout.{taken}
use Rattle.plan_solver.specs.AllPlaces.{place_on}

-- the numbers of the columns on the device, that of the last place first
pub record AreColumnsOf (device : ℕ) (columns : List Place) (device_columns : List ℕ) : Type 0 where
  pub known : (after : ℕ) → after < length device_columns → slice_index device_columns after < length columns
  pub places : (after : ℕ) → after < length device_columns → slice_index_or columns (slice_index device_columns after) nowhere ≡ place_on device after
  pub within : (c : ℕ) → c < length columns → (slice_index_or columns c nowhere).device ≡ device → (slice_index_or columns c nowhere).after < length device_columns
  pub there : (c : ℕ) → c < length columns → (slice_index_or columns c nowhere).device ≡ device → slice_index device_columns (slice_index_or columns c nowhere).after ≡ c

-- the columns of each of `devices` devices
pub record AreByDevice (devices : ℕ) (columns : List Place) (by_device : List (List ℕ)) : Type 0 where
  pub one_each : length by_device ≡ devices
  pub known : (c : ℕ) → c < length columns → (slice_index_or columns c nowhere).device < devices
  pub counts : (device : ℕ) → device < devices → length (slice_index_or by_device device []) ≡ taken device columns
  pub device_columns : (device : ℕ) → device < devices → AreColumnsOf device columns (slice_index_or by_device device [])
