-- A job has a cause exactly where no device is able to print it.
use Rattle.std.proofs.Common.{◌≡◌, ℕ, ◌≤◌, ◌↔◌, suc, List, [], ◌∷◌, Option, Some, None, IsNone, is_some, Contains, arith, refl, sym, ap, ◌∙◌, inl, inr}
use Rattle.std.specs.Prelude.{slice_get}
use Rattle.std.proofs.lemmas.Bool.{cases_lt}
use Rattle.base_types.specs.Needs.{JobNeeds}
use Rattle.base_types.specs.Device.{Device}
use Rattle.plan_problem.specs.Cause.{filters_of, first_cause, devices_of, cause_of, HasAbleDevice}
use Rattle.plan_problem.proofs.Filters.{able_from_tests, none_since}
use Rattle.plan_problem.proofs.Stages.{stage_of, stage_of-nil, stage_of-cons_option, stage_with, passed_by, none_failed, past_if_none, past_if_able, none_past_stages}

-- if the printer passes all filters, one of its places has an able device
able_if_past : (needs : JobNeeds) (printer places : List ℕ) (devices : List Device) → ((place : ℕ) → Contains places place → Contains printer place) → 6 ≤ stage_of (filters_of needs) (devices_of places devices) → HasAbleDevice needs printer devices
able_if_past needs printer [] devices among past = absurd (omega (arith, stage_of-nil (filters_of needs)))
able_if_past needs printer (place ∷ places) devices among past =
    at_found (slice_get devices place) refl (able_if_past needs printer places devices (λ p h. among p (suc h.0, omega (arith, h.1), h.2)))
  where
    at_found : (found : Option Device) → slice_get devices place ≡ found → (6 ≤ stage_of (filters_of needs) (devices_of places devices) → HasAbleDevice needs printer devices) → HasAbleDevice needs printer devices
    at_found None e later = later (omega (arith, past, stage_of-cons_option (filters_of needs) (slice_get devices place) (devices_of places devices) ∙ ap (λ o. stage_with (filters_of needs) o (stage_of (filters_of needs) (devices_of places devices))) e))
    at_found (Some device) e later = elim (cases_lt (passed_by (filters_of needs) device) 6) [
      | inl short ↦ later (omega (arith, short, past, stage_of-cons_option (filters_of needs) (slice_get devices place) (devices_of places devices) ∙ ap (λ o. stage_with (filters_of needs) o (stage_of (filters_of needs) (devices_of places devices))) e))
      | inr all ↦ (place, rw e (able_from_tests needs place device printer (among place (0, omega arith, refl)) (none_failed needs device all)))
    ]

-- there is no cause exactly where some device of the settings is able
pub cause_none : (needs : JobNeeds) (printer : List ℕ) (devices : List Device) → IsNone (cause_of needs printer devices) ↔ HasAbleDevice needs printer devices
cause_none needs printer devices = (
  λ none. able_if_past needs printer printer devices (λ place h. h) (past_if_none needs (devices_of printer devices) (none_since (first_cause (filters_of needs) (devices_of printer devices)) none)),
  λ able. ap is_some (sym (none_past_stages needs (devices_of printer devices) (past_if_able needs printer devices able))),
)
