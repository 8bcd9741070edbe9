-- The meaning of each verdict on a priced way: that all conditions hold, or the first that doesn't.
use Rattle.std.specs.Prelude.{◌≡◌, ◌⊎◌, ℕ, List, [], ◌∷◌}
use Rattle.plan_problem.specs.Class.{Class}
use Rattle.plan_prices.specs.Way.{NamesKnown, NoneTwice, AllAble}
use Rattle.plan_prices.specs.Prices.{PriceLists}
use Rattle.plan_checker.specs.Beside.{Beside, NoneElsewhere, WaitsFollow}
use Rattle.plan_checker.specs.Fair.{NoneMissing, NonePositive, NoneTooHigh, TotalsAgree}
use Rattle.plan_checker.specs.declared.verdict.Fault.{Fault}
use Rattle.plan_checker.specs.declared.verdict.Fault.TheVariants.{UnknownName, Twice, Missing, NotAble, WrongWait, PositivePlacePrice, PriceTooHigh, TotalsDiffer}
use Rattle.plan_checker.specs.declared.verdict.Verdict.{Verdict}
use Rattle.plan_checker.specs.declared.verdict.Verdict.TheVariants.{Yes, No}

-- no job is twice in the way, and none of its jobs is elsewhere in the plan
pub record EachOnce (beside : Beside) (c : Class) (way : List (List ℕ)) : Type 0 where
  pub in_way : NoneTwice c way
  pub elsewhere : NoneElsewhere beside c

-- the condition of each fault
abbrev pub MustHold : Beside → Class → List (List ℕ) → PriceLists → ℕ → Fault → Type 0
MustHold beside c way prices total UnknownName = NamesKnown c way
MustHold beside c way prices total Twice = EachOnce beside c way
MustHold beside c way prices total Missing = NoneMissing c way prices
MustHold beside c way prices total NotAble = AllAble c way
MustHold beside c way prices total WrongWait = WaitsFollow beside.above c
MustHold beside c way prices total PositivePlacePrice = NonePositive prices.places
MustHold beside c way prices total PriceTooHigh = NoneTooHigh c prices
MustHold beside c way prices total TotalsDiffer = TotalsAgree c way prices total

-- the faults, in the order of their checks
abbrev pub faults : List Fault
faults = UnknownName ∷ Twice ∷ Missing ∷ NotAble ∷ WrongWait ∷ PositivePlacePrice ∷ PriceTooHigh ∷ TotalsDiffer ∷ []

-- yes if all conditions hold, else no with the first fault whose condition doesn't hold
abbrev pub IsFirst : (Fault → Type 0) → List Fault → Verdict → Type 0
IsFirst Holds [] Yes = Unit {0}
IsFirst Holds [] (No fault) = ⊥
IsFirst Holds (next ∷ later) Yes = Holds next × IsFirst Holds later Yes
IsFirst Holds (next ∷ later) (No fault) = ((fault ≡ next) × ¬ Holds next) ⊎ (Holds next × IsFirst Holds later (No fault))

abbrev pub IsVerdict : Beside → Class → List (List ℕ) → PriceLists → ℕ → Verdict → Type 0
IsVerdict beside c way prices total verdict = IsFirst (MustHold beside c way prices total) faults verdict
