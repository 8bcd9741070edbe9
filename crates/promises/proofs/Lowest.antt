-- A device's connection has one lowest key.
use Rattle.std.proofs.Common.{◌≡◌, ◌≢◌, ◌<◌, ℕ, Bool, true, false, sym, subst, Option, Some, None, inl, inr, arith}
use Rattle.std.proofs.lemmas.Bool.{cases_lt}
use Rattle.connections.specs.Entry.{Entry}
use Rattle.server.specs.Ledger.{Ledger}
use Rattle.server.specs.Enqueuing.{IsDevice, IsLowest}
use Rattle.server.specs.Hello.{IsDeviceAs, HasOther}

least_one : (P : ℕ → Type 0) (x y : ℕ) → P x → ((z : ℕ) → z < x → P z → ⊥) → P y → ((z : ℕ) → z < y → P z → ⊥) → x ≡ y
least_one P x y is none its nothing =
    elim (cases_lt x y) [
      | inl less ↦ absurd (nothing x less is)
      | inr more ↦
          elim (cases_lt y x) [
            | inl below ↦ absurd (none y below its)
            | inr above ↦ omega (arith, more, above)
          ]
    ]

pub lowest_one : (device key other : ℕ) (l : Ledger) → IsLowest device key l → IsLowest device other l → key ≡ other
lowest_one device key other l is its = least_one (λ z. IsDevice device (l.entries z)) key other is.0 is.1 its.0 its.1

pub as_device : (ended : Bool) (device : ℕ) (o : Option Entry) → IsDeviceAs ended device o → IsDevice device o
as_device ended device None is = absurd is
as_device ended device (Some e) is = is.0

pub other_one : (ended over : Bool) (device key one other : ℕ) (l : Ledger) → HasOther ended device key one l → HasOther over device key other l → one ≡ other
other_one ended over device key one other l is its =
    least_one (λ z. (z ≢ key) × IsDevice device (l.entries z)) one other (is.0, as_device ended device (l.entries one) is.1) (λ z less p. is.2 z less p.0 p.1) (its.0, as_device over device (l.entries other) its.1) (λ z less p. its.2 z less p.0 p.1)

both_ways : (device : ℕ) (o : Option Entry) → IsDeviceAs true device o → IsDeviceAs false device o → ⊥
both_ways device None is its = is
both_ways device (Some e) is its = cc

-- the input of the device's other connection has ended, or goes on
pub one_ending : {A : Type 0} → (device key one other : ℕ) (l : Ledger) → HasOther true device key one l → HasOther false device key other l → A
one_ending device key one other l is its =
    absurd (both_ways device (l.entries one) is.1 (subst (λ (k : ℕ). IsDeviceAs false device (l.entries k)) (sym (other_one true false device key one other l is its)) its.1))
