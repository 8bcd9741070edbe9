-- The printer that a target names is the one at its place in the settings.
use Rattle.std.proofs.Common.{◌≡◌, ◌∙◌, ℕ, suc, ◌+◌, List, [], ◌∷◌, true, false, cond, find, Some, ap, arith}
use Rattle.std.proofs.lemmas.Option.{some_pair_parts}
use Rattle.std.specs.Prelude.{slice_get}
use Rattle.std.specs.List.{enumerate_from}
use Rattle.settings_file.specs.Settings.{PrinterEntry}
use Rattle.events.specs.declared.event.Target.{Target}
use Rattle.events.specs.Target.{names}
use Rattle.dispatcher.specs.Target.{printer_of}

-- a printer that was found is at its place
found_at : (target : Target) (printers : List PrinterEntry) (from id : ℕ) (printer : PrinterEntry) → find (λ found. names target found.1) (enumerate_from from printers) ≡ Some (id, printer) → (place : ℕ) × (id ≡ from + place) × (slice_get printers place ≡ Some printer)
found_at target [] from id printer is = absurd cc
found_at target (x ∷ xs) from id printer is =
    elim (names target x) as (λ b. cond b (Some (from, x)) (find (λ found. names target found.1) (enumerate_from (from + 1) xs)) ≡ Some (id, printer) → (place : ℕ) × (id ≡ from + place) × (slice_get (x ∷ xs) place ≡ Some printer)) [
      | true ↦ λ here. let parts = some_pair_parts from id x printer here in (0, omega (arith, parts.0), ap (λ p. Some p) parts.1)
      | false ↦ λ later. let tail = found_at target xs (from + 1) id printer later in (suc tail.0, omega (arith, tail.1), tail.2)
    ] is

pub named_at : (target : Target) (printers : List PrinterEntry) (id : ℕ) (printer : PrinterEntry) → printer_of target printers ≡ Some (id, printer) → slice_get printers id ≡ Some printer
named_at target printers id printer is =
    let found = found_at target printers 0 id printer is in
    let place : id ≡ found.0 = omega (arith, found.1) in
    ap (λ (place : ℕ). slice_get printers place) place ∙ found.2
