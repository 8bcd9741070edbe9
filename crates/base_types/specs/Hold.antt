-- The keywords of job-hold-until (RFC 8011, section 5.2.2).
use Rattle.std.specs.Prelude.{ℕ, Bool, true, false, if◌then◌else◌, List, Option, Some, None, codes}
use Rattle.std.specs.Str.{bytes_eq}
use Rattle.base_types.specs.declared.hold.Hold.{Hold}
use Rattle.base_types.specs.declared.hold.Hold.TheVariants.{NoHold, Indefinite}

-- the keyword of a job that is held or not
abbrev pub hold_where : Bool → Hold
hold_where true = Indefinite
hold_where false = NoHold

-- whether the keyword holds a job
abbrev pub is_held : Hold → Bool
is_held NoHold = false
is_held Indefinite = true

abbrev pub hold_keyword : Hold → List ℕ
hold_keyword NoHold = codes "no-hold"
hold_keyword Indefinite = codes "indefinite"

-- the value of a keyword
abbrev pub hold_of_keyword : List ℕ → Option Hold
hold_of_keyword word =
    if bytes_eq word (hold_keyword NoHold) then Some NoHold
    else if bytes_eq word (hold_keyword Indefinite) then Some Indefinite
    else None
