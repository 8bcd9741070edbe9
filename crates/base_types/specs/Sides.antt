-- The keywords of sides (RFC 8011, section 5.2.8).
use Rattle.std.specs.Prelude.{ℕ, if◌then◌else◌, List, Option, Some, None, codes}
use Rattle.std.specs.Str.{bytes_eq}
use Rattle.base_types.specs.declared.needs.Sides.{Sides}
use Rattle.base_types.specs.declared.needs.Sides.TheVariants.{One, LongEdge, ShortEdge}

abbrev pub sides_keyword : Sides → List ℕ
sides_keyword One = codes "one-sided"
sides_keyword LongEdge = codes "two-sided-long-edge"
sides_keyword ShortEdge = codes "two-sided-short-edge"

-- the sides of a keyword
abbrev pub sides_of_keyword : List ℕ → Option Sides
sides_of_keyword word =
    if bytes_eq word (sides_keyword One) then Some One
    else if bytes_eq word (sides_keyword LongEdge) then Some LongEdge
    else if bytes_eq word (sides_keyword ShortEdge) then Some ShortEdge
    else None
