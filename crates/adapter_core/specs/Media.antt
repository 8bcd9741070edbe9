-- The reports of the media that a printer has loaded: the loaded media are reported if the last report was another or there was none, so never twice.
use Rattle.std.specs.Prelude.{ℕ, ◌&&◌, if◌then◌else◌, Bool, true, false, List, [], ◌∷◌, Option, Some, None}
use Rattle.std.specs.Str.{bytes_eq}
use Rattle.base_types.specs.Report.{ReportRecord, MediaReport}

-- the loaded media, once the printer has reported them, and the media that were last reported to the server on this connection
pub record MediaRecord : Type 0 where
  pub loaded : Option (List (List ℕ))
  pub reported : Option (List (List ℕ))

abbrev pub are_same : List (List ℕ) → List (List ℕ) → Bool
are_same [] [] = true
are_same [] (other ∷ more) = false
are_same (name ∷ rest) [] = false
are_same (name ∷ rest) (other ∷ more) = bytes_eq name other && are_same rest more

abbrev pub is_reported : List (List ℕ) → Option (List (List ℕ)) → Bool
is_reported names None = false
is_reported names (Some reported) = are_same names reported

abbrev pub media_report : Option (List (List ℕ)) → Option (List (List ℕ)) → Option ReportRecord
media_report None reported = None
media_report (Some names) reported = if is_reported names reported then None else Some (MediaReport names)

-- the media reported to the server after a report
abbrev pub reported_after : Option (List (List ℕ)) → Option (List (List ℕ)) → Option (List (List ℕ))
reported_after None reported = None
reported_after (Some names) reported = if is_reported names reported then reported else Some names
