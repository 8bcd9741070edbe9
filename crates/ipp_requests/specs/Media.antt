-- The media that a printer has loaded, as a line to the server can name them.
use Rattle.std.specs.Prelude.{ℕ, ◌+◌, ◌≤◌, All, IsTrue, List, length, sum_by}
use Rattle.base_types.specs.Forms.{is_media}

-- the names are those of media, and fit in a line of 1,024 bytes
pub record AreMedia (names : List (List ℕ)) : Type 0 where
  pub forms : All (λ name. IsTrue (is_media name)) names
  pub room : sum_by (λ name. length name + 1) names ≤ 1018
