-- A document, as a plain record.
use Rattle.std.specs.Prelude.{ℕ, ◌≡◌, ◌<◌, ◌++◌, List, length, sum_by}

pub record DocumentRecord : Type 0 where
  pub format : List ℕ
  pub contents : List ℕ

abbrev pub octets_of : List DocumentRecord → ℕ
octets_of documents = sum_by (λ d. length d.contents) documents

-- the segment is a prefix of the octets, and isn't empty unless the octets are
pub record IsPrefixOf (segment octets : List ℕ) : Type 0 where
  pub prefix : (rest : List ℕ) × (octets ≡ segment ++ rest)
  pub some : 0 < length octets → 0 < length segment
