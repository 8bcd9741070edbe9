-- Properties that hold of a combined relation if they hold of each part: of one of two parts, of a part for each number, and of a repeated part. Such a property has to hold of the empty part, and of two parts one after the other.
use Rattle.std.proofs.Common.{ℕ, zero, suc, Bool, true, false, List, inl, inr}
use Rattle.server.specs.Ledger.{Ledger}
use Rattle.server.specs.Polls.{Happening}
use Rattle.server.specs.Rel.{Rel, Nothing, Then, If, Or, Times, Many, Each}

module _ {ℓ} (P : Ledger → List Happening → Ledger → Type ℓ) where
  -- the property holds of each step that a relation allows
  abbrev pub Within : Rel → Type ℓ
  Within R = (l : Ledger) (hs : List Happening) (l' : Ledger) → R l hs l' → P l hs l'

  pub or_within : (R S : Rel) → Within R → Within S → Within (Or R S)
  or_within R S f g l hs l' (inl it) = f l hs l' it
  or_within R S f g l hs l' (inr it) = g l hs l' it

  pub if_within : (test : Bool) (R S : Rel) → Within R → Within S → Within (If test R S)
  if_within true R S f g l hs l' it = f l hs l' it
  if_within false R S f g l hs l' it = g l hs l' it

  pub times_within : Within Nothing → ((R S : Rel) → Within R → Within S → Within (Then R S)) → (n : ℕ) (R : Rel) → Within R → Within (Times n R)
  times_within nothing joins zero R f = nothing
  times_within nothing joins (suc n) R f = joins (Times n R) R (times_within nothing joins n R f) f

  pub many_within : Within Nothing → ((R S : Rel) → Within R → Within S → Within (Then R S)) → (R : Rel) → Within R → Within (Many R)
  many_within nothing joins R f l hs l' (n, it) = times_within nothing joins n R f l hs l' it

  pub each_within : Within Nothing → ((R S : Rel) → Within R → Within S → Within (Then R S)) → (n : ℕ) (R : ℕ → Rel) → ((i : ℕ) → Within (R i)) → Within (Each n R)
  each_within nothing joins zero R f = nothing
  each_within nothing joins (suc n) R f = joins (Each n R) (R n) (each_within nothing joins n R f) (f n)
