-- The bytes that wait on a connection, and a wire's call that takes some of them.
use Rattle.std.specs.Prelude.{ℕ, ◌≡◌, ◌<◌, ◌≤◌, ◌⊎◌, List, [], ◌++◌, length, drop}
use Rattle.std.specs.List.{flat_map}
use Rattle.wires.specs.Poll.{Poll, Writes}
use Rattle.connections.specs.declared.queue.Offered.{Offered}
use Rattle.connections.specs.declared.queue.Offered.TheVariants as offer
use Rattle.wires.specs.declared.wire.Progress.TheVariants.{Done, Waiting, End, Fault}

-- lists one after the other
abbrev pub joined : List (List ℕ) → List ℕ
joined lists = flat_map (λ list. list) lists

abbrev pub IsSome : List ℕ → Type 0
IsSome list = 0 < length list

-- a prefix of the waiting bytes that isn't empty
pub record IsPrefix (offered waits : List ℕ) : Type 0 where
  pub some : 0 < length offered
  pub rest : List ℕ
  pub whole : waits ≡ offered ++ rest

-- the wire's answer to an offer, and the bytes that wait after it
abbrev pub OffersAs : {W : Type 0} → (W → Poll → W → Type 0) → ℕ → List ℕ → List ℕ → W → Offered → List ℕ → W → Type 0
OffersAs polled id offered waits wire offer.Nothing left wire' = ⊥
OffersAs polled id offered waits wire (offer.Done count) left wire' = (count ≤ length offered) × polled wire (Writes id offered (Done count)) wire' × (left ≡ drop count waits)
OffersAs polled id offered waits wire offer.Waiting left wire' = polled wire (Writes id offered Waiting) wire' × (left ≡ waits)
OffersAs polled id offered waits wire offer.Ended left wire' = (polled wire (Writes id offered End) wire' ⊎ polled wire (Writes id offered Fault) wire') × (left ≡ waits)

-- a prefix of the waiting bytes is offered, if any bytes wait
abbrev pub OffersPrefix : {W : Type 0} → (W → Poll → W → Type 0) → ℕ → List ℕ → W → Offered → List ℕ → W → Type 0
OffersPrefix polled id waits wire answer left wire' =
    ((waits ≡ []) × (answer ≡ offer.Nothing) × (left ≡ []) × (wire' ≡ wire))
    ⊎ ((offered : List ℕ) × IsPrefix offered waits × OffersAs polled id offered waits wire answer left wire')
