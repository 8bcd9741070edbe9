-- Bytes have the same statuses in one segment and in two.
use Rattle.std.specs.Prelude.{ℕ, ◌≡◌, List, [], ◌∷◌, ◌++◌, Option, Some, None}
use Rattle.std.proofs.Common.{refl, ap, ◌∙◌}
use Rattle.adapter_core.specs.declared.pjl_status.PjlStatus.{PjlStatus}
use Rattle.adapter_core.specs.PjlStream.{PjlPlace, place_after, status_at, with_first, statuses, place_later}

first_stays : (status : Option PjlStatus) (later more : List PjlStatus) → with_first status (later ++ more) ≡ with_first status later ++ more
first_stays None later more = refl
first_stays (Some status) later more = refl

pub cut : (place : PjlPlace) (bytes more : List ℕ) → statuses place (bytes ++ more) ≡ statuses place bytes ++ statuses (place_later place bytes) more
cut place [] more = refl
cut place (byte ∷ bytes) more =
    let next = place_after place byte in
    ap (λ s. with_first (status_at place byte) s) (cut next bytes more) ∙ first_stays (status_at place byte) (statuses next bytes) (statuses (place_later next bytes) more)
