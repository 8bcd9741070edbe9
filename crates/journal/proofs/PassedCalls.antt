-- Happenings of which only some calls pass, in their parts.
use Rattle.std.proofs.Common.{◌≡◌, List, [], ◌∷◌, ◌++◌, refl, ap, inl, inr}
use Rattle.std.specs.Prelude.{◌⊎◌}
use Rattle.wires.specs.Poll.{Poll, Accepts, Reads, Writes, Closes}
use Rattle.wires.specs.declared.wire.Progress.TheVariants.{Done, Waiting, End, Fault}
use Rattle.server.specs.Polls.{Happening, Polled, Notified, Chosen, seen}
use Rattle.journal.specs.Passing.{calls_in, IsQuiet, AllWait, AreOutward}

-- ---- the calls among happenings

-- the calls among two lists of happenings, one after the other
pub calls_append : (hs ks : List Happening) → calls_in (hs ++ ks) ≡ calls_in hs ++ calls_in ks
calls_append [] ks = refl
calls_append (Polled poll ∷ hs) ks = ap (λ (polls : List Poll). poll ∷ polls) (calls_append hs ks)
calls_append (Notified note ∷ hs) ks = calls_append hs ks
calls_append (Chosen choice ∷ hs) ks = calls_append hs ks

-- no choice is a call
pub calls_seen : (hs : List Happening) → calls_in (seen hs) ≡ calls_in hs
calls_seen [] = refl
calls_seen (Polled poll ∷ hs) = ap (λ (polls : List Poll). poll ∷ polls) (calls_seen hs)
calls_seen (Notified note ∷ hs) = calls_seen hs
calls_seen (Chosen choice ∷ hs) = calls_seen hs

-- ---- quiet happenings

-- happenings are quiet if those that a wire and an observer see are
pub quiet_seen : (hs : List Happening) → IsQuiet (seen hs) → IsQuiet hs
quiet_seen [] quiet = quiet
quiet_seen (Polled poll ∷ hs) quiet = (quiet.0, quiet_seen hs quiet.1)
quiet_seen (Notified note ∷ hs) quiet = quiet
quiet_seen (Chosen choice ∷ hs) quiet = quiet_seen hs quiet

-- both parts of quiet happenings are quiet
pub quiet_parts : (hs ks : List Happening) → IsQuiet (hs ++ ks) → IsQuiet hs × IsQuiet ks
quiet_parts [] ks quiet = (tt, quiet)
quiet_parts (Polled poll ∷ hs) ks quiet = let parts = quiet_parts hs ks quiet.1 in ((quiet.0, parts.0), parts.1)
quiet_parts (Notified note ∷ hs) ks quiet = absurd quiet
quiet_parts (Chosen choice ∷ hs) ks quiet = quiet_parts hs ks quiet

-- ---- calls of which none but closes pass

-- in both parts of such calls none but closes pass
pub wait_parts : (ps qs : List Poll) → AllWait (ps ++ qs) → AllWait ps × AllWait qs
wait_parts [] qs wait = (tt, wait)
wait_parts (Accepts door answer ∷ ps) qs wait = let parts = wait_parts ps qs wait.1 in ((wait.0, parts.0), parts.1)
wait_parts (Reads id answer ∷ ps) qs wait = let parts = wait_parts ps qs wait.1 in ((wait.0, parts.0), parts.1)
wait_parts (Writes id offered answer ∷ ps) qs wait = let parts = wait_parts ps qs wait.1 in ((wait.0, parts.0), parts.1)
wait_parts (Closes id ∷ ps) qs wait = wait_parts ps qs wait

-- ---- calls of which only writes pass

-- no connection is closed, and no write ends or fails
abbrev pub IsUncut : List Poll → Type 0
IsUncut [] = Unit {0}
IsUncut (Accepts door answer ∷ polls) = IsUncut polls
IsUncut (Reads id answer ∷ polls) = IsUncut polls
IsUncut (Writes id offered (Done count) ∷ polls) = IsUncut polls
IsUncut (Writes id offered Waiting ∷ polls) = IsUncut polls
IsUncut (Writes id offered End ∷ polls) = ⊥
IsUncut (Writes id offered Fault ∷ polls) = ⊥
IsUncut (Closes id ∷ polls) = ⊥

-- this holds for both parts of such calls
pub uncut_parts : (ps qs : List Poll) → IsUncut (ps ++ qs) → IsUncut ps × IsUncut qs
uncut_parts [] qs uncut = (tt, uncut)
uncut_parts (Accepts door answer ∷ ps) qs uncut = uncut_parts ps qs uncut
uncut_parts (Reads id answer ∷ ps) qs uncut = uncut_parts ps qs uncut
uncut_parts (Writes id offered (Done count) ∷ ps) qs uncut = uncut_parts ps qs uncut
uncut_parts (Writes id offered Waiting ∷ ps) qs uncut = uncut_parts ps qs uncut
uncut_parts (Writes id offered End ∷ ps) qs uncut = absurd uncut
uncut_parts (Writes id offered Fault ∷ ps) qs uncut = absurd uncut
uncut_parts (Closes id ∷ ps) qs uncut = absurd uncut

-- what follows outward calls: outward calls too, or, once a connection was closed or a write ended or failed, calls that all wait
pub outward_parts : (ps qs : List Poll) → AreOutward (ps ++ qs) → AreOutward ps × ((IsUncut ps × AreOutward qs) ⊎ ((IsUncut ps → ⊥) × AllWait qs))
outward_parts [] qs outward = (tt, inl (tt, outward))
outward_parts (Accepts door answer ∷ ps) qs outward = let parts = outward_parts ps qs outward.1 in ((outward.0, parts.0), parts.1)
outward_parts (Reads id answer ∷ ps) qs outward = let parts = outward_parts ps qs outward.1 in ((outward.0, parts.0), parts.1)
outward_parts (Writes id offered (Done count) ∷ ps) qs outward = outward_parts ps qs outward
outward_parts (Writes id offered Waiting ∷ ps) qs outward = outward_parts ps qs outward
outward_parts (Writes id offered End ∷ ps) qs outward = let parts = wait_parts ps qs outward in (parts.0, inr ((λ uncut. uncut), parts.1))
outward_parts (Writes id offered Fault ∷ ps) qs outward = let parts = wait_parts ps qs outward in (parts.0, inr ((λ uncut. uncut), parts.1))
outward_parts (Closes id ∷ ps) qs outward = let parts = wait_parts ps qs outward in (parts.0, inr ((λ uncut. uncut), parts.1))
