-- Which calls of a wire pass in a turn, and which have to wait.
use Rattle.std.specs.Prelude.{◌≡◌, Bool, true, false, if◌then◌else◌, List, [], ◌∷◌, ◌++◌}
use Rattle.wires.specs.declared.wire.Progress.TheVariants.{Done, Waiting, End, Fault}
use Rattle.wires.specs.Poll.{Poll, Accepts, Reads, Writes, Closes}
use Rattle.server.specs.Polls.{Happening, Polled, Notified, Chosen}
use Rattle.journal.specs.declared.gate.Pass.{Pass}
use Rattle.journal.specs.declared.gate.Pass.TheVariants.{All, Inward, Outward, Shut}

-- the calls of the wire among the happenings, with their answers, in order
abbrev pub calls_in : List Happening → List Poll
calls_in [] = []
calls_in (Polled poll ∷ hs) = poll ∷ calls_in hs
calls_in (Notified note ∷ hs) = calls_in hs
calls_in (Chosen choice ∷ hs) = calls_in hs

-- ---- a turn in which nothing happens

-- the call would have to wait, or no connection was accepted
abbrev pub IsIdle : Poll → Type 0
IsIdle (Accepts door (Done id)) = ⊥
IsIdle (Accepts door Waiting) = Unit {0}
IsIdle (Accepts door End) = Unit {0}
IsIdle (Accepts door Fault) = Unit {0}
IsIdle (Reads id answer) = answer ≡ Waiting
IsIdle (Writes id offered answer) = answer ≡ Waiting
IsIdle (Closes id) = ⊥

-- each call is idle, and the observer is not notified
abbrev pub IsQuiet : List Happening → Type 0
IsQuiet [] = Unit {0}
IsQuiet (Polled poll ∷ hs) = IsIdle poll × IsQuiet hs
IsQuiet (Notified note ∷ hs) = ⊥
IsQuiet (Chosen choice ∷ hs) = IsQuiet hs

-- ---- a turn in which nothing is sent

-- each write would have to wait
abbrev pub AreInward : List Poll → Type 0
AreInward [] = Unit {0}
AreInward (Accepts door answer ∷ polls) = AreInward polls
AreInward (Reads id answer ∷ polls) = AreInward polls
AreInward (Writes id offered answer ∷ polls) = (answer ≡ Waiting) × AreInward polls
AreInward (Closes id ∷ polls) = AreInward polls

-- ---- a turn in which nothing comes

-- each call but a close would have to wait
abbrev pub AllWait : List Poll → Type 0
AllWait [] = Unit {0}
AllWait (Accepts door answer ∷ polls) = (answer ≡ Waiting) × AllWait polls
AllWait (Reads id answer ∷ polls) = (answer ≡ Waiting) × AllWait polls
AllWait (Writes id offered answer ∷ polls) = (answer ≡ Waiting) × AllWait polls
AllWait (Closes id ∷ polls) = AllWait polls

-- Each accept and each read would have to wait. Once a connection was closed, or a write ended or failed, each write would have to wait, too: the jobs that begin then aren't sent in this turn.
abbrev pub AreOutward : List Poll → Type 0
AreOutward [] = Unit {0}
AreOutward (Accepts door answer ∷ polls) = (answer ≡ Waiting) × AreOutward polls
AreOutward (Reads id answer ∷ polls) = (answer ≡ Waiting) × AreOutward polls
AreOutward (Writes id offered (Done count) ∷ polls) = AreOutward polls
AreOutward (Writes id offered Waiting ∷ polls) = AreOutward polls
AreOutward (Writes id offered End ∷ polls) = AllWait polls
AreOutward (Writes id offered Fault ∷ polls) = AllWait polls
AreOutward (Closes id ∷ polls) = AllWait polls

-- ---- a turn in which each connection is lost

-- no connection comes, and a read or a write fails
abbrev pub IsLost : Poll → Type 0
IsLost (Accepts door answer) = answer ≡ Waiting
IsLost (Reads id answer) = answer ≡ Fault
IsLost (Writes id offered answer) = answer ≡ Fault
IsLost (Closes id) = Unit {0}

abbrev pub AreLost : List Poll → Type 0
AreLost [] = Unit {0}
AreLost (poll ∷ polls) = IsLost poll × AreLost polls

-- ---- the gate

-- which calls pass after a call
abbrev pub after : Pass → Poll → Pass
after Outward (Writes id offered End) = Shut
after Outward (Writes id offered Fault) = Shut
after Outward (Closes id) = Shut
after pass poll = pass

-- a call that passes is one of the wire; any other would have to wait, and the wire isn't asked
abbrev pub Passes : {W : Type 0} → (W → Poll → W → Type 0) → Pass → W → Poll → W → Type 0
Passes polled All old poll new = polled old poll new
Passes polled Inward old (Writes id offered answer) new = (answer ≡ Waiting) × (new ≡ old)
Passes polled Inward old poll new = polled old poll new
Passes polled Outward old (Accepts door answer) new = (answer ≡ Waiting) × (new ≡ old)
Passes polled Outward old (Reads id answer) new = (answer ≡ Waiting) × (new ≡ old)
Passes polled Outward old poll new = polled old poll new
Passes polled Shut old (Closes id) new = polled old (Closes id) new
Passes polled Shut old (Accepts door answer) new = (answer ≡ Waiting) × (new ≡ old)
Passes polled Shut old (Reads id answer) new = (answer ≡ Waiting) × (new ≡ old)
Passes polled Shut old (Writes id offered answer) new = (answer ≡ Waiting) × (new ≡ old)

-- the calls of a turn, by what passes in it
abbrev pub ArePassed : Pass → List Poll → Type 0
ArePassed All polls = Unit {0}
ArePassed Inward polls = AreInward polls
ArePassed Outward polls = AreOutward polls
ArePassed Shut polls = AllWait polls

-- whether a call passes
abbrev pub passes : Pass → Poll → Bool
passes All poll = true
passes Inward (Writes id offered answer) = false
passes Inward poll = true
passes Outward (Accepts door answer) = false
passes Outward (Reads id answer) = false
passes Outward poll = true
passes Shut (Closes id) = true
passes Shut poll = false

-- the calls that pass, in order
abbrev pub passed : Pass → List Poll → List Poll
passed pass [] = []
passed pass (poll ∷ polls) = (if passes pass poll then poll ∷ [] else []) ++ passed (after pass poll) polls
