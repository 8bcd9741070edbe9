-- The calls of a turn, of which only some pass.
use Rattle.std.proofs.Common.{◌≡◌, Bool, true, false, if◌then◌else◌, List, [], ◌∷◌, ◌++◌, ◌∙◌, refl, sym, ap, subst, append_assoc, append-nil}
use Rattle.wires.specs.declared.wire.Progress.TheVariants.{Done, Waiting, End, Fault}
use Rattle.wires.specs.Poll.{Poll, Accepts, Reads, Writes, Closes}
use Rattle.dispatcher.specs.Notes.{Note}
use Rattle.server.specs.Polls.{Choice, Happening, Polled, Notified, Chosen, Leads}
use Rattle.journal.specs.declared.gate.Pass.{Pass}
use Rattle.journal.specs.declared.gate.Pass.TheVariants.{All, Inward, Outward, Shut}
use Rattle.journal.specs.Passing.{calls_in, after, Passes, ArePassed, passes, passed}
use Rattle.daemon.specs.Serving.{HasNoNote}
use Rattle.daemon.proofs.RecordingWire.{true-false}

-- a call that passes follows the earlier calls; any other leaves them
pub one_called : {W : Type 0} (calls : W → List Poll) (pass : Pass) (old : W) (poll : Poll) (new : W)
    → Passes (λ a p b. calls b ≡ calls a ++ p ∷ []) pass old poll new → calls new ≡ calls old ++ (if passes pass poll then poll ∷ [] else [])
one_called calls All old poll new called = called
one_called calls Inward old (Accepts door answer) new called = called
one_called calls Inward old (Reads id answer) new called = called
one_called calls Inward old (Writes id offered answer) new (waits, same) = ap calls same ∙ sym (append-nil (calls old))
one_called calls Inward old (Closes id) new called = called
one_called calls Outward old (Accepts door answer) new (waits, same) = ap calls same ∙ sym (append-nil (calls old))
one_called calls Outward old (Reads id answer) new (waits, same) = ap calls same ∙ sym (append-nil (calls old))
one_called calls Outward old (Writes id offered answer) new called = called
one_called calls Outward old (Closes id) new called = called
one_called calls Shut old (Accepts door answer) new (waits, same) = ap calls same ∙ sym (append-nil (calls old))
one_called calls Shut old (Reads id answer) new (waits, same) = ap calls same ∙ sym (append-nil (calls old))
one_called calls Shut old (Writes id offered answer) new (waits, same) = ap calls same ∙ sym (append-nil (calls old))
one_called calls Shut old (Closes id) new called = called

-- the first call passes or waits, and the others, too
one_passed : {W : Type 0} (polled : W → Poll → W → Type 0) (pass : Pass) (old : W) (poll : Poll) (new : W) (polls : List Poll)
    → Passes polled pass old poll new → ArePassed (after pass poll) polls → ArePassed pass (poll ∷ polls)
one_passed polled All old poll new polls is later = tt
one_passed polled Inward old (Accepts door answer) new polls is later = later
one_passed polled Inward old (Reads id answer) new polls is later = later
one_passed polled Inward old (Writes id offered answer) new polls (waits, same) later = (waits, later)
one_passed polled Inward old (Closes id) new polls is later = later
one_passed polled Outward old (Accepts door answer) new polls (waits, same) later = (waits, later)
one_passed polled Outward old (Reads id answer) new polls (waits, same) later = (waits, later)
one_passed polled Outward old (Writes id offered (Done count)) new polls is later = later
one_passed polled Outward old (Writes id offered Waiting) new polls is later = later
one_passed polled Outward old (Writes id offered End) new polls is later = later
one_passed polled Outward old (Writes id offered Fault) new polls is later = later
one_passed polled Outward old (Closes id) new polls is later = later
one_passed polled Shut old (Accepts door answer) new polls (waits, same) later = (waits, later)
one_passed polled Shut old (Reads id answer) new polls (waits, same) later = (waits, later)
one_passed polled Shut old (Writes id offered answer) new polls (waits, same) later = (waits, later)
one_passed polled Shut old (Closes id) new polls is later = later

-- the calls of these happenings that pass follow the earlier calls
pub are_called : {S W : Type 0} (moves : S → Happening → S → Type 0) (wire : S → W) (pass : S → Pass) (calls : W → List Poll)
    → ((a : S) (poll : Poll) (b : S) → moves a (Polled poll) b → (pass b ≡ after (pass a) poll) × Passes (λ x p y. calls y ≡ calls x ++ p ∷ []) (pass a) (wire a) poll (wire b))
    → ((a : S) (note : Note) (b : S) → moves a (Notified note) b → (wire b ≡ wire a) × (pass b ≡ pass a))
    → ((a : S) (choice : Choice) (b : S) → moves a (Chosen choice) b → ⊥)
    → (hs : List Happening) (u v : S) → Leads moves u hs v → calls (wire v) ≡ calls (wire u) ++ passed (pass u) (calls_in hs)
are_called moves wire pass calls polls notifies none [] u v leads = ap (λ s. calls (wire s)) leads ∙ sym (append-nil (calls (wire u)))
are_called moves wire pass calls polls notifies none (Polled poll ∷ hs) u v (mid, moved, later) =
    let here : List Poll = if passes (pass u) poll then poll ∷ [] else [] in
    let one = polls u poll mid moved in
    are_called moves wire pass calls polls notifies none hs mid v later
    ∙ (ap (λ (p : Pass). calls (wire mid) ++ passed p (calls_in hs)) one.0
    ∙ (ap (λ (l : List Poll). l ++ passed (after (pass u) poll) (calls_in hs)) (one_called calls (pass u) (wire u) poll (wire mid) one.1)
    ∙ append_assoc (calls (wire u)) here (passed (after (pass u) poll) (calls_in hs))))
are_called moves wire pass calls polls notifies none (Notified note ∷ hs) u v (mid, moved, later) =
    let same = notifies u note mid moved in
    are_called moves wire pass calls polls notifies none hs mid v later
    ∙ (ap (λ (p : Pass). calls (wire mid) ++ passed p (calls_in hs)) same.1 ∙ ap (λ w. calls w ++ passed (pass u) (calls_in hs)) same.0)
are_called moves wire pass calls polls notifies none (Chosen choice ∷ hs) u v (mid, moved, later) = absurd (none u choice mid moved)

none_passed : (pass : Pass) → ArePassed pass []
none_passed All = tt
none_passed Inward = tt
none_passed Outward = tt
none_passed Shut = tt

pub are_passed : {S W : Type 0} (moves : S → Happening → S → Type 0) (polled : W → Poll → W → Type 0) (wire : S → W) (pass : S → Pass)
    → ((a : S) (poll : Poll) (b : S) → moves a (Polled poll) b → (pass b ≡ after (pass a) poll) × Passes polled (pass a) (wire a) poll (wire b))
    → ((a : S) (note : Note) (b : S) → moves a (Notified note) b → pass b ≡ pass a)
    → ((a : S) (choice : Choice) (b : S) → moves a (Chosen choice) b → ⊥)
    → (hs : List Happening) (u v : S) → Leads moves u hs v → ArePassed (pass u) (calls_in hs)
are_passed moves polled wire pass polls notifies none [] u v leads = none_passed (pass u)
are_passed moves polled wire pass polls notifies none (Polled poll ∷ hs) u v (mid, moved, later) =
    let one = polls u poll mid moved in
    one_passed polled (pass u) (wire u) poll (wire mid) (calls_in hs) one.1
    (subst (λ (p : Pass). ArePassed p (calls_in hs)) one.0 (are_passed moves polled wire pass polls notifies none hs mid v later))
are_passed moves polled wire pass polls notifies none (Notified note ∷ hs) u v (mid, moved, later) =
    subst (λ (p : Pass). ArePassed p (calls_in hs)) (notifies u note mid moved) (are_passed moves polled wire pass polls notifies none hs mid v later)
are_passed moves polled wire pass polls notifies none (Chosen choice ∷ hs) u v (mid, moved, later) = absurd (none u choice mid moved)

-- an observer that is notified something records it, and nothing takes it back
stays_notified : {S : Type 0} (moves : S → Happening → S → Type 0) (notified : S → Bool)
    → ((a : S) (poll : Poll) (b : S) → moves a (Polled poll) b → notified b ≡ notified a)
    → ((a : S) (note : Note) (b : S) → moves a (Notified note) b → notified b ≡ true)
    → ((a : S) (choice : Choice) (b : S) → moves a (Chosen choice) b → ⊥)
    → (hs : List Happening) (u v : S) → Leads moves u hs v → notified u ≡ true → notified v ≡ true
stays_notified moves notified polls notifies none [] u v leads is = ap notified leads ∙ is
stays_notified moves notified polls notifies none (Polled poll ∷ hs) u v (mid, moved, later) is = stays_notified moves notified polls notifies none hs mid v later (polls u poll mid moved ∙ is)
stays_notified moves notified polls notifies none (Notified note ∷ hs) u v (mid, moved, later) is = stays_notified moves notified polls notifies none hs mid v later (notifies u note mid moved)
stays_notified moves notified polls notifies none (Chosen choice ∷ hs) u v (mid, moved, later) is = absurd (none u choice mid moved)

pub has_no_note : {S : Type 0} (moves : S → Happening → S → Type 0) (notified : S → Bool)
    → ((a : S) (poll : Poll) (b : S) → moves a (Polled poll) b → notified b ≡ notified a)
    → ((a : S) (note : Note) (b : S) → moves a (Notified note) b → notified b ≡ true)
    → ((a : S) (choice : Choice) (b : S) → moves a (Chosen choice) b → ⊥)
    → (hs : List Happening) (u v : S) → Leads moves u hs v → notified v ≡ false → HasNoNote hs
has_no_note moves notified polls notifies none [] u v leads is = tt
has_no_note moves notified polls notifies none (Polled poll ∷ hs) u v (mid, moved, later) is = has_no_note moves notified polls notifies none hs mid v later is
has_no_note moves notified polls notifies none (Notified note ∷ hs) u v (mid, moved, later) is = true-false (sym (stays_notified moves notified polls notifies none hs mid v later (notifies u note mid moved)) ∙ is)
has_no_note moves notified polls notifies none (Chosen choice ∷ hs) u v (mid, moved, later) is = absurd (none u choice mid moved)

-- if all calls pass, these are all calls
pub all_passed : (polls : List Poll) → passed All polls ≡ polls
all_passed [] = refl
all_passed (poll ∷ polls) = ap (λ (l : List Poll). poll ∷ l) (all_passed polls)
