-- Two relations that lead to one end if they are seen alike and no memory is refused.
use Rattle.std.proofs.Common.{◌≡◌, ℕ, zero, suc, Bool, true, false, List, [], ◌∷◌, ◌++◌, refl, sym, ◌∙◌, ap, subst, inl, inr, append_assoc}
use Rattle.std.specs.Prelude.{◌||◌}
use Rattle.std.proofs.lemmas.List.{append_cancel_left}
use Rattle.std.proofs.lemmas.Grind.{flat_map-append}
use Rattle.wires.specs.Poll.{Poll}
use Rattle.dispatcher.specs.Notes.{Note}
use Rattle.server.specs.Polls.{Happening, Polled, Notified, Choice, Chosen}
use Rattle.server.specs.Ledger.{Ledger}
use Rattle.server.specs.Rel.{Rel, Nothing, Polls, Notifies, Chooses, Then, If, Or, Times, Many, EachOf}
use Rattle.server.specs.Turn.{is_refusal, has_refusal}
use Rattle.promises.specs.Keyed.{keyed_one, keyed}
use Rattle.promises.proofs.Determined.{times_cons}

-- no memory was refused
abbrev pub Calm : List Happening → Type 0
Calm hs = has_refusal hs ≡ false

-- From one ledger, where no memory is refused and what is seen goes on as one list: both saw the same of it, and came to the same ledger.
pub record Same (R S : Rel) : Type 0 where
  pub one : (l : Ledger) (hs rest : List Happening) (a : Ledger) (ks more : List Happening) (b : Ledger) → keyed hs ++ rest ≡ keyed ks ++ more → Calm hs → Calm ks → R l hs a → S l ks b → (keyed hs ≡ keyed ks) × (a ≡ b)

abbrev pub One : Rel → Type 0
One R = Same R R

pub keyed_append : (hs ks : List Happening) → keyed (hs ++ ks) ≡ keyed hs ++ keyed ks
keyed_append hs ks = flat_map-append keyed_one hs ks

or_false_left : (x y : Bool) → (x || y) ≡ false → x ≡ false
or_false_left true y is = is
or_false_left false y is = refl

or_false_right : (x y : Bool) → (x || y) ≡ false → y ≡ false
or_false_right true y is = absurd (never is)
  where
    never : true ≡ false → ⊥
    never p = cc
or_false_right false y is = is

both_false : (x y : Bool) → x ≡ false → y ≡ false → (x || y) ≡ false
both_false true y p q = p
both_false false y p q = q

pub calm_prefix : (hs ks : List Happening) → Calm (hs ++ ks) → Calm hs
calm_prefix [] ks calm = refl
calm_prefix (h ∷ hs) ks calm = both_false (is_refusal h) (has_refusal hs) (or_false_left (is_refusal h) (has_refusal (hs ++ ks)) calm) (calm_prefix hs ks (or_false_right (is_refusal h) (has_refusal (hs ++ ks)) calm))

pub calm_back : (hs ks : List Happening) → Calm (hs ++ ks) → Calm ks
calm_back [] ks calm = calm
calm_back (h ∷ hs) ks calm = calm_back hs ks (or_false_right (is_refusal h) (has_refusal (hs ++ ks)) calm)

pub calm_first : (hs prefix back : List Happening) → hs ≡ prefix ++ back → Calm hs → Calm prefix
calm_first hs prefix back whole calm = calm_prefix prefix back (subst Calm whole calm)

pub calm_last : (hs prefix back : List Happening) → hs ≡ prefix ++ back → Calm hs → Calm back
calm_last hs prefix back whole calm = calm_back prefix back (subst Calm whole calm)

-- what is seen of two parts, with a rest
pub keyed_parts : (hs prefix back rest : List Happening) → hs ≡ prefix ++ back → keyed hs ++ rest ≡ keyed prefix ++ (keyed back ++ rest)
keyed_parts hs prefix back rest whole = ap (λ (x : List Happening). keyed x ++ rest) whole ∙ (ap (λ (x : List Happening). x ++ rest) (keyed_append prefix back) ∙ append_assoc (keyed prefix) (keyed back) rest)

-- the happenings and the end are functions of the ledger
pub same_just : (hs : Ledger → List Happening) (to : Ledger → Ledger) → One (λ l ks a. (ks ≡ hs l) × (a ≡ to l))
same_just hs to = record { one = λ l xs rest a ks more b e c d p q. (ap keyed (p.0 ∙ sym q.0), p.1 ∙ sym q.1) }

pub same_nothing : One Nothing
same_nothing = same_just (λ l. []) (λ l. l)

pub same_polls : (poll : Poll) → One (Polls poll)
same_polls poll = same_just (λ l. Polled poll ∷ []) (λ l. l)

pub same_notifies : (note : Note) → One (Notifies note)
same_notifies note = same_just (λ l. Notified note ∷ []) (λ l. l)

pub same_chooses : (choice : Choice) → One (Chooses choice)
same_chooses choice = same_just (λ l. Chosen choice ∷ []) (λ l. l)

-- one part after the other, where the first part notifies how the second parts are the same
pub same_then_by : {X : Type 0} (D D' R R' : Rel) (l : Ledger) (hs rest : List Happening) (a : Ledger) (ks more : List Happening) (b : Ledger) → keyed hs ++ rest ≡ keyed ks ++ more → Calm hs → Calm ks → (p : Then D R l hs a) (q : Then D' R' l ks b)
    → ((left right : List Happening) → keyed p.prefix ++ left ≡ keyed q.prefix ++ right → Calm p.prefix → Calm q.prefix → X × (keyed p.prefix ≡ keyed q.prefix) × (p.mid ≡ q.mid)) → (X → Same R R') → X × (keyed hs ≡ keyed ks) × (a ≡ b)
same_then_by D D' R R' l hs rest a ks more b e c d p q notifies same =
    let both : keyed p.prefix ++ (keyed p.back ++ rest) ≡ keyed q.prefix ++ (keyed q.back ++ more) = sym (keyed_parts hs p.prefix p.back rest p.whole) ∙ (e ∙ keyed_parts ks q.prefix q.back more q.whole) in
    let first = notifies (keyed p.back ++ rest) (keyed q.back ++ more) both (calm_first hs p.prefix p.back p.whole c) (calm_first ks q.prefix q.back q.whole d) in
    let left : keyed p.back ++ rest ≡ keyed q.back ++ more = append_cancel_left (keyed p.prefix) (keyed p.back ++ rest) (keyed q.back ++ more) (both ∙ ap (λ (x : List Happening). x ++ (keyed q.back ++ more)) (sym first.1)) in
    let second = (same first.0).one p.mid p.back rest a q.back more b left (calm_last hs p.prefix p.back p.whole c) (calm_last ks q.prefix q.back q.whole d) p.second (subst (λ (x : Ledger). R' x q.back b) (sym first.2) q.second) in (
      first.0,
      ap keyed p.whole ∙ (keyed_append p.prefix p.back ∙ (ap (λ (x : List Happening). x ++ keyed p.back) first.1 ∙ (ap (λ (x : List Happening). keyed q.prefix ++ x) second.0 ∙ sym (ap keyed q.whole ∙ keyed_append q.prefix q.back)))),
      second.1,
    )

pub same_then : {R R' S S' : Rel} → Same R R' → Same S S' → Same (Then R S) (Then R' S')
same_then {R} {R'} {S} {S'} r s = record {
  one = λ l hs rest a ks more b e c d p q.
      let it = same_then_by {X = Unit {0}} R R' S S' l hs rest a ks more b e c d p q (λ left right both calm still. let first = r.one l p.prefix left p.mid q.prefix right q.mid both calm still p.first q.first in (tt, first.0, first.1)) (λ x. s) in
      (it.1, it.2);
}

-- memory is refused
pub record Refuses (R : Rel) : Type 0 where
  pub never : (l : Ledger) (hs : List Happening) (a : Ledger) → R l hs a → Calm hs → ⊥

pub refuses_then : (R S : Rel) → Refuses R → Refuses (Then R S)
refuses_then R S r = record { never = λ l hs a it calm. r.never l it.prefix it.mid it.first (calm_first hs it.prefix it.back it.whole calm) }

-- memory is refused in the second of two alternatives
pub same_or : {R R' S S' : Rel} → Refuses S → Refuses S' → Same R R' → Same (Or R S) (Or R' S')
same_or {R} {R'} {S} {S'} refuses refuse r = record { one = one }
  where
    one : (l : Ledger) (hs rest : List Happening) (a : Ledger) (ks more : List Happening) (b : Ledger) → keyed hs ++ rest ≡ keyed ks ++ more → Calm hs → Calm ks → Or R S l hs a → Or R' S' l ks b → (keyed hs ≡ keyed ks) × (a ≡ b)
    one l hs rest a ks more b e c d (inl p) (inl q) = r.one l hs rest a ks more b e c d p q
    one l hs rest a ks more b e c d (inr p) q = absurd (refuses.never l hs a p c)
    one l hs rest a ks more b e c d (inl p) (inr q) = absurd (refuse.never l ks b q d)

pub same_if : (test : Bool) {R R' S S' : Rel} → Same R R' → Same S S' → Same (If test R S) (If test R' S')
same_if true r s = record { one = λ l hs rest a ks more b e c d p q. r.one l hs rest a ks more b e c d p q }
same_if false r s = record { one = λ l hs rest a ks more b e c d p q. s.one l hs rest a ks more b e c d p q }

pub same_each_of : {A : Type 0} (xs : List A) (R : A → Rel) → ((x : A) → One (R x)) → One (EachOf xs R)
same_each_of [] R each = same_nothing
same_each_of (x ∷ xs) R each = same_then (each x) (same_each_of xs R each)

-- a part that refuses memory
refused_notifies : (hs : List Happening) (h : Happening) → is_refusal h ≡ true → hs ≡ h ∷ [] → Calm hs → ⊥
refused_notifies hs h refused is calm = untrue (is_refusal h) refused (or_false_left (is_refusal h) false (subst Calm is calm))
  where
    untrue : (t : Bool) → t ≡ true → t ≡ false → ⊥
    untrue true p q = cc
    untrue false p q = cc

pub refuses_just : (R : Rel) (h : Happening) → is_refusal h ≡ true → ((l : Ledger) (hs : List Happening) (a : Ledger) → R l hs a → hs ≡ h ∷ []) → Refuses R
refuses_just R h refused is = record { never = λ l hs a it calm. refused_notifies hs h refused (is l hs a it) calm }

-- ---- until it can't be done once more

record Done (R : Rel) (n : ℕ) (Stop : Ledger → Type 0) (l : Ledger) (hs : List Happening) (a : Ledger) : Type 0 where
  done : Times n R l hs a
  stop : Stop a

until_one : (R : Rel) (Stop : Ledger → Type 0) → One R → ((l : Ledger) (hs : List Happening) (a : Ledger) → Stop l → R l hs a → ⊥) → (n m : ℕ) → (l : Ledger) (hs rest : List Happening) (a : Ledger) (ks more : List Happening) (b : Ledger) → keyed hs ++ rest ≡ keyed ks ++ more → Calm hs → Calm ks → Done R n Stop l hs a → Done R m Stop l ks b → (keyed hs ≡ keyed ks) × (a ≡ b)
until_one R Stop r never zero zero l hs rest a ks more b e c d p q = (ap keyed (p.done.0 ∙ sym q.done.0), p.done.1 ∙ sym q.done.1)
until_one R Stop r never zero (suc m) l hs rest a ks more b e c d p q = let first = times_cons m R l ks b q.done in absurd (never l first.prefix first.mid (subst Stop p.done.1 p.stop) first.first)
until_one R Stop r never (suc n) zero l hs rest a ks more b e c d p q = let first = times_cons n R l hs a p.done in absurd (never l first.prefix first.mid (subst Stop q.done.1 q.stop) first.first)
until_one R Stop r never (suc n) (suc m) l hs rest a ks more b e c d p q =
    let x = times_cons n R l hs a p.done in
    let y = times_cons m R l ks b q.done in
    let it = same_then_by {X = Unit {0}} R R (λ k xs z. (Times n R k xs z) × Stop z) (λ k xs z. (Times m R k xs z) × Stop z) l hs rest a ks more b e c d
    (record { mid = x.mid; prefix = x.prefix; back = x.back; whole = x.whole; first = x.first; second = (x.second, p.stop) })
    (record { mid = y.mid; prefix = y.prefix; back = y.back; whole = y.whole; first = y.first; second = (y.second, q.stop) })
    (λ left right both calm still. let first = r.one l x.prefix left x.mid y.prefix right y.mid both calm still x.first y.first in (tt, first.0, first.1))
    (λ u. record { one = λ k xs xrest z ys ymore w f g h s t. until_one R Stop r never n m k xs xrest z ys ymore w f g h (record { done = s.0; stop = s.1 }) (record { done = t.0; stop = t.1 }) }) in
    (it.1, it.2)

pub same_until : (R : Rel) (Stop : Ledger → Type 0) → One R → ((l : Ledger) (hs : List Happening) (a : Ledger) → Stop l → R l hs a → ⊥) → One (λ l hs a. Many R l hs a × Stop a)
same_until R Stop r never = record {
  one = λ l hs rest a ks more b e c d p q. until_one R Stop r never p.0.0 q.0.0 l hs rest a ks more b e c d (record { done = p.0.1; stop = p.1 }) (record { done = q.0.1; stop = q.1 });
}

-- ---- the first happening that is seen

pub first_seen : (x y : Happening) (hs rest ks more prefix back : List Happening) → keyed hs ++ rest ≡ keyed ks ++ more → keyed hs ≡ x ∷ prefix → keyed ks ≡ y ∷ back → x ≡ y
first_seen x y hs rest ks more prefix back e p q = let both : x ∷ (prefix ++ rest) ≡ y ∷ (back ++ more) = sym (ap (λ (z : List Happening). z ++ rest) p) ∙ (e ∙ ap (λ (z : List Happening). z ++ more) q) in cc
