-- Two relations that lead one list of happenings to one end. Each choice that is made is in the list, so a relation needs no look at what follows it.
use Rattle.std.proofs.Common.{◌≡◌, ℕ, zero, suc, Bool, true, false, List, [], ◌∷◌, ◌++◌, refl, sym, ◌∙◌, ap, subst, inl, inr, append_assoc, append-nil}
use Rattle.std.proofs.lemmas.List.{append_cancel_left}
use Rattle.wires.specs.Poll.{Poll}
use Rattle.dispatcher.specs.Notes.{Note}
use Rattle.server.specs.Polls.{Happening, Polled, Notified, Choice, Chosen}
use Rattle.server.specs.Ledger.{Ledger}
use Rattle.server.specs.Rel.{Rel, Nothing, Polls, Notifies, Chooses, Then, If, Or, Times, Many, Each, EachOf}

-- From one ledger, and where one list goes on from both: both took the same of it, and came to the same ledger.
pub record Alike (R S : Rel) : Type 0 where
  pub one : (l : Ledger) (hs rest : List Happening) (a : Ledger) (ks more : List Happening) (b : Ledger) → hs ++ rest ≡ ks ++ more → R l hs a → S l ks b → (hs ≡ ks) × (a ≡ b)

-- a relation that is alike with itself
abbrev pub Fixed : Rel → Type 0
Fixed R = Alike R R

-- the happenings and the end are functions of the ledger
pub fixed_just : (hs : Ledger → List Happening) (to : Ledger → Ledger) → Fixed (λ l ks a. (ks ≡ hs l) × (a ≡ to l))
fixed_just hs to = record { one = λ l xs rest a ks more b e p q. (p.0 ∙ sym q.0, p.1 ∙ sym q.1) }

pub fixed_nothing : Fixed Nothing
fixed_nothing = fixed_just (λ l. []) (λ l. l)

pub fixed_polls : (poll : Poll) → Fixed (Polls poll)
fixed_polls poll = fixed_just (λ l. Polled poll ∷ []) (λ l. l)

pub fixed_notifies : (note : Note) → Fixed (Notifies note)
fixed_notifies note = fixed_just (λ l. Notified note ∷ []) (λ l. l)

pub fixed_chooses : (choice : Choice) → Fixed (Chooses choice)
fixed_chooses choice = fixed_just (λ l. Chosen choice ∷ []) (λ l. l)

pub alike_then : {R R' S S' : Rel} → Alike R R' → Alike S S' → Alike (Then R S) (Then R' S')
alike_then {R} {R'} {S} {S'} r s = record {
  one = λ l hs rest a ks more b e p q.
      let both : p.prefix ++ (p.back ++ rest) ≡ q.prefix ++ (q.back ++ more) =
      sym (append_assoc p.prefix p.back rest) ∙ (ap (λ (x : List Happening). x ++ rest) (sym p.whole) ∙ (e ∙ (ap (λ (x : List Happening). x ++ more) q.whole ∙ append_assoc q.prefix q.back more))) in
      let first = r.one l p.prefix (p.back ++ rest) p.mid q.prefix (q.back ++ more) q.mid both p.first q.first in
      let left : p.back ++ rest ≡ q.back ++ more = append_cancel_left p.prefix (p.back ++ rest) (q.back ++ more) (both ∙ ap (λ (x : List Happening). x ++ (q.back ++ more)) (sym first.0)) in
      let second = s.one p.mid p.back rest a q.back more b left p.second (subst (λ (x : Ledger). S' x q.back b) (sym first.1) q.second) in
      (p.whole ∙ (ap (λ (x : List Happening). x ++ p.back) first.0 ∙ (ap (λ (x : List Happening). q.prefix ++ x) second.0 ∙ sym q.whole)), second.1);
}

-- ---- relations that differ in their first happening

-- the first that happens is of this kind, or isn't
abbrev pub BeginsAs : (Happening → Bool) → Bool → List Happening → Type 0
BeginsAs kind is [] = ⊥
BeginsAs kind is (h ∷ hs) = kind h ≡ is

pub record Begins (kind : Happening → Bool) (is : Bool) (R : Rel) : Type 0 where
  pub begins : (l : Ledger) (hs : List Happening) (a : Ledger) → R l hs a → BeginsAs kind is hs

pub begins_append : (kind : Happening → Bool) (is : Bool) (hs rest : List Happening) → BeginsAs kind is hs → BeginsAs kind is (hs ++ rest)
begins_append kind is [] rest begins = absurd begins
begins_append kind is (h ∷ hs) rest begins = begins

begins_one : (kind : Happening → Bool) (xs : List Happening) → BeginsAs kind true xs → BeginsAs kind false xs → ⊥
begins_one kind [] p q = p
begins_one kind (h ∷ hs) p q = let never : true ≡ false = sym p ∙ q in absurd (cc)

-- two lists that begin in two ways aren't one
pub apart : {A : Type 0} → (kind : Happening → Bool) (hs rest ks more : List Happening) → hs ++ rest ≡ ks ++ more → BeginsAs kind true hs → BeginsAs kind false ks → A
apart kind hs rest ks more e p q = absurd (begins_one kind (ks ++ more) (subst (BeginsAs kind true) e (begins_append kind true hs rest p)) (begins_append kind false ks more q))

pub begins_then : (kind : Happening → Bool) (is : Bool) (R S : Rel) → Begins kind is R → Begins kind is (Then R S)
begins_then kind is R S r = record {
  begins = λ l hs a it. subst (BeginsAs kind is) (sym it.whole) (begins_append kind is it.prefix it.back (r.begins l it.prefix it.mid it.first));
}

pub begins_just : (kind : Happening → Bool) (is : Bool) (h : Happening) (tail : List Happening) (xs : List Happening) → kind h ≡ is → xs ≡ h ∷ tail → BeginsAs kind is xs
begins_just kind is h tail xs of same = subst (BeginsAs kind is) (sym same) of

pub begins_chooses : (kind : Happening → Bool) (is : Bool) (choice : Choice) → kind (Chosen choice) ≡ is → Begins kind is (Chooses choice)
begins_chooses kind is choice of = record { begins = λ l hs a it. begins_just kind is (Chosen choice) [] hs of it.0 }

pub begins_notifies : (kind : Happening → Bool) (is : Bool) (note : Note) → kind (Notified note) ≡ is → Begins kind is (Notifies note)
begins_notifies kind is note of = record { begins = λ l hs a it. begins_just kind is (Notified note) [] hs of it.0 }

-- a choice comes first
abbrev pub is_choice : Happening → Bool
is_choice (Polled poll) = false
is_choice (Notified note) = false
is_choice (Chosen choice) = true

-- the first happening of one list is one
pub first_one : (x y : Happening) (hs rest ks more prefix back : List Happening) → hs ++ rest ≡ ks ++ more → hs ≡ x ∷ prefix → ks ≡ y ∷ back → x ≡ y
first_one x y hs rest ks more prefix back e p q = let both : x ∷ (prefix ++ rest) ≡ y ∷ (back ++ more) = sym (ap (λ (z : List Happening). z ++ rest) p) ∙ (e ∙ ap (λ (z : List Happening). z ++ more) q) in cc

pub same_choice : (choice other : Choice) → Chosen choice ≡ Chosen other → choice ≡ other
same_choice choice other same = cc

-- one after the other, where the first part notifies how the second parts are alike
pub then_one : {X : Type 0} (D D' R R' : Rel) (l : Ledger) (hs rest : List Happening) (a : Ledger) (ks more : List Happening) (b : Ledger) → hs ++ rest ≡ ks ++ more → (p : Then D R l hs a) (q : Then D' R' l ks b)
    → ((left right : List Happening) → p.prefix ++ left ≡ q.prefix ++ right → X × (p.prefix ≡ q.prefix) × (p.mid ≡ q.mid)) → (X → Alike R R') → X × (hs ≡ ks) × (a ≡ b)
then_one D D' R R' l hs rest a ks more b e p q notifies alike =
    let both : p.prefix ++ (p.back ++ rest) ≡ q.prefix ++ (q.back ++ more) =
    sym (append_assoc p.prefix p.back rest) ∙ (ap (λ (x : List Happening). x ++ rest) (sym p.whole) ∙ (e ∙ (ap (λ (x : List Happening). x ++ more) q.whole ∙ append_assoc q.prefix q.back more))) in
    let first = notifies (p.back ++ rest) (q.back ++ more) both in
    let left : p.back ++ rest ≡ q.back ++ more = append_cancel_left p.prefix (p.back ++ rest) (q.back ++ more) (both ∙ ap (λ (x : List Happening). x ++ (q.back ++ more)) (sym first.1)) in
    let second = (alike first.0).one p.mid p.back rest a q.back more b left p.second (subst (λ (x : Ledger). R' x q.back b) (sym first.2) q.second) in
    (first.0, p.whole ∙ (ap (λ (x : List Happening). x ++ p.back) first.1 ∙ (ap (λ (x : List Happening). q.prefix ++ x) second.0 ∙ sym q.whole)), second.1)

-- the one or the other, which begin apart
pub alike_or : {R R' S S' : Rel} (kind : Happening → Bool) → Begins kind true R → Begins kind true R' → Begins kind false S → Begins kind false S' → Alike R R' → Alike S S' → Alike (Or R S) (Or R' S')
alike_or {R} {R'} {S} {S'} kind br br' bs bs' r s = record { one = one }
  where
    one : (l : Ledger) (hs rest : List Happening) (a : Ledger) (ks more : List Happening) (b : Ledger) → hs ++ rest ≡ ks ++ more → Or R S l hs a → Or R' S' l ks b → (hs ≡ ks) × (a ≡ b)
    one l hs rest a ks more b e (inl p) (inl q) = r.one l hs rest a ks more b e p q
    one l hs rest a ks more b e (inr p) (inr q) = s.one l hs rest a ks more b e p q
    one l hs rest a ks more b e (inl p) (inr q) = apart kind hs rest ks more e (br.begins l hs a p) (bs'.begins l ks b q)
    one l hs rest a ks more b e (inr p) (inl q) = apart kind ks more hs rest (sym e) (br'.begins l ks b q) (bs.begins l hs a p)

pub fixed_or : {R S : Rel} (kind : Happening → Bool) → Begins kind true R → Begins kind false S → Fixed R → Fixed S → Fixed (Or R S)
fixed_or kind br bs r s = alike_or kind br br bs bs r s

pub alike_if : (test : Bool) {R R' S S' : Rel} → Alike R R' → Alike S S' → Alike (If test R S) (If test R' S')
alike_if true r s = record { one = λ l hs rest a ks more b e p q. r.one l hs rest a ks more b e p q }
alike_if false r s = record { one = λ l hs rest a ks more b e p q. s.one l hs rest a ks more b e p q }

-- ---- many times

pub fixed_each : (n : ℕ) (R : ℕ → Rel) → ((i : ℕ) → Fixed (R i)) → Fixed (Each n R)
fixed_each zero R each = fixed_nothing
fixed_each (suc n) R each = alike_then (fixed_each n R each) (each n)

pub fixed_each_of : {A : Type 0} (xs : List A) (R : A → Rel) → ((x : A) → Fixed (R x)) → Fixed (EachOf xs R)
fixed_each_of [] R each = fixed_nothing
fixed_each_of (x ∷ xs) R each = alike_then (each x) (fixed_each_of xs R each)

-- one more at the end is one more at the beginning
pub times_cons : (n : ℕ) (R : Rel) (l : Ledger) (hs : List Happening) (a : Ledger) → Times (suc n) R l hs a → Then R (Times n R) l hs a
times_cons zero R l hs a it =
    let same : hs ≡ it.back = it.whole ∙ ap (λ (x : List Happening). x ++ it.back) it.first.0 in
    record {
      mid = a;
      prefix = hs;
      back = [];
      whole = sym (append-nil hs);
      first = subst (λ (x : List Happening). R l x a) (sym same) (subst (λ (x : Ledger). R x it.back a) it.first.1 it.second);
      second = (refl, refl);
    }
times_cons (suc n) R l hs a it =
    let before = times_cons n R l it.prefix it.mid it.first in
    record {
      mid = before.mid;
      prefix = before.prefix;
      back = before.back ++ it.back;
      whole = it.whole ∙ (ap (λ (x : List Happening). x ++ it.back) before.whole ∙ append_assoc before.prefix before.back it.back);
      first = before.first;
      second = record { mid = it.mid; prefix = before.back; back = it.back; whole = refl; first = before.second; second = it.second };
    }

-- until it can't be done once more
record Done (R : Rel) (n : ℕ) (Stop : Ledger → Type 0) (l : Ledger) (hs : List Happening) (a : Ledger) : Type 0 where
  done : Times n R l hs a
  stop : Stop a

until_one : (R : Rel) (Stop : Ledger → Type 0) → Fixed R → ((l : Ledger) (hs : List Happening) (a : Ledger) → Stop l → R l hs a → ⊥) → (n m : ℕ) → (l : Ledger) (hs rest : List Happening) (a : Ledger) (ks more : List Happening) (b : Ledger) → hs ++ rest ≡ ks ++ more → Done R n Stop l hs a → Done R m Stop l ks b → (hs ≡ ks) × (a ≡ b)
until_one R Stop r never zero zero l hs rest a ks more b e p q = (p.done.0 ∙ sym q.done.0, p.done.1 ∙ sym q.done.1)
until_one R Stop r never zero (suc m) l hs rest a ks more b e p q = let first = times_cons m R l ks b q.done in absurd (never l first.prefix first.mid (subst Stop p.done.1 p.stop) first.first)
until_one R Stop r never (suc n) zero l hs rest a ks more b e p q = let first = times_cons n R l hs a p.done in absurd (never l first.prefix first.mid (subst Stop q.done.1 q.stop) first.first)
until_one R Stop r never (suc n) (suc m) l hs rest a ks more b e p q =
    let x = times_cons n R l hs a p.done in
    let y = times_cons m R l ks b q.done in
    let both : x.prefix ++ (x.back ++ rest) ≡ y.prefix ++ (y.back ++ more) =
    sym (append_assoc x.prefix x.back rest) ∙ (ap (λ (z : List Happening). z ++ rest) (sym x.whole) ∙ (e ∙ (ap (λ (z : List Happening). z ++ more) y.whole ∙ append_assoc y.prefix y.back more))) in
    let first = r.one l x.prefix (x.back ++ rest) x.mid y.prefix (y.back ++ more) y.mid both x.first y.first in
    let left : x.back ++ rest ≡ y.back ++ more = append_cancel_left x.prefix (x.back ++ rest) (y.back ++ more) (both ∙ ap (λ (z : List Happening). z ++ (y.back ++ more)) (sym first.0)) in
    let later : Times m R x.mid y.back b = subst (λ (z : Ledger). Times m R z y.back b) (sym first.1) y.second in
    let tail = until_one R Stop r never n m x.mid x.back rest a y.back more b left (record { done = x.second; stop = p.stop }) (record { done = later; stop = q.stop }) in
    (x.whole ∙ (ap (λ (z : List Happening). z ++ x.back) first.0 ∙ (ap (λ (z : List Happening). y.prefix ++ z) tail.0 ∙ sym y.whole)), tail.1)

pub fixed_until : (R : Rel) (Stop : Ledger → Type 0) → Fixed R → ((l : Ledger) (hs : List Happening) (a : Ledger) → Stop l → R l hs a → ⊥) → Fixed (λ l hs a. Many R l hs a × Stop a)
fixed_until R Stop r never = record { one = λ l hs rest a ks more b e p q. until_one R Stop r never p.0.0 q.0.0 l hs rest a ks more b e (record { done = p.0.1; stop = p.1 }) (record { done = q.0.1; stop = q.1 }) }

-- a relation taken at least once, and then another relation, begins as the first relation
many_first : (kind : Happening → Bool) (R S : Rel) → Begins kind true R → (m : ℕ) (l : Ledger) (ks : List Happening) (b : Ledger) → Then (Times (suc m) R) S l ks b → BeginsAs kind true ks
many_first kind R S br m l ks b q =
    let x = times_cons m R l q.prefix q.mid q.first in
    subst (BeginsAs kind true) (sym q.whole) (begins_append kind true q.prefix q.back (subst (BeginsAs kind true) (sym x.whole) (begins_append kind true x.prefix x.back (br.begins l x.prefix x.mid x.first))))

none_first : (kind : Happening → Bool) (S : Rel) → Begins kind false S → (l : Ledger) (hs : List Happening) (a : Ledger) → Then Nothing S l hs a → BeginsAs kind false hs
none_first kind S bs l hs a p = subst (BeginsAs kind false) (sym (p.whole ∙ ap (λ (z : List Happening). z ++ p.back) p.first.0)) (bs.begins p.mid p.back a p.second)

-- a relation taken again and again, and then another relation whose beginnings differ
after_one : (kind : Happening → Bool) (R S : Rel) → Begins kind true R → Begins kind false S → Fixed R → Fixed S → (n m : ℕ) → (l : Ledger) (hs rest : List Happening) (a : Ledger) (ks more : List Happening) (b : Ledger) → hs ++ rest ≡ ks ++ more → Then (Times n R) S l hs a → Then (Times m R) S l ks b → (hs ≡ ks) × (a ≡ b)
after_one kind R S br bs r s zero zero l hs rest a ks more b e p q = (alike_then fixed_nothing s).one l hs rest a ks more b e p q
after_one kind R S br bs r s zero (suc m) l hs rest a ks more b e p q = apart kind ks more hs rest (sym e) (many_first kind R S br m l ks b q) (none_first kind S bs l hs a p)
after_one kind R S br bs r s (suc n) zero l hs rest a ks more b e p q = apart kind hs rest ks more e (many_first kind R S br n l hs a p) (none_first kind S bs l ks b q)
after_one kind R S br bs r s (suc n) (suc m) l hs rest a ks more b e p q =
    let x = times_cons n R l p.prefix p.mid p.first in
    let y = times_cons m R l q.prefix q.mid q.first in
    let left : Then (Times n R) S x.mid (x.back ++ p.back) a = record { mid = p.mid; prefix = x.back; back = p.back; whole = refl; first = x.second; second = p.second } in
    let right : Then (Times m R) S y.mid (y.back ++ q.back) b = record { mid = q.mid; prefix = y.back; back = q.back; whole = refl; first = y.second; second = q.second } in
    let all_left : hs ≡ x.prefix ++ (x.back ++ p.back) = p.whole ∙ (ap (λ (z : List Happening). z ++ p.back) x.whole ∙ append_assoc x.prefix x.back p.back) in
    let all_right : ks ≡ y.prefix ++ (y.back ++ q.back) = q.whole ∙ (ap (λ (z : List Happening). z ++ q.back) y.whole ∙ append_assoc y.prefix y.back q.back) in
    let both : x.prefix ++ ((x.back ++ p.back) ++ rest) ≡ y.prefix ++ ((y.back ++ q.back) ++ more) =
    sym (append_assoc x.prefix (x.back ++ p.back) rest) ∙ (ap (λ (z : List Happening). z ++ rest) (sym all_left) ∙ (e ∙ (ap (λ (z : List Happening). z ++ more) all_right ∙ append_assoc y.prefix (y.back ++ q.back) more))) in
    let first = r.one l x.prefix ((x.back ++ p.back) ++ rest) x.mid y.prefix ((y.back ++ q.back) ++ more) y.mid both x.first y.first in
    let after : (x.back ++ p.back) ++ rest ≡ (y.back ++ q.back) ++ more =
    append_cancel_left x.prefix ((x.back ++ p.back) ++ rest) ((y.back ++ q.back) ++ more) (both ∙ ap (λ (z : List Happening). z ++ ((y.back ++ q.back) ++ more)) (sym first.0)) in
    let tail = after_one kind R S br bs r s n m x.mid (x.back ++ p.back) rest a (y.back ++ q.back) more b after left (subst (λ (z : Ledger). Then (Times m R) S z (y.back ++ q.back) b) (sym first.1) right) in
    (all_left ∙ (ap (λ (z : List Happening). z ++ (x.back ++ p.back)) first.0 ∙ (ap (λ (z : List Happening). y.prefix ++ z) tail.0 ∙ sym all_right)), tail.1)

pub fixed_many_then : (kind : Happening → Bool) (R S : Rel) → Begins kind true R → Begins kind false S → Fixed R → Fixed S → Fixed (Then (Many R) S)
fixed_many_then kind R S br bs r s = record {
  one = λ l hs rest a ks more b e p q.
      after_one kind R S br bs r s p.first.0 q.first.0 l hs rest a ks more b e
      (record { mid = p.mid; prefix = p.prefix; back = p.back; whole = p.whole; first = p.first.1; second = p.second })
      (record { mid = q.mid; prefix = q.prefix; back = q.back; whole = q.whole; first = q.first.1; second = q.second });
}
