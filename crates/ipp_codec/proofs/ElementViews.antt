-- The views of bytes, one element further.
use Rattle.std.proofs.Common.{◌≡◌, ◌≢◌, ℕ, zero, suc, ◌≤◌, List, [], ◌∷◌, ◌++◌, length, drop, Bor, Option, Some, None, option_map, eqb, false, refl, sym, ap, ◌∙◌, arith}
use Rattle.std.proofs.lemmas.List.{length-append, drop_all}
use Rattle.ipp_codec.specs.Message.{IppValue, collection, IppValues, IppMembers, no_member, member_and, IppMember, members_of, members_in, members_within}
use Rattle.ipp_codec.specs.declared.place.Place.{Place}
use Rattle.ipp_codec.specs.declared.element.ElementView.{ElementView}
use Rattle.ipp_codec.specs.Spelling.{Element, opening, plainly, begin, named, finish, counted, value_bytes, element_bytes, bytes_of}
use Rattle.ipp_codec.specs.Place.{depth, after, Follows}
use Rattle.ipp_codec.specs.Reading.{seen, element_at}
use Rattle.ipp_codec.specs.Shown.{Level, before, levels_of, listed, elements_in, shown, top, below, add, name_member}
use Rattle.ipp_codec.specs.Views.{FirstShown, IsSorted, level, value_shown}
use Rattle.ipp_codec.specs.declared.view.ValueView.{ValueView}
use Rattle.std.proofs.lemmas.Bool.{ne_eqb}
use Rattle.ipp_codec.proofs.Fields.{IsBytes}
use Rattle.ipp_codec.proofs.Parts.{HasOwnTag, element_takes, element_again, some_long, shorter}
use Rattle.ipp_codec.proofs.Tree.{values_back, values_again}

abbrev Found : Type 0
Found = Option (Element × List ℕ)

both : (bytes : List ℕ) (n k : ℕ) → IsBytes bytes → length bytes ≤ suc n → length bytes ≤ suc k → (r : Found) → element_at bytes ≡ r
    → ((rest : List ℕ) → IsBytes rest → length rest ≤ n → length rest ≤ k → elements_in n rest ≡ elements_in k rest)
    → listed r (λ x. x.0 ∷ elements_in n x.1) ≡ listed r (λ x. x.0 ∷ elements_in k x.1)
both bytes n k fits a b (Some x) is again =
    let prefix = element_takes bytes x.0 x.1 fits is in
    let less = shorter bytes x.0 x.1 fits is in
    ap (λ (es : List Element). x.0 ∷ es) (again x.1 prefix.rest_fits (omega (arith, less, a)) (omega (arith, less, b)))
both bytes n k fits a b None is again = refl

-- any number from the length on will do
enough : (n k : ℕ) (bytes : List ℕ) → IsBytes bytes → length bytes ≤ n → length bytes ≤ k → elements_in n bytes ≡ elements_in k bytes
unfolding elements_in element_at
enough zero zero bytes fits a b = refl
enough zero (suc k) [] fits a b = refl
enough zero (suc k) (x ∷ bytes) fits a b = absurd (omega (arith, a))
enough (suc n) zero [] fits a b = refl
enough (suc n) zero (x ∷ bytes) fits a b = absurd (omega (arith, b))
enough (suc n) (suc k) bytes fits a b = both bytes n k fits a b (element_at bytes) refl (λ rest h c d. enough n k rest h c d)

shown_by : (b : ℕ) (bytes : List ℕ) (r : Found) → element_at (b ∷ bytes) ≡ r → shown (b ∷ bytes) ≡ levels_of (listed r (λ x. x.0 ∷ elements_in (length bytes) x.1))
unfolding elements_in
shown_by b bytes r is = ap (λ (q : Found). levels_of (listed q (λ x. x.0 ∷ elements_in (length bytes) x.1))) is

pub shown-next : (bytes : List ℕ) (e : Element) (rest : List ℕ) → IsBytes bytes → element_at bytes ≡ Some (e, rest) → shown bytes ≡ before e (shown rest)
unfolding levels_of element_at
shown-next [] e rest fits is = absurd cc
shown-next (b ∷ bytes) e rest fits is =
    let prefix = element_takes (b ∷ bytes) e rest fits is in
    let less = shorter (b ∷ bytes) e rest fits is in
    shown_by b bytes (Some (e, rest)) is ∙ ap (λ (es : List Element). before e (levels_of es)) (enough (length bytes) (length rest) rest prefix.rest_fits (omega (arith, less)) (omega arith))

pub shown-end : (bytes : List ℕ) → element_at bytes ≡ None → shown bytes ≡ []
unfolding levels_of elements_in
shown-end [] is = refl
shown-end (b ∷ bytes) is = shown_by b bytes None is

pub shown-nil : shown [] ≡ []
unfolding levels_of elements_in
shown-nil = refl

abbrev seen_of : ElementView × Bor (List ℕ) → Element × List ℕ
seen_of x = (seen x.0, x.1.now)

sorted_in : (bytes : List ℕ) (e : Element) (rest : List ℕ) → bytes ≡ element_bytes e ++ rest → HasOwnTag e → IsSorted bytes e
sorted_in bytes (plainly tag name content) rest is own =
    (own, omega (arith, ap length is, length-append (value_bytes tag name content) rest, length-append (counted name) (counted content), length-append name [], length-append content []))
sorted_in bytes (opening tag) rest is own = tt
sorted_in bytes (begin name) rest is own = tt
sorted_in bytes (named name) rest is own = tt
sorted_in bytes finish rest is own = tt

pub first_shown : (bytes : List ℕ) (o : Option (ElementView × Bor (List ℕ))) → IsBytes bytes → element_at bytes ≡ option_map seen_of o → FirstShown bytes o
first_shown bytes None fits is = shown-end bytes is
first_shown bytes (Some x) fits is =
    let prefix = element_takes bytes (seen x.0) x.1.now fits is in
    (shown-next bytes (seen x.0) x.1.now fits is, shorter bytes (seen x.0) x.1.now fits is, sorted_in bytes (seen x.0) x.1.now prefix.joined prefix.sorted)

pub elements_in-bytes_of : (place : Place) (es : List Element) (n : ℕ) → Follows place es → length (bytes_of es) ≤ n → elements_in n (bytes_of es) ≡ es
unfolding elements_in element_at
elements_in-bytes_of place [] zero follows long = refl
elements_in-bytes_of place [] (suc n) follows long = refl
elements_in-bytes_of place (e ∷ es) zero follows long = absurd (omega (arith, long, some_long e, length-append (element_bytes e) (bytes_of es)))
elements_in-bytes_of place (e ∷ es) (suc n) follows long =
    rw (element_again (depth place) e (bytes_of es) follows.0.1)
    (ap (λ (x : List Element). e ∷ x) (elements_in-bytes_of (after place e) es n follows.1 (omega (arith, long, some_long e, length-append (element_bytes e) (bytes_of es)))))

-- after the end of all bytes nothing is left
pub nothing_after : (n : ℕ) (rest bytes : List ℕ) → drop n (shown rest) ≡ below (shown bytes) → shown rest ≡ [] → shown [] ≡ below (shown bytes)
nothing_after n rest bytes is none = shown-nil ∙ sym (drop_all n [] (omega arith)) ∙ ap (λ (ls : List Level). drop n ls) (sym none) ∙ is

-- a member: its name, a first value, and the other values at the beginning of the bytes that are left
abbrev pub member_at : List ℕ → IppValue → List ℕ → IppMember
member_at name first rest = record { name = name; first = first; others = (level rest).values }

pub member_shown_next : (bytes rest after tail name : List ℕ) (first : IppValue) → (level bytes).members ≡ (level rest).members → level rest ≡ name_member name (level after) → level after ≡ add [] first (level tail)
    → members_in (level bytes).members ≡ member_at name first tail ∷ members_in (level tail).members
member_shown_next bytes rest after tail name first same is value =
    ap members_in (same ∙ ap (λ (l : Level). l.members) (is ∙ ap (λ (l : Level). name_member name l) value))
    ∙ ap (λ (vs : List IppValue). let m : IppMember = record { name = name; first = first; others = vs } in m ∷ members_in (level tail).members) (values_back (level tail).values)

-- a value that is no collection has no members
pub no_members : (v : ValueView) → v.tag ≢ 0x34 → members_in (level []).members ≡ members_within (value_shown v)
no_members v other = let t : eqb v.tag 0x34 ≡ false = ne_eqb _ _ other in rw t (ap (λ (ls : List Level). members_in (top ls).members) shown-nil)

members_again : (ms : IppMembers) → members_of (members_in ms) ≡ ms
members_again no_member = refl
members_again (member_and name v vs ms) =
    ap (λ (ws : IppValues). member_and name v ws (members_of (members_in ms))) (values_again vs) ∙ ap (λ (ns : IppMembers). member_and name v vs ns) (members_again ms)

-- a collection that is made of the members that a view shows
pub collection_shown : (owned : IppValue) (ms : List IppMember) (v : ValueView) → v.tag ≡ 0x34 → owned ≡ collection (members_of ms) → ms ≡ members_in (level v.content.now).members → owned ≡ value_shown v
collection_shown owned ms v tag is members =
    let shown_is : value_shown v ≡ collection (level v.content.now).members = rw tag refl in
    is ∙ ap (λ (ns : List IppMember). collection (members_of ns)) members ∙ ap collection (members_again (level v.content.now).members) ∙ sym shown_is
