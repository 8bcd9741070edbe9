-- Marks of the attributes that are asked for by their names.
use Rattle.std.proofs.Common.{◌≡◌, ◌∙◌, ℕ, zero, suc, ◌+◌, ◌<◌, Bool, true, false, ◌||◌, ◌&&◌, not, nat_eq, nat_lt, List, [], ◌∷◌, length, map, take, set, replicate, get_or, refl, sym, ap, arith}
use Rattle.std.proofs.lemmas.List.{ext_get_or, get_or-set_same, get_or-set_other, length-set}
use Rattle.std.proofs.lemmas.Slice.Eq.{bytes_eq-Decides}
use Rattle.std.proofs.lemmas.List.Folds.{list_any_more}
use Rattle.std.specs.List.{list_all, list_any}
use Rattle.std.specs.Str.{bytes_eq}
use Rattle.printer_objects.specs.declared.printer_attribute.PrinterAttribute.{PrinterAttribute}
use Rattle.printer_objects.specs.declared.printer_attribute.PrinterAttribute.TheVariants.{UriSupported}
use Rattle.printer_objects.specs.PrinterAttribute.{printer_attribute_name, printer_table}
use Rattle.printer_objects.specs.Requested.{has_name}
use Rattle.printer_objects.specs.Named.{covers, covers_from, marked, named_of}

-- the name of the attribute at a place
abbrev pub name_at : List PrinterAttribute → ℕ → List ℕ
name_at table place = printer_attribute_name (get_or table place UriSupported)

-- the marks after some of the places
abbrev pub MarkedSoFar : List ℕ → List Bool → List ℕ → List Bool → Type 0
MarkedSoFar asked before places marks =
    (length marks ≡ 34) × ((place : ℕ) → place < 34 → get_or marks place false ≡ (get_or before place false || (bytes_eq asked (name_at printer_table place) && list_any (nat_eq place) places)))

-- where both hold
pub both_true : (b c : Bool) → (b && c) ≡ true → (b ≡ true) × (c ≡ true)
both_true true c both = (refl, both)
both_true false c both = absurd cc

-- ---- one more value

more_in : (requested : List (List ℕ)) (i : ℕ) (asked : List ℕ) → i < length requested → asked ≡ get_or requested i asked → (table : List PrinterAttribute) → marked asked (map (λ which. has_name (printer_attribute_name which) (take i requested)) table) table ≡ map (λ which. has_name (printer_attribute_name which) (take (i + 1) requested)) table
more_in requested i asked inside is [] = refl
more_in requested i asked inside is (which ∷ table) =
    let name : List ℕ = printer_attribute_name which in
    let here : (has_name name (take i requested) || bytes_eq asked name) ≡ has_name name (take (i + 1) requested) =
    ap (λ (a : List ℕ). has_name name (take i requested) || bytes_eq a name) is ∙ sym (list_any_more (λ (a : List ℕ). bytes_eq a name) requested i asked inside) in
    rw (here, more_in requested i asked inside is table) refl

-- nothing is asked for
pub none_named : named_of [] ≡ replicate 34 false
unfolding named_of
none_named = refl

pub named_more : (requested : List (List ℕ)) (i : ℕ) (asked : List ℕ) → i < length requested → asked ≡ get_or requested i asked → marked asked (named_of (take i requested)) printer_table ≡ named_of (take (i + 1) requested)
unfolding named_of
named_more requested i asked inside is = more_in requested i asked inside is printer_table

-- ---- one more place

nat_eq-self : (n : ℕ) → nat_eq n n ≡ true
nat_eq-self n = grind arith

-- at another place, and at this one by whether the name is met
elsewhere : (old eq met : Bool) → (old || (eq && met)) ≡ (old || (eq && (met || false)))
elsewhere true eq met = refl
elsewhere false true true = refl
elsewhere false true false = refl
elsewhere false false met = refl

met_here : (old met : Bool) → true ≡ (old || (true && (met || true)))
met_here true met = refl
met_here false true = refl
met_here false false = refl

unmet_here : (old met : Bool) → (old || (false && met)) ≡ (old || (false && (met || true)))
unmet_here true met = refl
unmet_here false met = refl

-- what is met at the places, with one more
with_place : (place p k : ℕ) (places : List ℕ) → k < length places → p ≡ get_or places k p → list_any (nat_eq place) (take (k + 1) places) ≡ (list_any (nat_eq place) (take k places) || nat_eq place p)
with_place place p k places inside is = list_any_more (nat_eq place) places k p inside ∙ ap (λ (q : ℕ). list_any (nat_eq place) (take k places) || nat_eq place q) (sym is)

met_at : (asked : List ℕ) (old now met : Bool) (marks : List Bool) (place p : ℕ) → p < length marks → bytes_eq asked (name_at printer_table p) ≡ true → get_or marks place false ≡ (old || (bytes_eq asked (name_at printer_table place) && met)) → (b : Bool) → nat_eq place p ≡ b → get_or (set marks p true) place false ≡ (old || (bytes_eq asked (name_at printer_table place) && (met || b)))
met_at asked old now met marks place p long same known true here =
    let is : place ≡ p = grind (arith, here) in
    ap (λ (q : ℕ). get_or (set marks p true) q false) is
    ∙ (get_or-set_same marks p true false long
    ∙ (met_here old met
    ∙ ap (λ (b : Bool). old || (b && (met || true))) (sym same ∙ ap (λ (q : ℕ). bytes_eq asked (name_at printer_table q)) (sym is))))
met_at asked old now met marks place p long same known false here =
    get_or-set_other marks p place true false (grind (arith, here)) ∙ (known ∙ elsewhere old (bytes_eq asked (name_at printer_table place)) met)

unmet_at : (asked : List ℕ) (old met : Bool) (place p : ℕ) → bytes_eq asked (name_at printer_table p) ≡ false → (b : Bool) → nat_eq place p ≡ b → (old || (bytes_eq asked (name_at printer_table place) && met)) ≡ (old || (bytes_eq asked (name_at printer_table place) && (met || b)))
unmet_at asked old met place p same true here =
    let is : place ≡ p = grind (arith, here) in
    let none : bytes_eq asked (name_at printer_table place) ≡ false = ap (λ (q : ℕ). bytes_eq asked (name_at printer_table q)) is ∙ same in
    rw none (unmet_here old met)
unmet_at asked old met place p same false here = elsewhere old (bytes_eq asked (name_at printer_table place)) met

-- each place is in the table
pub low_at : (places : List ℕ) (k : ℕ) → list_all (λ place. nat_lt place 34) places ≡ true → k < length places → get_or places k 0 < 34
low_at [] k all inside = absurd (omega (arith, inside))
low_at (p ∷ places) zero all inside =
    let first = both_true (nat_lt p 34) (list_all (λ place. nat_lt place 34) places) all in
    grind (arith, first.0)
low_at (p ∷ places) (suc k) all inside =
    let first = both_true (nat_lt p 34) (list_all (λ place. nat_lt place 34) places) all in
    low_at places k first.1 (omega (arith, inside))

-- the name of the place is the one that is asked for
pub one_met : (asked : List ℕ) (before marks : List Bool) (places : List ℕ) (k p : ℕ) → k < length places → p ≡ get_or places k p → p < 34 → MarkedSoFar asked before (take k places) marks → bytes_eq asked (name_at printer_table p) ≡ true → MarkedSoFar asked before (take (k + 1) places) (set marks p true)
one_met asked before marks places k p inside is low so same =
    (length-set marks p true ∙ so.0, λ place within. rw (with_place place p k places inside is) (met_at asked (get_or before place false) false (list_any (nat_eq place) (take k places)) marks place p (omega (arith, low, so.0)) same (so.1 place within) (nat_eq place p) refl))

-- it is another
pub one_unmet : (asked : List ℕ) (before marks : List Bool) (places : List ℕ) (k p : ℕ) → k < length places → p ≡ get_or places k p → MarkedSoFar asked before (take k places) marks → bytes_eq asked (name_at printer_table p) ≡ false → MarkedSoFar asked before (take (k + 1) places) marks
one_unmet asked before marks places k p inside is so same =
    (so.0, λ place within. so.1 place within ∙ rw (with_place place p k places inside is) (unmet_at asked (get_or before place false) (list_any (nat_eq place) (take k places)) place p same (nat_eq place p) refl))

-- ---- all places

one_true : (b c : Bool) → (b || not c) ≡ true → c ≡ true → b ≡ true
one_true true c one other = refl
one_true false true one other = absurd cc
one_true false false one other = absurd cc

covered : (asked places : List ℕ) (table : List PrinterAttribute) (from place : ℕ) → covers_from from table (length asked) places ≡ true → place < length table → bytes_eq asked (name_at table place) ≡ true → list_any (nat_eq (from + place)) places ≡ true
covered asked places [] from place all inside same = absurd (omega (arith, inside))
covered asked places (which ∷ table) from zero all inside same =
    let first = both_true (list_any (nat_eq from) places || not (nat_eq (length (printer_attribute_name which)) (length asked))) (covers_from (from + 1) table (length asked) places) all in
    let name : asked ≡ printer_attribute_name which = (bytes_eq-Decides asked (printer_attribute_name which)).0 same in
    let long : nat_eq (length (printer_attribute_name which)) (length asked) ≡ true = ap (λ (l : List ℕ). nat_eq (length l) (length asked)) (sym name) ∙ nat_eq-self (length asked) in
    let here : from + 0 ≡ from = omega arith in
    ap (λ (q : ℕ). list_any (nat_eq q) places) here ∙ one_true (list_any (nat_eq from) places) (nat_eq (length (printer_attribute_name which)) (length asked)) first.0 long
covered asked places (which ∷ table) from (suc place) all inside same =
    let first = both_true (list_any (nat_eq from) places || not (nat_eq (length (printer_attribute_name which)) (length asked))) (covers_from (from + 1) table (length asked) places) all in
    let on : from + suc place ≡ from + 1 + place = omega arith in
    ap (λ (q : ℕ). list_any (nat_eq q) places) on ∙ covered asked places table (from + 1) place first.1 (omega (arith, inside)) same

marked_at : (asked : List ℕ) (marks : List Bool) (table : List PrinterAttribute) (place : ℕ) → length marks ≡ length table → place < length table → get_or (marked asked marks table) place false ≡ (get_or marks place false || bytes_eq asked (name_at table place))
marked_at asked [] [] place long inside = absurd (omega (arith, inside))
marked_at asked [] (which ∷ table) place long inside = absurd (omega (arith, long))
marked_at asked (mark ∷ marks) [] place long inside = absurd (omega (arith, inside))
marked_at asked (mark ∷ marks) (which ∷ table) zero long inside = refl
marked_at asked (mark ∷ marks) (which ∷ table) (suc place) long inside = marked_at asked marks table place (omega (arith, long)) (omega (arith, inside))

length_marked : (asked : List ℕ) (marks : List Bool) (table : List PrinterAttribute) → length marks ≡ length table → length (marked asked marks table) ≡ length table
length_marked asked [] [] long = refl
length_marked asked [] (which ∷ table) long = absurd (omega (arith, long))
length_marked asked (mark ∷ marks) [] long = absurd (omega (arith, long))
length_marked asked (mark ∷ marks) (which ∷ table) long = ap suc (length_marked asked marks table (omega (arith, long)))

settled : (old eq met : Bool) → (eq ≡ true → met ≡ true) → (old || (eq && met)) ≡ (old || eq)
settled true eq met always = refl
settled false true met always = always refl
settled false false met always = refl

pub all_marked : (asked : List ℕ) (before after : List Bool) (places : List ℕ) → length before ≡ 34 → covers (length asked) places ≡ true → MarkedSoFar asked before places after → after ≡ marked asked before printer_table
all_marked asked before after places long all so =
    let both = both_true (list_all (λ place. nat_lt place 34) places) (covers_from 0 printer_table (length asked) places) all in
    ext_get_or false after (marked asked before printer_table) (so.0 ∙ sym (length_marked asked before printer_table long)) (λ place inside.
    let within : place < 34 = omega (arith, inside, so.0) in
    let here : 0 + place ≡ place = omega arith in
    so.1 place within
    ∙ (settled (get_or before place false) (bytes_eq asked (name_at printer_table place)) (list_any (nat_eq place) places) (λ same. ap (λ (q : ℕ). list_any (nat_eq q) places) (sym here) ∙ covered asked places printer_table 0 place both.1 within same)
    ∙ sym (marked_at asked before printer_table place long within)))

-- ---- the mark of one attribute

mark_in : (requested : List (List ℕ)) (table : List PrinterAttribute) (place : ℕ) → place < length table → get_or (map (λ which. has_name (printer_attribute_name which) requested) table) place false ≡ has_name (name_at table place) requested
mark_in requested [] place inside = absurd (omega (arith, inside))
mark_in requested (which ∷ table) zero inside = refl
mark_in requested (which ∷ table) (suc place) inside = mark_in requested table place (omega (arith, inside))

pub mark_of : (requested : List (List ℕ)) (place : ℕ) → place < 34 → get_or (named_of requested) place false ≡ has_name (name_at printer_table place) requested
unfolding named_of
mark_of requested place inside = mark_in requested printer_table place inside
