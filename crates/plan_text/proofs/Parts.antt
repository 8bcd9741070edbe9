-- The parts of a text: whole lines, and the text after the last line feed.
use Rattle.std.proofs.Common.{◌≡◌, ℕ, zero, suc, ◌-◌, ◌<◌, List, [], ◌∷◌, length, map, take, get_or, slice_index_or, Err, refl, arith}
use Rattle.plan_text.specs.declared.fault.TextFault.TheVariants.{NoEnd}
use Rattle.plan_text.specs.Whole.{plan_in, plan_from, ended}

pub no_parts : {A : Type 0} (f : A → List ℕ) (parts : List A) → length parts ≡ 0 → plan_in (map f parts) ≡ Err NoEnd
unfolding plan_in plan_from ended
no_parts f [] e = refl
no_parts f (part ∷ parts) e = absurd (omega (arith, e))

prefix_of : {A : Type 0} (f : A → List ℕ) (n : ℕ) (parts : List A) → take n (map f parts) ≡ map f (take n parts)
prefix_of f zero parts = refl
prefix_of f (suc n) [] = refl
prefix_of f (suc n) (part ∷ parts) = rw (prefix_of f n parts) refl

last_of : {A : Type 0} (f : A → List ℕ) (n : ℕ) (parts : List A) (d : A) → n < length parts → slice_index_or (map f parts) n [] ≡ f (get_or parts n d)
last_of f n [] d l = absurd (omega (arith, l))
last_of f zero (part ∷ parts) d l = refl
last_of f (suc n) (part ∷ parts) d l = last_of f n parts d (omega (arith, l))

length_of : {A : Type 0} (f : A → List ℕ) (parts : List A) → length (map f parts) ≡ length parts
length_of f [] = refl
length_of f (part ∷ parts) = rw (length_of f parts) refl

pub some_parts : {A : Type 0} (f : A → List ℕ) (parts : List A) (d : A) → 0 < length parts →
    plan_in (map f parts) ≡ plan_from (map f (take (length parts - 1) parts)) (f (get_or parts (length parts - 1) d))
unfolding plan_in
some_parts f parts d l =
    rw (length_of f parts, prefix_of f (length parts - 1) parts, last_of f (length parts - 1) parts d (omega (arith, l))) refl
