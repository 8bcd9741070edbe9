-- The values shown as supported are the values that a request may ask for.
use Rattle.std.proofs.Common.{◌≡◌, ◌∙◌, ◌==◌, ℕ, true, List, find, map, Option, Some, None, option_map, is_some, refl, sym, ap}
use Rattle.std.specs.List.{Contains}
use Rattle.std.specs.Str.{bytes_eq, str_to_ascii_lowercase}
use Rattle.std.proofs.lemmas.Bool.{eq-eqb}
use Rattle.std.proofs.lemmas.Slice.Eq.{bytes_eq-Decides}
use Rattle.printer_objects.specs.DocumentFormat.{is_same_format}
use Rattle.text.specs.Trimmed.{without_parameters}
use Rattle.printer_objects.specs.Offer.{OfferRecord, formats_of, media_of, finishings_of, format_named, medium_named, finishing_named}
use Rattle.printer_objects.specs.Finishing.{finishing_code}
use Rattle.printer_objects.proofs.ListedOnce.{found_of}
use Rattle.printer_objects.proofs.Searches.{find_mapped}

is_itself : (format : List ℕ) → is_same_format format format ≡ true
unfolding is_same_format
is_itself format = let lower = str_to_ascii_lowercase (without_parameters format) in (bytes_eq-Decides lower lower).1 refl

pub format_taken : (offer : OfferRecord) (format : List ℕ) → Contains (formats_of offer) format → is_some (format_named offer format) ≡ true
unfolding format_named
format_taken offer format shown = found_of (is_same_format format) (formats_of offer) format (is_itself format) shown

pub medium_taken : (offer : OfferRecord) (medium : List ℕ) → Contains (media_of offer) medium → is_some (medium_named offer medium) ≡ true
unfolding medium_named
medium_taken offer medium shown = found_of (bytes_eq medium) (media_of offer) medium ((bytes_eq-Decides medium medium).1 refl) shown

is_some_mapped : {A B : Type 0} (f : A → B) (o : Option A) → is_some o ≡ is_some (option_map f o)
is_some_mapped f None = refl
is_some_mapped f (Some a) = refl

pub finishing_taken : (offer : OfferRecord) (number : ℕ) → Contains (map finishing_code (finishings_of offer)) number → is_some (finishing_named offer number) ≡ true
unfolding finishing_named
finishing_taken offer number shown =
    is_some_mapped finishing_code (find (λ f. number == finishing_code f) (finishings_of offer))
    ∙ (ap is_some (sym (find_mapped (λ (code : ℕ). number == code) finishing_code (finishings_of offer)))
    ∙ found_of (λ (code : ℕ). number == code) (map finishing_code (finishings_of offer)) number (eq-eqb number number refl) shown)
