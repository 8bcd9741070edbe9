-- The attributes that a request asks for (RFC 8011, section 4.2.5.1).
use Rattle.std.specs.Prelude.{ℕ, List, [], ◌∷◌, map, codes}
use Rattle.std.specs.Option.{option_map_or}
use Rattle.ipp_codec.specs.Message.{bytes_in, IppGroup}
use Rattle.ipp_operations.specs.declared.operation_attribute.OperationAttribute.TheVariants.{RequestedAttributes}
use Rattle.ipp_operations.specs.Attributes.{attribute_of}
use Rattle.ipp_operations.specs.OperationAttribute.{acting_values}

-- the default of Get-Printer-Attributes and Get-Job-Attributes
abbrev pub all_attributes : List (List ℕ)
all_attributes = codes "all" ∷ []

-- the default of Get-Jobs (section 4.2.6.1)
abbrev pub uri_and_id : List (List ℕ)
uri_and_id = codes "job-uri" ∷ codes "job-id" ∷ []

-- the values of requested-attributes, or a default if the group doesn't have it
abbrev pub requested_of : List (List ℕ) → IppGroup → List (List ℕ)
requested_of default group = option_map_or (λ attribute. map bytes_in (acting_values RequestedAttributes attribute)) (attribute_of RequestedAttributes group) default
