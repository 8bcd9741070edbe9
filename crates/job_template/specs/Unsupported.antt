-- The attributes of a request's job group that the response returns (RFC 8011, section 4.1.7).
use Rattle.std.specs.Prelude.{not, if◌then◌else◌, List, [], map, filter, is_some}
use Rattle.ipp_codec.specs.Message.{plain, IppAttribute}
use Rattle.ipp_codec.specs.Tag as tags
use Rattle.printer_objects.specs.Offer.{OfferRecord}
use Rattle.job_template.specs.TemplateName.{template_name}
use Rattle.job_template.specs.Template.{is_supported}

-- a template attribute unchanged; any other attribute by its name alone
abbrev pub returned : IppAttribute → IppAttribute
returned attribute =
    if is_some (template_name attribute.name) then attribute
    else record { name = attribute.name; first = plain tags.unsupported []; others = [] }

-- the unsupported attributes, in the request's order
unfoldable pub unsupported_of : OfferRecord → List IppAttribute → List IppAttribute
unsupported_of offer attributes = map returned (filter (λ a. not (is_supported offer a)) attributes)
