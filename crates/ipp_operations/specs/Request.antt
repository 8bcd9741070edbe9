-- The messages that are requests (RFC 8011, sections 4.1.2 and 4.1.4): they have a request-id, and their first group is the operation group, which begins with the charset and the natural language. Of the groups after it the first job group is read. The operation group has the name of the user.
use Rattle.std.specs.Prelude.{ℕ, ◌==◌, ◌&&◌, nat_le, Bool, false, if◌then◌else◌, List, [], ◌∷◌, find, Option, Some, None, codes}
use Rattle.std.specs.Option.{option_map_or}
use Rattle.std.specs.Str.{bytes_eq, str_eq_ignore_ascii_case}
use Rattle.base_types.specs.declared.limits.TheConstants.Limits.{LAST_INTEGER}
use Rattle.ipp_codec.specs.Message.{tag_of, bytes_in, IppAttribute, IppGroup, IppMessage}
use Rattle.ipp_codec.specs.Tag as tags
use Rattle.ipp_operations.specs.declared.operation_attribute.OperationAttribute.TheVariants.{RequestingUserName}
use Rattle.ipp_operations.specs.Attributes.{first_named, first_of_each, name_or}

-- a request-id is from 1 to LAST_INTEGER
abbrev pub is_request_id : ℕ → Bool
is_request_id id = nat_le 1 id && nat_le id LAST_INTEGER

-- the attribute has this name, and its first value has this tag
abbrev pub is_named : List ℕ → ℕ → IppAttribute → Bool
is_named name tag attribute = bytes_eq attribute.name name && (tag_of attribute.first == tag)

-- the first two attributes are the charset and the natural language
abbrev pub begins_request : List IppAttribute → Bool
begins_request (first ∷ second ∷ later) =
    is_named (codes "attributes-charset") tags.charset first && is_named (codes "attributes-natural-language") tags.natural_language second
begins_request _ = false

abbrev pub is_operation_group : IppGroup → Bool
is_operation_group group = (group.tag == tags.operation_attributes) && begins_request group.attributes

abbrev pub operation_group_in : List IppGroup → Option IppGroup
operation_group_in (group ∷ later) = if is_operation_group group then Some group else None
operation_group_in [] = None

-- the operation group of a request; None if the message isn't a request
abbrev pub operation_group : IppMessage → Option IppGroup
operation_group message = if is_request_id message.request_id then operation_group_in message.groups else None

abbrev pub first_job_group : List IppGroup → Option IppGroup
first_job_group groups = find (λ group. group.tag == tags.job_attributes) groups

-- the first job group
abbrev pub job_group : IppMessage → Option IppGroup
job_group message = first_job_group message.groups

-- the attributes of the job group, unchanged, the first of each name; none if there is no job group
abbrev pub job_attributes : IppMessage → List IppAttribute
job_attributes message = option_map_or (λ group. first_of_each group.attributes) (job_group message) []

-- the charset is utf-8, without regard to the case of ASCII letters
abbrev pub is_utf8 : IppGroup → Bool
is_utf8 group = option_map_or (λ charset. str_eq_ignore_ascii_case (bytes_in charset.first) (codes "utf-8")) (first_named (codes "attributes-charset") group.attributes) false

-- the user who sends the request, as the request claims
abbrev pub user_of : IppGroup → List ℕ
user_of group = name_or RequestingUserName (codes "anonymous") group
