-- The parts of a request that is a message have a spelling.
use Rattle.std.proofs.Common.{◌≡◌, ◌∙◌, Bool, true, false, cond, not, List, [], ◌∷◌, find, Option, Some, None, IfSome, option_map, sym, ap, subst}
use Rattle.std.specs.List.{AllByRecursion}
use Rattle.std.specs.Str.{bytes_eq}
use Rattle.ipp_codec.specs.Message.{IppAttribute, IppGroup, IppMessage}
use Rattle.ipp_codec.specs.Grammar.{IsAttribute, IsGroup, IsMessage}
use Rattle.job_template.proofs.Spelt.{all_kept}
use Rattle.ipp_operations.specs.declared.operation_attribute.OperationAttribute.{OperationAttribute}
use Rattle.ipp_operations.specs.Attributes.{attribute_of, first_of_each}
use Rattle.ipp_operations.specs.Request.{is_request_id, is_operation_group, operation_group_in, operation_group, job_group}

found_is : {X : Type 0} (P : X → Type 0) (test : X → Bool) (xs : List X) → AllByRecursion P xs → IfSome (find test xs) P
found_is P test [] all = tt
found_is P test (x ∷ xs) all =
    elim (test x) as (λ b. IfSome (cond b (Some x) (find test xs)) P) [
      | true ↦ all.0
      | false ↦ found_is P test xs all.1
    ]

-- a property of the shown value, from the value that is found
pub shown_is : {A B : Type 0} (P : B → Type 0) (f : A → B) (r : Option A) (a : A) (o : Option B) → option_map f r ≡ o → r ≡ Some a → IfSome o P → P (f a)
shown_is P f r a o is here found = subst (λ o. IfSome o P) (sym is ∙ ap (option_map f) here) found

first_is : (groups : List IppGroup) → AllByRecursion IsGroup groups → IfSome (operation_group_in groups) IsGroup
first_is [] all = tt
first_is (group ∷ groups) all =
    elim (is_operation_group group) as (λ b. IfSome (cond b (Some group) None) IsGroup) [
      | true ↦ all.0
      | false ↦ tt
    ]

pub operation_group_is : (message : IppMessage) → IsMessage message → IfSome (operation_group message) IsGroup
operation_group_is message is =
    elim (is_request_id message.request_id) as (λ b. IfSome (cond b (operation_group_in message.groups) None) IsGroup) [
      | true ↦ first_is message.groups is.groups
      | false ↦ tt
    ]

pub job_group_is : (message : IppMessage) → IsMessage message → IfSome (job_group message) IsGroup
job_group_is message is = found_is IsGroup _ message.groups is.groups

pub attribute_is : (which : OperationAttribute) (group : IppGroup) → IsGroup group → IfSome (attribute_of which group) IsAttribute
attribute_is which group is = found_is IsAttribute _ group.attributes is.attributes

pub each_first : (attributes : List IppAttribute) → AllByRecursion IsAttribute attributes → AllByRecursion IsAttribute (first_of_each attributes)
each_first [] all = tt
each_first (attribute ∷ later) all = (all.0, all_kept (λ other. not (bytes_eq other.name attribute.name)) (first_of_each later) (each_first later all.1))
