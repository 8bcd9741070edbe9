use Rattle.std.proofs.Common.{rules, ◌≡◌, ◌∷◌, [], ◌++◌, sym, subst}
use Rattle.std.specs.List.{AllByRecursion}
use Rattle.ipp_codec.specs.Grammar.{IsAttribute}
use Rattle.ipp_codec.specs.Views.{attribute_shown, attributes_left, group_shown}
use Rattle.ipp_operations.proofs.FirstOfEach.{none_kept, one_new, one_again}
use Rattle.ipp_operations.proofs.Spelt.{each_first}
use Rattle.ipp_operations.proofs.copied.first_of_each.Goals as goal

pub loop-attribute-init : goal.loop-attribute-init
loop-attribute-init c =
    let same : attributes_left c.into_iter-attribute-iterator.result ≡ (group_shown c.args.group.now).attributes = search rules in
    let both = none_kept c.new-names.result c.new-kept.result.items (attributes_left c.into_iter-attribute-iterator.result) (group_shown c.args.group.now).attributes c.new-names.ensures.empty c.new-kept.ensures.items same in
    (tt, tt, both.0, both.1)

pub loop-attribute-preserved-in_ok-push : goal.loop-attribute-preserved-in_ok-push
loop-attribute-preserved-in_ok-push c =
    let a = attribute_shown c.in-Some.attribute in
    let next : attributes_left c.loop-attribute.attribute-iterator ≡ a ∷ attributes_left c.next.new.self = search rules in
    let pushed : c.push.new.self.items ≡ c.loop-attribute.kept.items ++ a ∷ [] = search rules in
    let both = one_new c.loop-attribute.names c.insert.new.self c.name.result c.loop-attribute.kept.items c.push.new.self.items a (attributes_left c.loop-attribute.attribute-iterator) (attributes_left c.next.new.self) (group_shown c.args.group.now).attributes c.in_ok-insert.field-0 next c.name.ensures c.in_ok-insert.ensures.added c.if-branch.true c.in_ok-insert.ensures.updates pushed c.loop-attribute.invariant.2 c.loop-attribute.invariant.3 in
    (tt, tt, both.0, both.1)

pub loop-attribute-preserved : goal.loop-attribute-preserved
loop-attribute-preserved c =
    let a = attribute_shown c.in-Some.attribute in
    let next : attributes_left c.loop-attribute.attribute-iterator ≡ a ∷ attributes_left c.next.new.self = search rules in
    let both = one_again c.loop-attribute.names c.insert.new.self c.name.result c.loop-attribute.kept.items a (attributes_left c.loop-attribute.attribute-iterator) (attributes_left c.next.new.self) (group_shown c.args.group.now).attributes c.in_ok-insert.field-0 next c.name.ensures c.in_ok-insert.ensures.added c.if-branch.false (search rules) c.loop-attribute.invariant.2 c.loop-attribute.invariant.3 in
    (tt, tt, both.0, both.1)

pub from_vec-requires : goal.from_vec-requires
from_vec-requires c = subst (AllByRecursion IsAttribute) (sym (search rules)) (each_first (group_shown c.args.group.now).attributes c.requires.attributes)
