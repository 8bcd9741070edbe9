-- The content of owned values.
use Rattle.std.specs.Prelude.{List, map}
use Rattle.std.specs.Cow.{cow_slice_items}
use Rattle.ipp_codec.specs.declared.value.Value.{Value}
use Rattle.ipp_codec.specs.declared.value.Value.TheOpen.{Value-F, Member-F}
use Rattle.ipp_codec.specs.declared.value.Value.TheOpen as layer
use Rattle.ipp_codec.specs.declared.value.Value.TheFolds.{fold-Value, fold-Member}
use Rattle.ipp_codec.specs.declared.value.Member.{Member}
use Rattle.ipp_codec.specs.Message.{IppValue, plain, collection, IppMember, members_of}

-- one layer of a value
abbrev pub value_step : Value-F IppValue IppMember → IppValue
value_step (layer.Plain tag bytes) = plain tag (cow_slice_items bytes)
value_step (layer.Number tag bytes) = plain tag bytes
value_step (layer.Collection members) = collection (members_of members.items)

-- one layer of a member
abbrev pub member_step : Member-F IppValue IppMember → IppMember
member_step m = record { name = m.name.items; first = m.first; others = m.others.items }

-- the content of a value, without its places in memory
abbrev pub value_owned : Value → IppValue
value_owned = fold-Value IppValue IppMember value_step member_step

-- the content of a member, without its places in memory
abbrev pub member_owned : Member → IppMember
member_owned = fold-Member IppValue IppMember value_step member_step

-- values in order
abbrev pub values_owned : List Value → List IppValue
values_owned vs = map value_owned vs

-- members in order
abbrev pub members_owned : List Member → List IppMember
members_owned ms = map member_owned ms
