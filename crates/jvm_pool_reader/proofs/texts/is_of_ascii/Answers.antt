use Rattle.jvm_pool_reader.proofs.TextKinds.{field_is, method_is}
use Rattle.jvm_pool_reader.proofs.texts.is_of_ascii.Goals as goal

pub returns-in-Field : goal.returns-in-Field
returns-in-Field c =
    field_is c.args.kind c.in_ok-name.name c.args.units.now c.is_field_descriptor.result c.in_ok-name.ensures c.requires
    c.is_field_descriptor.ensures c.in-Field.is

pub returns : goal.returns
returns c =
    method_is c.args.kind c.in_ok-name.name c.args.units.now c.is_method_descriptor.result c.in_ok-name.ensures c.requires
    c.is_method_descriptor.ensures c.in-Method.is
