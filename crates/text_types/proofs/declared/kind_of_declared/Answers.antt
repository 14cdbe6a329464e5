use Rattle.text_types.specs.{Kept.defs_of, Scopes.text_in}
use Rattle.text_types.proofs.DeclaredLaws.{record_is, variant_is, flags_are, enum_is, alias_is, resource_is}
use Rattle.text_types.proofs.declared.kind_of_declared.Goals as goal

pub returns-in_ok-fields_of-in-RecordOf-clause-is : goal.returns-in_ok-fields_of-in-RecordOf-clause-is
returns-in_ok-fields_of-in-RecordOf-clause-is c = record_is (text_in c.args.scope.now) c.in-RecordOf.is c.deref.ensures.value
    c.in_ok-fields_of-in-RecordOf.ensures.each

pub returns-in_ok-cases_of-in-VariantOf-clause-is : goal.returns-in_ok-cases_of-in-VariantOf-clause-is
returns-in_ok-cases_of-in-VariantOf-clause-is c =
    variant_is (text_in c.args.scope.now) c.in-VariantOf.is c.deref-in-VariantOf.ensures.value c.in_ok-cases_of-in-VariantOf.ensures.each

pub returns-in_ok-flags_of-in-FlagsOf-clause-is : goal.returns-in_ok-flags_of-in-FlagsOf-clause-is
returns-in_ok-flags_of-in-FlagsOf-clause-is c =
    flags_are (text_in c.args.scope.now) c.in-FlagsOf.is c.deref-in-FlagsOf.ensures.value c.in_ok-flags_of-in-FlagsOf.ensures.each

pub returns-in_ok-enum_cases_of-in-EnumOf-clause-is : goal.returns-in_ok-enum_cases_of-in-EnumOf-clause-is
returns-in_ok-enum_cases_of-in-EnumOf-clause-is c =
    enum_is (text_in c.args.scope.now) c.in-EnumOf.is c.deref-in-EnumOf.ensures.value c.in_ok-enum_cases_of-in-EnumOf.ensures.each

pub returns-in-AliasOf-clause-is : goal.returns-in-AliasOf-clause-is
returns-in-AliasOf-clause-is c = alias_is (defs_of c.kind_of.new.types) (text_in c.args.scope.now) c.kind_of.result c.in-AliasOf.is c.kind_of.ensures.is

pub returns-in-ResourceOf-clause-is : goal.returns-in-ResourceOf-clause-is
returns-in-ResourceOf-clause-is c = resource_is (text_in c.args.scope.now) c.in-ResourceOf.is
