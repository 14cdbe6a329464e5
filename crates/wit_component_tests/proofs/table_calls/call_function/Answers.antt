use Rattle.encode_flat.specs.Flat.{flat_view}
use Rattle.std.proofs.Common.{refl, subst, List, map}
use Rattle.wit_model.specs.declared.model.Param.{Param}
use Rattle.encode_types.specs.{Plan.AllInRange, Table.AllDefined}
use Rattle.wit_encode.proofs.Tables.{all-may-be-met, table-encodes, table-signature, both-in_range, both-defined}
use Rattle.wit_component_tests.proofs.table_calls.call_function.Goals as goal

pub encode_func_type-requires : goal.encode_func_type-requires
encode_func_type-requires c =
    let inside = both-in_range c.args.resolve.now _ _
    (subst (λ (ps : List Param). AllInRange c.args.resolve.now (map (λ p. p.ty) ps)) c.deref.ensures.value (c.are_in_range.ensures c.if-not-are_in_range.false))
    (c.is_optional_in_range.ensures c.if-not-is_optional_in_range.false) in
    let defined = both-defined c.args.resolve.now _ _
    (subst (λ (ps : List Param). AllDefined c.args.resolve.now (map (λ p. p.ty) ps)) c.deref-2.ensures.value (c.are_defined.ensures c.if-not-are_defined.false))
    (c.is_optional_defined.ensures c.if-not-is_optional_defined.false) in
    λ _. (
      (refl, tt),
      (
        table-encodes c.args.resolve.now _ (flat_view c.args.table.now) c.requires.table _ inside (all-may-be-met _ _ c.requires.met _),
        (table-signature c.args.resolve.now _ (flat_view c.args.table.now) c.requires.table c.args.function.now inside (all-may-be-met _ _ c.requires.met _) defined, c.requires.table.agree),
      ),
    )
