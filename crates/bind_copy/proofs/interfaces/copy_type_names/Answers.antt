use Rattle.std.proofs.Common.{rules, ◌≡◌, sym, ap, ◌∷◌, ◌∙◌, ◌++◌, length, true}
use Rattle.std.proofs.lemmas.{Option.unwrap_or-slice_get, Map.Iter.rest_more}
use Rattle.std.specs.{Prelude.String, Map.Iter.deref_pair}
use Rattle.std.specs.declared.alloc.Global.{Global}
use Rattle.bind_copy.specs.Copies.{are_names_below, type_names, type_names_under}
use Rattle.wit_model.specs.declared.model.TypeId.{TypeId}
use Rattle.bind_copy.proofs.Entries.{names_apart, names_more}
use Rattle.bind_copy.proofs.interfaces.copy_type_names.Goals as goal

pub loop-name-preserved : goal.loop-name-preserved
loop-name-preserved c =
    let numbers = c.args.types.now in
    let whole = c.args.names.now.entries in
    let rest = c.next.new.self in
    let e : String Global × TypeId = (c.in-Some.name.now, c.in-Some.id.now) in
    let step : c.loop-name.name-iterator ≡ e ∷ rest = rest_more deref_pair c.loop-name.name-iterator rest c.next.result (c.in-Some.name, c.in-Some.id) c.in-Some.is c.next.ensures.steps in
    let below : are_names_below (length numbers) rest ≡ true = search rules in (
      below,
      λ apart. names_more numbers whole c.loop-name.copy.entries c.put.new.map.entries rest e c.in_ok-name.name c.in_ok-put.ensures.entries (search rules)
          (sym (unwrap_or-slice_get numbers c.in-Some.id.now.0 0)) (names_apart whole apart)
          (ap (λ es. type_names c.loop-name.copy.entries ++ type_names_under numbers es) (sym step) ∙ c.loop-name.invariant.1 apart),
    )
