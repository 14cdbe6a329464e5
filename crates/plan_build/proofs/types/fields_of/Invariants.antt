use Rattle.std.proofs.Common.{◌≡◌, true, map, take}
use Rattle.std.specs.List.{list_all}
use Rattle.wit_model.specs.Text.{text_of}
use Rattle.plan_meaning.specs.Built.{is_undocumented, part_of}
use Rattle.plan_build.proofs.types.fields_of.Given as goal

abbrev pub invariant-loop-field : goal.invariant-loop-field
invariant-loop-field l = record {
  names : map (λ x. text_of x.name) l.built.items ≡ map (λ f. f.0.now) (take l.field-index l.fields);
  types : map (λ x. part_of x.ty) l.built.items ≡ map (λ f. part_of f.1) (take l.field-index l.fields);
  bare : list_all (λ x. is_undocumented x.docs) l.built.items ≡ true;
}
