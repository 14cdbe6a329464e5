use Rattle.std.proofs.Common.{◌≡◌, rules, refl, ap, List, [], ◌∷◌, slice_get}
use Rattle.wit_model.specs.declared.model.Package.{Package}
use Rattle.witc_run.proofs.DemoLaws.{bare-demo, meant}
use Rattle.witc_run.proofs.demo.package.Goals as goal

pub returns : goal.returns
returns c =
    let worlds : c.insert.new.self.entries ≡ (c.in_ok-from_str.field-0, record { 0 = 0 }) ∷ [] = search rules in
    record {
      package_ = _;
      stands = ap (λ (ps : List Package). slice_get ps 0) c.in_ok-vec.ensures.items;
      means = meant _ _ _ c.in_ok-from_str.field-0 c.in_ok-from_str.ensures.ok worlds c.new.ensures.empty c.new-2.ensures.items c.in_ok-vec-2.ensures.items c.in_ok-world.ensures
          c.in_ok-vec.ensures.items c.in_ok-from_str-2.ensures.ok c.in_ok-from_str-3.ensures.ok refl;
      bare = bare-demo _ _ _ c.in_ok-vec.ensures.items refl c.new-2.ensures.items c.in_ok-vec-2.ensures.items c.in_ok-world.ensures c.new-3.ensures.items;
    }
