use Rattle.std.proofs.Common.{◌≡◌, ◌++◌, map, drop}
use Rattle.std.specs.List.{IsDistinct}
use Rattle.wit_model.specs.Text.{text_eq, text_of}
use Rattle.encode_names.specs.Clashes.{canonical_paths_of}
use Rattle.encode_names.proofs.clash.refuse_repeat.Given as goal

-- what has been seen are the first canonical paths, all different, and those that are left follow them
abbrev pub invariant-loop-interface : goal.invariant-loop-interface
invariant-loop-interface l = record {
  split : canonical_paths_of l.resolve (map (λ id. id.0) l.interfaces) ≡ map text_of l.seen.keys ++ canonical_paths_of l.resolve (map (λ id. id.0) (drop l.interface-index l.interfaces));
  once : IsDistinct text_eq (map text_of l.seen.keys);
}
