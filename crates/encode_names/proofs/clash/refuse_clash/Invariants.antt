use Rattle.std.proofs.Common.{◌≡◌, ◌++◌, map}
use Rattle.std.specs.List.{IsDistinct}
use Rattle.wit_model.specs.Text.{text_eq, text_of}
use Rattle.encode_names.specs.Clashes.{canonical_names_of}
use Rattle.encode_names.proofs.clash.refuse_clash.Given as goal

-- what has been seen are the first canonical names, all different, and those that are left follow them
abbrev pub invariant-loop-key : goal.invariant-loop-key
invariant-loop-key l = record {
  split : canonical_names_of l.resolve l.items.entries ≡ map text_of l.seen.keys ++ canonical_names_of l.resolve l.key-iterator;
  once : IsDistinct text_eq (map text_of l.seen.keys);
}
