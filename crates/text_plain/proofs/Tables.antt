-- What is found in tables of names and of paths.
use Rattle.std.proofs.Common.{◌≡◌, refl, List, [], ◌∷◌, map, Option, Some, Bor, Bool, true, false, cond, if◌then◌else◌}
use Rattle.std.specs.Option.{option_map_or}
use Rattle.std.specs.Map.{lookup}
use Rattle.wit_model.specs.Text.{Text, text_eq}
use Rattle.wit_model.proofs.Distinct.{text_eq_flip}
use Rattle.print_grammar.specs.Tree.{PathTree, PathTree.Local, PathTree.Full}
use Rattle.text_trees.specs.declared.tree.{PathTree.PathTree as CodePath, Span.Span}
use Rattle.text_trees.specs.Seen.{cut}
use Rattle.text_trees.specs.TreesSeen.{path_of}
use Rattle.text_plain.specs.Moved.{renamed, routed}

by_test : {X Y : Type 0} (f : X → Y) (b : Bool) (x : X) (found : Option X) (else_ rest : Y) → rest ≡ option_map_or f found else_
    → (if b then f x else rest) ≡ option_map_or f (cond b (Some x) found) else_
by_test f true x found else_ rest e = refl
by_test f false x found else_ rest e = e

module _ (whole name : Text) where
  pub name_there : (entries : List (Bor Text × Span)) → renamed (map (λ entry. record { other = entry.0.now; own = Some (cut whole entry.1) }) entries) name
      ≡ option_map_or (cut whole) (lookup (λ k. text_eq name k.now) entries) name
  name_there [] = refl
  name_there (e ∷ es) = rw (text_eq_flip name e.0.now) (by_test (cut whole) (text_eq e.0.now name) e.1 (lookup (λ k. text_eq name k.now) es) name _ (name_there es))

  pub path_there : (entries : List (Bor Text × CodePath)) → routed (map (λ entry. (entry.0.now, path_of whole entry.1)) entries) (Local name)
      ≡ option_map_or (path_of whole) (lookup (λ k. text_eq name k.now) entries) (Local name)
  path_there [] = refl
  path_there (e ∷ es) =
      rw (text_eq_flip name e.0.now) (by_test (path_of whole) (text_eq e.0.now name) e.1 (lookup (λ k. text_eq name k.now) es) (Local name) _ (path_there es))

pub full_stays : (routes : List (Text × PathTree)) (namespace name interface : Text) (version : Option Text)
    → routed routes (Full namespace name interface version) ≡ Full namespace name interface version
full_stays [] namespace name interface version = refl
full_stays (r ∷ routes) namespace name interface version = refl
