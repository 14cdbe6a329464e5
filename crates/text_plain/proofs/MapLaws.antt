-- Tables that take what is new.
use Rattle.std.proofs.Common.{◌≡◌, refl, ◌∙◌, Bool, false, is_some, List, [], ◌∷◌, ◌++◌, Option, Some, None}
use Rattle.indexmap.specs.IndexMap.{IndexMap, get, insert_entry}
use Rattle.indexmap.proofs.CallerLemmas.{insert_entry-new}

pub absent : {X : Type 0} (o : Option X) (b : Bool) → b ≡ is_some o → b ≡ false → o ≡ None
absent None b e f = refl
absent (Some x) b e f = absurd cc

-- what isn't there yet is put at the end
pub entry_put : {K X S : Type 0} (eq : K → K → Bool) (m : IndexMap K X S) (k : K) (v : X) (new : List (K × X)) → new ≡ insert_entry eq m.entries k v → get eq m k ≡ None
    → new ≡ m.entries ++ (k, v) ∷ []
entry_put eq m k v new e none = e ∙ insert_entry-new eq m k v none
