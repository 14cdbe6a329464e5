-- A refusal is passed on.
use Rattle.std.proofs.Common.{rules as std_rules, ◌≡◌, Option, None}
use Rattle.read_follow.specs.declared.refusal.Refusal.{Refusal}
use Rattle.read_follow.specs.Found.{Refuses}

-- where nothing is found because nothing was found before
pub refused : {A B : Type 0} (e : Refusal) (inner : Option A) (outer : Option B) → (inner ≡ None → outer ≡ None) → Refuses e inner → Refuses e outer
refused x inner outer f r = search std_rules
