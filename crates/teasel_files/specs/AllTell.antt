-- What is told of each of a list, and whether it is yes of all.
use Rattle.std.specs.Prelude.{Bool, ◌&&◌, List, [], ◌∷◌}

-- Of each in order this is told, yes or no; from what was told before, yes or no, comes what is told of all.
pub data AllTell {A : Type 0} (Tells : A → Bool → Type 0) : List A → Bool → Bool → Type 0 where
  none_left : {before : Bool} → AllTell Tells [] before before
  one_more : {a : A} {as_ : List A} {told before all : Bool} → Tells a told → AllTell Tells as_ (before && told) all → AllTell Tells (a ∷ as_) before all
