-- Whether the views of an interface agree, said by looking at the first of them alone, and at the first that shows functions too.
use Rattle.std.specs.Prelude.{◌≡◌, Bool, true, not, ◌&&◌, ◌||◌, List, [], ◌∷◌, ◌++◌, Option}
use Rattle.std.specs.{List.find, Option.option_map_or, Cmp.Lexicographic.pointwise}
use Rattle.wit_model.specs.Text.{Text, text_eq}
use Rattle.comp_meaning.specs.Reads.{Sight, same_shown, same_functions, all_agree, are_interfaces}

abbrev pub first_of : Text → List Sight → Option Sight
first_of path seen = find (λ s. text_eq path s.path) seen

-- the first view of a path that shows functions
abbrev pub first_whole : Text → List Sight → Option Sight
first_whole path seen = find (λ s. text_eq path s.path && s.whole) seen

abbrev pub same_types : Sight → Sight → Bool
same_types a b = pointwise same_shown a.view.types b.view.types

-- A view agrees with the first of its path in its types, and if it shows functions, with the first that does in these.
abbrev pub agrees_with_first : List Sight → Sight → Bool
agrees_with_first earlier s =
    option_map_or (λ f. same_types f s) (first_of s.path earlier) true
    && (not s.whole || option_map_or (λ f. same_functions f.view.functions s.view.functions) (first_whole s.path earlier) true)

-- so does each, behind these
abbrev pub agree_with_first : List Sight → List Sight → Bool
agree_with_first earlier [] = true
agree_with_first earlier (s ∷ rest) = agrees_with_first earlier s && agree_with_first (earlier ++ s ∷ []) rest

-- Views of interfaces agree, each with each, exactly where each agrees with the first of its path.
abbrev pub FirstAgrees : Type 0
FirstAgrees = (seen : List Sight) → are_interfaces seen ≡ true → all_agree seen ≡ agree_with_first [] seen
