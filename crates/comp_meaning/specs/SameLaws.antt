-- Laws of the tests that say whether two meanings are the same.
use Rattle.std.specs.Prelude.{◌≡◌, true, Bool, ◌&&◌, List, map}
use Rattle.std.specs.{Bool.Decides, Cmp.Lexicographic.pointwise, FinMap.from_entries}
use Rattle.wit_model.specs.{Text.Text, Text.TextMap, Meaning.FunctionMeaning, Meaning.TypeMeaning}
use Rattle.comp_meaning.specs.{Follow.ShownType, Rules.distinct, Same.same_function, Same.stand_in, Reads.same_shown, Reads.same_functions}

-- The test says whether its two arguments are equal.
abbrev pub DecidesEquality : {A : Type 0} → (A → A → Bool) → Type 0
DecidesEquality {A} same = (a b : A) → Decides (same a b) (a ≡ b)

abbrev pub named_meaning : ShownType → Text × TypeMeaning
named_meaning t = (t.name, t.meaning)

-- Types are the same where they declare the same under the same names, in order.
abbrev pub SameTypesAreEqual : Type 0
SameTypesAreEqual = (ts us : List ShownType) → Decides (pointwise same_shown ts us) (map named_meaning ts ≡ map named_meaning us)

-- no name stands twice
abbrev pub HaveDistinctNames : List (Text × FunctionMeaning) → Type 0
HaveDistinctNames fs = distinct (map (λ f. f.0) fs) ≡ true

-- Where no name stands twice, functions are the same exactly where each stands in the other list, which is where they make one map.
abbrev pub SameFunctionsStandInEachOther : Type 0
SameFunctionsStandInEachOther = (fs gs : List (Text × FunctionMeaning)) → HaveDistinctNames fs → HaveDistinctNames gs
    → same_functions fs gs ≡ (stand_in same_function fs gs && stand_in same_function gs fs)

abbrev pub SameFunctionsAreOneMap : Type 0
SameFunctionsAreOneMap = (fs gs : List (Text × FunctionMeaning)) → HaveDistinctNames fs → HaveDistinctNames gs
    → Decides (same_functions fs gs) (◌≡◌ {A = TextMap FunctionMeaning} (from_entries fs) (from_entries gs))
