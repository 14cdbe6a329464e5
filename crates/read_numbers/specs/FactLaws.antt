-- What was kept of each type is true of it in numbers.
use Rattle.std.specs.Prelude.{◌≡◌, ℕ, ◌<◌, ◌+◌, ◌-◌, nat_lt, if◌then◌else◌, List, length, map, Option, slice_get, unwrap_or}
use Rattle.wit_model.specs.Text.{Text}
use Rattle.plan_meaning.specs.{NumberedRules.IsKnown, NumberedRules.IsSeenFrom, Shapes.Shape, Shapes.shape_trees, Shapes.IsTable}
use Rattle.read_rules.specs.declared.tables.Fact.{Fact}
use Rattle.read_rules.specs.Tables.{numbered_fact, primitive_fact}
use Rattle.read_follow.specs.{Facts.FactsHold, Functions.FunctionShape}
use Rattle.read_numbers.specs.{Facts.followed_fact, NumberedParts.tables_in}
use Rattle.plan_meaning.specs.NumberedRules as rules

-- what is known of a part: a primitive by its number, or 14 more than the number of a type
abbrev pub fact_of : List Fact → ℕ → Fact
fact_of facts k = if nat_lt k 14 then primitive_fact else unwrap_or (slice_get facts (k - 14)) primitive_fact

abbrev pub known_by : List Fact → ℕ → rules.Fact
known_by facts k = numbered_fact (fact_of facts k)

-- Where facts hold, what is known of a part is true as it is seen from a place, if each name in the part that is of the place has its number.
abbrev pub FactsInNumbers : Type 0
FactsInNumbers = (shapes : List Shape) (fs : List FunctionShape) (paths : List (Option Text)) → IsTable shapes → (facts : List Fact)
    → length facts ≡ length shapes
    → FactsHold (map followed_fact facts) (λ place. shape_trees place shapes) → (p k : ℕ) → k < 14 + length shapes → IsSeenFrom (tables_in shapes fs paths) p k
    → IsKnown (tables_in shapes fs paths) (known_by facts) p k
