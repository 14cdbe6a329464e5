-- The tables that the rules look at, as the numbers and texts that they stand for.
use Rattle.std.specs.Prelude.{ℕ, ◌-◌, Bool, true, nat_lt, if◌then◌else◌, List, map, option_map, Option, slice_get, unwrap_or}
use Rattle.std.specs.Borrow.{Bor}
use Rattle.wit_model.specs.Text.{Text}
use Rattle.plan_meaning.specs.{NumberedRules.Standing, NumberedRules.nowhere, NumberedRules.in_place, NumberedRules.in_several, NumberedViews.FunctionShape}
use Rattle.plan_meaning.specs.Shapes.{Shape}
use Rattle.read_rules.specs.declared.tables.{Fact.Fact, FunctionType.FunctionType, Names.Names, Tables.Tables, TypeShape.TypeShape}
use Rattle.plan_meaning.specs.NumberedRules as rules
use Rattle.plan_meaning.specs.NumberedViews as views
use Rattle.read_rules.specs.declared.tables.Names.TheVariants as names

-- a text, without where it lies in memory
abbrev pub now_of : Bor (List ℕ) → Text
now_of t = t.now

abbrev pub label_of : Bor (List ℕ) × Bool → Text × Bool
label_of l = (l.0.now, l.1)

abbrev pub numbered_shape : TypeShape → Shape
numbered_shape s = record { sort = s.sort; number = s.number; labels = map label_of s.labels.now; parts = s.parts.now }

abbrev pub param_of : Bor (List ℕ) × ℕ → Text × ℕ
param_of p = (p.0.now, p.1)

abbrev pub numbered_function_type : FunctionType → FunctionShape
numbered_function_type f = record { is_async = f.is_async; params = map param_of f.params.now; result = f.result }

abbrev pub given_text : Option (Bor (List ℕ)) → Option Text
given_text o = option_map now_of o

abbrev pub numbered_tables : Tables → views.Tables
numbered_tables t = record {
  shapes = map numbered_shape t.shapes.now;
  functions = map numbered_function_type t.functions.now;
  paths =
      map given_text t.paths.now;
}

-- the place and the text of a name
abbrev pub name_of : ℕ × Bor (List ℕ) → ℕ × Text
name_of x = (x.0, x.1.now)

-- ---- what is known of a part

abbrev pub standing : Names → Standing
standing names.Nowhere = nowhere
standing (names.In p) = in_place p
standing names.InSeveral = in_several

abbrev pub numbered_fact : Fact → rules.Fact
numbered_fact f =
    record { levels = f.levels; names = standing f.names; is_plain = f.is_plain; has_plain_parts = f.has_plain_parts; has_good_labels = f.has_good_labels }

abbrev pub primitive_fact : Fact
primitive_fact = record { levels = 0; names = names.Nowhere; is_plain = true; has_plain_parts = true; has_good_labels = true }

abbrev pub kept_fact : Tables → ℕ → Fact
kept_fact t k = if nat_lt k 14 then primitive_fact else unwrap_or (slice_get t.facts.now (k - 14)) primitive_fact

abbrev pub known_in : Tables → ℕ → rules.Fact
known_in t k = numbered_fact (kept_fact t k)
