-- Walks that put what a world imports and exports.
use Rattle.std.specs.Prelude.{◌≡◌, true, false, ℕ, List}
use Rattle.text_types.specs.declared.members.Interfaces.{Interfaces}
use Rattle.wit_text.specs.{Items.WorldEntry, Puts.PutsAll}
use Rattle.wit_text.specs.declared.{given.Given.Given, imports.Labelled.Labelled, shown.Walk.Walk}

-- A walk in a world, by its text, by the texts' interfaces, by what they need, and by their numbers.
pub record IsWalkIn (given : Given) (interfaces : Interfaces) (walk : Walk) : Type 0 where
  pub sources : walk.sources.now ≡ given.around.now.sources.now
  pub text : walk.text.text.now ≡ given.text.text.now
  pub needs : walk.needs.now ≡ given.around.now.needs.now
  pub numbers : walk.numbers.now ≡ interfaces.numbers.items

-- Interfaces are put among imports: as the world states them, and but for those that stand under a label.
pub record PutsImports (given : Given) (interfaces : Interfaces) (labelled : Labelled) (firsts : Walk → List ℕ) (old new : List WorldEntry) : Type 0 where
  pub walk : Walk
  pub is : IsWalkIn given interfaces walk
  pub mine : walk.mine.now ≡ given.paths.now.imports
  pub away : walk.away.now ≡ labelled.imports
  pub alone : walk.stated_alone ≡ false
  pub puts : PutsAll walk (firsts walk) old new

-- Interfaces are put among exports: those alone that the world states.
pub record PutsExports (given : Given) (interfaces : Interfaces) (firsts : Walk → List ℕ) (old new : List WorldEntry) : Type 0 where
  pub walk : Walk
  pub is : IsWalkIn given interfaces walk
  pub mine : walk.mine.now ≡ given.paths.now.exports
  pub away : walk.away.now ≡ given.paths.now.none
  pub alone : walk.stated_alone ≡ true
  pub puts : PutsAll walk (firsts walk) old new
