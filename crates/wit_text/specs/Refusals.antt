-- What refusals of texts say.
use Rattle.std.specs.Prelude.{◌≡◌, true, ℕ, List, take, slice_get, Some}
use Rattle.std.specs.List.{AllZip}
use Rattle.text_names.specs.declared.error.{Fault.Fault, Why.Why, Refused.Refused}
use Rattle.text_names.specs.declared.error.Fault.TheVariants as fault
use Rattle.text_names.specs.declared.error.Why.TheVariants as why
use Rattle.text_tokens.specs.Places.{HasNoTokenAt}
use Rattle.text_trees.specs.{Levels.fits_text, Reads.IsReadAs, Reads.StopsReading, TextTreesSeen.tree_of}
use Rattle.text_trees.specs.declared.tree.TextTree.{TextTree}
use Rattle.text_trees.specs.declared.refusal.Wanted.TheVariants as wanted

-- The tree is what the text reads as, and no type has more than 100 levels.
pub record IsTreeOf (text : List ℕ) (tree : TextTree) : Type 0 where
  pub reads : IsReadAs text (tree_of text tree)
  pub fits : fits_text 100 (tree_of text tree) ≡ true

-- The trees are those of the texts.
abbrev pub AreTreesOf : List (List ℕ) → List TextTree → Type 0
AreTreesOf texts trees = AllZip IsTreeOf texts trees

-- Each of the texts has a tree.
pub record HaveTrees (texts : List (List ℕ)) : Type 0 where
  pub trees : List TextTree
  pub are : AreTreesOf texts trees

-- Why a text that has no tree is refused at this byte.
abbrev pub SaysOf : List ℕ → ℕ → Why → Type 0
SaysOf text at why.NoToken = HasNoTokenAt text at
SaysOf text at (why.Wanted w) = StopsReading text w at
SaysOf text at why.TooDeep = StopsReading text wanted.Shallower at
SaysOf text at other = ⊥

-- What the fault of one text, of this number, says of it. Want of memory says nothing, and what is too large is left open.
abbrev pub RefusesTree : ℕ → List ℕ → Fault → Type 0
RefusesTree n text fault.Memory = Unit {0}
RefusesTree n text fault.Size = Unit {0}
RefusesTree n text (fault.Refused refused) = (refused.text ≡ n) × SaysOf text refused.at.start refused.why
RefusesTree n text (fault.Broken rule list number) = ⊥

-- The first text without a tree is refused at a place, and why.
pub record RefusesFirst (texts : List (List ℕ)) (refused : Refused) : Type 0 where
  pub text : List ℕ
  pub is : slice_get texts refused.text ≡ Some text
  pub before : HaveTrees (take refused.text texts)
  pub says : SaysOf text refused.at.start refused.why

-- What a fault says of texts whose trees are read one after the other.
abbrev pub RefusesTrees : List (List ℕ) → Fault → Type 0
RefusesTrees texts fault.Memory = Unit {0}
RefusesTrees texts fault.Size = Unit {0}
RefusesTrees texts (fault.Refused refused) = RefusesFirst texts refused
RefusesTrees texts (fault.Broken rule list number) = ⊥
