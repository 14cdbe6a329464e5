-- What a text of WIT says: its tokens, and the tree that they are (WIT.md, "Lexical structure" and "Top-level items").
use Rattle.std.specs.Prelude.{◌≡◌, List, ℕ}
use Rattle.print_grammar.specs.{Token.Token, Token.Tokens, Tree.FileTree, Grammar.ReadsFile}

-- the text is read as this tree
pub record IsReading (text : List ℕ) (tree : FileTree) : Type 0 where
  pub tokens : List Token
  pub spelled : Tokens text tokens
  pub parsed : ReadsFile tokens tree

-- the text is read as this tree, and as no other
pub record IsOnlyReading (text : List ℕ) (tree : FileTree) : Type 0 where
  pub reading : IsReading text tree
  pub only : (other : FileTree) → IsReading text other → other ≡ tree

-- A text has at most one list of tokens, and a list of tokens at most one tree.
abbrev pub OneReading : Type 0
OneReading =
    ((text : List ℕ) (xs ys : List Token) → Tokens text xs → Tokens text ys → xs ≡ ys)
    × ((tokens : List Token) (a b : FileTree) → ReadsFile tokens a → ReadsFile tokens b → a ≡ b)
