-- Texts by number.
use Rattle.std.specs.Prelude.{◌≡◌, ℕ, ◌==◌, suc, if◌then◌else◌, List, [], ◌∷◌, map, Option, Some, None, Vec, option_map}
use Rattle.std.specs.{Borrow.Bor, List.Contains}
use Rattle.std.specs.declared.alloc.Global.{Global}
use Rattle.wit_model.specs.Text.{Text, text_eq}
use Rattle.compat_meaning.specs.declared.part.Entry.{Entry}

abbrev pub BorrowedTexts : Type 0
BorrowedTexts = List (Bor (List ℕ))

-- the number of a text: its place in a list
abbrev pub number_in : BorrowedTexts → Text → Option ℕ
number_in [] t = None
number_in (k ∷ ks) t = if text_eq t k.now then Some 0 else option_map suc (number_in ks t)

-- the numbers of texts by some list
abbrev pub AreNumbers : List Text → Vec ℕ Global → Type 0
AreNumbers ts ns = (keys : BorrowedTexts) × (map (number_in keys) ts ≡ map Some ns.items)

-- a text that has a number keeps it
abbrev pub KeepsNumbers : BorrowedTexts → BorrowedTexts → Type 0
KeepsNumbers old new = (t : Text) (n : ℕ) → number_in old t ≡ Some n → number_in new t ≡ Some n

-- each entry's key has its number
abbrev pub AreNumbered : BorrowedTexts → List Entry → Type 0
AreNumbered keys es = (e : Entry) → Contains es e → number_in keys e.key.text.now ≡ Some e.key.number

-- the keys of two entries have one number just where they are one text
abbrev pub NumbersTell : Entry → Entry → Type 0
NumbersTell d e = (d.key.number == e.key.number) ≡ text_eq d.key.text.now e.key.text.now

-- so for each of one list and each of another
abbrev pub AllNumbersTell : List Entry → List Entry → Type 0
AllNumbersTell ds es = (d e : Entry) → Contains ds d → Contains es e → NumbersTell d e
