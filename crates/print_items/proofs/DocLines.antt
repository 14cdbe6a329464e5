-- The lines of a text have no line end in them.
use Rattle.std.proofs.Common.{rules as std_rules, ◌≡◌, refl, sym, ◌<◌, ◌-◌, ℕ, zero, suc, Bool, true, IsTrue, ◌==◌, cond, List, [], ◌∷◌, length, take, get_or, if◌then◌else◌, slice_index, map, ap, ◌∙◌, Bor}
use Rattle.std.proofs.lemmas.{List.Sums.AllPass-from_list_all, Simd.map-map, Bool.and_from as both_true}
use Rattle.std.specs.{List.list_all, List.slice_split, List.onto_first, Str.Lines.lines, Str.Lines.lines_of_parts}
use Rattle.wit_model.specs.Text.{Text}
use Rattle.print_output.specs.OutputCall.{OutputCall, OutputView, is_one_line}
use Rattle.print_items.specs.declared.driver.Driver.{Driver}
use Rattle.print_items.specs.Drives.{Drives}
use Rattle.print_items.proofs.Driven.{driven_as}
use Rattle.base_lemmas.proofs.Bools.{left_of as first_true, right_of as second_true}

cut_one_line : (v : Bool) (b : ℕ) (parts : List Text) → (b == 10) ≡ v → list_all is_one_line parts ≡ true → list_all is_one_line (cond v ([] ∷ parts) (onto_first b parts)) ≡ true
cut_one_line x b parts e h = search std_rules

parts_one_line : (text : Text) → list_all is_one_line (slice_split (λ b. b == 10) text) ≡ true
parts_one_line [] = refl
parts_one_line (b ∷ bs) = cut_one_line (b == 10) b (slice_split (λ c. c == 10) bs) refl (parts_one_line bs)

take_one_line : (n : ℕ) (text : Text) → is_one_line text ≡ true → is_one_line (take n text) ≡ true
take_one_line zero text h = refl
take_one_line (suc n) [] h = refl
take_one_line (suc n) (b ∷ bs) h = both_true _ _ (first_true _ _ h) (take_one_line n bs (second_true _ _ h))

stripped_by : (v : Bool) (n : ℕ) (text : Text) → is_one_line text ≡ true → is_one_line (if v then take n text else text) ≡ true
stripped_by x n text h = search (std_rules, take_one_line)

last_part : (v : Bool) (part : Text) → is_one_line part ≡ true → list_all is_one_line (if v then [] else part ∷ []) ≡ true
last_part x part h = search std_rules

lines_one_line : (parts : List Text) → list_all is_one_line parts ≡ true → list_all is_one_line (lines_of_parts parts) ≡ true
lines_one_line [] h = refl
lines_one_line (part ∷ []) h = last_part (length part == 0) part (first_true _ _ h)
lines_one_line (part ∷ next ∷ more) h =
    both_true _ _ (stripped_by (slice_index part (length part - 1) == 13) (length part - 1) part (first_true _ _ h)) (lines_one_line (next ∷ more) (second_true _ _ h))

-- a line of a text
pub line_one_line : (text : Text) (i : ℕ) (line : Text) → i < length (lines text) → line ≡ get_or (lines text) i line → IsTrue (is_one_line line)
line_one_line text i line within e = search (std_rules, AllPass-from_list_all, lines_one_line, parts_one_line)

-- the lines that were printed are all
pub lines_driven : {O Kept : Type 0} {view : O → OutputView Kept} {keeps : OutputView Kept → OutputCall → Kept} {a b : Driver O} (printed : List (Bor Text)) (all : List Text)
    → Drives view keeps a (map (λ line. OutputCall.Doc line.now) printed) b → map (λ line. line.now) printed ≡ all → Drives view keeps a (map OutputCall.Doc all) b
lines_driven printed all d e = driven_as d (sym (map-map OutputCall.Doc (λ line. line.now) printed) ∙ ap (map OutputCall.Doc) e)
