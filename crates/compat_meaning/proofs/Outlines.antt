-- The four parts of a form tell which form it is.
use Rattle.std.proofs.Common.{rules as std_rules, ◌≡◌, refl, sym, ap, ◌∙◌, ℕ, ◌+◌, ◌<◌, Bool, true, false, ◌&&◌, List, [], ◌∷◌, map, Option, Some, None, String, zero, suc, get_or, length, arith}
use Rattle.std.proofs.Math.ListN.{get_or-map, length-map}
use Rattle.std.specs.Cmp.Lexicographic.{pointwise}
use Rattle.std.specs.declared.alloc.Global.{Global}
use Rattle.wit_model.specs.declared.model.{Variant.Variant, Resolve.Resolve, Interface.Interface}
use Rattle.wit_model.specs.Text.{Text, text_of}
use Rattle.wit_model.specs.Tree.{Form, record_of, variant_of, list_of, fixed_list_of, option_of, own_of, borrow_of, map_of, tuple_of, flags_of, enum_of, result_of, future_of, stream_of}
use Rattle.compat_meaning.specs.{Opened.form_of, Opened.interface_name, Opened.is_there, Numbered.BorrowedTexts, Numbered.number_in}
use Rattle.compat_meaning.specs.Outline.{sort_of, labels_of, given_of, count_of, names_from, interface_names}
use Rattle.compat_meaning.specs.declared.kinds.Sort.{Sort}
use Rattle.base_lemmas.proofs.{Bools.left_of as first_true, Bools.right_of as second_true, Lists.map_of_map as map_twice}
use Rattle.wit_model.specs.declared.model.TypeDefKind.TheVariants as kind
use Rattle.compat_meaning.specs.declared.kinds.Sort.TheVariants as sort

pub variant_given : (v : Variant) → given_of (form_of (kind.Variant v)) ≡ map (λ c. is_there c.ty) v.cases.items
variant_given v = let snd : Text × Bool → Bool = λ p. p.1 in map_twice snd (λ c. (text_of c.name, is_there c.ty)) v.cases.items

pub variant_labels : (v : Variant) → labels_of (form_of (kind.Variant v)) ≡ map (λ c. text_of c.name) v.cases.items
variant_labels v = let fst : Text × Bool → Text = λ p. p.0 in map_twice fst (λ c. (text_of c.name, is_there c.ty)) v.cases.items

abbrev zipped : List Text → List Bool → List (Text × Bool)
zipped [] bs = []
zipped (t ∷ ts) [] = []
zipped (t ∷ ts) (b ∷ bs) = (t, b) ∷ zipped ts bs

abbrev first_given : List Bool → Bool
first_given [] = false
first_given (b ∷ bs) = b

abbrev second_given : List Bool → Bool
second_given [] = false
second_given (b ∷ bs) = first_given bs

-- the form that four parts are of
abbrev form_from : Sort → List Text → List Bool → ℕ → Option Form
form_from sort.Record ls bs n = Some (record_of ls)
form_from sort.Variant ls bs n = Some (variant_of (zipped ls bs))
form_from sort.Flags ls bs n = Some (flags_of ls)
form_from sort.Enum ls bs n = Some (enum_of ls)
form_from sort.Tuple ls bs n = Some tuple_of
form_from sort.Option ls bs n = Some option_of
form_from sort.Result ls bs n = Some (result_of (first_given bs) (second_given bs))
form_from sort.List ls bs n = Some list_of
form_from sort.Map ls bs n = Some map_of
form_from sort.FixedLengthList ls bs n = Some (fixed_list_of n)
form_from sort.Future ls bs n = Some (future_of (first_given bs))
form_from sort.Stream ls bs n = Some (stream_of (first_given bs))
form_from sort.Own ls bs n = Some own_of
form_from sort.Borrow ls bs n = Some borrow_of
form_from sort.Named ls bs n = None

zipped_back : (cs : List (Text × Bool)) → zipped (map (λ c. c.0) cs) (map (λ c. c.1) cs) ≡ cs
zipped_back [] = refl
zipped_back (c ∷ cs) = λ i. (c.0, c.1) ∷ zipped_back cs i

form_back : (f : Option Form) → form_from (sort_of f) (labels_of f) (given_of f) (count_of f) ≡ f
form_back x = search (std_rules, zipped_back)

-- Forms of the same parts are the same.
pub same_forms : (f g : Option Form) → sort_of f ≡ sort_of g → labels_of f ≡ labels_of g → given_of f ≡ given_of g → count_of f ≡ count_of g → f ≡ g
same_forms f g s l b n = sym (form_back f) ∙ (λ i. form_from (s i) (l i) (b i) (n i)) ∙ form_back g

-- two lists by a test of their items, one by one
module _ {A : Type 0} (eq : A → A → Bool) where
  pub items_same : ((x y : A) → eq x y ≡ true → x ≡ y) → (xs ys : List A) → pointwise eq xs ys ≡ true → xs ≡ ys
  items_same one [] [] e = refl
  items_same one (x ∷ xs) (y ∷ ys) e = λ i. one x y (first_true (eq x y) (pointwise eq xs ys) e) i ∷ (items_same one xs ys (second_true (eq x y) (pointwise eq xs ys) e)) i
  items_same one _ _ e = absurd (let z : ⊥ = cc in z)

  items_alike : ((x : A) → eq x x ≡ true) → (xs : List A) → pointwise eq xs xs ≡ true
  items_alike one [] = refl
  items_alike one (x ∷ xs) = ap (λ b. b && pointwise eq xs xs) (one x) ∙ items_alike one xs

  pub items_differ : ((x : A) → eq x x ≡ true) → (xs ys : List A) → pointwise eq xs ys ≡ false → xs ≡ ys → ⊥
  items_differ one xs ys e q = let s : true ≡ false = sym (items_alike one xs) ∙ ap (pointwise eq xs) q ∙ e in let z : ⊥ = cc in z

-- ---- the names of interfaces

names_at : (r : Resolve) (k : ℕ) (is : List Interface) (n : ℕ) (d : Text) → n < length is → get_or (names_from r k is) n d ≡ interface_name r (k + n)
names_at r k [] n d h = absurd (omega (arith, h))
names_at r k (i ∷ is) zero d h = ap (interface_name r) (omega arith)
names_at r k (i ∷ is) (suc n) d h = names_at r (k + 1) is n d (omega (arith, h)) ∙ ap (interface_name r) (omega arith)

length-names : (r : Resolve) (k : ℕ) (is : List Interface) → length (names_from r k is) ≡ length is
length-names r k [] = refl
length-names r k (i ∷ is) = ap suc (length-names r (k + 1) is)

pub names_length : (r : Resolve) (names : List (String Global)) → map text_of names ≡ interface_names r → length names ≡ length r.interfaces.items
names_length r names e = sym (length-map names text_of) ∙ ap length e ∙ length-names r 0 r.interfaces.items

pub name_at : (r : Resolve) (names : List (String Global)) (n : ℕ) (d : String Global) → map text_of names ≡ interface_names r → n < length r.interfaces.items
    → text_of (get_or names n d) ≡ interface_name r n
name_at r names n d e h = search (std_rules, get_or-map text_of names n d, names_at r 0 r.interfaces.items n (text_of d) h)

-- ---- and their numbers

mapped_at : (f : Text → Option ℕ) (r : Resolve) (k : ℕ) (is : List Interface) (n : ℕ) (d : Option ℕ) → n < length is → get_or (map f (names_from r k is)) n d ≡ f (interface_name r (k + n))
mapped_at f r k [] n d h = absurd (omega (arith, h))
mapped_at f r k (i ∷ is) zero d h = ap (λ m. f (interface_name r m)) (omega arith)
mapped_at f r k (i ∷ is) (suc n) d h = mapped_at f r (k + 1) is n d (omega (arith, h)) ∙ ap (λ m. f (interface_name r m)) (omega arith)

module _ (r : Resolve) (keys : BorrowedTexts) (numbers : List ℕ) (e : map (number_in keys) (interface_names r) ≡ map Some numbers) where
  pub numbers_length : length numbers ≡ length r.interfaces.items
  numbers_length = search (std_rules, length-map, length-names)

  pub number_at : (n d : ℕ) → n < length r.interfaces.items → number_in keys (interface_name r n) ≡ Some (get_or numbers n d)
  number_at n d h = search (std_rules, mapped_at (number_in keys) r 0 r.interfaces.items n (Some d) h, get_or-map Some numbers n d)
