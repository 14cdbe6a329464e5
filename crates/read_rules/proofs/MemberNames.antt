-- The names of functions of resources, cut at their last dot: a label has none.
use Rattle.std.proofs.Common.{rules as std_rules, ◌≡◌, refl, sym, ap, subst, ◌∙◌, Bool, true, false, not, ◌&&◌, ◌==◌, cond, [], ◌∷◌, ◌++◌, length, take, drop, Option, Some, None, option_and_then, append_assoc}
use Rattle.std.proofs.lemmas.{Slice.Eq.bytes_eq-Decides, Bool.and_from as both_true}
use Rattle.std.specs.{List.list_all, Option.option_map_or, Cmp.Lexicographic.pointwise, Prelude.nat_eq}
use Rattle.wit_model.specs.{Text.Text, Text.text_eq, Names.is_label, Rules.after_prefix}
use Rattle.wit_model.proofs.{NameLaws.label_lacks, PathParts.after-itself as prefix_on, Prefixes.after_sound as prefix_back, RulesLemmas.after_both}
use Rattle.comp_meaning.specs.Rules.{is_label_behind}
use Rattle.base_lemmas.proofs.Bools.{both_ways as either_way, left_of as first_true, right_of as second_true}

-- ---- what stands after a prefix

-- a text is a prefix and a rest where what follows the prefix is the rest

one_byte : (fits labelled : Bool) (o : Option Text) → (fits && labelled) ≡ option_map_or is_label o false → (v : Bool) → ((v && fits) && labelled) ≡ option_map_or is_label (cond v o None) false
one_byte fits labelled o again x = search std_rules

-- a label behind a front is what follows it
pub behind : (front name : Text) → is_label_behind front name ≡ option_map_or is_label (after_prefix front name) false
behind [] name = refl
behind (p ∷ ps) [] = refl
behind (p ∷ ps) (b ∷ bs) = one_byte (pointwise nat_eq ps (take (length ps) bs)) (is_label (drop (length ps) bs)) (after_prefix ps bs) (behind ps bs) (p == b)

-- ---- the last dot

abbrev Lacks : Text → Type 0
Lacks text = list_all (λ b. not (b == 46)) text ≡ true

pub label_no_dot : (f : Text) → is_label f ≡ true → Lacks f
label_no_dot f h = label_lacks 46 refl f h

has_dot : (b g : Text) → Lacks (b ++ (46 ∷ g)) → ⊥
has_dot [] g lacks = absurd (cc)
has_dot (x ∷ b) g lacks = has_dot b g (second_true (not (x == 46)) _ lacks)

pub unique_last : (a b f g : Text) → a ++ (46 ∷ f) ≡ b ++ (46 ∷ g) → Lacks f → Lacks g → (a ≡ b) × (f ≡ g)
unique_last [] [] f g e lf lg = (refl, cc)
unique_last [] (y ∷ b) f g e lf lg = search (std_rules, has_dot)
unique_last (x ∷ a) [] f g e lf lg = search (std_rules, has_dot)
unique_last (x ∷ a) (y ∷ b) f g e lf lg =
    let head : x ≡ y = cc in
    let tail : a ++ (46 ∷ f) ≡ b ++ (46 ∷ g) = cc in
    let both = unique_last a b f g tail lf lg in
    (ap (λ z. z ∷ a) head ∙ ap (λ t. y ∷ t) both.0, both.1)

-- what follows a resource and a dot is a label where the last dot stands behind the resource, with a label behind it
forward : (R rest : Text) (o : Option Text) → after_prefix (R ++ (46 ∷ [])) rest ≡ o → (s : Text × Text) → rest ≡ s.0 ++ (46 ∷ s.1) → Lacks s.1 → option_map_or is_label o false ≡ true
    → (text_eq s.0 R && is_label s.1) ≡ true
forward R rest None e s cut lacks h = absurd (cc)
forward R rest (Some f) e s cut lacks h =
    let joined : rest ≡ R ++ (46 ∷ f) = prefix_back (R ++ (46 ∷ [])) rest f e ∙ append_assoc R (46 ∷ []) f in
    let both = unique_last s.0 R s.1 f (sym cut ∙ joined) lacks (label_no_dot f h) in
    both_true _ _ ((bytes_eq-Decides s.0 R).1 both.0) (ap is_label both.1 ∙ h)

backward : (R rest : Text) (s : Text × Text) → rest ≡ s.0 ++ (46 ∷ s.1) → (text_eq s.0 R && is_label s.1) ≡ true → option_map_or is_label (after_prefix (R ++ (46 ∷ [])) rest) false ≡ true
backward R rest s cut h =
    let same : s.0 ≡ R = (bytes_eq-Decides s.0 R).0 (first_true (text_eq s.0 R) (is_label s.1) h) in
    let joined : rest ≡ (R ++ (46 ∷ [])) ++ s.1 = cut ∙ (ap (λ t. t ++ (46 ∷ s.1)) same ∙ sym (append_assoc R (46 ∷ []) s.1)) in
    ap (λ t. option_map_or is_label (after_prefix (R ++ (46 ∷ [])) t) false) joined
    ∙ (ap (λ o. option_map_or is_label o false) (prefix_on (R ++ (46 ∷ [])) s.1) ∙ second_true (text_eq s.0 R) (is_label s.1) h)

no_member : (R rest : Text) (o : Option Text) → after_prefix (R ++ (46 ∷ [])) rest ≡ o → Lacks rest → o ≡ None
no_member R rest None e lacks = refl
no_member R rest (Some f) e lacks =
    let joined : rest ≡ R ++ (46 ∷ f) = prefix_back (R ++ (46 ∷ [])) rest f e ∙ append_assoc R (46 ∷ []) f in
    absurd (has_dot R f (subst Lacks joined lacks))

module _ (mark name : Text) (r : Text) where
  -- a member's name, cut behind the mark
  at_mark : is_label_behind (mark ++ (r ++ (46 ∷ []))) name ≡ option_map_or is_label (option_and_then (after_prefix (r ++ (46 ∷ []))) (after_prefix mark name)) false
  at_mark = behind (mark ++ (r ++ (46 ∷ []))) name ∙ ap (λ o. option_map_or is_label o false) (after_both mark (r ++ (46 ∷ [])) name)

  pub no_mark : None ≡ after_prefix mark name → is_label_behind (mark ++ (r ++ (46 ∷ []))) name ≡ false
  no_mark none = at_mark ∙ ap (λ o. option_map_or is_label (option_and_then (after_prefix (r ++ (46 ∷ []))) o) false) (sym none)

  module _ (rest : Text) (found : Some rest ≡ after_prefix mark name) where
    at_rest : is_label_behind (mark ++ (r ++ (46 ∷ []))) name ≡ option_map_or is_label (after_prefix (r ++ (46 ∷ [])) rest) false
    at_rest = at_mark ∙ ap (λ o. option_map_or is_label (option_and_then (after_prefix (r ++ (46 ∷ []))) o) false) (sym found)

    pub no_last_dot : Lacks rest → is_label_behind (mark ++ (r ++ (46 ∷ []))) name ≡ false
    no_last_dot lacks = at_rest ∙ ap (λ o. option_map_or is_label o false) (no_member r rest (after_prefix (r ++ (46 ∷ [])) rest) refl lacks)

    -- the name of a member says its resource up to the last dot
    pub last_dot : (s : Text × Text) → rest ≡ s.0 ++ (46 ∷ s.1) → Lacks s.1 → is_label_behind (mark ++ (r ++ (46 ∷ []))) name ≡ (text_eq s.0 r && is_label s.1)
    last_dot s cut lacks = at_rest ∙ either_way _ _ (forward r rest (after_prefix (r ++ (46 ∷ [])) rest) refl s cut lacks) (backward r rest s cut)

pub and_true : (a b : Bool) → b ≡ true → (a && b) ≡ a
and_true x b e = search std_rules
