-- Texts without a byte, and the names of functions, which lack those that paths and keys are cut by.
use Rattle.std.proofs.Common.{rules as std_rules, ◌≡◌, refl, sym, ap, subst, ◌∙◌, ℕ, ◌+◌, Bool, true, false, ◌&&◌, ◌||◌, ◌==◌, not, cond, [], ◌∷◌, ◌++◌, codes, drop, Option, Some, None, String, eq-eqb}
use Rattle.std.proofs.lemmas.{Bool.and_from, Bool.not-true, List.Folds.list_all-append, Option.some_pair_parts}
use Rattle.std.specs.{List.list_all, List.Contains, Option.option_map_or}
use Rattle.std.specs.declared.alloc.Global.{Global}
use Rattle.wit_model.specs.declared.model.{Resolve.Resolve, TypeDef.TypeDef, World.World, Interface.Interface, Function.Function, FunctionKind.FunctionKind, «TypeOwner».TypeOwner, WorldItem.WorldItem}
use Rattle.wit_model.specs.{Text.Text, Text.optional_text, Text.text_eq, Text.text_of, Lookup.interface_at, Lookup.resource_of, Lookup.type_at, Lookup.world_at, Names.constructor_name, Names.cut, Names.is_label, Parts.same_owner}
use Rattle.wit_model.specs.Rules.{after_prefix, function_labels, is_freestanding, is_member, is_member_name, is_member_of, is_name_key, is_resource_itself, is_stability, item_labels, key_label, passes, resource_name}
use Rattle.wit_model.specs.Valid.{IsValid, as_interface, as_world, function_names, functions_of_interface, item_function, labels}
use Rattle.wit_model.proofs.{Entries.each_from_at, Entries.lists_pass, Prefixes.after_sound as after-front, ValidLemmas.world_passes as world-passes, NameLaws.label_lacks, OnePath.interface-passes, TextLemmas.text_same as text-same}
use Rattle.bind_meaning.proofs.Listed.{by_option, given, tested}
use Rattle.base_lemmas.proofs.{Bools.left_of as first_true, Bools.right_of as second_true, Elements.all-contained, Elements.contains-map}
use Rattle.wit_model.specs.declared.model.WorldKey.TheVariants as key

-- ---- texts

abbrev pub is_other : ℕ → ℕ → Bool
is_other c b = not (b == c)

-- a text without this byte
abbrev pub Lacks : ℕ → Text → Type 0
Lacks c text = list_all (is_other c) text ≡ true

pub lacks-both : (c : ℕ) (a b : Text) → Lacks c a → Lacks c b → Lacks c (a ++ b)
lacks-both c a b h k = list_all-append (is_other c) a b ∙ and_from _ _ h k

itself-not : (c : ℕ) → is_other c c ≡ true → ⊥
itself-not c h = let same = eq-eqb c c refl in cc

-- a text that goes on with the byte doesn't lack it
pub goes-on : (c : ℕ) (a b : Text) → Lacks c (a ++ (c ∷ b)) → ⊥
goes-on c [] b h = itself-not c (first_true (is_other c c) _ h)
goes-on c (x ∷ a) b h = goes-on c a b (second_true (is_other c x) _ h)

cut_first : (c : ℕ) (a b : Text) → Lacks c a → cut c (a ++ (c ∷ b)) ≡ Some (a, b)
unfolding cut
cut_first c [] b h = rw (eq-eqb c c refl)
cut_first c (x ∷ a) b h = rw (not-true (x == c) (first_true (is_other c x) _ h), cut_first c a b (second_true (is_other c x) _ h)) refl

-- what stands in front of the first such byte, and what behind it
pub same_cut : (c : ℕ) (a b x y : Text) → Lacks c a → Lacks c x → a ++ (c ∷ b) ≡ x ++ (c ∷ y) → (a ≡ x) × (b ≡ y)
same_cut c a b x y h k same = some_pair_parts a x b y (sym (cut_first c a b h) ∙ ap (cut c) same ∙ cut_first c x y k)

-- what stands behind the last such byte
pub last_cut : (c : ℕ) (a b x y : Text) → Lacks c b → Lacks c y → a ++ (c ∷ b) ≡ x ++ (c ∷ y) → b ≡ y
last_cut c [] b [] y h k same = ap (drop 1) same
last_cut c [] b (z ∷ x) y h k same = absurd (goes-on c x y (subst (Lacks c) (ap (drop 1) same) h))
last_cut c (z ∷ a) b [] y h k same = absurd (goes-on c a b (subst (Lacks c) (sym (ap (drop 1) same)) k))
last_cut c (z ∷ a) b (w ∷ x) y h k same = last_cut c a b x y h k (ap (drop 1) same)

-- ---- names of functions

-- a function of an interface stands under its name
pub own_name : (r : Resolve) → IsValid r → (n : ℕ) (owner : Interface) → interface_at r n ≡ Some owner → (name : String Global) (f : Function) → Contains owner.functions.entries (name, f)
    → text_of name ≡ text_of f.name
unfolding function_names
own_name r v n owner at name f c =
    let passed = all-contained (λ e. text_eq (text_of e.0) (text_of e.1.name) && is_member r (as_interface n) e.1) owner.functions.entries (name, f)
    (interface-passes function_names r v.rules.function_names n owner at) c in
    text-same (text_of name) (text_of f.name) (first_true (text_eq (text_of name) (text_of f.name)) _ passed)

-- a byte that no label has, and that stands in no mark of functions
pub record IsApart (c : ℕ) : Type 0 where
  pub of_labels : (text : Text) → is_label text ≡ true → Lacks c text
  pub of_methods : Lacks c (codes "[method]")
  pub of_statics : Lacks c (codes "[static]")
  pub of_constructors : Lacks c (codes "[constructor]")
  pub of_dots : Lacks c (46 ∷ [])

pub slash : IsApart 47
slash = record { of_labels = label_lacks 47 refl; of_methods = refl; of_statics = refl; of_constructors = refl; of_dots = refl }

pub colon : IsApart 58
colon = record { of_labels = label_lacks 58 refl; of_methods = refl; of_statics = refl; of_constructors = refl; of_dots = refl }

module _ (c : ℕ) (apart : IsApart c) where
  -- what follows a mark, a label and a dot
  marked_lacks : (mark name : Text) (f : Function) → Lacks c mark → is_label name ≡ true → is_member_name (mark ++ (name ++ (46 ∷ []))) f ≡ true → Lacks c (text_of f.name)
  marked_lacks mark name f plain label h =
      let front = mark ++ (name ++ (46 ∷ [])) in
      let rest = tested is_label (after_prefix front (text_of f.name)) h in
      subst (Lacks c) (sym (after-front front (text_of f.name) rest.0 rest.1))
      (lacks-both c front rest.0 (lacks-both c mark (name ++ (46 ∷ [])) plain (lacks-both c name (46 ∷ []) (apart.of_labels name label) apart.of_dots)) (apart.of_labels rest.0 rest.2))

  constructor_lacks : (name : Text) (f : Function) → is_label name ≡ true → text_eq (text_of f.name) (constructor_name name) ≡ true → Lacks c (text_of f.name)
  constructor_lacks name f label h = subst (Lacks c) (sym (text-same (text_of f.name) (constructor_name name) h))
      (lacks-both c (codes "[constructor]") name apart.of_constructors (apart.of_labels name label))

  member_lacks : (r : Resolve) (n : ℕ) (name : Text) (f : Function) (k : FunctionKind) → is_label name ≡ true → (not (is_freestanding k) || is_label (text_of f.name)) ≡ true
      → is_member_of r n name f k ≡ true → Lacks c (text_of f.name)
  member_lacks r n name f x label own h =
      search (std_rules, apart.of_labels, marked_lacks (codes "[method]") name f apart.of_methods, marked_lacks (codes "[static]") name f apart.of_statics, constructor_lacks, first_true)

  module _ (r : Resolve) (v : IsValid r) where
    type-label : (n : ℕ) (def : TypeDef) → type_at r n ≡ Some def → passes (λ name. is_label (text_of name)) def.name ≡ true
    unfolding labels
    type-label n def at = search (std_rules, first_true, each_from_at, lists_pass)

    resource-label : (o : TypeOwner) (n : ℕ) (name : Text) → resource_name r o n ≡ Some name → is_label name ≡ true
    resource-label o n name h =
        let d = given (λ (def : TypeDef). cond (is_resource_itself def.kind && same_owner def.owner o) (optional_text def.name) None) (type_at r n) name h in
        named (is_resource_itself d.0.kind && same_owner d.0.owner o) d.0.name (type-label n d.0 d.1) d.2
      where
        named : (b : Bool) (t : Option (String Global)) → passes (λ s. is_label (text_of s)) t ≡ true → cond b (optional_text t) None ≡ Some name → is_label name ≡ true
        named x y w e = search std_rules

    -- the name of a function lacks the byte
    function_lacks : (o : TypeOwner) (f : Function) → (not (is_freestanding f.kind) || is_label (text_of f.name)) ≡ true → is_member r o f ≡ true → Lacks c (text_of f.name)
    function_lacks o f own belongs = by_option (resource_of f.kind) (λ none. apart.of_labels (text_of f.name) (unowned f.kind none own)) (λ n is.
        let tests = λ (name : Text). is_member_of r n name f f.kind in
        let name = tested tests (resource_name r o n) (sym (ap (passes (λ m. option_map_or (λ name. is_member_of r m name f f.kind) (resource_name r o m) false)) is) ∙ belongs) in
        member_lacks r n name.0 f f.kind (resource-label o n name.0 name.1) own name.2)
      where
        unowned : (k : FunctionKind) → resource_of k ≡ None → (not (is_freestanding k) || is_label (text_of f.name)) ≡ true → is_label (text_of f.name) ≡ true
        unowned x none h = search std_rules

    -- the name under which a function of an interface stands lacks the byte
    pub listed_lacks : (n : ℕ) (owner : Interface) → interface_at r n ≡ Some owner → (name : String Global) (f : Function) → Contains owner.functions.entries (name, f) → Lacks c (text_of name)
    unfolding labels function_names
    listed_lacks n owner at name f stands =
        let passed = interface-passes labels r v.rules.labels n owner at in
        let all : list_all function_labels (functions_of_interface owner) ≡ true = search (std_rules, first_true, second_true, passed) in
        let labelled = all-contained function_labels (functions_of_interface owner) f all (contains-map (λ (e : String Global × Function). e.1) owner.functions.entries (name, f) stands) in
        let own = first_true (not (is_freestanding f.kind) || is_label (text_of f.name)) _ labelled in
        let tested = all-contained (λ e. text_eq (text_of e.0) (text_of e.1.name) && is_member r (as_interface n) e.1) owner.functions.entries (name, f)
        (interface-passes function_names r v.rules.function_names n owner at) stands in
        subst (Lacks c) (sym (own_name r v n owner at name f stands)) (function_lacks (as_interface n) f own (second_true (text_eq (text_of name) (text_of f.name)) _ tested))

    -- and so does the label under which an item stands
    pub key_lacks : (n : ℕ) (w : World) → world_at r n ≡ Some w → (name : String Global) (shown : WorldItem) → Contains (w.imports.entries ++ w.exports.entries) (key.Name name, shown)
        → Lacks c (text_of name)
    unfolding labels function_names
    key_lacks n w at name shown stands =
        let passed = world-passes labels r v.rules.labels n w at in
        let both = second_true (is_stability w.stability) _ (second_true (is_label (text_of w.name)) _ passed) in
        let all = list_all-append (λ e. key_label e.0 e.1 && item_labels e.1) w.imports.entries w.exports.entries ∙ both in
        let here = all-contained (λ e. key_label e.0 e.1 && item_labels e.1) (w.imports.entries ++ w.exports.entries) (key.Name name, shown) all stands in
        let tested = all-contained (λ e. passes (λ f. is_name_key (text_of f.name) e.0 && is_member r (as_world n) f) (item_function e.1)) (w.imports.entries ++ w.exports.entries)
        (key.Name name, shown) (world-passes function_names r v.rules.function_names n w at) stands in
        go shown (first_true (key_label (key.Name name) shown) _ here) tested
      where
        go : (shown : WorldItem) → key_label (key.Name name) shown ≡ true → passes (λ f. is_name_key (text_of f.name) (key.Name name) && is_member r (as_world n) f) (item_function shown) ≡ true
            → Lacks c (text_of name)
        go x label h = search (std_rules, apart.of_labels, text-same, first_true, function_lacks, second_true)
