-- What is spelled as a path reads back, and what reads as one is spelled so.
use Rattle.std.proofs.Common.{rules as std_rules, ◌≡◌, refl, sym, ap, subst, ◌∙◌, ℕ, Bool, true, false, ◌&&◌, ◌||◌, ◌==◌, not, cond, List, [], ◌∷◌, ◌++◌, Option, Some, None, option_map, option_and_then, is_some, T, eqb→eq, eq-eqb, append_assoc, append-nil}
use Rattle.std.proofs.lemmas.{Bool.and_from, Bool.or_left, Bool.or_right, Bool.not-true, Option.some_pair_parts, List.Folds.list_all-append}
use Rattle.std.specs.{Option.option_map_or, List.list_all, List.join_with_byte}
use Rattle.wit_model.specs.Text.{Text}
use Rattle.wit_model.specs.Names.{is_lower_byte, is_upper_byte, is_fragment, is_label, IsLabel, PackageIdentity, path_in, at_version, is_identity, IsPath, cut, versioned, known_path, read_path}
use Rattle.wit_model.specs.NameLaws.{IsSpelled, SpelledPathReads, ReadPathIsSpelled, PathGrammar, OnePath, PathWithoutVersion}
use Rattle.wit_model.proofs.Labels.{label_of_test}
use Rattle.base_lemmas.proofs.Bools.{left_of as first_true, right_of as second_true}

-- ---- the bytes of a label

-- a byte other than c
abbrev is_other : ℕ → ℕ → Bool
is_other c b = not (b == c)

abbrev is_label_byte : ℕ → Bool
is_label_byte b = is_lower_byte b || (is_upper_byte b || (b == 45))

all_weaker : (p q : ℕ → Bool) → ((b : ℕ) → p b ≡ true → q b ≡ true) → (xs : Text) → list_all p xs ≡ true → list_all q xs ≡ true
all_weaker p q w [] h = refl
all_weaker p q w (x ∷ xs) h = and_from _ _ (w x (first_true _ _ h)) (all_weaker p q w xs (second_true (p x) _ h))

fragment_bytes : (text : Text) → is_fragment text ≡ true → list_all is_label_byte text ≡ true
fragment_bytes text h = search (std_rules, second_true, all_weaker, or_left, or_right)

joined_bytes : (fs : List Text) → list_all is_fragment fs ≡ true → list_all is_label_byte (join_with_byte 45 fs) ≡ true
joined_bytes [] h = refl
joined_bytes (f ∷ []) h = fragment_bytes f (first_true _ _ h)
joined_bytes (f ∷ g ∷ fs) h = search (std_rules, list_all-append, and_from, fragment_bytes, first_true, second_true, joined_bytes (g ∷ fs) (second_true (is_fragment f) _ h))

label_bytes : (text : Text) → is_label text ≡ true → list_all is_label_byte text ≡ true
label_bytes text h =
    let label : IsLabel text = label_of_test text h in
    ap (list_all is_label_byte) label.joined ∙ joined_bytes label.fragments label.each

other_byte : (c : ℕ) → is_label_byte c ≡ false → (b : ℕ) → is_label_byte b ≡ true → is_other c b ≡ true
other_byte c no_label b h = search std_rules

-- a label holds no byte that is none of its own
pub label_lacks : (c : ℕ) → is_label_byte c ≡ false → (text : Text) → is_label text ≡ true → list_all (is_other c) text ≡ true
label_lacks c no_label text h = all_weaker is_label_byte (is_other c) (other_byte c no_label) text (label_bytes text h)

-- ---- cutting at a byte

cut_at : (c : ℕ) (xs ys : Text) → list_all (is_other c) xs ≡ true → cut c (xs ++ (c ∷ ys)) ≡ Some (xs, ys)
unfolding cut
cut_at c [] ys h = rw (eq-eqb c c refl)
cut_at c (x ∷ xs) ys h = search (std_rules, not-true, first_true, second_true, cut_at c xs ys (second_true (is_other c x) _ h))

cut_none : (c : ℕ) (xs : Text) → list_all (is_other c) xs ≡ true → cut c xs ≡ None
unfolding cut
cut_none c [] h = refl
cut_none c (x ∷ xs) h = search (std_rules, not-true, first_true, second_true, cut_none c xs (second_true (is_other c x) _ h))

-- what is cut is joined again
cut_joins : (c : ℕ) (text a b : Text) → cut c text ≡ Some (a, b) → text ≡ a ++ (c ∷ b)
unfolding cut
cut_joins c [] a b h = cc
cut_joins c (x ∷ xs) a b h = go (λ p e. cut_joins c xs p.0 p.1 e) (x == c) refl h
  where
    more : ((p : Text × Text) → cut c xs ≡ Some p → xs ≡ p.0 ++ (c ∷ p.1)) → (o : Option (Text × Text)) → cut c xs ≡ o
        → option_map {T = Text × Text} {U = Text × Text} (λ p. (x ∷ p.0, p.1)) o ≡ Some (a, b) → (x ∷ xs) ≡ a ++ (c ∷ b)
    more again None is e = cc
    more again (Some p) is e =
        let joined = again p is in
        let parts = some_pair_parts (x ∷ p.0) a p.1 b e in
        ap (λ t. x ∷ t) joined ∙ (ap (λ t. t ++ (c ∷ p.1)) parts.0 ∙ ap (λ t. a ++ (c ∷ t)) parts.1)

    go : ((p : Text × Text) → cut c xs ≡ Some p → xs ≡ p.0 ++ (c ∷ p.1)) → (v : Bool) → (x == c) ≡ v
        → cond v (Some ([], xs)) (option_map {T = Text × Text} {U = Text × Text} (λ p. (x ∷ p.0, p.1)) (cut c xs)) ≡ Some (a, b) → (x ∷ xs) ≡ a ++ (c ∷ b)
    go again true is e =
        let same : x ≡ c = eqb→eq x c (subst T (sym is) tt) in
        let parts = some_pair_parts [] a xs b e in
        ap (λ y. y ∷ xs) same ∙ (ap (λ t. c ∷ t) parts.1 ∙ ap (λ t. t ++ (c ∷ b)) parts.0)
    go again false is e = more again (cut c xs) refl e

-- ---- a name and its version

versioned_at : (name : Text) (version : Option Text) → list_all (is_other 64) name ≡ true → versioned (name ++ at_version version) ≡ (name, version)
versioned_at name x h = search (std_rules, append-nil, cut_none, cut_at)

abbrev name_and_version : Text → Option (Text × Text) → Text × Option Text
name_and_version text o = option_map_or (λ p. (p.0, Some p.1)) o (text, None)

versioned_joins : (text : Text) → text ≡ (versioned text).0 ++ at_version (versioned text).1
versioned_joins text = search (std_rules, append-nil, cut_joins)

-- ---- paths

pub identity_namespace : (p : PackageIdentity) → is_identity p ≡ true → is_label p.namespace ≡ true
identity_namespace p h = first_true (is_label p.namespace) _ h

pub identity_name : (p : PackageIdentity) → is_identity p ≡ true → is_label p.name ≡ true
identity_name p h = first_true (is_label p.name) _ (second_true (is_label p.namespace) _ h)

known : (p : PackageIdentity) (name : Text) → is_identity p ≡ true → is_label name ≡ true → known_path p name ≡ Some (p, name)
known p name h k = rw (h, k) refl

pub spelled_path_reads : SpelledPathReads
spelled_path_reads p name identity label = search (std_rules, cut_at, label_lacks, identity_namespace, identity_name, versioned_at, known)

-- the package and the name that are found
abbrev found : Text → Text → Text → Option (PackageIdentity × Text)
found namespace name rest = known_path (record { namespace = namespace; name = name; version = (versioned rest).1 }) (versioned rest).0

known_spelled : (q p : PackageIdentity) (m name : Text) → known_path q m ≡ Some (p, name) → (q ≡ p) × (m ≡ name) × (is_identity q ≡ true) × (is_label m ≡ true)
known_spelled q p m name h = go (is_identity q) refl (is_label m) refl h
  where
    go : (v : Bool) → is_identity q ≡ v → (w : Bool) → is_label m ≡ w → cond {A = Option (PackageIdentity × Text)} (v && w) (Some (q, m)) None ≡ Some (p, name) → (q ≡ p) × (m ≡ name)
        × (is_identity q ≡ true) × (is_label m ≡ true)
    go true e true f h = let parts = some_pair_parts q p m name h in (parts.0, parts.1, e, f)
    go true e false f h = let wrong : ⊥ = cc in absurd wrong
    go false e w f h = let wrong : ⊥ = cc in absurd wrong

found_spelled : (text a b namespace name rest label : Text) (p : PackageIdentity) → text ≡ namespace ++ (58 ∷ a) → a ≡ name ++ (47 ∷ rest) → found namespace name rest ≡ Some (p, label)
    → IsSpelled text p label
found_spelled text a b namespace name rest label p first second h =
    let parts = known_spelled (record { namespace = namespace; name = name; version = (versioned rest).1 }) p (versioned rest).0 label h in
    let whole : text ≡ path_in (record { namespace = namespace; name = name; version = (versioned rest).1 }) (versioned rest).0 =
    first ∙ ap (λ t. namespace ++ (58 ∷ t)) (second ∙ ap (λ t. name ++ (47 ∷ t)) (versioned_joins rest)) in
    record {
      spelled = whole ∙ (ap (λ q. path_in q (versioned rest).0) parts.0 ∙ ap (path_in p) parts.1);
      identity = ap is_identity (sym parts.0) ∙ parts.2;
      label = ap is_label (sym parts.1) ∙ parts.3;
    }

pub read_path_is_spelled : ReadPathIsSpelled
read_path_is_spelled text p label h = colon (cut 58 text) refl h
  where
    slash : (namespace a : Text) → text ≡ namespace ++ (58 ∷ a) → (o : Option (Text × Text)) → cut 47 a ≡ o → option_and_then (λ b. found namespace b.0 b.1) o ≡ Some (p, label)
        → IsSpelled text p label
    slash namespace a first None is e = let wrong : ⊥ = cc in absurd wrong
    slash namespace a first (Some b) is e = found_spelled text a b.1 namespace b.0 b.1 label p first (cut_joins 47 a b.0 b.1 is) e

    colon : (o : Option (Text × Text)) → cut 58 text ≡ o → option_and_then (λ a. option_and_then (λ b. found a.0 b.0 b.1) (cut 47 a.1)) o ≡ Some (p, label) → IsSpelled text p label
    colon None is e = let wrong : ⊥ = cc in absurd wrong
    colon (Some a) is e = slash a.0 a.1 (cut_joins 58 text a.0 a.1 is) (cut 47 a.1) refl e

pub path_grammar : PathGrammar
path_grammar text = (reads, spelled (read_path text) refl)
  where
    reads : IsPath text → is_some (read_path text) ≡ true
    reads path = ap is_some (ap read_path path.spelled ∙ spelled_path_reads path.package_ path.name path.identity path.label)

    spelled : (o : Option (PackageIdentity × Text)) → read_path text ≡ o → is_some o ≡ true → IsPath text
    spelled None is h = let wrong : ⊥ = cc in absurd wrong
    spelled (Some p) is h =
        let path = read_path_is_spelled text p.0 p.1 is in
        record { package_ = p.0; name = p.1; spelled = path.spelled; identity = path.identity; label = path.label }

pub one_path : OnePath
one_path p q a b p_known a_label q_known b_label same = some_pair_parts p q a b (sym (spelled_path_reads p a p_known a_label) ∙ (ap read_path same ∙ spelled_path_reads q b q_known b_label))

-- the text before the version holds no `@`
plain_path_lacks : (p : PackageIdentity) (name : Text) → is_identity p ≡ true → is_label name ≡ true → list_all (is_other 64) (p.namespace ++ (58 ∷ (p.name ++ (47 ∷ name)))) ≡ true
plain_path_lacks p name identity label = search (std_rules, list_all-append, and_from, label_lacks, identity_name, identity_namespace)

path_parts : (p : PackageIdentity) (name version : Text) → p.namespace ++ (58 ∷ (p.name ++ (47 ∷ (name ++ version)))) ≡ (p.namespace ++ (58 ∷ (p.name ++ (47 ∷ name)))) ++ version
path_parts p name version = search (std_rules, append_assoc)

pub path_without_version : PathWithoutVersion
path_without_version p name identity label = search (std_rules, versioned_at, plain_path_lacks, path_parts, append-nil)
