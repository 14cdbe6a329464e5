-- A list of tokens begins with at most one prefix, path, use or declared type.
use Rattle.std.proofs.Common.{rules as std_rules, ◌≡◌, List, ◌∷◌, ℕ, refl, ap, sym, ◌∙◌, Bool, true, false, Option, Some, codes}
use Rattle.std.proofs.lemmas.{Bool.Decides.Decides-eqb, Slice.Eq.slice_eq-Decides}
use Rattle.wit_model.specs.Text.{text_eq}
use Rattle.print_grammar.specs.{Token.Token, Token.Mark, Tree.Gates, Tree.Prefix, Tree.PathTree, Tree.UsedName, Tree.Declared}
use Rattle.print_grammar.specs.{Token.Token.Punctuation, Token.Token.Word, Token.Mark.At, Token.Mark.Colon, Token.Mark.Semi, Token.Mark.Dot, Token.Mark.CloseBrace}
use Rattle.print_grammar.specs.Grammar.{IsId, ReadsVersion, ReadsVersionArgument, ReadsDeprecated, ReadsGates, ReadsExternalId, ReadsPrefix, ReadsPath, ReadsUsedName, ReadsUse, ReadsField, ReadsCase, ReadsLabel, ReadsResourceMember, ReadsDeclared}
use Rattle.print_grammar.specs.{Grammar.ReadsVersion.no_version, Grammar.ReadsVersion.with_version, Grammar.ReadsDeprecated.not_deprecated, Grammar.ReadsDeprecated.deprecated}
use Rattle.print_grammar.specs.{Grammar.ReadsVersionArgument.version_argument, Grammar.ReadsPath.local, Grammar.ReadsPath.full, Grammar.ReadsField.field, Grammar.ReadsLabel.label}
use Rattle.print_grammar.specs.{Grammar.ReadsGates.no_gates, Grammar.ReadsGates.since, Grammar.ReadsGates.unstable, Grammar.ReadsExternalId.no_external_id, Grammar.ReadsExternalId.external_id}
use Rattle.print_grammar.specs.{Grammar.ReadsPrefix.prefix, Grammar.ReadsResourceMember.constructor_, Grammar.ReadsResourceMember.method, Grammar.ReadsResourceMember.static}
use Rattle.print_grammar.specs.{Grammar.ReadsUsedName.same_name, Grammar.ReadsUsedName.other_name, Grammar.ReadsUse.use_names, Grammar.ReadsCase.case_alone, Grammar.ReadsCase.case_of}
use Rattle.print_grammar.specs.Grammar.ReadsDeclared.{record_, variant, flags, enum, alias, resource, resource_with}
use Rattle.print_grammar.proofs.TypeTokens.{id-unique, tail_same, type-unique, begins_with_at, no_less}
use Rattle.print_grammar.proofs.ListsUnique.{Same, Unique, UniqueBefore, Never, head_same, listed-unique, repeated-same, no_id_mark, arguments-unique, signature-unique}

-- ---- gates and external ids

pub version-unique : {before after rest : List Token} {a b : Option (List ℕ)} → begins_with_at after ≡ false → begins_with_at rest ≡ false → ReadsVersion before a after → ReadsVersion before b rest
    → Same a b after rest
version-unique e f no_version no_version = (refl, refl)
version-unique e f no_version with_version = absurd (cc e)
version-unique e f with_version no_version = absurd (cc f)
version-unique e f with_version with_version = (refl, refl)

argument-unique : {before after rest : List Token} {a b : List ℕ} → ReadsVersionArgument before a after → ReadsVersionArgument before b rest → Same a b after rest
argument-unique (version_argument e) (version_argument f) = (refl, refl)

same_text : (a b : List ℕ) → a ≡ b → text_eq a b ≡ false → ⊥
same_text a b e f = let g : text_eq a b ≡ true = (slice_eq-Decides Decides-eqb a b _ refl).1 e in cc

-- whether tokens begin with an attribute of this word
abbrev begins_with_attribute : List ℕ → List Token → Bool
begins_with_attribute text (Punctuation At ∷ Word word ∷ tokens) = text_eq word text
begins_with_attribute text tokens = false

-- no gate goes on
abbrev NoGates : List Token → Type 0
NoGates ts = (begins_with_attribute (codes "deprecated") ts ≡ false) × (begins_with_attribute (codes "since") ts ≡ false) × (begins_with_attribute (codes "unstable") ts ≡ false)

no_attribute : (text : List ℕ) (ts : List Token) → begins_with_at ts ≡ false → begins_with_attribute text ts ≡ false
no_attribute text x h = search std_rules

no_gates_on : (ts : List Token) → begins_with_at ts ≡ false → NoGates ts
no_gates_on ts h = (no_attribute (codes "deprecated") ts h, no_attribute (codes "since") ts h, no_attribute (codes "unstable") ts h)

deprecated-unique : {before after rest : List Token} {a b : Option (List ℕ)} → NoGates after → NoGates rest → ReadsDeprecated before a after → ReadsDeprecated before b rest → Same a b after rest
deprecated-unique e f not_deprecated not_deprecated = (refl, refl)
deprecated-unique e f not_deprecated (deprecated {label = word} l b) = absurd (same_text word (codes "deprecated") l e.0)
deprecated-unique e f (deprecated {label = word} l a) not_deprecated = absurd (same_text word (codes "deprecated") l f.0)
deprecated-unique e f (deprecated l a) (deprecated m b) = let h = argument-unique a b in (ap (λ v. Some v) h.0, h.1)

since_or_unstable : codes "since" ≡ codes "unstable" → ⊥
since_or_unstable e = cc e

gates_before : {before after rest : List Token} {a b : Gates} → NoGates after → NoGates rest → ReadsGates before a after → ReadsGates before b rest → Same a b after rest
gates_before n o no_gates no_gates = (refl, refl)
gates_before n o no_gates (since {label = word} l b d) = absurd (same_text word (codes "since") l n.1)
gates_before n o no_gates (unstable {label = word} l m i d) = absurd (same_text word (codes "unstable") l n.2)
gates_before n o (since {label = word} l a c) no_gates = absurd (same_text word (codes "since") l o.1)
gates_before n o (since l a c) (since m b d) =
    let h = argument-unique a b in let k = deprecated-unique n o c (rw (← h.1) at d) in (cc (h.0, k.0), k.1)
gates_before n o (since l a c) (unstable m p i d) = absurd (since_or_unstable (sym l ∙ m))
gates_before n o (unstable {label = word} l m i c) no_gates = absurd (same_text word (codes "unstable") l o.2)
gates_before n o (unstable m p i c) (since l b d) = absurd (since_or_unstable (sym l ∙ m))
gates_before n o (unstable l m i c) (unstable p q j d) = let k = deprecated-unique n o c d in (cc (id-unique i j, k.0), k.1)

-- Gates are determined where no `@` follows them.
pub gates-unique : {before after rest : List Token} {a b : Gates} → begins_with_at after ≡ false → begins_with_at rest ≡ false → ReadsGates before a after → ReadsGates before b rest
    → Same a b after rest
gates-unique {after = after} {rest = rest} e f g h = gates_before (no_gates_on after e) (no_gates_on rest f) g h

-- no gate goes on in front of an external id
no_gates_at_id : {before after : List Token} {x : Option (List ℕ)} → begins_with_at after ≡ false → ReadsExternalId before x after → NoGates before
no_gates_at_id {after = after} e no_external_id = no_gates_on after e
no_gates_at_id e (external_id {label = word} l) = search std_rules

external_id-unique : {before after rest : List Token} {a b : Option (List ℕ)} → begins_with_at after ≡ false → begins_with_at rest ≡ false → ReadsExternalId before a after
    → ReadsExternalId before b rest → Same a b after rest
external_id-unique e f no_external_id no_external_id = (refl, refl)
external_id-unique e f no_external_id (external_id l) = absurd (cc e)
external_id-unique e f (external_id l) no_external_id = absurd (cc f)
external_id-unique e f (external_id l) (external_id m) = (refl, refl)

-- What stands in front of an item is determined where no `@` follows it.
pub prefix-unique : {before after rest : List Token} {a b : Prefix} → begins_with_at after ≡ false → begins_with_at rest ≡ false → ReadsPrefix before a after → ReadsPrefix before b rest
    → Same a b after rest
prefix-unique n o (prefix g a) (prefix {after = rest} {external_id = x} h b) = search (std_rules, gates_before, no_gates_at_id, external_id-unique)

-- no id is `@`
pub id_no_at : {t : Token} {l : List ℕ} (ts : List Token) → IsId t l → begins_with_at (t ∷ ts) ≡ false
id_no_at ts x = search std_rules

-- Where another token than `@` stands, nothing stands in front: what follows is those tokens.
pub no_gates_before : {mark : Mark} {before after : List Token} {g : Gates} → (mark ≡ At → ⊥) → ReadsGates (Punctuation mark ∷ before) g after → Punctuation mark ∷ before ≡ after
no_gates_before other no_gates = refl
no_gates_before other (since l a d) = absurd (other refl)
no_gates_before other (unstable l m i d) = absurd (other refl)

pub no_id_before : {mark : Mark} {before after : List Token} {x : Option (List ℕ)} → (mark ≡ At → ⊥) → ReadsExternalId (Punctuation mark ∷ before) x after → Punctuation mark ∷ before ≡ after
no_id_before other no_external_id = refl
no_id_before other (external_id l) = absurd (other refl)

-- nothing stands in front of a closing brace
pub all_prefix : {before after : List Token} {p : Prefix} → ReadsPrefix (Punctuation CloseBrace ∷ before) p after → Punctuation CloseBrace ∷ before ≡ after
all_prefix (prefix {after = rest} {external_id = x} g a) = search (std_rules, no_gates_before, no_id_before)

pub no_prefix : {before after : List Token} {t : Token} {p : Prefix} → ReadsPrefix (Punctuation CloseBrace ∷ before) p (t ∷ after) → (Punctuation CloseBrace ≡ t → ⊥) → ⊥
no_prefix p other = other (head_same (all_prefix p))

-- ---- paths and uses

-- whether tokens begin with `;` or `.`
abbrev pub ends_path : List Token → Bool
ends_path (Punctuation Semi ∷ tokens) = true
ends_path (Punctuation Dot ∷ tokens) = true
ends_path tokens = false

path_no_at : (ts : List Token) → ends_path ts ≡ true → begins_with_at ts ≡ false
path_no_at x h = search std_rules

-- A path is determined where `;` or `.` follows it.
pub path-unique : {before after rest : List Token} {a b : PathTree} → ends_path after ≡ true → ends_path rest ≡ true → ReadsPath before a after → ReadsPath before b rest → Same a b after rest
path-unique e f (local i) (local j) = (ap PathTree.Local (id-unique i j), refl)
path-unique e f (local i) (full j k l v) = absurd (cc e)
path-unique e f (full i j k v) (local l) = absurd (cc f)
path-unique e f (full i j k v) (full l m n w) =
    let h = version-unique (path_no_at _ e) (path_no_at _ f) v w in (cc (id-unique i l, id-unique j m, id-unique k n, h.0), h.1)

used-unique : UniqueBefore ReadsUsedName
used-unique _ _ _ _ _ s t (same_name i) (same_name j) = let h = id-unique i j in (cc, refl)
used-unique _ _ _ _ _ s t (same_name i) (other_name j k) = absurd (cc s)
used-unique _ _ _ _ _ s t (other_name i k) (same_name j) = absurd (cc t)
used-unique _ _ _ _ _ s t (other_name i k) (other_name j l) = (cc (id-unique i j, id-unique k l), refl)

used-never : Never ReadsUsedName (Punctuation CloseBrace)
used-never x y z u = search std_rules

pub use-unique : {before after rest : List Token} {a b : PathTree} {xs ys : List UsedName} → ReadsUse before a xs after → ReadsUse before b ys rest → (a ≡ b) × (xs ≡ ys) × (after ≡ rest)
use-unique (use_names p l) (use_names q m) =
    let h = path-unique refl refl p q in
    let k = listed-unique used-unique (λ ts. refl) (λ e. cc e) used-never l (rw (← tail_same (tail_same h.1)) at m) in (h.0, k.0, tail_same k.1)

-- ---- declared types

field-unique : UniqueBefore ReadsField
field-unique _ _ _ x y s t (field i a) (field j b) = let h = type-unique (no_less x s) (no_less y t) a b in let e = id-unique i j in let f = h.0 in (cc, h.1)

field-never : Never ReadsField (Punctuation CloseBrace)
field-never _ _ _ (field i a) = no_id_mark i

case-unique : UniqueBefore ReadsCase
case-unique _ _ _ _ _ s t (case_alone i) (case_alone j) = let h = id-unique i j in (cc, refl)
case-unique _ _ _ _ _ s t (case_alone i) (case_of j b) = absurd (cc s)
case-unique _ _ _ _ _ s t (case_of i a) (case_alone j) = absurd (cc t)
case-unique _ _ _ _ _ s t (case_of i a) (case_of j b) = let h = type-unique refl refl a b in let e = id-unique i j in let f = h.0 in (cc, tail_same h.1)

case-never : Never ReadsCase (Punctuation CloseBrace)
case-never x y z u = search std_rules

label-unique : UniqueBefore ReadsLabel
label-unique _ _ _ _ _ s t (label i) (label j) = let h = id-unique i j in (cc, refl)

label-never : Never ReadsLabel (Punctuation CloseBrace)
label-never _ _ _ (label i) = no_id_mark i

-- what stands in front, a name and what follows its colon
pub named-unique : {before x y : List Token} {t u : Token} {k l : List ℕ} {p q : Prefix} → ReadsPrefix before p (t ∷ Punctuation Colon ∷ x) → IsId t k
    → ReadsPrefix before q (u ∷ Punctuation Colon ∷ y) → IsId u l → (p ≡ q) × (k ≡ l) × (x ≡ y)
named-unique p i q j = let h = prefix-unique (id_no_at _ i) (id_no_at _ j) p q in (h.0, id-unique (rw (head_same h.1) at i) j, tail_same (tail_same h.1))

pub mark_or_id : {mark : Mark} {t : Token} {l : List ℕ} → Punctuation mark ≡ t → IsId t l → ⊥
mark_or_id e i = elim (rw (← e) at i) [ ]

resource_member-unique : Unique ReadsResourceMember
resource_member-unique _ _ _ _ _ (constructor_ p a r) (constructor_ q b s) =
    let h = prefix-unique refl refl p q in let k = arguments-unique refl refl a r (rw (← tail_same h.1) at b) s in (cc (h.0, k.0, k.1), tail_same k.2)
resource_member-unique _ _ _ _ _ (constructor_ p a r) (method q j b) = elim (rw (← head_same (prefix-unique refl (id_no_at _ j) p q).1) at j) [ ]
resource_member-unique _ _ _ _ _ (constructor_ p a r) (static q j b) = elim (rw (← head_same (prefix-unique refl (id_no_at _ j) p q).1) at j) [ ]
resource_member-unique _ _ _ _ _ (method p i a) (constructor_ q b s) = elim (rw (← head_same (prefix-unique refl (id_no_at _ i) q p).1) at i) [ ]
resource_member-unique _ _ _ _ _ (method p i a) (method q j b) =
    let h = named-unique p i q j in let s = signature-unique refl refl a (rw (← h.2) at b) in (cc (h.0, h.1, s.0), tail_same s.1)
resource_member-unique _ _ _ _ _ (method p i a) (static q j b) = elim (rw (named-unique p i q j).2 at a) [ ]
resource_member-unique _ _ _ _ _ (static p i a) (constructor_ q b s) = elim (rw (← head_same (prefix-unique refl (id_no_at _ i) q p).1) at i) [ ]
resource_member-unique _ _ _ _ _ (static p i a) (method q j b) = elim (rw (named-unique q j p i).2 at b) [ ]
resource_member-unique _ _ _ _ _ (static p i a) (static q j b) =
    let h = named-unique p i q j in let s = signature-unique refl refl a (rw (← tail_same h.2) at b) in (cc (h.0, h.1, s.0), tail_same s.1)

resource_member-never : Never ReadsResourceMember (Punctuation CloseBrace)
resource_member-never x y z u = search (std_rules, no_prefix, mark_or_id)

pub declared-unique : {before after rest : List Token} {a b : Declared} → ReadsDeclared before a after → ReadsDeclared before b rest → Same a b after rest
declared-unique (record_ i l) (record_ j m) = let h = listed-unique field-unique (λ ts. refl) (λ e. cc e) field-never l m in (cc (id-unique i j, h.0), h.1)
declared-unique (variant i l) (variant j m) = let h = listed-unique case-unique (λ ts. refl) (λ e. cc e) case-never l m in (cc (id-unique i j, h.0), h.1)
declared-unique (flags i l) (flags j m) = let h = listed-unique label-unique (λ ts. refl) (λ e. cc e) label-never l m in (cc (id-unique i j, h.0), h.1)
declared-unique (enum i l) (enum j m) = let h = listed-unique label-unique (λ ts. refl) (λ e. cc e) label-never l m in (cc (id-unique i j, h.0), h.1)
declared-unique (alias i a) (alias j b) = let h = type-unique refl refl a b in let e = id-unique i j in let f = h.0 in (cc, tail_same h.1)
declared-unique (resource i) (resource j) = let e = id-unique i j in (cc, refl)
declared-unique (resource_with i l) (resource_with j m) = let h = repeated-same resource_member-unique resource_member-never refl l m in let e = id-unique i j in let f = h.0 in (cc, h.1)

-- no use and no declared type begins with `@`
pub use_no_at : {before after : List Token} {p : PathTree} {names : List UsedName} → ReadsUse before p names after → begins_with_at before ≡ false
use_no_at (use_names p l) = refl

pub declared_no_at : {before after : List Token} {d : Declared} → ReadsDeclared before d after → begins_with_at before ≡ false
declared_no_at x = search std_rules
