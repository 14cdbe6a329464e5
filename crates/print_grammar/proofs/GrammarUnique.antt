-- A list of tokens is at most one file, and a text at most one.
use Rattle.std.proofs.Common.{rules as std_rules, ◌≡◌, List, ℕ, refl, subst, [], ◌∷◌, ap, sym, ◌∙◌, Bool, true, false}
use Rattle.print_grammar.specs.{Token.Token, Token.Tokens, Token.Front, Token.Mark, Grammar.ReadsUse.use_names, Grammar.ReadsPath.full}
use Rattle.print_grammar.specs.{Token.Front.Ended, Token.Front.Skipped, Token.Front.Found, Token.Front.Unknown, Token.front_of_text, Grammar.ReadsSignature.func, Grammar.ReadsSignature.async_func}
use Rattle.print_grammar.specs.{Token.Tokens.no_tokens, Token.Tokens.skip, Token.Tokens.token, Token.Mark.CloseBrace, Keyword.Keyword, Grammar.ReadsFile.file}
use Rattle.print_grammar.specs.{Token.Token.Punctuation, Token.Token.Key, Grammar.ReadsNested.nested_package, Reading.IsReading, Reading.OneReading}
use Rattle.print_grammar.specs.{Grammar.ReadsItem.interface_item, Grammar.ReadsItem.world_item, Grammar.ReadsHead.head, Grammar.ReadsAllNested.nested_end, Grammar.ReadsAllNested.next_nested}
use Rattle.print_grammar.specs.Tree.{SignatureTree, PathTree, UsedName, Declared, ExternTree, ItemTree, PackageHead, PackageTree, FileTree}
use Rattle.print_grammar.specs.Grammar.{IsId, ReadsPath, ReadsUse, ReadsDeclared, ReadsSignature, ReadsMember, ReadsExtern, ReadsWorldMember, ReadsItem, ReadsItems, ReadsHead, ReadsNested, ReadsAllNested, ReadsFile}
use Rattle.print_grammar.specs.{Grammar.ReadsMember.member_use, Grammar.ReadsMember.member_type, Grammar.ReadsMember.member_function, Grammar.ReadsItems.no_items, Grammar.ReadsItems.next_item}
use Rattle.print_grammar.specs.Grammar.ReadsExtern.{extern_path, extern_function, extern_named_path, extern_interface}
use Rattle.print_grammar.specs.Grammar.ReadsWorldMember.{world_use, world_type, world_import, world_export}
use Rattle.print_grammar.proofs.TypeTokens.{id-unique, tail_same, begins_with_at}
use Rattle.print_grammar.proofs.ListsUnique.{Same, Unique, Never, head_same, repeated-same, no_id_key, signature-unique}
use Rattle.print_grammar.proofs.PrefixUnique.{use_no_at, declared_no_at, id_no_at, version-unique, gates-unique, prefix-unique, all_prefix, no_prefix, path-unique, use-unique, named-unique, declared-unique, mark_or_id}

-- ---- A text has at most one list of tokens.

-- what is known of tokens by what stands at the front of their text
abbrev BeginAt : Front → List Token → Type 0
BeginAt Ended tokens = tokens ≡ []
BeginAt (Skipped rest) tokens = Tokens rest tokens
BeginAt (Found t rest) tokens = (more : List Token) × (tokens ≡ t ∷ more) × Tokens rest more
BeginAt Unknown tokens = ⊥

begin_at : {text : List ℕ} {tokens : List Token} → Tokens text tokens → (f : Front) → front_of_text text ≡ f → BeginAt f tokens
begin_at (no_tokens p) f e = rw (sym e ∙ p) refl
begin_at (skip p a) f e = rw (sym e ∙ p) a
begin_at (token p a) f e = rw (sym e ∙ p) (_, refl, a)

pub tokens-unique : {text : List ℕ} {xs ys : List Token} → Tokens text xs → Tokens text ys → xs ≡ ys
tokens-unique (no_tokens p) y = sym (begin_at y _ p)
tokens-unique (skip p a) y = tokens-unique a (begin_at y _ p)
tokens-unique (token p a) y = let r = begin_at y _ p in cc (tokens-unique a r.2, r.1)

-- ---- which of two things stands there

use_or_declared : {x y z : List Token} {p : PathTree} {names : List UsedName} {d : Declared} → ReadsUse x p names y → ReadsDeclared x d z → ⊥
use_or_declared (use_names p l) d = elim d [ ]

use_or_id : {t : Token} {x y : List Token} {p : PathTree} {names : List UsedName} {l : List ℕ} → ReadsUse (t ∷ x) p names y → IsId t l → ⊥
use_or_id (use_names p m) i = no_id_key i

declared_or_id : {t : Token} {x y : List Token} {d : Declared} {l : List ℕ} → ReadsDeclared (t ∷ x) d y → IsId t l → ⊥
declared_or_id x i = search std_rules

-- ---- interfaces

member-unique : Unique ReadsMember
member-unique _ _ _ _ _ (member_use p a) (member_use q b) =
    let h = prefix-unique (use_no_at a) (use_no_at b) p q in let k = use-unique a (rw (← h.1) at b) in (cc (h.0, k.0, k.1), k.2)
member-unique _ _ _ _ _ (member_use p a) (member_type q b) = absurd (use_or_declared (rw (prefix-unique (use_no_at a) (declared_no_at b) p q).1 at a) b)
member-unique _ _ _ _ _ (member_use p a) (member_function q j b) = absurd (use_or_id (rw (prefix-unique (use_no_at a) (id_no_at _ j) p q).1 at a) j)
member-unique _ _ _ _ _ (member_type p a) (member_use q b) = absurd (use_or_declared b (rw (prefix-unique (declared_no_at a) (use_no_at b) p q).1 at a))
member-unique _ _ _ _ _ (member_type p a) (member_type q b) =
    let h = prefix-unique (declared_no_at a) (declared_no_at b) p q in let k = declared-unique a (rw (← h.1) at b) in (cc (h.0, k.0), k.1)
member-unique _ _ _ _ _ (member_type p a) (member_function q j b) = absurd (declared_or_id (rw (prefix-unique (declared_no_at a) (id_no_at _ j) p q).1 at a) j)
member-unique _ _ _ _ _ (member_function p i a) (member_use q b) = absurd (use_or_id (rw (prefix-unique (use_no_at b) (id_no_at _ i) q p).1 at b) i)
member-unique _ _ _ _ _ (member_function p i a) (member_type q b) = absurd (declared_or_id (rw (prefix-unique (declared_no_at b) (id_no_at _ i) q p).1 at b) i)
member-unique _ _ _ _ _ (member_function p i a) (member_function q j b) =
    let h = named-unique p i q j in let s = signature-unique refl refl a (rw (← h.2) at b) in (cc (h.0, h.1, s.0), tail_same s.1)

-- nothing but a prefix stands before these
mark_use : {mark : Mark} {x y : List Token} {p : PathTree} {names : List UsedName} → ReadsUse (Punctuation mark ∷ x) p names y → ⊥
mark_use a = elim a [ ]

mark_declared : {mark : Mark} {x y : List Token} {d : Declared} → ReadsDeclared (Punctuation mark ∷ x) d y → ⊥
mark_declared a = elim a [ ]

member-never : Never ReadsMember (Punctuation CloseBrace)
member-never y z u v = search (std_rules, mark_use, all_prefix, mark_declared, no_prefix, mark_or_id)

-- ---- imports and exports

key_path : {keyword : Keyword} {x y : List Token} {p : PathTree} → ReadsPath (Key keyword ∷ x) p y → ⊥
key_path x = search std_rules

path_or_signature : {x y z : List Token} {p : PathTree} {s : SignatureTree} → ReadsPath x p y → ReadsSignature x s z → ⊥
path_or_signature p x = search (std_rules, key_path)

extern-unique : {before after rest : List Token} {a b : ExternTree} → ReadsExtern before a after → ReadsExtern before b rest → Same a b after rest
extern-unique (extern_path a) (extern_path b) = let h = path-unique refl refl a b in (ap ExternTree.Path h.0, tail_same h.1)
extern-unique (extern_path (full i j k v)) (extern_function l (func a r)) = elim a [ ]
extern-unique (extern_path (full i j k v)) (extern_named_path l b) = elim b [ ]
extern-unique (extern_path a) (extern_interface j l) = elim a [ ]
extern-unique (extern_function i (func a r)) (extern_path (full j k l v)) = elim a [ ]
extern-unique (extern_function i (async_func a r)) (extern_path b) = elim b [ ]
extern-unique (extern_function i a) (extern_function j b) = let h = signature-unique refl refl a b in (cc (id-unique i j, h.0), tail_same h.1)
extern-unique (extern_function i a) (extern_named_path j b) = absurd (path_or_signature b a)
extern-unique (extern_function i a) (extern_interface j l) = elim a [ ]
extern-unique (extern_named_path i a) (extern_path (full j k l v)) = elim a [ ]
extern-unique (extern_named_path i a) (extern_function j b) = absurd (path_or_signature a b)
extern-unique (extern_named_path i a) (extern_named_path j b) = let h = path-unique refl refl a b in (cc (id-unique i j, h.0), tail_same h.1)
extern-unique (extern_named_path i a) (extern_interface j l) = absurd (key_path a)
extern-unique (extern_interface i l) (extern_path b) = elim b [ ]
extern-unique (extern_interface i l) (extern_function j b) = elim b [ ]
extern-unique (extern_interface i l) (extern_named_path j b) = absurd (key_path b)
extern-unique (extern_interface i l) (extern_interface j m) = let h = repeated-same member-unique member-never refl l m in (cc (id-unique i j, h.0), h.1)

-- ---- worlds

world_member-unique : Unique ReadsWorldMember
world_member-unique _ _ _ _ _ (world_use p a) (world_use q b) =
    let h = prefix-unique (use_no_at a) (use_no_at b) p q in let k = use-unique a (rw (← h.1) at b) in (cc (h.0, k.0, k.1), k.2)
world_member-unique _ _ _ _ _ (world_use p a) (world_type q b) = absurd (use_or_declared (rw (prefix-unique (use_no_at a) (declared_no_at b) p q).1 at a) b)
world_member-unique _ _ _ _ _ (world_use p a) (world_import q b) = elim (rw (prefix-unique (use_no_at a) refl p q).1 at a) [ ]
world_member-unique _ _ _ _ _ (world_use p a) (world_export q b) = elim (rw (prefix-unique (use_no_at a) refl p q).1 at a) [ ]
world_member-unique _ _ _ _ _ (world_type p a) (world_use q b) = absurd (use_or_declared b (rw (prefix-unique (declared_no_at a) (use_no_at b) p q).1 at a))
world_member-unique _ _ _ _ _ (world_type p a) (world_type q b) =
    let h = prefix-unique (declared_no_at a) (declared_no_at b) p q in let k = declared-unique a (rw (← h.1) at b) in (cc (h.0, k.0), k.1)
world_member-unique _ _ _ _ _ (world_type p a) (world_import q b) = elim (rw (prefix-unique (declared_no_at a) refl p q).1 at a) [ ]
world_member-unique _ _ _ _ _ (world_type p a) (world_export q b) = elim (rw (prefix-unique (declared_no_at a) refl p q).1 at a) [ ]
world_member-unique _ _ _ _ _ (world_import p a) (world_use q b) = elim (rw (prefix-unique (use_no_at b) refl q p).1 at b) [ ]
world_member-unique _ _ _ _ _ (world_import p a) (world_type q b) = elim (rw (prefix-unique (declared_no_at b) refl q p).1 at b) [ ]
world_member-unique _ _ _ _ _ (world_import p a) (world_import q b) =
    let h = prefix-unique refl refl p q in let k = extern-unique a (rw (← tail_same h.1) at b) in (cc (h.0, k.0), k.1)
world_member-unique _ _ _ _ _ (world_import p a) (world_export q b) = absurd (cc (prefix-unique refl refl p q).1)
world_member-unique _ _ _ _ _ (world_export p a) (world_use q b) = elim (rw (prefix-unique (use_no_at b) refl q p).1 at b) [ ]
world_member-unique _ _ _ _ _ (world_export p a) (world_type q b) = elim (rw (prefix-unique (declared_no_at b) refl q p).1 at b) [ ]
world_member-unique _ _ _ _ _ (world_export p a) (world_import q b) = absurd (cc (prefix-unique refl refl p q).1)
world_member-unique _ _ _ _ _ (world_export p a) (world_export q b) =
    let h = prefix-unique refl refl p q in let k = extern-unique a (rw (← tail_same h.1) at b) in (cc (h.0, k.0), k.1)

world_member-never : Never ReadsWorldMember (Punctuation CloseBrace)
world_member-never y z u v = search (std_rules, mark_use, all_prefix, mark_declared, no_prefix)

-- ---- items

item-unique : Unique ReadsItem
item-unique _ _ _ _ _ (interface_item g i l) (interface_item h j m) =
    let e = gates-unique refl refl g h in
    let n = repeated-same member-unique member-never (tail_same (tail_same (tail_same e.1))) l m in
    (cc (e.0, id-unique (rw (head_same (tail_same e.1)) at i) j, n.0), n.1)
item-unique _ _ _ _ _ (interface_item g i l) (world_item h j m) = absurd (cc (gates-unique refl refl g h).1)
item-unique _ _ _ _ _ (world_item g i l) (interface_item h j m) = absurd (cc (gates-unique refl refl g h).1)
item-unique _ _ _ _ _ (world_item g i l) (world_item h j m) =
    let e = gates-unique refl refl g h in
    let n = repeated-same world_member-unique world_member-never (tail_same (tail_same (tail_same e.1))) l m in
    (cc (e.0, id-unique (rw (head_same (tail_same e.1)) at i) j, n.0), n.1)

item-never : Never ReadsItem (Punctuation CloseBrace)
item-never x y z u = search std_rules

-- whether no more items may stand here
abbrev ends_items : List Token → Bool
ends_items [] = true
ends_items (Key Keyword.Package ∷ tokens) = true
ends_items tokens = false

no_item_there : (before : List Token) {i : ItemTree} {x : List Token} → ends_items before ≡ true → ReadsItem before i x → ⊥
no_item_there x h a = search std_rules

-- Items are determined where a nested package or the end follows them.
items-unique : {before after rest : List Token} {a b : List ItemTree} → ends_items after ≡ true → ends_items rest ≡ true → ReadsItems before a after → ReadsItems before b rest → Same a b after rest
items-unique e f no_items no_items = (refl, refl)
items-unique {after = after} e f no_items (next_item b m) = absurd (no_item_there after e b)
items-unique {rest = rest} e f (next_item a l) no_items = absurd (no_item_there rest f a)
items-unique e f (next_item a l) (next_item b m) =
    let h = item-unique _ _ _ _ _ a b in let k = items-unique e f l (rw (← h.1) at m) in (cc (h.0, k.0), k.1)

-- ---- packages

head-unique : {before after rest : List Token} {a b : PackageHead} → begins_with_at after ≡ false → begins_with_at rest ≡ false → ReadsHead before a after → ReadsHead before b rest
    → Same a b after rest
head-unique n o (head i j v) (head k l w) = let h = version-unique n o v w in (cc (id-unique i k, id-unique j l, h.0), h.1)

nested-unique : {before after rest : List Token} {a b : PackageTree} → ReadsNested before a after → ReadsNested before b rest → Same a b after rest
nested-unique (nested_package h l) (nested_package k m) =
    let e = head-unique refl refl h k in let n = repeated-same item-unique item-never (tail_same e.1) l m in (cc (e.0, n.0), n.1)

all_nested-unique : {before : List Token} {a b : List PackageTree} → ReadsAllNested before a → ReadsAllNested before b → a ≡ b
all_nested-unique nested_end nested_end = refl
all_nested-unique nested_end (next_nested b m) = elim b [ ]
all_nested-unique (next_nested a l) nested_end = elim a [ ]
all_nested-unique (next_nested a l) (next_nested b m) = let h = nested-unique a b in cc (h.0, all_nested-unique l (rw (← h.1) at m))

nested_ends_items : {before : List Token} {a : List PackageTree} → ReadsAllNested before a → ends_items before ≡ true
nested_ends_items nested_end = refl
nested_ends_items (next_nested (nested_package h l) m) = refl

-- A list of tokens is at most one file.
pub file-unique : {tokens : List Token} {a b : FileTree} → ReadsFile tokens a → ReadsFile tokens b → a ≡ b
file-unique (file h l n) (file k m o) =
    let e = head-unique refl refl h k in
    let i = items-unique (nested_ends_items n) (nested_ends_items o) l (rw (← tail_same e.1) at m) in
    cc (e.0, i.0, all_nested-unique n (rw (← i.1) at o))

-- A text has at most one list of tokens, and a list of tokens at most one tree.
pub one_reading : OneReading
one_reading = (λ text xs ys a b. tokens-unique a b, λ tokens a b p q. file-unique p q)

-- a text is read as one file at most
pub reading-unique : (text : List ℕ) (a b : FileTree) → IsReading text a → IsReading text b → b ≡ a
reading-unique text a b r s = file-unique (subst (λ t. ReadsFile t b) (sym (tokens-unique r.spelled s.spelled)) s.parsed) r.parsed
