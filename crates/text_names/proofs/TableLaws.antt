-- Tables of names as they grow, and what is declared with them.
use Rattle.std.proofs.Common.{rules as std_rules, ◌≡◌, refl, sym, ap, ◌∙◌, subst, ℕ, suc, ◌+◌, ◌<◌, ◌^◌, ◌⊎◌, inl, inr, arith, Bool, true, false, not, cond, is_some, ◌&&◌, nat_eq, List, [], ◌∷◌, ◌++◌, length, map, filter, append_assoc, Option, Some, None, slice_get, get_or, take, drop, Vec, length-append, Result, Err, IfErr}
use Rattle.std.specs.Borrow.{Bor}
use Rattle.std.specs.Global.{Global}
use Rattle.std.specs.{HashMap.HashMap, HashSet.HashSet}
use Rattle.keyed_hash.specs.declared.KeyedHash.{KeyedHash}
use Rattle.std.specs.List.{AllZip, enumerate_from, flat_map, list_any, position}
use Rattle.std.specs.Map.{lookup}
use Rattle.std.proofs.lemmas.{List.Quantifiers.position-Some, Option.slice_get-get_or, Option.slice_get_within, Grind.flat_map-append, List.length-take-le, List.take-append-drop, List.map-append, List.Elements.filter-append}
use Rattle.base_lemmas.proofs.Lists.{append_none, at_last, front_at, front_more, last_or, none_there, mapped_get, get_back, append_of_map, length_of_map}
use Rattle.base_lemmas.proofs.Elements.{any-at, get-contains, zip-append, zip-kept, zip_at, zip_at_right, filter_kept, filter_keeps}
use Rattle.wit_model.specs.Text.{Text, text_eq}
use Rattle.indexmap.specs.IndexMap.{insert_entry}
use Rattle.print_grammar.specs.Tree.{PackageHead}
use Rattle.text_trees.specs.Seen.{cut}
use Rattle.text_trees.specs.TreesSeen.{head_of}
use Rattle.text_plain.specs.declared.files.{ItemTree.ItemTree as CodeItem, PackageTree.PackageTree as CodePackage}
use Rattle.text_trees.specs.declared.tree.{Gates.Gates, MemberTree.MemberTree, PackageHead.PackageHead as CodeHead, Span.Span, WorldMember.WorldMember}
use Rattle.text_plain.specs.declared.files.ItemTree.TheVariants as kinds
use Rattle.text_names.specs.contracts.sources.PackageTextsPartialEq.TheImpl as texts_eq
use Rattle.text_names.specs.declared.sources.{InterfaceSource.InterfaceSource, Named.Named, PackageSource.PackageSource, PackageTexts.PackageTexts, Sources.Sources, WorldSource.WorldSource}
use Rattle.text_names.specs.declared.sources.Named.TheVariants as named
use Rattle.text_names.specs.declared.error.Fault.{Fault}
use Rattle.text_names.specs.declared.error.Fault.TheVariants as faults
use Rattle.text_names.specs.declared.error.Why.TheVariants.{Twice}
use Rattle.text_names.specs.declared.source.Source.{Source}
use Rattle.text_names.specs.Contents.{Item, AreFirsts, no_more, known, comes, AreNamedApart, IsFaultOf, IsTwice, all_heads, all_items, all_mains, heads_in, is_interface, item_in, items_in, items_of, main_of, name_of, packages_in, text_at}
use Rattle.text_names.specs.Tables.{Adds, AddsItems, AddsPackages, Declares, Entries, Fails, FailsItems, FailsPackages, Finds, IsIndex, IsInterface, IsNumberOf, IsWorld, Numbers, Puts, PutsOrStands, entry_of, head_of_key, head_there, heads_of, interface_key, world_key}
use Rattle.wit_model.proofs.Elements.{contains-get}
use Rattle.text_plain.proofs.WholeLaws.{turned}

-- ---- keys

pub key_same : (q k : ℕ × Text) → (nat_eq q.0 k.0 && text_eq q.1 k.1) ≡ true → q ≡ k
key_same q k e = search std_rules

pub key_again : (q k : ℕ × Text) → q ≡ k → (nat_eq q.0 k.0 && text_eq q.1 k.1) ≡ true
key_again q k e = search std_rules

abbrev test_of : ℕ × Text → ℕ × Text → Bool
test_of q k = nat_eq q.0 k.0 && text_eq q.1 k.1

not_both : (b : Bool) → b ≡ true → b ≡ false → ⊥
not_both b t f = cc

-- ---- a name more in a table

module _ (old new : Entries) (key : ℕ × Text) (it : Named) (put : Puts old key it new) where
  pub there : entry_of new key ≡ Some it
  there = rw (put.finds key, key_again key key refl) refl

  pub others : (q : ℕ × Text) (v : Named) → entry_of old q ≡ Some v → entry_of new q ≡ Some v
  others q v e = by_test (test_of q key) refl
    where
      by_test : (b : Bool) → test_of q key ≡ b → entry_of new q ≡ Some v
      by_test true same = let one : q ≡ key = key_same q key same in let gone : entry_of old q ≡ None = subst (λ (k : ℕ × Text). entry_of old k ≡ None) (sym one) put.fresh in absurd cc
      by_test false apart = rw (put.finds q, apart) e

  pub back : (q : ℕ × Text) (v : Named) → entry_of new q ≡ Some v → ((q ≡ key) × (v ≡ it)) ⊎ (entry_of old q ≡ Some v)
  back q v e = by_test (test_of q key) refl
    where
      by_test : (b : Bool) → test_of q key ≡ b → ((q ≡ key) × (v ≡ it)) ⊎ (entry_of old q ≡ Some v)
      by_test true same = let is : entry_of new q ≡ Some it = rw (put.finds q, same) refl in inl (key_same q key same, cc)
      by_test false apart = let is : entry_of new q ≡ entry_of old q = rw (put.finds q, apart) refl in inr (sym is ∙ e)

  -- the list that it belongs to has it behind its others
  pub finds_it : (numbered : ℕ → Named) (keys : List (ℕ × Text)) → ((m n : ℕ) → numbered m ≡ numbered n → m ≡ n) → it ≡ numbered (length keys) → Finds old numbered keys
      → Finds new numbered (keys ++ key ∷ [])
  finds_it numbered keys one is finds = record {
    found = λ q n e. elim (back q (numbered n) e) [
      | inl x ↦ let at : n ≡ length keys = one n (length keys) (x.1 ∙ is) in subst (λ (k : ℕ). slice_get (keys ++ key ∷ []) k ≡ Some q) (sym at) (at_last keys key ∙ ap Some (sym x.0))
      | inr x ↦ front_more keys key n q (finds.found q n x)
    ];
    has = λ n q e. elim (last_or keys key n q e) [
      | inl x ↦ others q (numbered n) (finds.has n q x.1)
      | inr x ↦ subst (λ (k : ℕ × Text). entry_of new k ≡ Some (numbered n)) x.1 (there ∙ ap Some (is ∙ ap numbered (sym x.0)))
    ];
  }

  -- another list stays
  pub finds_others : (numbered : ℕ → Named) (keys : List (ℕ × Text)) → ((n : ℕ) → numbered n ≡ it → ⊥) → Finds old numbered keys → Finds new numbered keys
  finds_others numbered keys apart finds = record {
    found = λ q n e. elim (back q (numbered n) e) [ inl x ↦ absurd (apart n x.1) | inr x ↦ finds.found q n x ];
    has = λ n q e. others q (numbered n) (finds.has n q e);
  }

-- what an insertion leaves, where the key isn't there
module _ (eq : ℕ × Bor (List ℕ) → ℕ × Bor (List ℕ) → Bool) (is : (a b : ℕ × Bor (List ℕ)) → eq a b ≡ test_of (a.0, a.1.now) (b.0, b.1.now)) (k : ℕ × Bor (List ℕ)) (v : Named) where
  pub looks : (q : ℕ × Text) (es : Entries) → entry_of es (k.0, k.1.now) ≡ None
      → entry_of (insert_entry eq es k v) q ≡ cond (test_of q (k.0, k.1.now)) (Some v) (entry_of es q)
  looks q [] e = refl
  looks q (x ∷ es) e = by_test (looks q es) (test_of (k.0, k.1.now) (x.0.0, x.0.1.now)) refl (test_of q (x.0.0, x.0.1.now)) refl
    where
      tail : test_of (k.0, k.1.now) (x.0.0, x.0.1.now) ≡ false → entry_of es (k.0, k.1.now) ≡ None
      tail apart = rw apart at e

      differs : test_of (k.0, k.1.now) (x.0.0, x.0.1.now) ≡ false → test_of q (x.0.0, x.0.1.now) ≡ true → (b : Bool) → test_of q (k.0, k.1.now) ≡ b → b ≡ false
      differs apart found false o = refl
      differs apart found true o = let one : q ≡ (k.0, k.1.now) = key_same q (k.0, k.1.now) o in
          absurd (not_both (test_of (k.0, k.1.now) (x.0.0, x.0.1.now)) (subst (λ (y : ℕ × Text). test_of y (x.0.0, x.0.1.now) ≡ true) one found) apart)

      by_look : (entry_of es (k.0, k.1.now) ≡ None → entry_of (insert_entry eq es k v) q ≡ cond (test_of q (k.0, k.1.now)) (Some v) (entry_of es q)) → test_of (k.0, k.1.now) (x.0.0, x.0.1.now) ≡ false
          → (d : Bool) → test_of q (x.0.0, x.0.1.now) ≡ d
          → cond (test_of q (x.0.0, x.0.1.now)) (Some x.1) (entry_of (insert_entry eq es k v) q)
          ≡ cond (test_of q (k.0, k.1.now)) (Some v) (cond (test_of q (x.0.0, x.0.1.now)) (Some x.1) (entry_of es q))
      by_look ih apart true o = let no : test_of q (k.0, k.1.now) ≡ false = differs apart o (test_of q (k.0, k.1.now)) refl in rw (o, no) refl
      by_look ih apart false o = rw o (ih (tail apart))

      by_test : (entry_of es (k.0, k.1.now) ≡ None → entry_of (insert_entry eq es k v) q ≡ cond (test_of q (k.0, k.1.now)) (Some v) (entry_of es q)) → (b : Bool)
          → test_of (k.0, k.1.now) (x.0.0, x.0.1.now) ≡ b → (d : Bool) → test_of q (x.0.0, x.0.1.now) ≡ d
          → entry_of (insert_entry eq (x ∷ es) k v) q ≡ cond (test_of q (k.0, k.1.now)) (Some v) (entry_of (x ∷ es) q)
      by_test ih true same d o = let wrong : Some x.1 ≡ None = rw same at e in absurd cc
      by_test ih false apart d o = rw (is k x.0, apart) (by_look ih apart d o)

-- what is found by a test of keys
module _ (test : ℕ × Bor (List ℕ) → Bool) (key : ℕ × Text) (is : (y : ℕ × Bor (List ℕ)) → test y ≡ test_of key (y.0, y.1.now)) where
  pub same_found : (es : Entries) → lookup test es ≡ entry_of es key
  same_found [] = refl
  same_found (e ∷ es) = rw (is e.0) (ap (λ o. cond (test_of key (e.0.0, e.0.1.now)) (Some e.1) o) (same_found es))

  pub is_there : (es : Entries) (b : Bool) → b ≡ is_some (lookup test es) → b ≡ true → (v : Named) × (entry_of es key ≡ Some v)
  is_there es b e f = there_some (entry_of es key) (ap is_some (sym (same_found es)) ∙ (sym e ∙ f))
    where
      there_some : (o : Option Named) → is_some o ≡ true → (v : Named) × (o ≡ Some v)
      there_some None h = absurd cc
      there_some (Some v) h = (v, refl)

  pub not_there_yet : (es : Entries) (b : Bool) → b ≡ is_some (lookup test es) → b ≡ false → entry_of es key ≡ None
  not_there_yet es b e f = none_there' (entry_of es key) (ap is_some (sym (same_found es)) ∙ (sym e ∙ f))
    where
      none_there' : (o : Option Named) → is_some o ≡ false → o ≡ None
      none_there' None h = refl
      none_there' (Some v) h = absurd cc

pub puts : (eq : ℕ × Bor (List ℕ) → ℕ × Bor (List ℕ) → Bool) (k : ℕ × Bor (List ℕ)) (v : Named) (es new : Entries) → ((a b : ℕ × Bor (List ℕ)) → eq a b ≡ test_of (a.0, a.1.now) (b.0, b.1.now))
    → new ≡ insert_entry eq es k v → entry_of es (k.0, k.1.now) ≡ None → Puts es (k.0, k.1.now) v new
puts eq k v es new is e fresh = record { fresh = fresh; finds = λ q. ap (λ xs. entry_of xs q) e ∙ looks eq is k v q es fresh }

interface_one : (m n : ℕ) → named.Interface m ≡ named.Interface n → m ≡ n
interface_one m n e = cc

world_one : (m n : ℕ) → named.World m ≡ named.World n → m ≡ n
world_one m n e = cc

interface_world : (m n : ℕ) → named.Interface m ≡ named.World n → ⊥
interface_world m n e = cc

world_interface : (m n : ℕ) → named.World m ≡ named.Interface n → ⊥
world_interface m n e = cc

-- ---- what has a name

pairs : (a b : ℕ) (x y : Text) → a ≡ b → x ≡ y → ◌≡◌ {A = ℕ × Text} (a, x) (b, y)
pairs a b x y e f = cc

some_none : (v : Named) → Some v ≡ None → ⊥
some_none v e = cc

-- an item of a package that has this name
pub record HasName (items : List Item) (head : PackageHead) (text : Text) : Type 0 where
  pub place : ℕ
  pub item : Item
  pub stands : slice_get items place ≡ Some item
  pub home : item.home ≡ head
  pub name : name_of item.tree ≡ text

module _ (s : Sources) (index : IsIndex s) (hs : List PackageHead) (is : List Item) (ms : List PackageHead) (d : Declares s hs is ms) (head : PackageHead) (p : ℕ) (number : IsNumberOf s head p) where
  same_home : (a : PackageHead) (n : ℕ) → IsNumberOf s a n → n ≡ p → a ≡ head
  same_home a n e same = let there : IsNumberOf s a p = subst (λ (k : ℕ). IsNumberOf s a k) same e in cc

  -- what is found is an item
  pub found_named : (name : Text) (v : Named) → entry_of s.names.entries (p, name) ≡ Some v → HasName is head name
  found_named name (named.Interface n) e =
      let at = get_back (interface_key s.texts.now) s.interfaces.items n (p, name) (index.interfaces.found (p, name) n e) in
      let item = zip_at_right (IsInterface s) (filter is_interface is) s.interfaces.items d.interfaces n at.0 at.1 in
      let kept = filter_kept is_interface is item.0 (get-contains (filter is_interface is) n item.0 item.1) in
      let place = contains-get is item.0 kept.0 in
      record {
        place = place.0;
        item = item.0;
        stands = place.1;
        home = same_home item.0.home at.0.«package» item.2.home (ap (λ k. k.0) at.2);
        name = sym (ap name_of item.2.tree) ∙ ap (λ k. k.1) at.2;
      }
  found_named name (named.World n) e =
      let at = get_back (world_key s.texts.now) s.worlds.items n (p, name) (index.worlds.found (p, name) n e) in
      let item = zip_at_right (IsWorld s) (filter (λ x. not (is_interface x)) is) s.worlds.items d.worlds n at.0 at.1 in
      let kept = filter_kept (λ x. not (is_interface x)) is item.0 (get-contains (filter (λ x. not (is_interface x)) is) n item.0 item.1) in
      let place = contains-get is item.0 kept.0 in
      record {
        place = place.0;
        item = item.0;
        stands = place.1;
        home = same_home item.0.home at.0.«package» item.2.home (ap (λ k. k.0) at.2);
        name = sym (ap name_of item.2.tree) ∙ ap (λ k. k.1) at.2;
      }

  -- an item of the package is found
  pub named_found : (j : ℕ) (a : Item) → slice_get is j ≡ Some a → a.home ≡ head → (v : Named) × (entry_of s.names.entries (p, name_of a.tree) ≡ Some v)
  named_found j a e same = by_kind (is_interface a) refl
    where
      is_there : IsNumberOf s a.home p
      is_there = subst (λ (h : PackageHead). IsNumberOf s h p) (sym same) number

      by_kind : (b : Bool) → is_interface a ≡ b → (v : Named) × (entry_of s.names.entries (p, name_of a.tree) ≡ Some v)
      by_kind true kind =
          let at = contains-get (filter is_interface is) a (filter_keeps is_interface is a (get-contains is j a e) kind) in
          let it = zip_at (IsInterface s) (filter is_interface is) s.interfaces.items d.interfaces at.0 a at.1 in
          let home : it.0.«package» ≡ p = index.apart it.0.«package» p a.home it.2.home is_there in
          let key : interface_key s.texts.now it.0 ≡ (p, name_of a.tree) = pairs it.0.«package» p _ _ home (ap name_of it.2.tree) in
          (named.Interface at.0, index.interfaces.has at.0 (p, name_of a.tree) (mapped_get (interface_key s.texts.now) s.interfaces.items at.0 it.0 it.1 ∙ ap Some key))
      by_kind false kind =
          let at = contains-get (filter (λ x. not (is_interface x)) is) a (filter_keeps (λ x. not (is_interface x)) is a (get-contains is j a e) (ap not kind)) in
          let it = zip_at (IsWorld s) (filter (λ x. not (is_interface x)) is) s.worlds.items d.worlds at.0 a at.1 in
          let home : it.0.«package» ≡ p = index.apart it.0.«package» p a.home it.2.home is_there in
          let key : world_key s.texts.now it.0 ≡ (p, name_of a.tree) = pairs it.0.«package» p _ _ home (ap name_of it.2.tree) in
          (named.World at.0, index.worlds.has at.0 (p, name_of a.tree) (mapped_get (world_key s.texts.now) s.worlds.items at.0 it.0 it.1 ∙ ap Some key))

  -- a name that isn't found is apart from all
  pub apart_more : (x : Item) → x.home ≡ head → entry_of s.names.entries (p, name_of x.tree) ≡ None → AreNamedApart (is ++ x ∷ [])
  apart_more x home fresh j k a b ea eb homes names = elim (last_or is x j a ea) [
    | inl u ↦ elim (last_or is x k b eb) [
      | inl w ↦ d.apart j k a b u.1 w.1 homes names
      | inr w ↦ absurd (new_name j a u.1 (homes ∙ (ap (λ i. i.home) (sym w.1) ∙ home)) (names ∙ ap (λ (i : Item). name_of i.tree) (sym w.1)))
    ]
    | inr u ↦ elim (last_or is x k b eb) [
      | inl w ↦ absurd (new_name k b w.1 (sym homes ∙ (ap (λ i. i.home) (sym u.1) ∙ home)) (sym names ∙ ap (λ (i : Item). name_of i.tree) (sym u.1)))
      | inr w ↦ u.0 ∙ sym w.0
    ]
  ]
    where
      new_name : (j : ℕ) (a : Item) → slice_get is j ≡ Some a → a.home ≡ head → name_of a.tree ≡ name_of x.tree → ⊥
      new_name j a e same names = let v = named_found j a e same in let gone : entry_of s.names.entries (p, name_of a.tree) ≡ None = rw names fresh in some_none v.0 (sym v.1 ∙ gone)

  -- a name that is found is refused
  pub twice : (x : Item) → x.home ≡ head → (v : Named) → entry_of s.names.entries (p, name_of x.tree) ≡ Some v → IsTwice (is ++ x ∷ []) (record { text = x.text; at = x.at; why = Twice })
  twice x home v e = let has = found_named (name_of x.tree) v e in record {
    first = has.place;
    second = length is;
    before = slice_get_within is has.place has.item has.stands;
    one = has.item;
    other = x;
    one_stands = front_more is x has.place has.item has.stands;
    other_stands = at_last is x;
    home = has.home ∙ sym home;
    name = has.name;
    text = refl;
    at = refl;
    why = refl;
  }

-- ---- an item more

module _ (old : Sources) (index : IsIndex old) (home number : ℕ) (docs : Span) (gates : Gates) (name : Span) (members : Bor (Vec MemberTree Global)) where
  abbrev interface_key_there : ℕ × Text
  interface_key_there = (home, cut (text_at old.texts.now number) name)

  pub interface_fails : (v : Named) → entry_of old.names.entries interface_key_there ≡ Some v
      → FailsItems old home number (kinds.InterfaceItem docs gates name members.now ∷ []) (faults.Refused (record { text = number; at = name; why = Twice }))
  interface_fails v e head is_head hs is ms d =
      twice old index hs is ms d head home is_head (item_in number (text_at old.texts.now number) head (kinds.InterfaceItem docs gates name members.now)) refl v e

  module _ (names : HashMap (ℕ × Bor (List ℕ)) Named KeyedHash) (listed : Vec InterfaceSource Global)
      (put : Puts old.names.entries interface_key_there (named.Interface (length old.interfaces.items)) names.entries)
      (more : listed.items ≡ old.interfaces.items ++ record { «package» = home; text = number; docs = docs; gates = gates; name = name; members = members } ∷ []) where
    abbrev with_interface : Sources
    with_interface = record old { names = names; interfaces = listed }

    interface_keys : map (interface_key old.texts.now) listed.items ≡ map (interface_key old.texts.now) old.interfaces.items ++ interface_key_there ∷ []
    interface_keys = ap (map (interface_key old.texts.now)) more ∙ append_of_map (interface_key old.texts.now) old.interfaces.items _

    interface_index : IsIndex with_interface
    interface_index = record {
      numbers = index.numbers;
      few = index.few;
      apart = index.apart;
      interfaces = subst (λ (ks : List (ℕ × Text)). Finds names.entries named.Interface ks) (sym interface_keys)
          (finds_it old.names.entries names.entries interface_key_there (named.Interface (length old.interfaces.items)) put named.Interface (map (interface_key old.texts.now) old.interfaces.items)
          interface_one (ap named.Interface (sym (length_of_map (interface_key old.texts.now) old.interfaces.items))) index.interfaces);
      worlds = finds_others old.names.entries names.entries interface_key_there (named.Interface (length old.interfaces.items)) put named.World (map (world_key old.texts.now) old.worlds.items)
          (λ n e. world_interface n (length old.interfaces.items) e) index.worlds;
    }

    pub interface_adds : AddsItems old with_interface home number (kinds.InterfaceItem docs gates name members.now ∷ [])
    interface_adds = record {
      index = interface_index;
      texts = refl;
      adds = λ head is_head. record {
        index = interface_index;
        texts = refl;
        grows = λ n h e. e;
        declares = λ hs is ms d.
            let x = item_in number (text_at old.texts.now number) head (kinds.InterfaceItem docs gates name members.now) in
            let it : InterfaceSource = record { «package» = home; text = number; docs = docs; gates = gates; name = name; members = members } in
            let shown : IsInterface with_interface x it = record { text = refl; home = is_head; at = refl; tree = refl } in
            let same_interface : (a : Item) (b : InterfaceSource) → IsInterface old a b → IsInterface with_interface a b = λ a b i. record { text = i.text; home = i.home; at = i.at; tree = i.tree } in
            let same_world : (a : Item) (b : WorldSource) → IsWorld old a b → IsWorld with_interface a b = λ a b i. record { text = i.text; home = i.home; at = i.at; tree = i.tree } in
            let all : Declares with_interface hs (is ++ x ∷ []) ms = record {
              packages = d.packages;
              mains = d.mains;
              interfaces = subst (λ (l : List InterfaceSource). AllZip (IsInterface with_interface) (filter is_interface (is ++ x ∷ [])) l) (sym more)
                  (rw (filter-append is_interface is (x ∷ [])) (zip-append (IsInterface with_interface) (filter is_interface is) old.interfaces.items (x ∷ []) (it ∷ [])
                  (zip-kept (IsInterface old) (IsInterface with_interface) same_interface (filter is_interface is) old.interfaces.items d.interfaces) (shown, tt)));
              worlds = rw (filter-append (λ i. not (is_interface i)) is (x ∷ []), append_none (filter (λ i. not (is_interface i)) is))
                  (zip-kept (IsWorld old) (IsWorld with_interface) same_world (filter (λ i. not (is_interface i)) is) old.worlds.items d.worlds);
              apart = apart_more old index hs is ms d head home is_head x refl put.fresh;
            } in
            subst (λ (l : List PackageHead). Declares with_interface l (is ++ x ∷ []) (ms ++ [])) (sym (append_none hs))
            (subst (λ (l : List PackageHead). Declares with_interface hs (is ++ x ∷ []) l) (sym (append_none ms)) all);
      };
    }

module _ (old : Sources) (index : IsIndex old) (home number : ℕ) (docs : Span) (gates : Gates) (name : Span) (members : Bor (Vec WorldMember Global)) where
  abbrev world_key_there : ℕ × Text
  world_key_there = (home, cut (text_at old.texts.now number) name)

  pub world_fails : (v : Named) → entry_of old.names.entries world_key_there ≡ Some v
      → FailsItems old home number (kinds.WorldItem docs gates name members.now ∷ []) (faults.Refused (record { text = number; at = name; why = Twice }))
  world_fails v e head is_head hs is ms d =
      twice old index hs is ms d head home is_head (item_in number (text_at old.texts.now number) head (kinds.WorldItem docs gates name members.now)) refl v e

  module _ (names : HashMap (ℕ × Bor (List ℕ)) Named KeyedHash) (listed : Vec WorldSource Global)
      (put : Puts old.names.entries world_key_there (named.World (length old.worlds.items)) names.entries)
      (more : listed.items ≡ old.worlds.items ++ record { «package» = home; text = number; docs = docs; gates = gates; name = name; members = members } ∷ []) where
    abbrev with_world : Sources
    with_world = record old { names = names; worlds = listed }

    world_keys : map (world_key old.texts.now) listed.items ≡ map (world_key old.texts.now) old.worlds.items ++ world_key_there ∷ []
    world_keys = ap (map (world_key old.texts.now)) more ∙ append_of_map (world_key old.texts.now) old.worlds.items _

    world_index : IsIndex with_world
    world_index = record {
      numbers = index.numbers;
      few = index.few;
      apart = index.apart;
      interfaces = finds_others old.names.entries names.entries world_key_there (named.World (length old.worlds.items)) put named.Interface (map (interface_key old.texts.now) old.interfaces.items)
          (λ n e. interface_world n (length old.worlds.items) e) index.interfaces;
      worlds = subst (λ (ks : List (ℕ × Text)). Finds names.entries named.World ks) (sym world_keys)
          (finds_it old.names.entries names.entries world_key_there (named.World (length old.worlds.items)) put named.World (map (world_key old.texts.now) old.worlds.items)
          world_one (ap named.World (sym (length_of_map (world_key old.texts.now) old.worlds.items))) index.worlds);
    }

    pub world_adds : AddsItems old with_world home number (kinds.WorldItem docs gates name members.now ∷ [])
    world_adds = record {
      index = world_index;
      texts = refl;
      adds = λ head is_head. record {
        index = world_index;
        texts = refl;
        grows = λ n h e. e;
        declares = λ hs is ms d.
            let x = item_in number (text_at old.texts.now number) head (kinds.WorldItem docs gates name members.now) in
            let it : WorldSource = record { «package» = home; text = number; docs = docs; gates = gates; name = name; members = members } in
            let shown : IsWorld with_world x it = record { text = refl; home = is_head; at = refl; tree = refl } in
            let same_interface : (a : Item) (b : InterfaceSource) → IsInterface old a b → IsInterface with_world a b = λ a b i. record { text = i.text; home = i.home; at = i.at; tree = i.tree } in
            let same_world : (a : Item) (b : WorldSource) → IsWorld old a b → IsWorld with_world a b = λ a b i. record { text = i.text; home = i.home; at = i.at; tree = i.tree } in
            let all : Declares with_world hs (is ++ x ∷ []) ms = record {
              packages = d.packages;
              mains = d.mains;
              interfaces = rw (filter-append is_interface is (x ∷ []), append_none (filter is_interface is))
                  (zip-kept (IsInterface old) (IsInterface with_world) same_interface (filter is_interface is) old.interfaces.items d.interfaces);
              worlds = subst (λ (l : List WorldSource). AllZip (IsWorld with_world) (filter (λ i. not (is_interface i)) (is ++ x ∷ [])) l) (sym more)
                  (rw (filter-append (λ i. not (is_interface i)) is (x ∷ [])) (zip-append (IsWorld with_world) (filter (λ i. not (is_interface i)) is) old.worlds.items (x ∷ []) (it ∷ [])
                  (zip-kept (IsWorld old) (IsWorld with_world) same_world (filter (λ i. not (is_interface i)) is) old.worlds.items d.worlds) (shown, tt)));
              apart = apart_more old index hs is ms d head home is_head x refl put.fresh;
            } in
            subst (λ (l : List PackageHead). Declares with_world l (is ++ x ∷ []) (ms ++ [])) (sym (append_none hs))
            (subst (λ (l : List PackageHead). Declares with_world hs (is ++ x ∷ []) l) (sym (append_none ms)) all);
      };
    }

-- ---- a package more

abbrev pub same_texts : PackageTexts → PackageTexts → Bool
same_texts = texts_eq.ghosts.eq

pub texts_same : (a b : PackageTexts) → same_texts a b ≡ true → head_of_key a ≡ head_of_key b
texts_same a b e = search std_rules

pub texts_again : (a b : PackageTexts) → head_of_key a ≡ head_of_key b → same_texts a b ≡ true
texts_again a b e = search std_rules

module _ (old : Sources) (index : IsIndex old) where
  any_there : (key : PackageTexts) (ks : List PackageTexts) → list_any (same_texts key) ks ≡ true → (n : ℕ) × (slice_get (map head_of_key ks) n ≡ Some (head_of_key key))
  any_there key [] e = absurd cc
  any_there key (k ∷ ks) e = by_test (any_there key ks) (same_texts key k) refl
    where
      tail : same_texts key k ≡ false → list_any (same_texts key) ks ≡ true
      tail apart = rw apart at e

      by_test : (list_any (same_texts key) ks ≡ true → (n : ℕ) × (slice_get (map head_of_key ks) n ≡ Some (head_of_key key))) → (b : Bool) → same_texts key k ≡ b → (n : ℕ)
          × (slice_get (map head_of_key (k ∷ ks)) n ≡ Some (head_of_key key))
      by_test ih true same = (0, ap Some (sym (texts_same key k same)))
      by_test ih false apart = let n = ih (tail apart) in (suc n.0, n.1)

  pub number_there : (key : PackageTexts) (n : ℕ) → slice_get (map head_of_key old.numbers.keys) n ≡ Some (head_of_key key) → IsNumberOf old (head_of_key key) n
  number_there key n e = ap (λ hs. slice_get hs n) (sym index.numbers) ∙ e

  pub none_any : (key : PackageTexts) → ((n : ℕ) → IsNumberOf old (head_of_key key) n → ⊥) → (b : Bool) → list_any (same_texts key) old.numbers.keys ≡ b → b ≡ false
  none_any key fresh false e = refl
  none_any key fresh true e = let n = any_there key old.numbers.keys e in absurd (fresh n.0 (number_there key n.0 n.1))

  module _ (number : ℕ) (head : CodeHead) (key : PackageTexts) (n : ℕ) (numbers : HashSet PackageTexts KeyedHash) (listed : Vec PackageSource Global)
      (is_key : head_of_key key ≡ head_of (text_at old.texts.now number) head) (fresh : (m : ℕ) → IsNumberOf old (head_of_key key) m → ⊥)
      (keys : numbers.keys ≡ old.numbers.keys ++ key ∷ []) (more : listed.items ≡ old.packages.items ++ record { text = number; head = head } ∷ [])
      (last : n ≡ length old.packages.items) (small : n < 2 ^ 32) where
    abbrev with_package : Sources
    with_package = record old { packages = listed; numbers = numbers }

    abbrev new_head : PackageHead
    new_head = head_of (text_at old.texts.now number) head

    heads_more : heads_of with_package ≡ heads_of old ++ new_head ∷ []
    heads_more = ap (map (head_there old.texts.now)) more ∙ append_of_map (head_there old.texts.now) old.packages.items _

    not_there : (m : ℕ) → IsNumberOf old new_head m → ⊥
    not_there m e = fresh m (e ∙ ap Some (sym is_key))

    heads_grow : (m : ℕ) (h : PackageHead) → IsNumberOf old h m → IsNumberOf with_package h m
    heads_grow m h e = ap (λ hs. slice_get hs m) heads_more ∙ front_more (heads_of old) new_head m h e

    heads_apart : (a b : ℕ) (h : PackageHead) → IsNumberOf with_package h a → IsNumberOf with_package h b → a ≡ b
    heads_apart a b h ea eb =
        elim (last_or (heads_of old) new_head a h (ap (λ hs. slice_get hs a) (sym heads_more) ∙ ea)) [
          | inl x ↦ elim (last_or (heads_of old) new_head b h (ap (λ hs. slice_get hs b) (sym heads_more) ∙ eb)) [
            | inl y ↦ index.apart a b h x.1 y.1
            | inr y ↦ absurd (not_there a (x.1 ∙ ap Some (sym y.1)))
          ]
          | inr x ↦ elim (last_or (heads_of old) new_head b h (ap (λ hs. slice_get hs b) (sym heads_more) ∙ eb)) [
            | inl y ↦ absurd (not_there b (y.1 ∙ ap Some (sym x.1)))
            | inr y ↦ x.0 ∙ sym y.0
          ]
        ]

    keys_long : length old.numbers.keys ≡ length old.packages.items
    keys_long = sym (length_of_map head_of_key old.numbers.keys) ∙ (ap length index.numbers ∙ length_of_map (head_there old.texts.now) old.packages.items)

    package_index : IsIndex with_package
    package_index = record {
      numbers = ap (map head_of_key) keys ∙ (append_of_map head_of_key old.numbers.keys (key ∷ []) ∙ (ap (λ hs. hs ++ head_of_key key ∷ []) index.numbers
          ∙ (ap (λ h. heads_of old ++ h ∷ []) is_key ∙ sym heads_more)));
      few = omega (arith, small, last, keys_long, ap length keys, length-append old.numbers.keys (key ∷ []));
      apart = heads_apart;
      interfaces = index.interfaces;
      worlds = index.worlds;
    }

    pub package_numbers : Numbers old with_package new_head n
    package_numbers = record {
      adds = record {
        index = package_index;
        texts = refl;
        grows = heads_grow;
        declares = λ hs is ms d.
            let all : Declares with_package (hs ++ new_head ∷ []) is ms = record {
              packages = subst (λ (l : List PackageHead). AreFirsts (hs ++ new_head ∷ []) l) (sym heads_more)
                  (comes hs (heads_of old) new_head d.packages (λ h. let at = contains-get (heads_of old) new_head h in not_there at.0 at.1));
              mains = zip-kept (IsNumberOf old) (IsNumberOf with_package) (λ h m e. heads_grow m h e) ms old.mains.items d.mains;
              interfaces = zip-kept (IsInterface old) (IsInterface with_package) (λ a b i. record { text = i.text; home = heads_grow b.«package» a.home i.home; at = i.at; tree = i.tree })
                  (filter is_interface is)
                  old.interfaces.items d.interfaces;
              worlds = zip-kept (IsWorld old) (IsWorld with_package) (λ a b i. record { text = i.text; home = heads_grow b.«package» a.home i.home; at = i.at; tree = i.tree })
                  (filter (λ i. not (is_interface i)) is) old.worlds.items d.worlds;
              apart = d.apart;
            } in
            subst (λ (l : List Item). Declares with_package (hs ++ new_head ∷ []) l (ms ++ [])) (sym (append_none is))
            (subst (λ (l : List PackageHead). Declares with_package (hs ++ new_head ∷ []) is l) (sym (append_none ms)) all);
      };
      number = ap (λ hs. slice_get hs n) heads_more ∙ (ap (slice_get (heads_of old ++ new_head ∷ [])) (last ∙ sym (length_of_map (head_there old.texts.now) old.packages.items))
          ∙ at_last (heads_of old) new_head);
    }

  -- a package that is there already
  pub known_numbers : (head : PackageHead) (n : ℕ) → IsNumberOf old head n → Numbers old old head n
  known_numbers head n e = record {
    adds = record {
      index = index;
      texts = refl;
      grows = λ m h x. x;
      declares = λ hs is ms d.
          let all : Declares old (hs ++ head ∷ []) is ms = record {
            packages = known hs (heads_of old) head d.packages (get-contains (heads_of old) n head e);
            mains = d.mains;
            interfaces = d.interfaces;
            worlds = d.worlds;
            apart = d.apart;
          } in
          subst (λ (l : List Item). Declares old (hs ++ head ∷ []) l (ms ++ [])) (sym (append_none is))
          (subst (λ (l : List PackageHead). Declares old (hs ++ head ∷ []) is l) (sym (append_none ms)) all);
    };
    number = e;
  }

  none_fresh' : (key : PackageTexts) (b : Bool) → b ≡ false → b ≡ list_any (same_texts key) old.numbers.keys → (n : ℕ) → IsNumberOf old (head_of_key key) n → ⊥
  none_fresh' key b never is n e =
      let k = get_back head_of_key old.numbers.keys n (head_of_key key) (ap (λ hs. slice_get hs n) index.numbers ∙ e) in
      let yes : list_any (same_texts key) old.numbers.keys ≡ true = any-at (same_texts key) old.numbers.keys k.0 (get-contains old.numbers.keys n k.0 k.1) (texts_again key k.0 (sym k.2)) in
      cc

  pub none_fresh : (key : PackageTexts) (o : Option ℕ) → o ≡ None → is_some o ≡ list_any (same_texts key) old.numbers.keys → (n : ℕ) → IsNumberOf old (head_of_key key) n → ⊥
  none_fresh key o none is = none_fresh' key (is_some o) (ap is_some none) is

  pub some_number : (key : PackageTexts) (o : Option ℕ) (n : ℕ) → o ≡ Some n → o ≡ position (same_texts key) old.numbers.keys → IsNumberOf old (head_of_key key) n
  some_number key o n is e =
      let at = position-Some (same_texts key) old.numbers.keys n key (sym e ∙ is) in
      let k = get_or old.numbers.keys n key in
      let there : slice_get old.numbers.keys n ≡ Some k = slice_get-get_or old.numbers.keys n key at.0 in
      ap (λ hs. slice_get hs n) (sym index.numbers) ∙ (mapped_get head_of_key old.numbers.keys n k there ∙ ap Some (sym (texts_same key k at.1)))

  pub new_keys : (key : PackageTexts) (new : List PackageTexts) → ((n : ℕ) → IsNumberOf old (head_of_key key) n → ⊥)
      → new ≡ cond (list_any (same_texts key) old.numbers.keys) old.numbers.keys (old.numbers.keys ++ key ∷ []) → new ≡ old.numbers.keys ++ key ∷ []
  new_keys key new fresh e = e ∙ ap (λ (b : Bool). cond b old.numbers.keys (old.numbers.keys ++ key ∷ [])) (none_any key fresh (list_any (same_texts key) old.numbers.keys) refl)

-- ---- what was put

pub stands_there : (old new : Entries) (home : ℕ) (a b : Text) (it : Named) (r : Bool) → a ≡ b → r ≡ false → PutsOrStands old (home, a) it new r
    → (v : Named) × (entry_of old (home, b) ≡ Some v)
stands_there old new home a b it true same o h = absurd cc
stands_there old new home a b it false same o h = subst (λ (t : Text). (v : Named) × (entry_of old (home, t) ≡ Some v)) same h

pub put_there : (old new : Entries) (home : ℕ) (a b : Text) (it other : Named) (r : Bool) → a ≡ b → it ≡ other → r ≡ true → PutsOrStands old (home, a) it new r → Puts old (home, b) other new
put_there old new home a b it other false same one o h = absurd cc
put_there old new home a b it other true same one o h =
    subst (λ (t : Text). Puts old (home, t) other new) same (subst (λ (v : Named). Puts old (home, a) v new) one h)

pub err_is : {T : Type 0} (P : Fault → Type 0) (r : Result T Fault) (e : Fault) → r ≡ Err e → P e → IfErr r P
err_is P r e is p = subst (λ (x : Result _ Fault). IfErr x P) (sym is) p

-- ---- one after the other

declared_same : (s : Sources) (hs hs' : List PackageHead) (is is' : List Item) (ms ms' : List PackageHead) → hs ≡ hs' → is ≡ is' → ms ≡ ms' → Declares s hs is ms → Declares s hs' is' ms'
declared_same s hs hs' is is' ms ms' a b c d =
    subst (λ (l : List PackageHead). Declares s l is' ms') a (subst (λ (l : List Item). Declares s hs l ms') b (subst (λ (l : List PackageHead). Declares s hs is l) c d))

module _ (a b c : Sources) (h1 h2 : List PackageHead) (i1 i2 : List Item) (m1 m2 : List PackageHead) (x : Adds a b h1 i1 m1) (y : Adds b c h2 i2 m2) where
  pub adds_on : Adds a c (h1 ++ h2) (i1 ++ i2) (m1 ++ m2)
  adds_on = record {
    index = y.index;
    texts = y.texts ∙ x.texts;
    grows = λ n h e. y.grows n h (x.grows n h e);
    declares = λ hs is ms d. declared_same c ((hs ++ h1) ++ h2) (hs ++ (h1 ++ h2)) ((is ++ i1) ++ i2) (is ++ (i1 ++ i2)) ((ms ++ m1) ++ m2) (ms ++ (m1 ++ m2))
        (append_assoc hs h1 h2) (append_assoc is i1 i2) (append_assoc ms m1 m2) (y.declares (hs ++ h1) (is ++ i1) (ms ++ m1) (x.declares hs is ms d));
  }

pub adds_same : (a b : Sources) (hs hs' : List PackageHead) (is is' : List Item) (ms : List PackageHead) → hs ≡ hs' → is ≡ is' → Adds a b hs is ms → Adds a b hs' is' ms
adds_same a b hs hs' is is' ms e f x = subst (λ (l : List PackageHead). Adds a b l is' ms) e (subst (λ (l : List Item). Adds a b hs l ms) f x)

pub fault_more : (is js : List Item) (f : Fault) → IsFaultOf is f → IsFaultOf (is ++ js) f
fault_more is js faults.Memory h = tt
fault_more is js faults.Size h = tt
fault_more is js (faults.Broken rule list number) h = absurd h
fault_more is js (faults.Refused r) h = record {
  first = h.first;
  second = h.second;
  before = h.before;
  one = h.one;
  other = h.other;
  one_stands = front_at is js h.first h.one h.one_stands;
  other_stands = front_at is js h.second h.other h.other_stands;
  home = h.home;
  name = h.name;
  text = h.text;
  at = h.at;
  why = h.why;
}

pub fails_first : (a : Sources) (i1 i2 : List Item) (f : Fault) → Fails a i1 f → Fails a (i1 ++ i2) f
fails_first a i1 i2 f x hs is ms d = subst (λ (l : List Item). IsFaultOf l f) (append_assoc is i1 i2) (fault_more (is ++ i1) i2 f (x hs is ms d))

pub fails_on : (a b : Sources) (h1 m1 : List PackageHead) (i1 i2 : List Item) (f : Fault) → Adds a b h1 i1 m1 → Fails b i2 f → Fails a (i1 ++ i2) f
fails_on a b h1 m1 i1 i2 f x y hs is ms d = subst (λ (l : List Item). IsFaultOf l f) (append_assoc is i1 i2) (y (hs ++ h1) (is ++ i1) (ms ++ m1) (x.declares hs is ms d))

pub adds_none : (a : Sources) → IsIndex a → Adds a a [] [] []
adds_none a index = record {
  index = index;
  texts = refl;
  grows = λ n h e. e;
  declares = λ hs is ms d. declared_same a hs (hs ++ []) is (is ++ []) ms (ms ++ []) (sym (append_none hs)) (sym (append_none is)) (sym (append_none ms)) d;
}

-- ---- items, and packages, one after the other

pub items_more : (a b c : Sources) (n t : ℕ) (xs ys : List CodeItem) → AddsItems a b n t xs → AddsItems b c n t ys → AddsItems a c n t (xs ++ ys)
items_more a b c n t xs ys x y = record {
  index = y.index;
  texts = y.texts ∙ x.texts;
  adds = λ head e.
      let f = item_in t (text_at a.texts.now t) head in
      let second : Adds b c [] (map f ys) [] = subst (λ (text : Text). Adds b c [] (map (item_in t text head) ys) []) (ap (λ (l : List Source). text_at l t) x.texts)
      (y.adds head ((x.adds head e).grows n head e)) in
      adds_same a c [] [] (map f xs ++ map f ys) (map f (xs ++ ys)) [] refl (sym (map-append f xs ys)) (adds_on a b c [] [] (map f xs) (map f ys) [] [] (x.adds head e) second);
}

pub items_turn : (a b c : Sources) (n t : ℕ) (xs : List CodeItem) (i : ℕ) (x : CodeItem) → i < length xs → x ≡ get_or xs i x
    → AddsItems a b n t (take i xs) → AddsItems b c n t (x ∷ []) → AddsItems a c n t (take (i + 1) xs)
items_turn a b c n t xs i x below is one two = subst (λ (l : List CodeItem). AddsItems a c n t l) (sym (turned xs i x below is)) (items_more a b c n t (take i xs) (x ∷ []) one two)

pub items_fail : (a b : Sources) (n t : ℕ) (xs : List CodeItem) (i : ℕ) (x : CodeItem) (f : Fault) → i < length xs → x ≡ get_or xs i x
    → AddsItems a b n t (take i xs) → FailsItems b n t (x ∷ []) f → FailsItems a n t xs f
items_fail a b n t xs i x fault below is one two head e =
    let f = item_in t (text_at a.texts.now t) head in
    let adds = one.adds head e in
    let second : Fails b (f x ∷ []) fault = subst (λ (text : Text). Fails b (item_in t text head x ∷ []) fault) (ap (λ (l : List Source). text_at l t) one.texts) (two head (adds.grows n head e)) in
    let whole : ((map f (take i xs) ++ f x ∷ []) ++ map f (drop (i + 1) xs)) ≡ map f xs =
    ap (λ l. l ++ map f (drop (i + 1) xs)) (sym (map-append f (take i xs) (x ∷ [])) ∙ ap (map f) (sym (turned xs i x below is)))
    ∙ (sym (map-append f (take (i + 1) xs) (drop (i + 1) xs)) ∙ ap (map f) (take-append-drop (i + 1) xs)) in
    subst (λ (l : List Item). Fails a l fault) whole (fails_first a (map f (take i xs) ++ f x ∷ []) (map f (drop (i + 1) xs)) fault
    (fails_on a b [] [] (map f (take i xs)) (f x ∷ []) fault adds second))

abbrev AddsPackages' : Sources → Sources → ℕ → Text → List CodePackage → Type 0
AddsPackages' old new t text trees = Adds old new (map (λ it. head_of text it.head) trees) (flat_map (items_in t text) trees) []

abbrev heads_at : Sources → ℕ → List CodePackage → List PackageHead
heads_at a t trees = map (λ it. head_of (text_at a.texts.now t) it.head) trees

abbrev items_at : Sources → ℕ → List CodePackage → List Item
items_at a t trees = flat_map (items_in t (text_at a.texts.now t)) trees

pub packages_more : (a b c : Sources) (t : ℕ) (xs ys : List CodePackage) → AddsPackages a b t xs → AddsPackages b c t ys → AddsPackages a c t (xs ++ ys)
packages_more a b c t xs ys x y =
    let text = text_at a.texts.now t in
    let second : AddsPackages' b c t text ys = subst (λ (l : Text). AddsPackages' b c t l ys) (ap (λ (l : List Source). text_at l t) x.texts) y in
    adds_same a c (heads_at a t xs ++ heads_at a t ys) (heads_at a t (xs ++ ys)) (items_at a t xs ++ items_at a t ys) (items_at a t (xs ++ ys)) []
    (sym (map-append (λ (it : CodePackage). head_of text it.head) xs ys)) (sym (flat_map-append (items_in t text) xs ys))
    (adds_on a b c (heads_at a t xs) (heads_at a t ys) (items_at a t xs) (items_at a t ys) [] [] x second)

pub packages_turn : (a b c : Sources) (t : ℕ) (xs : List CodePackage) (i : ℕ) (x : CodePackage) → i < length xs → x ≡ get_or xs i x
    → AddsPackages a b t (take i xs) → AddsPackages b c t (x ∷ []) → AddsPackages a c t (take (i + 1) xs)
packages_turn a b c t xs i x below is one two = subst (λ (l : List CodePackage). AddsPackages a c t l) (sym (turned xs i x below is)) (packages_more a b c t (take i xs) (x ∷ []) one two)

pub packages_on_fail : (a b : Sources) (t : ℕ) (xs ys zs : List CodePackage) (f : Fault) → AddsPackages a b t xs → FailsPackages b t ys f → FailsPackages a t ((xs ++ ys) ++ zs) f
packages_on_fail a b t xs ys zs fault x y =
    let text = text_at a.texts.now t in
    let second : Fails b (items_at a t ys) fault = subst (λ (l : Text). Fails b (flat_map (items_in t l) ys) fault) (ap (λ (l : List Source). text_at l t) x.texts) y in
    let whole : ((items_at a t xs ++ items_at a t ys) ++ items_at a t zs) ≡ items_at a t ((xs ++ ys) ++ zs) =
    ap (λ l. l ++ items_at a t zs) (sym (flat_map-append (items_in t text) xs ys)) ∙ sym (flat_map-append (items_in t text) (xs ++ ys) zs) in
    subst (λ (l : List Item). Fails a l fault) whole
    (fails_first a (items_at a t xs ++ items_at a t ys) (items_at a t zs) fault (fails_on a b (heads_at a t xs) [] (items_at a t xs) (items_at a t ys) fault x second))

pub packages_fail : (a b : Sources) (t : ℕ) (xs : List CodePackage) (i : ℕ) (x : CodePackage) (f : Fault) → i < length xs → x ≡ get_or xs i x
    → AddsPackages a b t (take i xs) → FailsPackages b t (x ∷ []) f → FailsPackages a t xs f
packages_fail a b t xs i x fault below is one two =
    let whole : ((take i xs ++ x ∷ []) ++ drop (i + 1) xs) ≡ xs = ap (λ l. l ++ drop (i + 1) xs) (sym (turned xs i x below is)) ∙ take-append-drop (i + 1) xs in
    subst (λ (l : List CodePackage). FailsPackages a t l fault) whole (packages_on_fail a b t (take i xs) (x ∷ []) (drop (i + 1) xs) fault one two)

-- a package, and its items
pub package_adds : (a b c : Sources) (t n : ℕ) (tree : CodePackage) → Numbers a b (head_of (text_at a.texts.now t) tree.head) n → AddsItems b c n t tree.items.items
    → AddsPackages a c t (tree ∷ []) × IsNumberOf c (head_of (text_at a.texts.now t) tree.head) n
package_adds a b c t n tree x y =
    let head = head_of (text_at a.texts.now t) tree.head in
    let second : Adds b c [] (items_in t (text_at a.texts.now t) tree) [] =
    subst (λ (text : Text). Adds b c [] (map (item_in t text head) tree.items.items) []) (ap (λ (l : List Source). text_at l t) x.adds.texts) (y.adds head x.number) in (
      adds_same a c (head ∷ []) (head ∷ []) (items_in t (text_at a.texts.now t) tree) (items_at a t (tree ∷ [])) [] refl (sym (append_none (items_in t (text_at a.texts.now t) tree)))
          (adds_on a b c (head ∷ []) [] [] (items_in t (text_at a.texts.now t) tree) [] [] x.adds second),
      second.grows n head x.number,
    )

pub package_fails : (a b : Sources) (t n : ℕ) (tree : CodePackage) (f : Fault) → Numbers a b (head_of (text_at a.texts.now t) tree.head) n → FailsItems b n t tree.items.items f
    → FailsPackages a t (tree ∷ []) f
package_fails a b t n tree fault x y =
    let head = head_of (text_at a.texts.now t) tree.head in
    let second : Fails b (items_in t (text_at a.texts.now t) tree) fault =
    subst (λ (text : Text). Fails b (map (item_in t text head) tree.items.items) fault) (ap (λ (l : List Source). text_at l t) x.adds.texts) (y head x.number) in
    subst (λ (l : List Item). Fails a l fault) (sym (append_none (items_in t (text_at a.texts.now t) tree)))
    (fails_on a b (head ∷ []) [] [] (items_in t (text_at a.texts.now t) tree) fault x.adds second)

-- ---- a text

module _ (b : Sources) (index : IsIndex b) (head : PackageHead) (n : ℕ) (number : IsNumberOf b head n) (mains : Vec ℕ Global) (more : mains.items ≡ b.mains.items ++ n ∷ []) where
  abbrev with_main : Sources
  with_main = record b { mains = mains }

  main_adds : Adds b with_main [] [] (head ∷ [])
  main_adds = record {
    index = record { numbers = index.numbers; few = index.few; apart = index.apart; interfaces = index.interfaces; worlds = index.worlds };
    texts = refl;
    grows = λ m h e. e;
    declares = λ hs is ms d.
        let all : Declares with_main hs is (ms ++ head ∷ []) = record {
          packages = d.packages;
          mains = subst (λ (l : List ℕ). AllZip (IsNumberOf b) (ms ++ head ∷ []) l) (sym more) (zip-append (IsNumberOf b) ms b.mains.items (head ∷ []) (n ∷ []) d.mains (number, tt));
          interfaces = zip-kept (IsInterface b) (IsInterface with_main) (λ x y i. record { text = i.text; home = i.home; at = i.at; tree = i.tree }) (filter is_interface is) b.interfaces.items
              d.interfaces;
          worlds = zip-kept (IsWorld b) (IsWorld with_main) (λ x y i. record { text = i.text; home = i.home; at = i.at; tree = i.tree }) (filter (λ i. not (is_interface i)) is)
              b.worlds.items d.worlds;
          apart = d.apart;
        } in
        declared_same with_main hs (hs ++ []) is (is ++ []) (ms ++ head ∷ []) (ms ++ head ∷ []) (sym (append_none hs)) (sym (append_none is)) refl all;
  }

module _ (a : Sources) (t : ℕ) (source : Source) (text_is : text_at a.texts.now t ≡ source.text.now) where
  abbrev main_package : CodePackage
  main_package = source.file.now.main

  abbrev nested_packages : List CodePackage
  nested_packages = source.file.now.nested.items

  file_items : items_at a t (main_package ∷ []) ++ items_at a t nested_packages ≡ items_at a t (main_package ∷ nested_packages)
  file_items = ap (λ l. l ++ items_at a t nested_packages) (append_none (items_in t (text_at a.texts.now t) main_package))

  pub first_fails : (f : Fault) → FailsPackages a t (main_package ∷ []) f → Fails a (items_of t source) f
  first_fails f x = subst (λ (text : Text). Fails a (flat_map (items_in t text) (packages_in source)) f) text_is
      (subst (λ (l : List Item). Fails a l f) file_items (fails_first a (items_at a t (main_package ∷ [])) (items_at a t nested_packages) f x))

  module _ (b c : Sources) (n : ℕ) (mains : Vec ℕ Global) (first : AddsPackages a b t (main_package ∷ [])) (number : IsNumberOf b (head_of (text_at a.texts.now t) main_package.head) n)
      (more : mains.items ≡ b.mains.items ++ n ∷ []) where
    abbrev between : Sources
    between = record b { mains = mains }

    abbrev main_head : PackageHead
    main_head = head_of (text_at a.texts.now t) main_package.head

    begun : Adds a between (main_head ∷ []) (items_at a t (main_package ∷ [])) (main_head ∷ [])
    begun = adds_same a between (main_head ∷ []) (main_head ∷ []) (items_at a t (main_package ∷ []) ++ []) (items_at a t (main_package ∷ [])) (main_head ∷ []) refl
        (append_none (items_at a t (main_package ∷ [])))
        (adds_on a b between (main_head ∷ []) [] (items_at a t (main_package ∷ [])) [] [] (main_head ∷ []) first (main_adds b first.index main_head n number mains more))

    pub nested_fails : (f : Fault) → FailsPackages between t nested_packages f → Fails a (items_of t source) f
    nested_fails f x =
        let second : Fails between (items_at a t nested_packages) f = subst (λ (text : Text). Fails between (flat_map (items_in t text) nested_packages) f)
        (ap (λ (l : List Source). text_at l t) first.texts) x in
        subst (λ (text : Text). Fails a (flat_map (items_in t text) (packages_in source)) f) text_is
        (subst (λ (l : List Item). Fails a l f) file_items (fails_on a between (main_head ∷ []) (main_head ∷ []) (items_at a t (main_package ∷ [])) (items_at a t nested_packages) f begun second))

    pub file_adds : AddsPackages between c t nested_packages → Adds a c (heads_in source) (items_of t source) (main_of source ∷ [])
    file_adds x =
        let second : AddsPackages' between c t (text_at a.texts.now t) nested_packages =
        subst (λ (l : Text). AddsPackages' between c t l nested_packages) (ap (λ (l : List Source). text_at l t) first.texts) x in
        subst (λ (text : Text). Adds a c (map (λ (it : CodePackage). head_of text it.head) (packages_in source)) (flat_map (items_in t text) (packages_in source))
        (head_of text main_package.head ∷ [])) text_is
        (adds_same a c (main_head ∷ heads_at a t nested_packages) (main_head ∷ heads_at a t nested_packages) (items_at a t (main_package ∷ []) ++ items_at a t nested_packages)
        (items_at a t (main_package ∷ nested_packages)) (main_head ∷ []) refl file_items
        (adds_on a between c (main_head ∷ []) (heads_at a t nested_packages) (items_at a t (main_package ∷ [])) (items_at a t nested_packages) (main_head ∷ []) [] begun second))

-- ---- all texts

pub nothing_yet : (s : Sources) → s.packages.items ≡ [] → s.mains.items ≡ [] → s.interfaces.items ≡ [] → s.worlds.items ≡ [] → Declares s [] [] []
nothing_yet s p m i w = record {
  packages = subst (λ (l : List PackageHead). AreFirsts [] l) (sym (ap (map (head_there s.texts.now)) p)) no_more;
  mains = subst (λ (l : List ℕ). AllZip (IsNumberOf s) [] l) (sym m) tt;
  interfaces = subst (λ (l : List InterfaceSource). AllZip (IsInterface s) [] l) (sym i) tt;
  worlds = subst (λ (l : List WorldSource). AllZip (IsWorld s) [] l) (sym w) tt;
  apart = λ j k a b ea eb h n. absurd (none_there j a ea);
}

enumerated : {X : Type 0} (n : ℕ) (xs ys : List X) → enumerate_from n (xs ++ ys) ≡ enumerate_from n xs ++ enumerate_from (n + length xs) ys
enumerated n [] ys = ap (λ (k : ℕ). enumerate_from k ys) (omega arith)
enumerated n (x ∷ xs) ys = ap (λ l. (n, x) ∷ l) (enumerated (n + 1) xs ys ∙ ap (λ (k : ℕ). enumerate_from (n + 1) xs ++ enumerate_from k ys) (omega arith))

abbrev item_list : ℕ × Source → List Item
item_list x = items_of x.0 x.1

items_joined : (xs ys : List Source) → all_items (xs ++ ys) ≡ all_items xs ++ flat_map item_list (enumerate_from (length xs) ys)
items_joined xs ys = ap (flat_map item_list) (enumerated 0 xs ys ∙ ap (λ (k : ℕ). enumerate_from 0 xs ++ enumerate_from k ys) (omega arith))
    ∙ flat_map-append item_list (enumerate_from 0 xs) (enumerate_from (length xs) ys)

module _ (texts : List Source) (i : ℕ) (source : Source) (below : i < length texts) (is_source : source ≡ get_or texts i source) (n : ℕ) (is_number : n ≡ i) where
  next_items : all_items (take i texts) ++ items_of n source ≡ all_items (take (i + 1) texts)
  next_items = sym (ap all_items (turned texts i source below is_source) ∙ (items_joined (take i texts) (source ∷ []) ∙ ap (λ l. all_items (take i texts) ++ l)
      (append_none (items_of (length (take i texts)) source) ∙ ap (λ (k : ℕ). items_of k source) (length-take-le i texts (omega arith) ∙ sym is_number))))

  next_heads : all_heads (take i texts) ++ heads_in source ≡ all_heads (take (i + 1) texts)
  next_heads = sym (ap all_heads (turned texts i source below is_source)
      ∙ (flat_map-append heads_in (take i texts) (source ∷ []) ∙ ap (λ l. all_heads (take i texts) ++ l) (append_none (heads_in source))))

  next_mains : all_mains (take i texts) ++ main_of source ∷ [] ≡ all_mains (take (i + 1) texts)
  next_mains = sym (ap all_mains (turned texts i source below is_source) ∙ map-append main_of (take i texts) (source ∷ []))

  module _ (a : Sources) (d : Declares a (all_heads (take i texts)) (all_items (take i texts)) (all_mains (take i texts))) where
    pub text_adds : (b : Sources) → Adds a b (heads_in source) (items_of n source) (main_of source ∷ [])
        → Declares b (all_heads (take (i + 1) texts)) (all_items (take (i + 1) texts)) (all_mains (take (i + 1) texts))
    text_adds b x = declared_same b (all_heads (take i texts) ++ heads_in source) (all_heads (take (i + 1) texts)) (all_items (take i texts) ++ items_of n source) (all_items (take (i + 1) texts))
        (all_mains (take i texts) ++ main_of source ∷ []) (all_mains (take (i + 1) texts)) next_heads next_items next_mains
        (x.declares (all_heads (take i texts)) (all_items (take i texts)) (all_mains (take i texts)) d)

    pub text_fails : (f : Fault) → Fails a (items_of n source) f → IsFaultOf (all_items texts) f
    text_fails f x =
        let here_fails : IsFaultOf (all_items (take (i + 1) texts)) f = subst (λ (l : List Item). IsFaultOf l f) next_items
        (x (all_heads (take i texts)) (all_items (take i texts)) (all_mains (take i texts)) d) in
        let whole : all_items (take (i + 1) texts) ++ flat_map item_list (enumerate_from (length (take (i + 1) texts)) (drop (i + 1) texts)) ≡ all_items texts =
        sym (items_joined (take (i + 1) texts) (drop (i + 1) texts)) ∙ ap all_items (take-append-drop (i + 1) texts) in
        subst (λ (l : List Item). IsFaultOf l f) whole (fault_more (all_items (take (i + 1) texts)) (flat_map item_list (enumerate_from (length (take (i + 1) texts)) (drop (i + 1) texts)))
        f here_fails)
