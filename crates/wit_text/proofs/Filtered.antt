-- Items of the packages of texts, and what is known of them by number. Serves read.
use Rattle.std.proofs.Common.{◌≡◌, ◌∙◌, refl, sym, ap, subst, ◌+◌, ◌&&◌, not, ℕ, Bool, true, false, cond, nat_eq, true≢false, List, [], ◌∷◌, ◌++◌, Option, Some, None, option_map, slice_get, map, filter, if◌then◌else◌}
use Rattle.std.specs.List.{AllZip, cons_option, flat_map, filter_map, enumerate_from}
use Rattle.std.specs.Option.{option_eq}
use Rattle.std.proofs.lemmas.Bool.{and_parts, eqb-true, eqb-false}
use Rattle.std.proofs.lemmas.List.{map-append}
use Rattle.std.proofs.lemmas.List.Elements.{filter-append}
use Rattle.std.proofs.lemmas.Grind.{flat_map-append}
use Rattle.std.proofs.lemmas.Option.{slice_get-map}
use Rattle.wit_model.specs.Text.{Text, text_eq}
use Rattle.wit_model.proofs.TextLemmas.{text_alike, text_same}
use Rattle.print_grammar.specs.Tree.{ItemTree, ItemTree.InterfaceItem, ItemTree.WorldItem, PackageHead, PackageTree}
use Rattle.text_plain.specs.declared.files.{ItemTree.ItemTree as CodeItem, PackageTree.PackageTree as CodePackage}
use Rattle.text_trees.specs.declared.tree.{Span.Span}
use Rattle.text_plain.specs.FilesSeen.{item_of, package_of}
use Rattle.text_trees.specs.TreesSeen.{docs_of, gates_of, head_of, member_of, world_member_of}
use Rattle.text_trees.specs.Seen.{cut}
use Rattle.text_names.specs.declared.source.Source.{Source}
use Rattle.text_names.specs.declared.sources.{InterfaceSource.InterfaceSource, PackageSource.PackageSource, Sources.Sources, WorldSource.WorldSource}
use Rattle.text_names.specs.Contents.{all_heads, all_items, heads_in, is_interface, item_in, items_in, items_of as items_in_text, packages_in, text_at, Item}
use Rattle.text_names.specs.Tables.{head_there, IsIndex, IsInterface, IsNumberOf, IsWorld}
use Rattle.text_types.specs.Each.{EachIs}
use Rattle.text_shown.specs.Shows.{interface_of, items_of, packages_of, world_of, InterfaceTree}
use Rattle.text_shown.specs.ShowsWorlds.{WorldTree}
use Rattle.text_shown.proofs.{Resources.filter_first, Uses.optional_same}
use Rattle.wit_text.specs.{Listed.is_of, Listed.is_world_of, Mains.files_of}
use Rattle.text_plain.specs.Moved.{same_head}
use Rattle.text_plain.specs.Scopes.{bare_head}

-- ---- packages of texts, and their items

pub all_heads_there : (texts : List Source) → map (λ p. bare_head p.head) (packages_of (files_of texts)) ≡ all_heads texts
all_heads_there [] = refl
all_heads_there (t ∷ ts) =
    map-append (λ (p : PackageTree). bare_head p.head) (map (package_of t.text.now) (packages_in t)) (packages_of (files_of ts))
    ∙ (ap (λ hs. hs ++ map (λ (p : PackageTree). bare_head p.head) (packages_of (files_of ts))) (heads t.text.now (packages_in t))
    ∙ ap (λ hs. heads_in t ++ hs) (all_heads_there ts))
  where
    heads : (text : Text) (its : List CodePackage) → map (λ (p : PackageTree). bare_head p.head) (map (package_of text) its) ≡ map (λ it. head_of text it.head) its
    heads text [] = refl
    heads text (it ∷ its) = ap (λ hs. head_of text it.head ∷ hs) (heads text its)

module _ (head : PackageHead) where
  -- whether an item is of the package of this name
  abbrev pub is_home : Item → Bool
  is_home item = same_head item.home head

  -- the trees of those items that are
  abbrev pub trees_home : List Item → List ItemTree
  trees_home items = map (λ i. i.tree) (filter is_home items)

  -- the items of a package, if it has the name
  abbrev pub of_package : PackageTree → List ItemTree
  of_package p = if same_head p.head head then p.items else []

  one_package : (n : ℕ) (text : Text) (home : PackageHead) (items : List CodeItem) (b : Bool) → same_head home head ≡ b
      → trees_home (map (item_in n text home) items) ≡ (if b then map (item_of text) items else [])
  one_package n text home [] true e = refl
  one_package n text home [] false e = refl
  one_package n text home (x ∷ xs) true e =
      ap (λ b. map (λ (i : Item). i.tree) (cond b (item_in n text home x ∷ filter is_home (map (item_in n text home) xs))
      (filter is_home (map (item_in n text home) xs)))) e ∙ ap (λ ts. item_of text x ∷ ts) (one_package n text home xs true e)
  one_package n text home (x ∷ xs) false e =
      ap (λ b. map (λ (i : Item). i.tree) (cond b (item_in n text home x ∷ filter is_home (map (item_in n text home) xs))
      (filter is_home (map (item_in n text home) xs)))) e ∙ one_package n text home xs false e

  homes_append : (xs ys : List Item) → trees_home (xs ++ ys) ≡ trees_home xs ++ trees_home ys
  homes_append xs ys =
      ap (map (λ (i : Item). i.tree)) (filter-append is_home xs ys) ∙ map-append (λ (i : Item). i.tree) (filter is_home xs) (filter is_home ys)

  some_packages : (n : ℕ) (text : Text) (its : List CodePackage) → flat_map of_package (map (package_of text) its) ≡ trees_home (flat_map (items_in n text) its)
  some_packages n text [] = refl
  some_packages n text (it ∷ its) =
      ap (λ ts. of_package (package_of text it) ++ ts) (some_packages n text its)
      ∙ (ap (λ ts. ts ++ trees_home (flat_map (items_in n text) its))
      (sym (one_package n text (head_of text it.head) it.items.items (same_head (head_of text it.head) head) refl))
      ∙ sym (homes_append (items_in n text it) (flat_map (items_in n text) its)))

  all_from : (n : ℕ) (texts : List Source) → items_of (files_of texts) head ≡ trees_home (flat_map (λ x. items_in_text x.0 x.1) (enumerate_from n texts))
  all_from n [] = refl
  all_from n (t ∷ ts) =
      flat_map-append of_package (map (package_of t.text.now) (packages_in t)) (packages_of (files_of ts))
      ∙ (ap (λ xs. xs ++ items_of (files_of ts) head) (some_packages n t.text.now (packages_in t))
      ∙ (ap (λ xs. trees_home (items_in_text n t) ++ xs) (all_from (n + 1) ts)
      ∙ sym (homes_append (items_in_text n t) (flat_map (λ x. items_in_text x.0 x.1) (enumerate_from (n + 1) ts)))))

  pub items_there : (texts : List Source) → items_of (files_of texts) head ≡ trees_home (all_items texts)
  items_there texts = all_from 0 texts

-- ---- the same name

head_parts : (c d : List Text) (e f g h : Text) (i j : Option Text) → c ≡ d → e ≡ f → g ≡ h → i ≡ j
    → ◌≡◌ {A = PackageHead} (record { docs = c; namespace = e; name = g; version = i }) (record { docs = d; namespace = f; name = h; version = j })
head_parts c d e f g h i j p q r t = cc

head_same : (a b : PackageHead) → a.docs ≡ b.docs → same_head a b ≡ true → a ≡ b
head_same a b docs h =
    let k = and_parts (text_eq a.namespace b.namespace && text_eq a.name b.name) (option_eq text_eq a.version b.version) h in
    let l = and_parts (text_eq a.namespace b.namespace) (text_eq a.name b.name) k.0 in
    let namespace = text_same a.namespace b.namespace l.0 in
    let name = text_same a.name b.name l.1 in
    let version = optional_same a.version b.version k.1 in
    head_parts a.docs b.docs a.namespace b.namespace a.name b.name a.version b.version docs namespace name version

head_alike : (a : PackageHead) → same_head a a ≡ true
head_alike a =
    ap (λ b. b && text_eq a.name a.name && option_eq text_eq a.version a.version) (text_alike a.namespace)
    ∙ (ap (λ b. b && option_eq text_eq a.version a.version) (text_alike a.name) ∙ versions a.version)
  where
    versions : (v : Option Text) → option_eq text_eq v v ≡ true
    versions None = refl
    versions (Some x) = text_alike x

-- packages that are listed have no documentation
no_head_docs : (s : Sources) (n : ℕ) (head : PackageHead) → IsNumberOf s head n → head.docs ≡ []
no_head_docs s n head is = by (slice_get s.packages.items n) (sym (slice_get-map (head_there s.texts.now) s.packages.items n) ∙ is)
  where
    by : (o : Option PackageSource) → option_map (head_there s.texts.now) o ≡ Some head → head.docs ≡ []
    by None e = absurd (cc e)
    by (Some p) e = let same : head_there s.texts.now p ≡ head = cc e in ap (λ h. h.docs) (sym same)

module _ (s : Sources) (index : IsIndex s) (n : ℕ) (head : PackageHead) (is : IsNumberOf s head n) where
  -- an item of a package has its name where it has its number
  same_package : (home : PackageHead) (m : ℕ) → IsNumberOf s home m → same_head home head ≡ nat_eq m n
  same_package home m its = by (nat_eq m n) refl (same_head home head) refl
    where
      by : (b : Bool) → nat_eq m n ≡ b → (d : Bool) → same_head home head ≡ d → same_head home head ≡ nat_eq m n
      by true e true f = f ∙ sym e
      by false e false f = f ∙ sym e
      by true e false f =
          let number : m ≡ n = eqb-true m n e in
          let name : home ≡ head = cc (its, is, number) in
          let alike : same_head home head ≡ true = ap (λ h. same_head h head) name ∙ head_alike head in
          absurd (true≢false (sym alike ∙ f))
      by false e true f =
          let name : home ≡ head = head_same home head (no_head_docs s m home its ∙ sym (no_head_docs s n head is)) f in
          absurd (eqb-false m n e (index.apart m n head (its ∙ ap Some name) is))

-- the tree of an interface
abbrev pub interface_tree : Sources → InterfaceSource → InterfaceTree
interface_tree s source = record {
  docs = docs_of (text_at s.texts.now source.text) source.docs;
  gates = gates_of (text_at s.texts.now source.text) source.gates;
  name = cut (text_at s.texts.now source.text) source.name;
  members = map (member_of (text_at s.texts.now source.text)) source.members.now.items;
}

-- the tree of a world
abbrev pub world_tree : Sources → WorldSource → WorldTree
world_tree s source = record {
  docs = docs_of (text_at s.texts.now source.text) source.docs;
  gates = gates_of (text_at s.texts.now source.text) source.gates;
  name = cut (text_at s.texts.now source.text) source.name;
  members = map (world_member_of (text_at s.texts.now source.text)) source.members.now.items;
}

-- The tree is that of the interface.
abbrev pub IsInterfaceTree : Sources → InterfaceTree → InterfaceSource → Type 0
IsInterfaceTree s tree source = tree ≡ interface_tree s source

-- The tree is that of the world.
abbrev pub IsWorldTree : Sources → WorldTree → WorldSource → Type 0
IsWorldTree s tree source = tree ≡ world_tree s source

-- ---- lists that are filtered alike

picked : {X Y : Type 0} (h : X → Option Y) (x : X) (xs : List X) (o : Option Y) → h x ≡ o → filter_map h (x ∷ xs) ≡ cons_option o (filter_map h xs)
picked h x xs o e = ap (λ o. cons_option o (filter_map h xs)) e

module _ {T S : Type 0} (pick : ItemTree → Option T) (kind : Item → Bool) (IsOf : Item → S → Type 0) (home_of : S → ℕ) (Is : T → S → Type 0) (n : ℕ)
    (head : PackageHead) (taken : (item : Item) (source : S) → IsOf item source → (tree : T) × (pick item.tree ≡ Some tree) × Is tree source)
    (left : (item : Item) → kind item ≡ false → pick item.tree ≡ None)
    (same : (item : Item) (source : S) → IsOf item source → same_head item.home head ≡ nat_eq (home_of source) n) where
  -- what is picked of items, and their sources
  abbrev Alike : List Item → List S → Type 0
  Alike items sources = EachIs Is (filter_map pick (trees_home head items)) (filter (λ x. nat_eq (home_of x) n) sources)

  not_picked : (item : Item) (items : List Item) (sources : List S) → kind item ≡ false → Alike items sources → Alike (item ∷ items) sources
  not_picked item items sources e h = by (same_head item.home head) refl
    where
      by : (b : Bool) → same_head item.home head ≡ b → Alike (item ∷ items) sources
      by true f =
          subst (λ is. EachIs Is (filter_map pick (map (λ (i : Item). i.tree) is)) (filter (λ x. nat_eq (home_of x) n) sources))
          (sym (filter_first (is_home head) item items f))
          (subst (λ ts. EachIs Is ts (filter (λ x. nat_eq (home_of x) n) sources)) (sym (picked pick item.tree (trees_home head items) None (left item e))) h)
      by false f =
          subst (λ is. EachIs Is (filter_map pick (map (λ (i : Item). i.tree) is)) (filter (λ x. nat_eq (home_of x) n) sources))
          (sym (filter_first (is_home head) item items f)) h

  is_picked : (item : Item) (items : List Item) (source : S) (sources : List S) → IsOf item source → Alike items sources → Alike (item ∷ items) (source ∷ sources)
  is_picked item items source sources k h = by (nat_eq (home_of source) n) refl
    where
      by : (b : Bool) → nat_eq (home_of source) n ≡ b → Alike (item ∷ items) (source ∷ sources)
      by true e =
          let it = taken item source k in
          subst (λ ss. EachIs Is (filter_map pick (trees_home head (item ∷ items))) ss) (sym (filter_first (λ x. nat_eq (home_of x) n) source sources e))
          (subst (λ is. EachIs Is (filter_map pick (map (λ (i : Item). i.tree) is)) (source ∷ filter (λ x. nat_eq (home_of x) n) sources))
          (sym (filter_first (is_home head) item items (same item source k ∙ e)))
          (subst (λ ts. EachIs Is ts (source ∷ filter (λ x. nat_eq (home_of x) n) sources))
          (sym (picked pick item.tree (trees_home head items) (Some it.0) it.1)) (EachIs.one_more it.2 h)))
      by false e =
          subst (λ ss. EachIs Is (filter_map pick (trees_home head (item ∷ items))) ss) (sym (filter_first (λ x. nat_eq (home_of x) n) source sources e))
          (subst (λ is. EachIs Is (filter_map pick (map (λ (i : Item). i.tree) is)) (filter (λ x. nat_eq (home_of x) n) sources))
          (sym (filter_first (is_home head) item items (same item source k ∙ e))) h)

  one_item : (item : Item) (items : List Item) (sources : List S) → ((ss : List S) → AllZip IsOf (filter kind items) ss → Alike items ss)
      → AllZip IsOf (filter kind (item ∷ items)) sources → Alike (item ∷ items) sources
  one_item item items sources rest h = by (kind item) refl
    where
      goes : (ss : List S) → AllZip IsOf (item ∷ filter kind items) ss → Alike (item ∷ items) ss
      goes [] k = absurd k
      goes (s ∷ ss) k = is_picked item items s ss k.0 (rest ss k.1)

      by : (b : Bool) → kind item ≡ b → Alike (item ∷ items) sources
      by true e = goes sources (subst (λ xs. AllZip IsOf xs sources) (filter_first kind item items e) h)
      by false e = not_picked item items sources e (rest sources (subst (λ xs. AllZip IsOf xs sources) (filter_first kind item items e) h))

  pub filtered : (items : List Item) (sources : List S) → AllZip IsOf (filter kind items) sources → Alike items sources
  filtered [] [] h = EachIs.no_more
  filtered [] (x ∷ xs) h = absurd h
  filtered (item ∷ items) sources h = one_item item items sources (λ ss k. filtered items ss k) h

-- ---- interfaces and worlds of a package

no_interface : (item : Item) → is_interface item ≡ false → interface_of item.tree ≡ None
no_interface item = go item.text item.home item.at item.tree
  where
    go : (text : ℕ) (home : PackageHead) (at : Span) (tree : ItemTree) → is_interface (record { text = text; home = home; at = at; tree = tree }) ≡ false
        → interface_of tree ≡ None
    go text home at (InterfaceItem docs gates name members) e = absurd (true≢false e)
    go text home at (WorldItem docs gates name members) e = refl

no_world : (item : Item) → not (is_interface item) ≡ false → world_of item.tree ≡ None
no_world item = go item.text item.home item.at item.tree
  where
    go : (text : ℕ) (home : PackageHead) (at : Span) (tree : ItemTree) → not (is_interface (record { text = text; home = home; at = at; tree = tree })) ≡ false
        → world_of tree ≡ None
    go text home at (InterfaceItem docs gates name members) e = refl
    go text home at (WorldItem docs gates name members) e = absurd (true≢false e)

module _ (s : Sources) (index : IsIndex s) (n : ℕ) (head : PackageHead) (is : IsNumberOf s head n) (texts : List Source) where
  pub interfaces_filtered : AllZip (IsInterface s) (filter is_interface (all_items texts)) s.interfaces.items
      → EachIs (IsInterfaceTree s) (filter_map interface_of (items_of (files_of texts) head)) (filter (is_of n) s.interfaces.items)
  interfaces_filtered h =
      subst (λ ts. EachIs (IsInterfaceTree s) (filter_map interface_of ts) (filter (is_of n) s.interfaces.items)) (sym (items_there head texts))
      (filtered interface_of is_interface (IsInterface s) (λ x. x.«package») (IsInterfaceTree s) n head
      (λ item source k. (_, ap interface_of (sym k.tree), refl)) no_interface
      (λ item source k. same_package s index n head is item.home source.«package» k.home) (all_items texts) s.interfaces.items h)

  pub worlds_filtered : AllZip (IsWorld s) (filter (λ item. not (is_interface item)) (all_items texts)) s.worlds.items
      → EachIs (IsWorldTree s) (filter_map world_of (items_of (files_of texts) head)) (filter (is_world_of n) s.worlds.items)
  worlds_filtered h =
      subst (λ ts. EachIs (IsWorldTree s) (filter_map world_of ts) (filter (is_world_of n) s.worlds.items)) (sym (items_there head texts))
      (filtered world_of (λ item. not (is_interface item)) (IsWorld s) (λ x. x.«package») (IsWorldTree s) n head
      (λ item source k. (_, ap world_of (sym k.tree), refl)) no_world
      (λ item source k. same_package s index n head is item.home source.«package» k.home) (all_items texts) s.worlds.items h)
