-- What is stated, as entries of a world. Serves exports, imports, worlds.
use Rattle.base_lemmas.proofs.Lists.{at_last}
use Rattle.base_lemmas.proofs.Elements.{last_of}
use Rattle.base_lemmas.proofs.Elements.{first-contained}
use Rattle.std.proofs.Common.{◌≡◌, ◌∙◌, refl, sym, ap, subst, ℕ, true, false, nat_eq, List, [], ◌∷◌, ◌++◌, Option, Some}
use Rattle.std.proofs.Common.{None, is_some, slice_get, map, Contains, ◌⊎◌, inl, inr, Result, IfOk, true≢false}
use Rattle.std.proofs.Common.{append-nil, String}
use Rattle.std.proofs.lemmas.Bool.{eqb-true}
use Rattle.std.proofs.lemmas.List.Elements.{Contains-append_right}
use Rattle.std.specs.declared.alloc.Global.{Global}
use Rattle.base_lemmas.proofs.{Elements.any-contains}
use Rattle.std.specs.{Borrow.Bor}
use Rattle.indexmap.specs.IndexMap.{get}
use Rattle.wit_model.specs.Text.{Text}
use Rattle.wit_model.specs.declared.model.{TypeDef.TypeDef, WorldItem.WorldItem, WorldKey.WorldKey, InterfaceId.InterfaceId}
use Rattle.wit_model.specs.declared.model.WorldKey.TheVariants as key
use Rattle.wit_model.specs.declared.model.WorldItem.TheVariants as item
use Rattle.print_grammar.specs.Tree.{ExternTree.Path, ExternTree.NamedPath, ExternTree.NamedInterface}
use Rattle.print_grammar.specs.Tree.{MemberTree, PathTree, Prefix}
use Rattle.text_names.specs.declared.sources.Sources.{Sources}
use Rattle.text_trees.specs.declared.tree.Prefix.{Prefix as CodePrefix}
use Rattle.text_trees.specs.declared.tree.MemberTree.{MemberTree as CodeMember}
use Rattle.text_trees.specs.TreesSeen.{member_of, prefix_of}
use Rattle.text_types.specs.declared.members.Interfaces.{Interfaces}
use Rattle.text_types.specs.{Begins.Begins, Targets.MeansInterface}
use Rattle.text_shown.specs.ShowsWorlds.{ExternIs, IsBare, IsBare.bare, IsFrontOf, IsOneOf, StandsIn, Stated}
use Rattle.wit_text.specs.{Items.bare_item, Items.has_path, Items.is_path, Items.path_key, Items.IsStated, Items.WorldEntry, Puts.number_at, Puts.IsFrontedBy}
use Rattle.wit_text.specs.MadeInterfaces.{AddsInline, InlineIn}
use Rattle.wit_text.specs.MadeWorlds.{PathIn}
use Rattle.wit_text.specs.Sides.{home_in, one_stated, sources_in, text_of_world, AddsLabel, AddsPaths, AreAmong, AreFronts, Continues}
use Rattle.wit_text.specs.Sides.{Extends}
use Rattle.wit_text.specs.Sides.{GrowsInline, HasLabel, Holds, IsGiven, IsKnown, IsKnown.a_label, IsKnown.a_path, Side}
use Rattle.wit_text.specs.declared.given.Given.{Given}
use Rattle.wit_text.proofs.FrontLaws.{means_same, means_within}
use Rattle.text_types.proofs.Growth.{begins_none}
use Rattle.wit_text.proofs.WorldsGrow.{inline_made_carried}
use Rattle.wit_text.proofs.SideLaws.{contains_nil, grows_interfaces, holds_more, holds_on, holds_paths, Is}

-- ---- keys and items

path_is : (n : ℕ) (k : WorldKey) → is_path n k ≡ true → k ≡ path_key n
path_is n (key.Interface id) h = ap (λ m. key.Interface (record { 0 = m })) (sym (eqb-true n id.0 h))
path_is n (key.Name s) h = absurd (cc h)

key_number : WorldKey → ℕ
key_number (key.Interface id) = id.0
key_number (key.Name s) = 0

path_number : (m n : ℕ) → path_key m ≡ path_key n → m ≡ n
unfolding key_number
path_number m n e = ap key_number e

path_no_label : {P : Type 0} (n : ℕ) (label : String Global) → path_key n ≡ key.Name label → P
path_no_label n label e = absurd (cc e)

front_is : (text : List ℕ) (prefix : CodePrefix) (n : ℕ) (what : WorldItem) → IsStated text prefix n what
    → IsFrontOf (prefix_of text prefix) (record { 0 = n }) what
front_is text prefix n (item.Interface id stability docs external) h = (ap (λ m. record { 0 = m }) h.0, h.1, h.2, h.3)
front_is text prefix n (item.Function f) h = absurd h
front_is text prefix n (item.Type_ id) h = absurd h

-- ---- paths that are stated

module _ {given : Given} {a : Interfaces} (g : IsGiven given a) (side : Side)
    (f : AreFronts (sources_in given) (home_in given) (text_of_world given) side.all side.fronts) where
  path_in : (path : PathTree) (n : ℕ) → MeansInterface (sources_in given) (home_in given) path n
      → PathIn (sources_in given) a (home_in given) path (record { 0 = number_at a.numbers.items n })
  path_in path n means = record { number = n; means = means; made = g.numbered.made n (means_within (sources_in given) (home_in given) path n means) }

  by_path_is : (defs : List TypeDef) (prefix : Prefix) (path : PathTree) (n : ℕ) (front : CodePrefix) (what : WorldItem) (entry : WorldEntry)
      → MeansInterface (sources_in given) (home_in given) path n → IsStated (text_of_world given) front (number_at a.numbers.items n) what
      → prefix_of (text_of_world given) front ≡ prefix → entry ≡ (path_key (number_at a.numbers.items n), what)
      → Is given a defs (record { prefix = prefix; extern = Path path }) entry
  by_path_is defs prefix path n front what entry means fronted same is =
      let id : InterfaceId = record { 0 = number_at a.numbers.items n } in
      let fits : IsFrontOf prefix id what = subst (λ p. IsFrontOf p id what) same (front_is (text_of_world given) front _ what fronted) in
      subst (λ e. Is given a defs (record { prefix = prefix; extern = Path path }) e) (sym is) (ExternIs.by_path (path_in path n means) fits)

  -- a path that is put is one that is stated, or it is bare
  put_by : (defs : List TypeDef) (entry : WorldEntry) (n : ℕ) (what : WorldItem) (o : Option (Bor CodePrefix)) → get nat_eq side.fronts n ≡ o
      → IsFrontedBy (text_of_world given) o (number_at a.numbers.items n) what → entry ≡ (path_key (number_at a.numbers.items n), what)
      → IsOneOf (Is given a defs) side.all entry ⊎ (IsBare entry × (is_some o ≡ false))
  put_by defs entry n what None e fronted is =
      let known : entry ≡ (path_key (number_at a.numbers.items n), bare_item (number_at a.numbers.items n)) =
      is ∙ ap (λ w. (path_key (number_at a.numbers.items n), w)) fronted in
      inr (subst IsBare (sym known) (bare (record { 0 = number_at a.numbers.items n }) refl), refl)
  put_by defs entry n what (Some front) e fronted is =
      let k = f.sound n front e in
      inl (record {
        one = record { prefix = prefix_of (text_of_world given) front.now; extern = Path k.path };
        stated = k.among;
        is = by_path_is defs (prefix_of (text_of_world given) front.now) k.path n front.now what entry k.means fronted refl is;
      })

  pub known_is : (defs : List TypeDef) (entry : WorldEntry) → IsKnown given a defs side entry → IsOneOf (Is given a defs) side.all entry ⊎ IsBare entry
  known_is defs entry (a_label l k) = inl k
  known_is defs entry (a_path k) = by (put_by defs entry k.n k.item (get nat_eq side.fronts k.n) refl k.fronted k.is)
    where
      by : IsOneOf (Is given a defs) side.all entry ⊎ (IsBare entry × (is_some (get nat_eq side.fronts k.n) ≡ false))
          → IsOneOf (Is given a defs) side.all entry ⊎ IsBare entry
      by (inl x) = inl x
      by (inr x) = inr x.0

  pub known_alone : (defs : List TypeDef) → side.alone ≡ true → (entry : WorldEntry) → IsKnown given a defs side entry
      → IsOneOf (Is given a defs) side.all entry
  known_alone defs alone entry (a_label l k) = k
  known_alone defs alone entry (a_path k) = by (put_by defs entry k.n k.item (get nat_eq side.fronts k.n) refl k.fronted k.is)
    where
      by : IsOneOf (Is given a defs) side.all entry ⊎ (IsBare entry × (is_some (get nat_eq side.fronts k.n) ≡ false)) → IsOneOf (Is given a defs) side.all entry
      by (inl x) = x
      by (inr x) = absurd (true≢false (sym (k.alone alone) ∙ x.1))

  -- the interface of a path that is stated has it in front of it
  front_there : (prefix : Prefix) (path : PathTree) (n : ℕ) → Contains side.all (record { prefix = prefix; extern = Path path })
      → MeansInterface (sources_in given) (home_in given) path n
      → (front : Bor CodePrefix) × (get nat_eq side.fronts n ≡ Some front) × (prefix_of (text_of_world given) front.now ≡ prefix)
  front_there prefix path n among means =
      let k = f.complete prefix path among in
      let same : k.n ≡ n = means_same (sources_in given) g.here.index (home_in given) path k.n n k.means means in
      (k.front, subst (λ m. get nat_eq side.fronts m ≡ Some k.front) same k.has, k.same)

  pub front_is_there : (prefix : Prefix) (path : PathTree) (n : ℕ) → AreAmong (one_stated prefix (Path path)) side.all
      → MeansInterface (sources_in given) (home_in given) path n → is_some (get nat_eq side.fronts n) ≡ true
  front_is_there prefix path n among means = ap is_some (front_there prefix path n (among _ (first-contained _ [])) means).1

  standing : (defs : List TypeDef) (prefix : Prefix) (path : PathTree) (n : ℕ) (entry : WorldEntry)
      → Contains side.all (record { prefix = prefix; extern = Path path })
      → MeansInterface (sources_in given) (home_in given) path n → entry.0 ≡ path_key (number_at a.numbers.items n) → IsKnown given a defs side entry
      → Is given a defs (record { prefix = prefix; extern = Path path }) entry
  standing defs prefix path n entry among means is (a_label l k) = path_no_label (number_at a.numbers.items n) l.label (sym is ∙ l.is)
  standing defs prefix path n entry among means is (a_path k) =
      let numbers : number_at a.numbers.items k.n ≡ number_at a.numbers.items n = path_number _ _ (sym (ap (λ (e : WorldEntry). e.0) k.is) ∙ is) in
      let same : k.n ≡ n = g.numbered.apart k.n n k.declared (means_within (sources_in given) (home_in given) path n means) numbers in
      let front = front_there prefix path n among means in
      let fronted : IsFrontedBy (text_of_world given) (get nat_eq side.fronts n) (number_at a.numbers.items n) k.item =
      subst (λ m. IsFrontedBy (text_of_world given) (get nat_eq side.fronts m) (number_at a.numbers.items m) k.item) same k.fronted in
      let stated : IsStated (text_of_world given) front.0.now (number_at a.numbers.items n) k.item =
      subst (λ o. IsFrontedBy (text_of_world given) o (number_at a.numbers.items n) k.item) front.1 fronted in
      let at : entry ≡ (path_key (number_at a.numbers.items n), k.item) =
      subst (λ m. entry ≡ (path_key (number_at a.numbers.items m), k.item)) same k.is in
      by_path_is defs prefix path n front.0.now k.item entry means stated front.2 at

  -- a path that is stated comes with those that are put
  pub extends_path : (prefix : Prefix) (path : PathTree) (n : ℕ) {es fs : List WorldEntry} → AreAmong (one_stated prefix (Path path)) side.all
      → MeansInterface (sources_in given) (home_in given) path n → AddsPaths given a side es fs → has_path fs (number_at a.numbers.items n) ≡ true
      → Extends given side a es fs (one_stated prefix (Path path))
  extends_path prefix path n {es = es} {fs = fs} among means p there = record { on = λ defs seen h. all defs seen h }
    where
      one : Stated
      one = record { prefix = prefix; extern = Path path }

      stands : (defs : List TypeDef) (seen : List Stated) → Holds given a defs side seen fs → StandsIn (Is given a defs) fs one
      stands defs seen h =
          let found = any-contains (λ (e : WorldEntry). is_path (number_at a.numbers.items n) e.0) fs there in
          record {
            entry = found.0;
            there = found.1;
            is = standing defs prefix path n found.0 (among one (first-contained one [])) means (path_is (number_at a.numbers.items n) found.0.0 found.2)
                (h.only found.0 found.1);
          }

      all : (defs : List TypeDef) (seen : List Stated) → Holds given a defs side seen es → Holds given a defs side (seen ++ one ∷ []) fs
      all defs seen h =
          let k : Holds given a defs side seen fs = holds_paths p h in
          subst (λ l. Holds given a defs side (seen ++ one ∷ []) l) (append-nil fs)
          (holds_more (one ∷ []) [] k (λ entry c. contains_nil entry c)
          (λ x c. subst (λ l. StandsIn (Is given a defs) l x) (sym (append-nil fs)) (subst (λ y. StandsIn (Is given a defs) fs y) (last_of one x c) (stands
          defs seen k))))

-- ---- labels

module _ {given : Given} {a : Interfaces} {side : Side} {defs : List TypeDef} where
  -- an entry under a label that is what is stated
  pub holds_label : {seen : List Stated} (one : Stated) (entry : WorldEntry) (es : List WorldEntry) → Contains side.all one → HasLabel entry
      → Is given a defs one entry
      → Holds given a defs side seen es → Holds given a defs side (seen ++ one ∷ []) (es ++ entry ∷ [])
  holds_label {seen = seen} one entry es among label is h =
      holds_more (one ∷ []) (entry ∷ []) h known stands
    where
      known : (e : WorldEntry) → Contains (entry ∷ []) e → IsKnown given a defs side e
      known e c = subst (λ x. IsKnown given a defs side x) (last_of entry e c) (a_label label (record { one = one; stated = among; is = is }))

      stands : (x : Stated) → Contains (one ∷ []) x → StandsIn (Is given a defs) (es ++ entry ∷ []) x
      stands x c = subst (λ y. StandsIn (Is given a defs) (es ++ entry ∷ []) y) (last_of one x c)
          (record { entry = entry; there = Contains-append_right es (entry ∷ []) entry (first-contained entry []); is = is })

module _ {given : Given} {a : Interfaces} (g : IsGiven given a) (side : Side) where
  -- an interface by its path, under a label
  pub extends_label : (prefix : CodePrefix) (name : Text) (path : PathTree) (n number : ℕ) {es mid fs : List WorldEntry}
      → AreAmong (one_stated (prefix_of (text_of_world given) prefix) (NamedPath name path)) side.all → MeansInterface (sources_in given) (home_in given) path n
      → number ≡ number_at a.numbers.items n → AddsPaths given a side es mid → AddsLabel (text_of_world given) prefix name number mid fs
      → Extends given side a es fs (one_stated (prefix_of (text_of_world given) prefix) (NamedPath name path))
  extends_label prefix name path n number {es = es} {mid = mid} {fs = fs} among means at p l = record { on = λ defs seen h. all defs seen h }
    where
      one : Stated
      one = record { prefix = prefix_of (text_of_world given) prefix; extern = NamedPath name path }

      entry : WorldEntry
      entry = (key.Name l.adds.label, l.item)

      made : PathIn (sources_in given) a (home_in given) path (record { 0 = number })
      made = record {
        number = n;
        means = means;
        made = g.numbered.made n (means_within (sources_in given) (home_in given) path n means) ∙ ap (λ m. Some (Some m)) (sym at);
      }

      all : (defs : List TypeDef) (seen : List Stated) → Holds given a defs side seen es → Holds given a defs side (seen ++ one ∷ []) fs
      all defs seen h =
          subst (λ x. Holds given a defs side (seen ++ one ∷ []) x) (sym l.adds.is)
          (holds_label one entry mid (among one (first-contained one [])) (record { label = l.adds.label; is = refl })
          (ExternIs.by_label l.adds.named made (front_is (text_of_world given) prefix number l.item l.fronted)) (holds_paths p h))

pub grows_inline : {s : Sources} {a b : Interfaces} {defs : List TypeDef} {home : ℕ} {trees : List MemberTree} {number : ℕ}
    → AddsInline s a b defs home trees number → GrowsInline a b
grows_inline k = record { list = record { more = k.made ∷ []; is = k.list }; numbers = k.numbers }

-- an interface that stands in the world
pub continues_inline : {given : Given} {a b : Interfaces} {side : Side} {defs after : List TypeDef} (prefix : CodePrefix) (name : Text) (trees : List
    MemberTree)
    (number : ℕ) {es mid fs : List WorldEntry} → AreAmong (one_stated (prefix_of (text_of_world given) prefix) (NamedInterface name trees)) side.all
    → Begins defs after → AddsPaths given a side es mid → AddsInline (sources_in given) a b after (home_in given) trees number
    → AddsLabel (text_of_world given) prefix name number mid fs
    → Continues given side a b defs after es fs (one_stated (prefix_of (text_of_world given) prefix) (NamedInterface name trees))
continues_inline {given = given} {a = a} {b = b} {side = side} {defs = defs} {after = after} prefix name trees number {es = es} {mid = mid} {fs = fs} among
    more p k l =
    record { on = λ seen h. all seen h }
  where
    one : Stated
    one = record { prefix = prefix_of (text_of_world given) prefix; extern = NamedInterface name trees }

    entry : WorldEntry
    entry = (key.Name l.adds.label, l.item)

    grows : GrowsInline a b
    grows = grows_inline k

    there : slice_get b.list.items number ≡ Some k.made
    there = ap (λ l. slice_get l number) k.list ∙ (ap (slice_get (a.list.items ++ k.made ∷ [])) k.last ∙ at_last a.list.items k.made)

    inline : InlineIn (sources_in given) b after (home_in given) trees (record { 0 = number })
    inline = record {
      made = k.made;
      there = there;
      is = inline_made_carried _ (grows_interfaces grows) _ (begins_none after) k.is;
    }

    all : (seen : List Stated) → Holds given a defs side seen es → Holds given b after side (seen ++ one ∷ []) fs
    all seen h =
        subst (λ x. Holds given b after side (seen ++ one ∷ []) x) (sym l.adds.is)
        (holds_label one entry mid (among one (first-contained one [])) (record { label = l.adds.label; is = refl })
        (ExternIs.inline l.adds.named inline (front_is (text_of_world given) prefix number l.item l.fronted)) (holds_on grows more (holds_paths p h)))

-- what an inline interface's contract says, by the text of the world
pub inline_text : {E : Type 0} (s : Sources) (a b : Interfaces) (defs : List TypeDef) (home : ℕ) (text own : List ℕ) (members : List CodeMember) (r : Result ℕ
    E)
    → own ≡ text → IfOk r (AddsInline s a b defs home (map (member_of own) members)) → IfOk r (AddsInline s a b defs home (map (member_of text) members))
inline_text s a b defs home text own members r same h = subst (λ t. IfOk r (AddsInline s a b defs home (map (member_of t) members))) same h
