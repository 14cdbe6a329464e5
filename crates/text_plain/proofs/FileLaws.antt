-- Plain files, with what worlds have.
use Rattle.std.proofs.Common.{◌≡◌, refl, sym, ap, ◌∙◌, subst, ℕ, zero, suc, ◌+◌, ◌<◌, ◌≤◌, arith, List, [], ◌∷◌, ◌++◌, append_assoc, length, map, take, get_or, slice_get, Option, Some, None, Vec}
use Rattle.std.specs.{Global.Global, List.AllZip, List.flat_map}
use Rattle.std.proofs.lemmas.{List.Elements.filter_map-append, List.take_all, Grind.flat_map-append}
use Rattle.base_lemmas.proofs.Lists.{append_none, append_of_map}
use Rattle.base_lemmas.proofs.Elements.{zip-append, zip_at_right}
use Rattle.base_lemmas.proofs.Options.{some_is}
use Rattle.wit_model.specs.Text.{Text}
use Rattle.print_grammar.specs.Tree.{ItemTree, PackageHead}
use Rattle.text_trees.specs.TextTree.{NestedTree, TextItem}
use Rattle.text_trees.specs.TextTreesSeen.{text_item_of}
use Rattle.text_trees.specs.TreesSeen.{docs_of, head_of, world_member_of}
use Rattle.text_plain.specs.FilesSeen.{file_of, item_of, package_of}
use Rattle.text_trees.specs.declared.tree.{Gates.Gates, MemberTree.MemberTree as CodeInterfaceMember, PathTree.PathTree, Span.Span, TextItem.TextItem as CodeItem, WorldMember.WorldMember as CodeMember, WorldPart.WorldPart as CodePart}
use Rattle.text_plain.specs.declared.files.{FileTree.FileTree as CodeFile, ItemTree.ItemTree as CodeItemTree, PackageTree.PackageTree as CodePackage}
use Rattle.text_trees.specs.declared.tree.TextItem.TheVariants as kinds
use Rattle.text_plain.specs.declared.{scopes.Scope.Scope, scopes.TextScopes.TextScopes, worlds.WorldSource.WorldSource, worlds.Worlds.Worlds}
use Rattle.text_plain.specs.Files.{ExpandsIf, Gives, GivesAll, IsFile, IsPackage, PlainsAll, Queue, interface_at, world_at}
use Rattle.text_plain.specs.Plain.{Expands, FileIs, FilesAre, FolderText, ItemsAre, NestedIs, WorldAt, a_name, a_world, aliases_of, an_interface, head_of_text, nested_worlds, no_items, own_worlds, worlds_in, worlds_of_text}
use Rattle.text_plain.specs.Expanding.{AreExpanded}
use Rattle.text_plain.specs.Places.{IsPlaced}
use Rattle.text_plain.specs.Scopes.{AreTextScopes, IsScope, IsTextScope, aliases_in, home_of_scope, items_in}
use Rattle.text_plain.specs.Worlds.{ArePlacedScopes, ArePlacedTexts, scopes_in, world_seen, worlds_of_scope, worlds_of_scopes}
use Rattle.text_plain.proofs.WholeLaws.{turned}

-- ---- items

pub item_put : (whole : Text) (old new : List CodeItemTree) (x : CodeItemTree) (y : ItemTree) → new ≡ old ++ x ∷ [] → item_of whole x ≡ y
    → map (item_of whole) new ≡ map (item_of whole) old ++ y ∷ []
item_put whole old new x y more is = ap (map (item_of whole)) more ∙ (append_of_map (item_of whole) old (x ∷ []) ∙ ap (λ (i : ItemTree). map (item_of whole) old ++ i ∷ []) is)

pub interface_plain : (s : Scope) (item : CodeItem) (docs : Span) (gates : Gates) (name : Span) (members : Vec CodeInterfaceMember Global) → item ≡ kinds.AnInterface docs gates name members
    → (queue : Queue) (old new : List ItemTree) → new ≡ old ++ interface_at s docs gates name members.items ∷ []
    → PlainsAll s.place.whole.now s (text_item_of s.place.from.now item ∷ []) queue queue old new
interface_plain s item docs gates name members is queue old new more =
    subst (λ (it : CodeItem). PlainsAll s.place.whole.now s (text_item_of s.place.from.now it ∷ []) queue queue old new) (sym is)
    (λ worlds ws zip. record { plain = interface_at s docs gates name members.items ∷ []; more = more; are = an_interface no_items; rest = zip })

pub world_plain : (s : Scope) (item : CodeItem) (docs : Span) (gates : Gates) (name : Span) (parts : Vec CodePart Global) → item ≡ kinds.AWorld docs gates name parts
    → (queue left : Queue) (its : Vec CodeMember Global) (old new : List ItemTree) → queue ≡ Some its ∷ left → new ≡ old ++ world_at s docs gates name its.items ∷ []
    → PlainsAll s.place.whole.now s (text_item_of s.place.from.now item ∷ []) queue left old new
world_plain s item docs gates name parts is queue left its old new took more =
    subst (λ (it : CodeItem). PlainsAll s.place.whole.now s (text_item_of s.place.from.now it ∷ []) queue left old new) (sym is)
    (subst (λ (q : Queue). PlainsAll s.place.whole.now s (text_item_of s.place.from.now (kinds.AWorld docs gates name parts) ∷ []) q left old new) (sym took)
    (λ worlds ws zip. record { plain = world_at s docs gates name its.items ∷ []; more = more; are = a_world zip.0 no_items; rest = zip.1 }))

pub name_plain : (s : Scope) (item : CodeItem) (path : PathTree) (own : Option Span) → item ≡ kinds.AName path own → (queue : Queue) (old : List ItemTree)
    → PlainsAll s.place.whole.now s (text_item_of s.place.from.now item ∷ []) queue queue old old
name_plain s item path own is queue old =
    subst (λ (it : CodeItem). PlainsAll s.place.whole.now s (text_item_of s.place.from.now it ∷ []) queue queue old old) (sym is)
    (λ worlds ws zip. record { plain = []; more = sym (append_none old); are = a_name no_items; rest = zip })

items_both : (worlds : List WorldAt) (s : Scope) (xs ys : List TextItem) (ps qs : List ItemTree) → ItemsAre worlds (home_of_scope s) (aliases_in s) xs ps
    → ItemsAre worlds (home_of_scope s) (aliases_in s) ys qs → ItemsAre worlds (home_of_scope s) (aliases_in s) (xs ++ ys) (ps ++ qs)
items_both worlds s xs ys ps qs no_items two = two
items_both worlds s xs ys ps qs (an_interface one) two = an_interface (items_both worlds s _ ys _ qs one two)
items_both worlds s xs ys ps qs (a_world expanded one) two = a_world expanded (items_both worlds s _ ys _ qs one two)
items_both worlds s xs ys ps qs (a_name one) two = a_name (items_both worlds s _ ys _ qs one two)

pub nothing_plain : (whole : Text) (s : Scope) (queue : Queue) (new : List ItemTree) → new ≡ [] → PlainsAll whole s [] queue queue [] new
nothing_plain whole s queue new is worlds ws zip = record { plain = []; more = is; are = no_items; rest = zip }

items_join : (whole : Text) (s : Scope) (xs ys : List TextItem) (q r t : Queue) (m n : List ItemTree) → PlainsAll whole s xs q r [] m → PlainsAll whole s ys r t m n
    → PlainsAll whole s (xs ++ ys) q t [] n
items_join whole s xs ys q r t m n one two worlds ws zip =
    let all : worlds_in (home_of_scope s) (aliases_in s) (xs ++ ys) ++ ws ≡ worlds_in (home_of_scope s) (aliases_in s) xs ++ (worlds_in (home_of_scope s) (aliases_in s) ys ++ ws) =
    ap (λ (l : List WorldAt). l ++ ws) (filter_map-append _ xs ys) ∙ append_assoc (worlds_in (home_of_scope s) (aliases_in s) xs) (worlds_in (home_of_scope s) (aliases_in s) ys) ws in
    let a = one worlds (worlds_in (home_of_scope s) (aliases_in s) ys ++ ws) (subst (λ (l : List WorldAt). AllZip (ExpandsIf whole worlds) l q) all zip) in
    let b = two worlds ws a.rest in
    record {
      plain = a.plain ++ b.plain;
      more = b.more ∙ ap (λ (l : List ItemTree). l ++ b.plain) a.more;
      are = items_both worlds s xs ys a.plain b.plain a.are b.are;
      rest = b.rest;
    }

pub items_turn : (whole : Text) (s : Scope) (items : List CodeItem) (i : ℕ) (x : CodeItem) (q r t : Queue) (m n : List ItemTree) → i < length items → x ≡ get_or items i x
    → PlainsAll whole s (map (text_item_of s.place.from.now) (take i items)) q r [] m → PlainsAll whole s (text_item_of s.place.from.now x ∷ []) r t m n
    → PlainsAll whole s (map (text_item_of s.place.from.now) (take (i + 1) items)) q t [] n
items_turn whole s items i x q r t m n below is one two =
    subst (λ (l : List TextItem). PlainsAll whole s l q t [] n)
    (sym (ap (map (text_item_of s.place.from.now)) (turned items i x below is) ∙ append_of_map (text_item_of s.place.from.now) (take i items) (x ∷ [])))
    (items_join whole s (map (text_item_of s.place.from.now) (take i items)) (text_item_of s.place.from.now x ∷ []) q r t m n one two)

-- ---- packages

pub package_given : (whole : Text) (s : Scope) (it : CodePackage) (q r : Queue) → s.place.whole.now ≡ whole → it.docs ≡ s.heading.docs → it.head ≡ s.heading.head
    → PlainsAll s.place.whole.now s (items_in s) q r [] (map (item_of s.place.whole.now) it.items.items)
    → GivesAll whole (IsPackage whole) worlds_of_scope (s ∷ []) (it ∷ []) q r
package_given whole s it q r is docs head plains worlds ws zip =
    subst (λ (w : Text). AllZip (ExpandsIf w worlds) ((worlds_of_scope s ++ []) ++ ws) q → Gives w worlds (IsPackage w worlds) (s ∷ []) (it ∷ []) ws r) is given zip
  where
    given : AllZip (ExpandsIf s.place.whole.now worlds) ((worlds_of_scope s ++ []) ++ ws) q → Gives s.place.whole.now worlds (IsPackage s.place.whole.now worlds) (s ∷ []) (it ∷ []) ws r
    given zip =
        let p = plains worlds ws (subst (λ (l : List WorldAt). AllZip (ExpandsIf s.place.whole.now worlds) (l ++ ws) q) (append_none (worlds_of_scope s)) zip) in
        let package_is : IsPackage s.place.whole.now worlds s it = record {
          head = ap (λ d. record (head_of s.place.whole.now it.head) { docs = docs_of s.place.whole.now d }) docs
              ∙ ap (λ h. record (head_of s.place.whole.now h) { docs = docs_of s.place.whole.now s.heading.docs }) head;
          items = subst (λ (l : List ItemTree). ItemsAre worlds (home_of_scope s) (aliases_in s) (items_in s) l) (sym p.more) p.are;
        } in
        record { zip = (package_is, tt); rest = p.rest }

-- ---- one after the other

pub none_given : {X Y : Type 0} (whole : Text) (R : List WorldAt → X → Y → Type 0) (own : X → List WorldAt) (queue : Queue) (ys : List Y) → ys ≡ [] → GivesAll whole R own [] ys queue queue
none_given whole R own queue ys is worlds ws zip = record { zip = rw is tt; rest = zip }

given_join : {X Y : Type 0} (whole : Text) (R : List WorldAt → X → Y → Type 0) (own : X → List WorldAt) (xs us : List X) (ys vs : List Y) (q r t : Queue)
    → GivesAll whole R own xs ys q r → GivesAll whole R own us vs r t → GivesAll whole R own (xs ++ us) (ys ++ vs) q t
given_join whole R own xs us ys vs q r t one two worlds ws zip =
    let all : flat_map own (xs ++ us) ++ ws ≡ flat_map own xs ++ (flat_map own us ++ ws) =
    ap (λ (l : List WorldAt). l ++ ws) (flat_map-append own xs us) ∙ append_assoc (flat_map own xs) (flat_map own us) ws in
    let a = one worlds (flat_map own us ++ ws) (subst (λ (l : List WorldAt). AllZip (ExpandsIf whole worlds) l q) all zip) in
    let b = two worlds ws a.rest in
    record { zip = zip-append (R worlds) xs ys us vs a.zip b.zip; rest = b.rest }

pub given_turn : {X Y : Type 0} (whole : Text) (R : List WorldAt → X → Y → Type 0) (own : X → List WorldAt) (xs : List X) (i : ℕ) (x : X) (old new : List Y) (y : Y) (q r t : Queue)
    → i < length xs → x ≡ get_or xs i x → new ≡ old ++ y ∷ [] → GivesAll whole R own (take i xs) old q r → GivesAll whole R own (x ∷ []) (y ∷ []) r t
    → GivesAll whole R own (take (i + 1) xs) new q t
given_turn whole R own xs i x old new y q r t below is more one two =
    subst (λ (l : List _). GivesAll whole R own (take (i + 1) xs) l q t) (sym more)
    (subst (λ (l : List _). GivesAll whole R own l (old ++ y ∷ []) q t) (sym (turned xs i x below is))
    (given_join whole R own (take i xs) (x ∷ []) old (y ∷ []) q r t one two))

pub file_given : (whole : Text) (text : TextScopes) (it : CodeFile) (q r t : Queue) → GivesAll whole (IsPackage whole) worlds_of_scope (text.main ∷ []) (it.main ∷ []) q r
    → GivesAll whole (IsPackage whole) worlds_of_scope text.nested.items it.nested.items r t
    → GivesAll whole (IsFile whole) (λ x. flat_map worlds_of_scope (scopes_in x)) (text ∷ []) (it ∷ []) q t
file_given whole text it q r t one two worlds ws zip =
    let joined = given_join whole (IsPackage whole) worlds_of_scope (text.main ∷ []) text.nested.items (it.main ∷ []) it.nested.items q r t one two worlds ws
    (subst (λ (l : List WorldAt). AllZip (ExpandsIf whole worlds) (l ++ ws) q) (append_none (flat_map worlds_of_scope (scopes_in text))) zip) in
    record { zip = (record { main = joined.zip.0; nested = joined.zip.1 }, tt); rest = joined.rest }

pub items_end : (whole : Text) (s : Scope) (items : List CodeItem) (i : ℕ) (q r : Queue) (m : List ItemTree) → length items ≤ i
    → PlainsAll whole s (map (text_item_of s.place.from.now) (take i items)) q r [] m → PlainsAll whole s (map (text_item_of s.place.from.now) items) q r [] m
items_end whole s items i q r m past plains =
    subst (λ (l : List CodeItem). PlainsAll whole s (map (text_item_of s.place.from.now) l) q r [] m) (take_all i items past) plains

pub package_in : (a b : Text) (s : Scope) (it : CodePackage) (q r : Queue) → a ≡ b → GivesAll a (IsPackage a) worlds_of_scope (s ∷ []) (it ∷ []) q r
    → GivesAll b (IsPackage b) worlds_of_scope (s ∷ []) (it ∷ []) q r
package_in a b s it q r e given = subst (λ (w : Text). GivesAll w (IsPackage w) worlds_of_scope (s ∷ []) (it ∷ []) q r) e given

-- ---- all files

zip_two : {A B C D : Type 0} (R : A → B → Type 0) (Q : B → C → Type 0) (P : A → D → Type 0) (g : C → D) → ((a : A) (b : B) (c : C) → R a b → Q b c → P a (g c))
    → (xs : List A) (ss : List B) (ys : List C) → AllZip R xs ss → AllZip Q ss ys → AllZip P xs (map g ys)
zip_two R Q P g h [] [] [] one two = tt
zip_two R Q P g h [] [] (y ∷ ys) one two = absurd two
zip_two R Q P g h [] (s ∷ ss) ys one two = absurd one
zip_two R Q P g h (x ∷ xs) [] ys one two = absurd one
zip_two R Q P g h (x ∷ xs) (s ∷ ss) [] one two = absurd two
zip_two R Q P g h (x ∷ xs) (s ∷ ss) (y ∷ ys) one two = (h x s y one.0 two.0, zip_two R Q P g h xs ss ys one.1 two.1)

items_seen : (worlds : List WorldAt) (s : Scope) (whole : Text) (home : PackageHead) (items : List TextItem) (plain : List ItemTree) → IsScope whole home items s
    → ItemsAre worlds (home_of_scope s) (aliases_in s) (items_in s) plain → (own : PackageHead) → own ≡ home → ItemsAre worlds own (aliases_of items) items plain
items_seen worlds s whole home items plain is are own e =
    subst (λ (h : PackageHead). ItemsAre worlds h (aliases_of items) items plain) (is.home_is ∙ sym e)
    (subst (λ (a : List _). ItemsAre worlds (home_of_scope s) a items plain) is.aliases
    (subst (λ (l : List TextItem). ItemsAre worlds (home_of_scope s) (aliases_in s) l plain) is.items_are are))

pub file_is : (texts : List FolderText) (whole : Text) (worlds : List WorldAt) (t : FolderText) (s : TextScopes) (f : CodeFile) → IsTextScope texts whole t s → IsFile whole worlds s f
    → FileIs texts worlds t (file_of whole f)
file_is texts whole worlds t s f is file = record {
  head = is.head ∙ ap Some (sym (file.main.head ∙ is.main.home_is));
  items = items_seen worlds s.main whole is.home t.tree.items (package_of whole f.main).items is.main file.main.items (package_of whole f.main).head (file.main.head ∙ is.main.home_is);
  nested = zip_two (λ n x. IsScope whole n.head n.items x) (IsPackage whole worlds) (NestedIs worlds) (package_of whole)
      (λ n x p scope it. record {
        head = it.head ∙ scope.home_is;
        items = items_seen worlds x whole n.head n.items (package_of whole p).items scope it.items n.head refl;
      }) t.tree.nested s.nested.items f.nested.items is.nested file.nested;
}

scope_worlds : (whole : Text) (home : PackageHead) (items : List TextItem) (s : Scope) → IsScope whole home items s → worlds_of_scope s ≡ worlds_in home (aliases_of items) items
scope_worlds whole home items s is =
    ap (λ (h : PackageHead). worlds_in h (aliases_in s) (items_in s)) is.home_is
    ∙ (ap (λ (a : List _). worlds_in home a (items_in s)) is.aliases ∙ ap (worlds_in home (aliases_of items)) is.items_are)

nested_same : (whole : Text) (ns : List NestedTree) (ss : List Scope) → AllZip (λ n s. IsScope whole n.head n.items s) ns ss → flat_map nested_worlds ns ≡ flat_map worlds_of_scope ss
nested_same whole [] [] zip = refl
nested_same whole [] (s ∷ ss) zip = absurd zip
nested_same whole (n ∷ ns) [] zip = absurd zip
nested_same whole (n ∷ ns) (s ∷ ss) zip =
    ap (λ (l : List WorldAt). l ++ flat_map nested_worlds ns) (sym (scope_worlds whole n.head n.items s zip.0)) ∙ ap (λ (l : List WorldAt). worlds_of_scope s ++ l) (nested_same whole ns ss zip.1)

pub worlds_same : (texts : List FolderText) (whole : Text) (ts : List FolderText) (ss : List TextScopes) → AllZip (IsTextScope texts whole) ts ss
    → flat_map (worlds_of_text texts) ts ≡ worlds_of_scopes ss
worlds_same texts whole [] [] zip = refl
worlds_same texts whole [] (s ∷ ss) zip = absurd zip
worlds_same texts whole (t ∷ ts) [] zip = absurd zip
worlds_same texts whole (t ∷ ts) (s ∷ ss) zip =
    let is = zip.0 in
    let own : own_worlds t (head_of_text texts t) ≡ worlds_of_scope s.main = ap (own_worlds t) is.head ∙ sym (scope_worlds whole is.home t.tree.items s.main is.main) in
    let here : worlds_of_text texts t ≡ flat_map worlds_of_scope (scopes_in s) =
    ap (λ (l : List WorldAt). l ++ flat_map nested_worlds t.tree.nested) own
    ∙ ap (λ (l : List WorldAt). worlds_of_scope s.main ++ l) (nested_same whole t.tree.nested s.nested.items is.nested) in
    ap (λ (l : List WorldAt). l ++ flat_map (worlds_of_text texts) ts) here ∙ ap (λ (l : List WorldAt). flat_map worlds_of_scope (scopes_in s) ++ l) (worlds_same texts whole ts ss zip.1)

zip_from : (whole : Text) (worlds : List WorldAt) (xs : List WorldSource) (done : Queue) → length done ≡ length xs
    → ((n : ℕ) (its : Vec CodeMember Global) (it : WorldSource) → slice_get done n ≡ Some (Some its) → slice_get xs n ≡ Some it
    → Expands worlds (world_seen it) (map (world_member_of whole) its.items))
    → AllZip (ExpandsIf whole worlds) (map world_seen xs) done
zip_from whole worlds [] [] many says = tt
zip_from whole worlds [] (o ∷ done) many says = absurd (omega (arith, many))
zip_from whole worlds (x ∷ xs) [] many says = absurd (omega (arith, many))
zip_from whole worlds (x ∷ xs) (o ∷ done) many says =
    (by_option o (λ its e. says 0 its x (ap Some e) refl), zip_from whole worlds xs done (omega (arith, many)) (λ n its it e f. says (suc n) its it e f))
  where
    by_option : (o : Option (Vec CodeMember Global)) → ((its : Vec CodeMember Global) → o ≡ Some its → Expands worlds (world_seen x) (map (world_member_of whole) its.items))
        → ExpandsIf whole worlds (world_seen x) o
    by_option None h = tt
    by_option (Some its) h = h its refl

pub files_are : (whole : Text) (texts : List FolderText) (scopes : List TextScopes) (w : Worlds) (done queue left : Queue) (files : List CodeFile) → AreTextScopes whole texts scopes
    → w.whole.now ≡ whole → map world_seen w.worlds.items ≡ worlds_of_scopes scopes → AreExpanded w done → queue ≡ done
    → GivesAll whole (IsFile whole) (λ t. flat_map worlds_of_scope (scopes_in t)) scopes files queue left → FilesAre texts (map (file_of whole) files)
files_are whole texts scopes w done queue left files are whole_is worlds_are expanded same given =
    let all : map world_seen w.worlds.items ≡ flat_map (worlds_of_text texts) texts = worlds_are ∙ sym (worlds_same texts whole texts scopes are) in
    let zip : AllZip (ExpandsIf w.whole.now (map world_seen w.worlds.items)) (map world_seen w.worlds.items) done =
    zip_from w.whole.now (map world_seen w.worlds.items) w.worlds.items done expanded.many expanded.expands in
    let there : AllZip (ExpandsIf whole (map world_seen w.worlds.items)) (worlds_of_scopes scopes ++ []) queue =
    subst (λ (q : Queue). AllZip (ExpandsIf whole (map world_seen w.worlds.items)) (worlds_of_scopes scopes ++ []) q) (sym same)
    (subst (λ (t : Text). AllZip (ExpandsIf t (map world_seen w.worlds.items)) (worlds_of_scopes scopes ++ []) done) whole_is
    (subst (λ (l : List WorldAt). AllZip (ExpandsIf w.whole.now (map world_seen w.worlds.items)) l done) (worlds_are ∙ sym (append_none (worlds_of_scopes scopes))) zip)) in
    let g = given (map world_seen w.worlds.items) [] there in
    subst (λ (ws : List WorldAt). AllZip (FileIs texts ws) texts (map (file_of whole) files)) all
    (zip_two (IsTextScope texts whole) (IsFile whole (map world_seen w.worlds.items)) (FileIs texts (map world_seen w.worlds.items)) (file_of whole)
    (λ t s f a b. file_is texts whole (map world_seen w.worlds.items) t s f a b) texts scopes files are g.zip)

pub scopes_placed : (whole : Text) (texts : List FolderText) (scopes : List TextScopes) → AreTextScopes whole texts scopes → ArePlacedTexts whole scopes
scopes_placed whole texts scopes are n s e =
    let at = zip_at_right (IsTextScope texts whole) texts scopes are n s e in
    by_place at.0 at.2
  where
    by_place : (t : FolderText) → IsTextScope texts whole t s → ArePlacedScopes whole (scopes_in s)
    by_place t is zero x f = subst (λ (y : Scope). IsPlaced whole y.place) (some_is s.main x f) is.main.place
    by_place t is (suc m) x f = let found = zip_at_right (λ n y. IsScope whole n.head n.items y) t.tree.nested s.nested.items is.nested m x f in found.2.place
