-- What paths mean, by the tables.
use Rattle.std.proofs.Common.{◌<◌, ◌≤◌, ◌+◌, ◌++◌, ◌∷◌, [], arith, length, take, get_or, is_some, option_map, unwrap_or, Contains, Vec, ◌≡◌, refl, sym, ap, ◌∙◌, subst, ℕ, List, Option, Some, None, slice_get, map}
use Rattle.std.specs.Global.{Global}
use Rattle.std.specs.List.{AllZip, list_any, position}
use Rattle.std.proofs.lemmas.{List.Elements.filter_map-append, List.take_all, Option.slice_get_read, Option.slice_get_within, Option.slice_get-map}
use Rattle.base_lemmas.proofs.Lists.{get_back, mapped_get, none_there}
use Rattle.base_lemmas.proofs.Elements.{contains-one, get-contains, last_of, zip-append, zip_at_right, zip_long}
use Rattle.print_grammar.specs.Tree.{PackageHead}
use Rattle.text_trees.specs.TreesSeen.{head_of}
use Rattle.text_trees.specs.declared.tree.PathTree.TheVariants.{Full}
use Rattle.text_names.specs.declared.error.Fault.{Fault}
use Rattle.text_names.specs.declared.error.Fault.TheVariants as faults
use Rattle.text_names.specs.declared.needs.Need.{Need}
use Rattle.text_names.specs.Orders.{links_of}
use Rattle.text_names.proofs.WalkLaws.{links_long, needed_of}
use Rattle.wit_model.proofs.Elements.{contains-get}
use Rattle.text_names.proofs.TableLaws.{none_fresh, same_texts, some_number}
use Rattle.wit_model.specs.Text.{Text}
use Rattle.text_trees.specs.Seen.{cut}
use Rattle.text_trees.specs.declared.tree.{MemberTree.MemberTree, PathTree.PathTree, Span.Span}
use Rattle.text_names.specs.declared.error.Fault.TheVariants.{Refused}
use Rattle.text_names.specs.declared.error.Why.TheVariants.{NoInterface, NoPackage}
use Rattle.text_names.specs.declared.sources.{InterfaceSource.InterfaceSource, Named.Named, PackageTexts.PackageTexts, Sources.Sources}
use Rattle.text_names.specs.declared.sources.Named.TheVariants as named
use Rattle.text_names.specs.Contents.{text_at}
use Rattle.text_names.specs.Paths.{IsHome, IsInterfaceOf, IsNamed, IsNeedOf, IsNeedsOf, IsRefusalOf, AddsNeeds, RefusesAnyNeed, RefusesNeed, name_in, no_interface, no_package, path_of_use, paths_of}
use Rattle.text_names.specs.Tables.{IsIndex, IsNumberOf, entry_of, head_of_key, interface_in, interface_key}
use Rattle.text_plain.proofs.WholeLaws.{turned}
use Rattle.text_plain.specs.Orders.{AreWithin, needed}

interface_found : (o : Option Named) (n : ℕ) → interface_in o ≡ Some n → o ≡ Some (named.Interface n)
interface_found None n e = absurd cc
interface_found (Some (named.Interface m)) n e = let one : m ≡ n = cc in ap (λ (k : ℕ). Some (named.Interface k)) one
interface_found (Some (named.World m)) n e = absurd cc

none_found : (o : Option Named) (n : ℕ) → interface_in o ≡ None → o ≡ Some (named.Interface n) → ⊥
none_found o n e f = let same : interface_in o ≡ Some n = ap interface_in f in cc

module _ (s : Sources) (index : IsIndex s) (text own : ℕ) (path : PathTree) (home : ℕ) (name : Span) (found : IsHome s text own path (home, name)) (bytes : Text)
    (is : bytes ≡ cut (text_at s.texts.now text) name) (o : Option ℕ) (looks : o ≡ interface_in (entry_of s.names.entries (home, bytes))) where
  key_is : ◌≡◌ {A = ℕ × Text} (home, bytes) (home, cut (text_at s.texts.now text) (name_in path))
  key_is = ap (λ (b : Text). (home, b)) (is ∙ ap (cut (text_at s.texts.now text)) found.name)

  pub path_found : (n : ℕ) → o ≡ Some n → IsInterfaceOf s text own path n
  path_found n e =
      let at = get_back (interface_key s.texts.now) s.interfaces.items n (home, bytes)
      (index.interfaces.found (home, bytes) n (interface_found (entry_of s.names.entries (home, bytes)) n (sym looks ∙ e))) in
      record { home = home; means = found.home; named = record { interface = at.0; stands = at.1; named = at.2 ∙ key_is } }

  none_named : o ≡ None → (n : ℕ) → IsNamed s text home (name_in path) n → ⊥
  none_named e n it =
      none_found (entry_of s.names.entries (home, bytes)) n (sym looks ∙ e)
      (index.interfaces.has n (home, bytes) (mapped_get (interface_key s.texts.now) s.interfaces.items n it.interface it.stands ∙ ap Some (it.named ∙ sym key_is)))

  pub path_refused : o ≡ None → IsRefusalOf s text own path (Refused (record { text = text; at = name; why = NoInterface }))
  path_refused e = subst (λ (at : Span). IsRefusalOf s text own path (Refused (record { text = text; at = at; why = NoInterface }))) (sym found.name)
      (no_interface path home found.home (none_named e))

-- ---- the package of a path

module _ (s : Sources) (index : IsIndex s) (text own : ℕ) (path : PathTree) (namespace name interface : Span) (version : Option Span) (is : path ≡ Full namespace name interface version)
    (key : PackageTexts) (bytes : Text) (bytes_are : bytes ≡ text_at s.texts.now text) (key_is : head_of_key key ≡ head_of bytes (record { namespace = namespace; name = name; version = version }))
    (o : Option ℕ) where
  key_there : head_of_key key ≡ head_of (text_at s.texts.now text) (record { namespace = namespace; name = name; version = version })
  key_there = key_is ∙ ap (λ (b : Text). head_of b (record { namespace = namespace; name = name; version = version })) bytes_are

  pub path_home : (n : ℕ) → o ≡ Some n → o ≡ position (same_texts key) s.numbers.keys → IsHome s text own path (n, interface)
  path_home n e at = subst (λ (p : PathTree). IsHome s text own p (n, interface)) (sym is)
      (record { home = subst (λ (h : PackageHead). IsNumberOf s h n) key_there (some_number s index key o n e at); name = refl })

  pub path_homeless : o ≡ None → is_some o ≡ list_any (same_texts key) s.numbers.keys
      → IsRefusalOf s text own path (Refused (record { text = text; at = record { start = namespace.start; end = name.end }; why = NoPackage }))
  path_homeless e found = subst (λ (p : PathTree). IsRefusalOf s text own p (Refused (record { text = text; at = record { start = namespace.start; end = name.end }; why = NoPackage }))) (sym is)
      (no_package namespace name interface version (λ n there. none_fresh s index key o e found n (there ∙ ap Some (sym key_there))))

-- ---- needs

need_added : (s : Sources) (text own : ℕ) (members : List MemberTree) (i : ℕ) (member : MemberTree) → i < length members → member ≡ get_or members i member → (old new more : List Need)
    → AllZip (IsNeedOf s text own) (paths_of (take i members)) old → new ≡ old ++ more → AllZip (IsNeedOf s text own) (paths_of (member ∷ [])) more
    → AllZip (IsNeedOf s text own) (paths_of (take (i + 1) members)) new
need_added s text own members i member below is old new more before e now =
    subst (λ (l : List Need). AllZip (IsNeedOf s text own) (paths_of (take (i + 1) members)) l) (sym e)
    (subst (λ (l : List PathTree). AllZip (IsNeedOf s text own) l (old ++ more)) (sym (ap paths_of (turned members i member below is) ∙ filter_map-append path_of_use (take i members) (member ∷ [])))
    (zip-append (IsNeedOf s text own) (paths_of (take i members)) old (paths_of (member ∷ [])) more before now))

pub needs_turn : (s : Sources) (text own : ℕ) (members : List MemberTree) (i : ℕ) (member : MemberTree) → i < length members → member ≡ get_or members i member → (old new : List Need)
    → AllZip (IsNeedOf s text own) (paths_of (take i members)) old → AddsNeeds s text own member old new
    → AllZip (IsNeedOf s text own) (paths_of (take (i + 1) members)) new
needs_turn s text own members i member below is old new before adds = need_added s text own members i member below is old new adds.more before adds.is adds.needs

pub refused_later : (s : Sources) (text own : ℕ) (members : List MemberTree) (i : ℕ) (member : MemberTree) (f : Fault) → i < length members → member ≡ get_or members i member
    → RefusesNeed s text own (member ∷ []) f → RefusesNeed s text own members f
refused_later s text own members i member faults.Memory below is h = tt
refused_later s text own members i member faults.Size below is h = h
refused_later s text own members i member (faults.Broken rule list number) below is h = absurd h
refused_later s text own members i member (Refused r) below is h =
    let at : Contains members member = get-contains members i member (slice_get_read members (length members) i member refl below is) in
    record { member = member; stands = at; path = h.path; uses = one h.member (Contains_one h.member h.stands) h.uses; refused = h.refused }
  where
    Contains_one : (x : MemberTree) → Contains (member ∷ []) x → member ≡ x
    Contains_one x c = last_of member x c

    one : (x : MemberTree) → member ≡ x → path_of_use x ≡ Some h.path → path_of_use member ≡ Some h.path
    one x e f = ap path_of_use e ∙ f

pub all_needs_turn : (s : Sources) (its : List InterfaceSource) (i : ℕ) (it : InterfaceSource) → i < length its → it ≡ get_or its i it → (old new : List (Vec Need Global)) (own : Vec Need Global)
    → AllZip (IsNeedsOf s) (take i its) old → new ≡ old ++ own ∷ [] → IsNeedsOf s it own → AllZip (IsNeedsOf s) (take (i + 1) its) new
all_needs_turn s its i it below is old new own before e now =
    subst (λ (l : List (Vec Need Global)). AllZip (IsNeedsOf s) (take (i + 1) its) l) (sym e)
    (subst (λ (l : List InterfaceSource). AllZip (IsNeedsOf s) l (old ++ own ∷ [])) (sym (turned its i it below is)) (zip-append (IsNeedsOf s) (take i its) old (it ∷ []) (own ∷ []) before (now, tt)))

pub all_needs_end : (s : Sources) (its : List InterfaceSource) (i : ℕ) (all : List (Vec Need Global)) → length its ≤ i → AllZip (IsNeedsOf s) (take i its) all → AllZip (IsNeedsOf s) its all
all_needs_end s its i all past zip = subst (λ (l : List InterfaceSource). AllZip (IsNeedsOf s) l all) (take_all i its past) zip

pub needs_within : (s : Sources) (all : List (Vec Need Global)) → AllZip (IsNeedsOf s) s.interfaces.items all → AreWithin (links_of all)
needs_within s all zip n m need =
    let k = contains-get (needed (links_of all) n) m need in
    by_own (slice_get all n) refl k.0 k.1
  where
    by_own : (o : Option (Vec Need Global)) → slice_get all n ≡ o → (k : ℕ) → slice_get (needed (links_of all) n) k ≡ Some m → m < length (links_of all)
    by_own None e k f = absurd (none_there k m (ap (λ l. slice_get l k) (sym (nothing e)) ∙ f))
      where
        nothing : slice_get all n ≡ None → needed (links_of all) n ≡ []
        nothing e = ap (λ (o : Option (List ℕ)). unwrap_or o []) (slice_get-map (λ (o : Vec Need Global). map (λ x. x.number) o.items) all n
            ∙ ap (option_map (λ (o : Vec Need Global). map (λ x. x.number) o.items)) e)
    by_own (Some own) e k f =
        let it = zip_at_right (IsNeedsOf s) s.interfaces.items all zip n own e in
        let at = get_back (λ (x : Need). x.number) own.items k m (ap (λ l. slice_get l k) (sym (needed_of all n own e)) ∙ f) in
        let path = zip_at_right (IsNeedOf s it.0.text it.0.«package») (paths_of it.0.members.now.items) own.items it.2 k at.0 at.1 in
        omega (arith, slice_get_within s.interfaces.items at.0.number path.2.means.named.interface path.2.means.named.stands, zip_long (IsNeedsOf s) s.interfaces.items all zip, links_long all, at.2)

pub use_refused : (s : Sources) (text own : ℕ) (member : MemberTree) (path : PathTree) (f : Fault) → path_of_use member ≡ Some path → IsRefusalOf s text own path f
    → RefusesNeed s text own (member ∷ []) f
use_refused s text own member path f uses (no_package namespace name interface version none) = record {
  member = member;
  stands = contains-one member;
  path = Full namespace name interface version;
  uses = uses;
  refused = no_package namespace name interface version none;
}
use_refused s text own member path f uses (no_interface there home means none) = record {
  member = member;
  stands = contains-one member;
  path = there;
  uses = uses;
  refused = no_interface there home means none;
}

pub any_refused : (s : Sources) (its : List InterfaceSource) (n : ℕ) (it : InterfaceSource) (members : List MemberTree) (f : Fault) → its ≡ s.interfaces.items → n < length its → it ≡ get_or its n it
    → members ≡ it.members.now.items → RefusesNeed s it.text it.«package» members f → RefusesAnyNeed s f
any_refused s its n it members faults.Memory same below is e h = tt
any_refused s its n it members faults.Size same below is e h = h
any_refused s its n it members (faults.Broken rule list number) same below is e h = absurd h
any_refused s its n it members (Refused r) same below is e h = (
  n,
  it,
  ap (λ (l : List InterfaceSource). slice_get l n) (sym same) ∙ slice_get_read its (length its) n it refl below is,
  subst (λ (l : List MemberTree). RefusesNeed s it.text it.«package» l (Refused r)) e h,
)
