-- What has a meaning nests no deeper than the levels do, and means the same by levels.
use Rattle.std.proofs.Common.{rules as std_rules, ◌≡◌, ◌⊎◌, refl, sym, ap, subst, ◌∙◌, ℕ, zero, suc, ◌<◌, ◌+◌, arith, Bool, true, false, not, ◌&&◌, ◌||◌, eqb, List, [], ◌∷◌, ◌++◌, length, map, Option, Some, None, inl, inr, length-append}
use Rattle.std.proofs.lemmas.{Bool.eqb-true, Bool.and_parts, Bool.not-true, List.map-append, Option.slice_get_within}
use Rattle.std.specs.{Prelude.slice_get, List.list_any}
use Rattle.wit_model.specs.{Text.Text, Names.PackageIdentity, Names.is_label}
use Rattle.wit_model.proofs.Checks.{get_before}
use Rattle.comp_bytes.specs.{Raw.ExternName, Raw.Declaration, Raw.Declarations, Raw.TopType, Raw.TopExport, Raw.Section, Reading.◌>>=◌, Reading.component_of}
use Rattle.comp_bytes.specs.Levels.{plain, holds, PartType, wraps, shows, Piece, raw_part, raw_piece, levels_of}
use Rattle.comp_bytes.proofs.{Readers.bind_some, Readers.when_some, PieceLaws.levels_are_sections}
use Rattle.comp_meaning.specs.{Follow.each, Follow.Scope, Follow.component_scope, Rules.distinct}
use Rattle.comp_meaning.specs.Reads.{steps, is_bare_name, top_type, top_section, exported_types, wrapped, world_part, interface_part, part_of, Part, Member, member, package_of_members, world_of_members}
use Rattle.comp_meaning.specs.ByLevels.{member_by_levels, exported_parts, package_of_pieces, world_of_pieces, PackageByLevels, WorldByLevels}
use Rattle.comp_meaning.proofs.Marks.{all_taken, Counted, one_mark_more, one_number_more, exact, taken_at, true_mark, all_marked}
use Rattle.comp_meaning.proofs.{EntryLaws.steps_keep, EntryLaws.scope_is, EntryLaws.followed_only, TopLaws.labelled, TopLaws.raw_found, TopLaws.parts_along}
use Rattle.base_lemmas.proofs.{Lists.at_last as get_last, Options.some_is}
use Rattle.comp_bytes.specs.declared.forms.ComponentTypeRef.TheVariants as refs
use Rattle.comp_bytes.specs.Levels as levels
use Rattle.comp_meaning.specs.Reads as reads

-- the declarations are those of a type at the top that is followed
abbrev IsLevelled : Declarations → Type 0
IsLevelled ds = (p : PartType) × (ds ≡ raw_part p)

-- ---- members

-- a wrapper, or nothing that wraps
wrapped_or : (ds : Declarations)
    → ((inner : Declarations) × (name : ExternName) × (ds ≡ Declarations.component inner (Declarations.declares (Declaration.exported name (refs.Component 0)) Declarations.no_more)))
    ⊎ (wrapped ds ≡ None)
wrapped_or x = search std_rules

-- the world of a wrapper that is read has been followed
world_scope : (label : Text) (inner : Declarations) (name : ExternName) (p : PackageIdentity × Part) → world_part label (inner, name) ≡ Some p → (scope : Scope) × (component_scope inner ≡ Some scope)
world_scope label inner name p e = search std_rules

interface_scope : (label : Text) (ds : Declarations) (p : PackageIdentity × Part) → interface_part label ds ≡ Some p → (scope : Scope) × (component_scope ds ≡ Some scope)
interface_scope label ds p e = search std_rules

member_levels : (x : Text × Declarations) (m : Member) → member x ≡ Some m → IsLevelled x.1
member_levels x m e =
    let part = bind_some (part_of x.0 x.1) _ m e in
    elim (wrapped_or x.1) [
      | inl w ↦
          let scope = world_scope x.0 w.0 w.1 part.0 (sym (ap (part_of x.0) w.2) ∙ part.1) in
          let es = followed_only w.0 scope.0 scope.1 in
          (wraps es.0 w.1, w.2 ∙ ap (λ inner. Declarations.component inner (Declarations.declares (Declaration.exported w.1 (refs.Component 0)) Declarations.no_more)) es.1)
      | inr other ↦
          let scope = interface_scope x.0 x.1 part.0 (sym (rw other refl) ∙ part.1) in
          let es = followed_only x.1 scope.0 scope.1 in
          (shows es.0, es.1)
    ]

-- ---- every type at the top is exported, and so followed

-- an entry behind others, or one of them
appended_at : {A : Type 0} (xs : List A) (x y : A) (i : ℕ) → slice_get (xs ++ x ∷ []) i ≡ Some y → (slice_get xs i ≡ Some y) ⊎ (x ≡ y)
appended_at [] x y zero e = inr (some_is x y e)
appended_at [] x y (suc i) e = absurd cc
appended_at (z ∷ zs) x y zero e = inl e
appended_at (z ∷ zs) x y (suc i) e = appended_at zs x y i e

-- what has been exported are types at the top, none twice, and each index stands for one of these
record IsKept (top : reads.Top) : Type 0 where
  counted : Counted (λ x. x.1) top.exported (map (λ _. true) top.types)
  within : (i n : ℕ) → slice_get top.slots i ≡ Some n → n < length top.types

kept_type : (top next : reads.Top) (t : TopType) → top_type top t ≡ Some next → IsKept top → IsKept next
kept_type top next (TopType.component ds) e k = search (std_rules, some_is, Counted, map-append, one_mark_more, length-append, appended_at)
kept_type top next _ e k = absurd cc

kept_export : (top next : reads.Top) (x : TopExport) → reads.top_export top x ≡ Some next → IsKept top → IsKept next
kept_export top next x e k =
    let b = bind_some (slice_get top.slots x.type_index) _ next e in
    let after : reads.Top = record { types = top.types; slots = top.slots ++ b.0 ∷ []; exported = top.exported ++ (x.exported_as.text, b.0) ∷ [] } in
    let w = when_some (is_bare_name x.exported_as && (is_label x.exported_as.text && not (list_any (λ y. eqb y.1 b.0) top.exported))) (Some after) next b.2 in
    let named = and_parts (is_bare_name x.exported_as) (is_label x.exported_as.text && not (list_any (λ y. eqb y.1 b.0) top.exported)) w.0 in
    let new = and_parts (is_label x.exported_as.text) (not (list_any (λ y. eqb y.1 b.0) top.exported)) named.1 in
    let low = k.within x.type_index b.0 b.1 in
    subst IsKept (some_is after next w.1) (record {
      counted = one_number_more (λ y. y.1) top.exported (x.exported_as.text, b.0) (map (λ _. true) top.types) k.counted (not-true (list_any (λ y. eqb y.1 b.0) top.exported) new.1)
          (true_mark top.types b.0 low);
      within = λ i n found. elim (appended_at top.slots b.0 n i found) [ inl before ↦ k.within i n before | inr last ↦ omega (arith, last, low) ];
    })

-- what types and exports keep stays behind a section
module _ (P : reads.Top → Type 0) (types : (top next : reads.Top) (t : TopType) → top_type top t ≡ Some next → P top → P next)
    (exports : (top next : reads.Top) (x : TopExport) → reads.top_export top x ≡ Some next → P top → P next) where
  section_keeps : (top next : reads.Top) (s : Section) → top_section top s ≡ Some next → P top → P next
  section_keeps top next (Section.custom name contents) e k = subst P (some_is top next e) k
  section_keeps top next (Section.types ts) e k = steps_keep P top_type types ts top next e k
  section_keeps top next (Section.exports es) e k = steps_keep P reads.top_export exports es top next e k

abbrev empty_top : reads.Top
empty_top = record { types = []; slots = []; exported = [] }

-- a type that is exported has been followed
exported_levels : (types : List Declarations) (xs : List (Text × ℕ)) (found : List (Text × Declarations)) (members : List Member) → each (λ x. raw_found x (slice_get types x.1)) xs ≡ Some found
    → each member found ≡ Some members → (n : ℕ) → list_any (λ x. eqb x.1 n) xs ≡ true → (ds : Declarations) → slice_get types n ≡ Some ds → IsLevelled ds
exported_levels types [] found members e f n h ds at = absurd cc
exported_levels types (x ∷ xs) found members e f n h ds at =
    let one = bind_some (raw_found x (slice_get types x.1)) _ found e in
    let more = bind_some (each (λ x. raw_found x (slice_get types x.1)) xs) _ found one.2 in
    let type_at = bind_some (slice_get types x.1) _ one.0 one.1 in
    let first = bind_some (member one.0) _ members (ap (each member) (some_is (one.0 ∷ more.0) found more.2) ∙ f) in
    let others = bind_some (each member more.0) _ members first.2 in
    by one.0 first.0 first.1 type_at.0 type_at.1 (some_is (x.0, type_at.0) one.0 type_at.2) (λ k. exported_levels types xs more.0 others.0 more.1 others.1 n k ds at) (eqb x.1 n) refl
  where
    by : (y : Text × Declarations) (m : Member) → member y ≡ Some m → (d : Declarations) → slice_get types x.1 ≡ Some d → (x.0, d) ≡ y → (list_any (λ z. eqb z.1 n) xs ≡ true → IsLevelled ds)
        → (b : Bool) → eqb x.1 n ≡ b → IsLevelled ds
    by y m followed d there is rest true same = subst IsLevelled (ap (λ z. z.1) (sym is) ∙ (some_is d ds (sym there ∙ ap (slice_get types) (eqb-true x.1 n same) ∙ at))) (member_levels y m followed)
    by y m followed d there is rest false same = rest (sym (ap (λ b. b || list_any (λ z. eqb z.1 n) xs) same) ∙ h)

-- ---- what has a meaning is read by levels

-- each type at the top is one that is followed
abbrev AllLevelled : reads.Top → Type 0
AllLevelled top = (n : ℕ) (ds : Declarations) → slice_get top.types n ≡ Some ds → IsLevelled ds

-- a type at the top stays where it is
abbrev Stands : ℕ → Declarations → reads.Top → Type 0
Stands n ds top = slice_get top.types n ≡ Some ds

type_stays : (n : ℕ) (ds : Declarations) (top next : reads.Top) (t : TopType) → top_type top t ≡ Some next → Stands n ds top → Stands n ds next
type_stays n ds top next x e h = search (std_rules, some_is, get_before, slice_get_within)

types_levels : (ts : List TopType) (top next : reads.Top) → steps top_type top ts ≡ Some next → AllLevelled next → (ps : List PartType) × (ts ≡ map (λ p. TopType.component (raw_part p)) ps)
types_levels [] top next e all = ([], refl)
types_levels (TopType.component ds ∷ ts) top next e all =
    let after : reads.Top = record { types = top.types ++ ds ∷ []; slots = top.slots ++ length top.types ∷ []; exported = top.exported } in
    let level = all (length top.types) ds (steps_keep (Stands (length top.types) ds) top_type (type_stays (length top.types) ds) ts after next e (get_last top.types ds)) in
    let more = types_levels ts after next e all in
    (level.0 ∷ more.0, ap (λ d. TopType.component d ∷ ts) level.1 ∙ ap (λ (rest : List TopType). TopType.component (raw_part level.0) ∷ rest) more.1)
types_levels (_ ∷ ts) top next e all = absurd cc

sections_levels : (ss : List Section) (top next : reads.Top) → steps top_section top ss ≡ Some next → AllLevelled next → (ps : List Piece) × (ss ≡ map raw_piece ps)
sections_levels [] top next e all = ([], refl)
sections_levels (Section.custom name contents ∷ ss) top next e all =
    let more = sections_levels ss top next e all in
    (levels.custom name contents ∷ more.0, ap (λ (rest : List Section). Section.custom name contents ∷ rest) more.1)
sections_levels (Section.types ts ∷ ss) top next e all =
    let b = bind_some (steps top_type top ts) _ next e in
    let here = types_levels ts top b.0 b.1 (λ n ds h. all n ds (steps_keep (Stands n ds) top_section (section_keeps (Stands n ds) (type_stays n ds) ((λ top next x e h. search std_rules))) ss b.0
    next b.2 h)) in
    let more = sections_levels ss b.0 next b.2 all in
    (levels.types here.0 ∷ more.0, ap (λ (xs : List TopType). Section.types xs ∷ ss) here.1 ∙ ap (λ (rest : List Section). raw_piece (levels.types here.0) ∷ rest) more.1)
sections_levels (Section.exports es ∷ ss) top next e all =
    let b = bind_some (steps reads.top_export top es) _ next e in
    let more = sections_levels ss b.0 next b.2 all in
    (levels.exports es ∷ more.0, ap (λ (rest : List Section). Section.exports es ∷ rest) more.1)

-- Sections whose exported types are followed are forms of the levels.
only_levels : (ss : List Section) (found : List (Text × Declarations)) (members : List Member) → exported_types ss ≡ Some found → each member found ≡ Some members → (ps : List Piece)
    × (ss ≡ map raw_piece ps)
only_levels ss found members e f =
    let b = bind_some (steps top_section empty_top ss) _ found e in
    let w = when_some (eqb (length b.0.exported) (length b.0.types) && distinct (map (λ x. x.0) b.0.exported)) (each (λ x. raw_found x (slice_get b.0.types x.1)) b.0.exported) found b.2 in
    let many = and_parts (eqb (length b.0.exported) (length b.0.types)) (distinct (map (λ x. x.0) b.0.exported)) w.0 in
    let kept = steps_keep IsKept top_section (section_keeps IsKept kept_type kept_export) ss empty_top b.0 b.1
    (record { counted = record { below = λ n h. absurd cc; count = refl }; within = λ i n h. absurd cc }) in
    let exported_each : all_taken (λ x. x.1) b.0.exported 0 (map (λ _. true) b.0.types) ≡ true =
    sym (exact (λ x. x.1) b.0.exported (map (λ _. true) b.0.types) kept.counted) ∙ (ap (eqb (length b.0.exported)) (all_marked b.0.types) ∙ many.0) in
    sections_levels ss empty_top b.0 b.1 (λ n ds h.
    let one = taken_at (λ x. x.1) b.0.exported 0 n (map (λ _. true) b.0.types) exported_each (true_mark b.0.types n (slice_get_within b.0.types n ds h)) in
    let zero_more : 0 + n ≡ n = omega arith in
    exported_levels b.0.types b.0.exported found members w.1 f n (sym (ap (λ k. list_any (λ x. eqb x.1 k) b.0.exported) zero_more) ∙ one) ds h)

-- ---- it means the same

member_is : (x : Text × PartType) → member (labelled x) ≡ member_by_levels x
member_is x = by x.1
  where
    by : (p : PartType) → member (x.0, raw_part p) ≡ member_by_levels (x.0, p)
    by (wraps es name) = rw (scope_is es) refl
    by (shows []) = refl
    by (shows (plain d ∷ es)) = rw (scope_is (plain d ∷ es)) refl
    by (shows (holds ds ∷ es)) = rw (scope_is (holds ds ∷ es)) refl

each_same : {A B C : Type 0} (g : A → B) (f : A → Option C) (other : B → Option C) → ((x : A) → other (g x) ≡ f x) → (xs : List A) → each other (map g xs) ≡ each f xs
each_same g f other same [] = refl
each_same g f other same (x ∷ xs) = ap (λ o. o >>= λ y. each other (map g xs) >>= λ ys. Some (y ∷ ys)) (same x) ∙ ap (λ o. f x >>= λ y. o >>= λ ys. Some (y ∷ ys)) (each_same g f other same xs)

-- whatever is made of the members at the end
module _ {M : Type 0} (last : List Member → Option M) where
  pub levelled : (bytes : List ℕ) → (levels_of bytes >>= λ ps. exported_parts ps >>= λ parts. each member_by_levels parts >>= λ members. last members)
      ≡ (component_of bytes >>= λ ss. exported_types ss >>= λ types. each member types >>= λ members. last members)
  levelled bytes = by_levels (levels_of bytes) refl
    where
      no_meaning : levels_of bytes ≡ None → (o : Option (List Section)) → component_of bytes ≡ o → (r : Option M)
          → (o >>= λ ss. exported_types ss >>= λ types. each member types >>= λ members. last members) ≡ r → None ≡ r
      no_meaning none None found r e = e
      no_meaning none (Some ss) found None e = refl
      no_meaning none (Some ss) found (Some m) e =
          let types = bind_some (exported_types ss) _ m e in
          let members = bind_some (each member types.0) last m types.2 in
          let only = only_levels ss types.0 members.0 types.1 members.1 in
          let wrong : None ≡ Some only.0 = sym none ∙ ((levels_are_sections bytes only.0).1 (found ∙ ap (λ (xs : List Section). Some xs) only.1)) in absurd cc

      by_levels : (o : Option (List Piece)) → levels_of bytes ≡ o → (o >>= λ ps. exported_parts ps >>= λ parts. each member_by_levels parts >>= λ members. last members)
          ≡ (component_of bytes >>= λ ss. exported_types ss >>= λ types. each member types >>= λ members. last members)
      by_levels (Some ps) e = sym (ap (λ (o : Option (List Section)). o >>= λ ss. exported_types ss >>= λ types. each member types >>= λ members. last members) ((levels_are_sections bytes ps).0 e)
          ∙ (search (std_rules, parts_along, labelled, each_same, member_is)))
      by_levels None e = no_meaning e (component_of bytes) refl (component_of bytes >>= λ ss. exported_types ss >>= λ types. each member types >>= λ members. last members) refl

pub package_by_levels : PackageByLevels
unfolding package_of_pieces
package_by_levels bytes = levelled package_of_members bytes

pub world_by_levels : WorldByLevels
unfolding world_of_pieces
world_by_levels bytes = levelled world_of_members bytes
