-- The top of a component, followed by levels, is the top as its raw form is followed.
use Rattle.std.proofs.Common.{rules as std_rules, ◌≡◌, refl, sym, ap, ◌∙◌, ℕ, Bool, ◌&&◌, eqb, List, [], ◌∷◌, ◌++◌, length, map, Option, Some, None, option_map}
use Rattle.std.proofs.lemmas.{List.map-append, List.length-map, List.map-id, Option.slice_get-map}
use Rattle.std.specs.{Prelude.slice_get}
use Rattle.wit_model.specs.{Text.Text}
use Rattle.comp_bytes.specs.{Raw.Declarations, Raw.TopType, Raw.TopExport, Reading.◌>>=◌, Levels.PartType, Levels.Piece, Levels.raw_part, Levels.raw_piece}
use Rattle.comp_meaning.specs.{Follow.each, Follow.when, Reads.steps, Reads.exported_types}
use Rattle.comp_meaning.specs.{Rules.distinct, ByLevels.Top, ByLevels.top_part, ByLevels.top_export, ByLevels.top_piece, ByLevels.exported_parts}
use Rattle.comp_bytes.specs.Levels as levels
use Rattle.comp_meaning.specs.Reads as reads

-- ---- steps under other names

steps_along : {S T A B : Type 0} (f : S → T) (g : A → B) (step : S → A → Option S) (other : T → B → Option T) → ((s : S) (x : A) → other (f s) (g x) ≡ option_map f (step s x))
    → (xs : List A) (s : S) → steps other (f s) (map g xs) ≡ option_map f (steps step s xs)
steps_along f g step other h [] s = refl
steps_along f g step other h (x ∷ xs) s = ap (λ o. o >>= λ next. steps other next (map g xs)) (h s x) ∙ by (step s x) (steps_along f g step other h xs)
  where
    by : (o : Option _) → ((next : _) → steps other (f next) (map g xs) ≡ option_map f (steps step next xs))
        → (option_map f o >>= λ next. steps other next (map g xs)) ≡ option_map f (o >>= λ next. steps step next xs)
    by None more = refl
    by (Some next) more = more next

pub each_along : {A B C D : Type 0} (g : A → B) (h : C → D) (f : A → Option C) (other : B → Option D) → ((x : A) → other (g x) ≡ option_map h (f x)) → (xs : List A)
    → each other (map g xs) ≡ option_map (map h) (each f xs)
each_along g h f other same [] = refl
each_along g h f other same (x ∷ xs) = search (std_rules, each_along g h f other same xs)

-- ---- the top

abbrev raw_top : Top → reads.Top
raw_top top = record { types = map raw_part top.types; slots = top.slots; exported = top.exported }

top_at : (types types' : List Declarations) (n m : ℕ) (slots : List ℕ) (exported : List (Text × ℕ)) → types ≡ types' → n ≡ m
    → ◌≡◌ {A = reads.Top} (record { types = types; slots = slots ++ n ∷ []; exported = exported }) (record { types = types'; slots = slots ++ m ∷ []; exported = exported })
top_at types types' n m slots exported p q = search std_rules

part_along : (top : Top) (p : PartType) → reads.top_type (raw_top top) (TopType.component (raw_part p)) ≡ option_map raw_top (top_part top p)
part_along top p = search (std_rules, top_at, map-append, length-map)

export_along : (top : Top) (e : TopExport) → reads.top_export (raw_top top) e ≡ option_map raw_top (top_export top e)
export_along top e = search std_rules

piece_along : (top : Top) (p : Piece) → reads.top_section (raw_top top) (raw_piece p) ≡ option_map raw_top (top_piece top p)
piece_along top (levels.custom name contents) = refl
piece_along top (levels.types ps) = steps_along raw_top (λ p. TopType.component (raw_part p)) top_part reads.top_type part_along ps top
piece_along top (levels.exports es) = ap (λ xs. steps reads.top_export (raw_top top) xs) (sym (map-id es)) ∙ steps_along raw_top (λ e. e) top_export reads.top_export export_along es top

-- a type with its label, and its raw form
abbrev pub labelled : Text × PartType → Text × Declarations
labelled x = (x.0, raw_part x.1)

-- what is exported of a top, by its labels
abbrev pub raw_found : Text × ℕ → Option Declarations → Option (Text × Declarations)
raw_found x found = found >>= λ ds. Some (x.0, ds)

abbrev part_found : Text × ℕ → Option PartType → Option (Text × PartType)
part_found x found = found >>= λ p. Some (x.0, p)

abbrev raw_exports : reads.Top → Option (List (Text × Declarations))
raw_exports top = when (eqb (length top.exported) (length top.types) && distinct (map (λ x. x.0) top.exported)) (each (λ x. raw_found x (slice_get top.types x.1)) top.exported)

abbrev part_exports : Top → Option (List (Text × PartType))
part_exports top = when (eqb (length top.exported) (length top.types) && distinct (map (λ x. x.0) top.exported)) (each (λ x. part_found x (slice_get top.types x.1)) top.exported)

each_exported : (types : List PartType) (exported : List (Text × ℕ))
    → each (λ x. raw_found x (slice_get (map raw_part types) x.1)) exported ≡ option_map (map labelled) (each (λ x. part_found x (slice_get types x.1)) exported)
each_exported types exported = ap (each (λ x. raw_found x (slice_get (map raw_part types) x.1))) (sym (map-id exported))
    ∙ each_along (λ x. x) labelled (λ x. part_found x (slice_get types x.1)) (λ x. raw_found x (slice_get (map raw_part types) x.1))
    (λ x. ap (raw_found x) (slice_get-map raw_part types x.1) ∙ (search std_rules)) exported

when_along : {A B : Type 0} (f : A → B) (b : Bool) (x : Option A) (y : Option B) → y ≡ option_map f x → when b y ≡ option_map f (when b x)
when_along f x y z e = search std_rules

exports_along : (top : Top) → raw_exports (raw_top top) ≡ option_map (map labelled) (part_exports top)
exports_along top = ap (λ k. when (eqb (length top.exported) k && distinct (map (λ x. x.0) top.exported)) (each (λ x. raw_found x (slice_get (map raw_part top.types) x.1)) top.exported))
    (length-map top.types raw_part) ∙ when_along (map labelled) (eqb (length top.exported) (length top.types) && distinct (map (λ x. x.0) top.exported))
    (each (λ x. part_found x (slice_get top.types x.1)) top.exported) (each (λ x. raw_found x (slice_get (map raw_part top.types) x.1)) top.exported) (each_exported top.types top.exported)

abbrev new_top : Top
new_top = record { types = []; slots = []; exported = [] }

pub parts_along : (ps : List Piece) → exported_types (map raw_piece ps) ≡ option_map (map labelled) (exported_parts ps)
parts_along ps = ap (λ o. o >>= raw_exports) (steps_along raw_top raw_piece top_piece reads.top_section piece_along ps new_top) ∙ by (steps top_piece new_top ps)
  where
    by : (o : Option Top) → (option_map raw_top o >>= raw_exports) ≡ option_map (map labelled) (o >>= part_exports)
    by None = refl
    by (Some top) = exports_along top
