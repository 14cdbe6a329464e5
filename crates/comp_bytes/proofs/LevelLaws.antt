-- Entries and types at the top are read as they are spelled, and are the raw forms that they stand for.
use Rattle.std.proofs.Common.{rules as std_rules, ◌≡◌, refl, sym, ap, subst, ◌∙◌, ℕ, suc, arith, cond, eqb, List, [], ◌∷◌, ◌++◌, length, Some, None, append_assoc}
use Rattle.std.proofs.lemmas.{Bool.ne_eqb, Bool.eqb-true, List.append-nil}
use Rattle.comp_bytes.specs.{Raw.ExternName, Raw.Declaration, Raw.from_list, Raw.declaration_count, Raw.imports_nothing}
use Rattle.comp_bytes.specs.Form.{Tagged, Joined, Sequence, Vector}
use Rattle.comp_bytes.specs.{Spelling.IsDeclaration, Spelling.ComponentTypeOf, Spelling.InstanceTypeOf, Spelling.AreDeclarations, Laws.IsReadBy}
use Rattle.comp_bytes.specs.Reading.{Reader, ◌>>=◌, u32_at, as_at, pair_at, tag_at, tagged_at, choose, vector_at, declaration_at}
use Rattle.comp_bytes.specs.Levels.{Entry, plain, holds, PartType, wraps, shows, import_free, Held, IsEntry, IsWrapper, IsPartType, declarations_of, raw_part, held_at, entry_at, world_export, world_export_at, wrapper_at, part_behind_at, part_type_at}
use Rattle.comp_bytes.proofs.{Readers.bind_some, Readers.when_some, HeldLaws.Sequence-from_list as flat_out, HeldLaws.declaration_count-from_list as count_is}
use Rattle.comp_bytes.proofs.{NumberLaws.u32_law, FormLaws.or_takes, DeclarationLaws.declaration_law, NestedLaws.not_nested}
use Rattle.comp_bytes.proofs.PartLaws.{taken_at, Takes, reshaped, join_taken, as_takes, when_takes, tagged_takes, tag_law, pair_law, vector_law}
use Rattle.comp_bytes.specs.declared.forms.ComponentTypeRef.TheVariants as refs

-- ---- entries are declarations

free_is : (ds : List Declaration) → imports_nothing (from_list ds) ≡ import_free ds
free_is [] = refl
free_is (Declaration.imported name described ∷ ds) = refl
free_is (_ ∷ ds) = free_is ds

flat_into : (ds : List Declaration) (text : List ℕ) → Sequence IsDeclaration ds text → AreDeclarations (from_list ds) text
flat_into [] text s = s
flat_into (d ∷ ds) text s = (s.0, s.1, s.2, s.3, flat_into ds s.1 s.4)

held_into : (ds : List Declaration) (text : List ℕ) → Tagged 0x42 (Held ds) text → InstanceTypeOf (from_list ds) (AreDeclarations (from_list ds)) text
held_into ds text s = search (std_rules, count_is, flat_into, free_is)

held_out : (ds : List Declaration) (text : List ℕ) → InstanceTypeOf (from_list ds) (AreDeclarations (from_list ds)) text → Tagged 0x42 (Held ds) text
held_out ds text s = search (std_rules, count_is, flat_out, free_is)

pub entries_into : (es : List Entry) (text : List ℕ) → Sequence IsEntry es text → AreDeclarations (declarations_of es) text
entries_into [] text s = s
entries_into (plain d ∷ es) text s = (s.0, s.1, s.2, s.3, entries_into es s.1 s.4)
entries_into (holds ds ∷ es) text s = (s.0, s.1, s.2, (s.3.0, s.3.1, held_into ds s.3.0 s.3.2), entries_into es s.1 s.4)

pub entries_out : (es : List Entry) (text : List ℕ) → AreDeclarations (declarations_of es) text → Sequence IsEntry es text
entries_out [] text s = s
entries_out (plain d ∷ es) text s = (s.0, s.1, s.2, s.3, entries_out es s.1 s.4)
entries_out (holds ds ∷ es) text s = (s.0, s.1, s.2, (s.3.0, s.3.1, held_out ds s.3.0 s.3.2), entries_out es s.1 s.4)

-- ---- entries are read

held_law : IsReadBy Held held_at
unfolding held_at
held_law = record {
  takes = when_takes import_free (vector_law declaration_law).takes (λ ds text s free. (s, free));
  again = λ ds front rest s. rw ((vector_law declaration_law).again ds front rest s.0, s.1) refl;
}

-- a declaration in which no other stands is no instance type, and no entry is a component type
no_instance : (d : Declaration) (front rest : List ℕ) → IsDeclaration d front → tag_at 1 (tag_at 0x42 held_at) (front ++ rest) ≡ None
no_instance d front rest = not_nested 0x42 held_at d front rest (omega arith) (λ e. omega arith) (λ e. omega arith)

no_component : {A : Type 0} (reader : Reader A) (x : Entry) (front rest : List ℕ) → IsEntry x front → tag_at 1 (tag_at 0x41 reader) (front ++ rest) ≡ None
unfolding tag_at tagged_at choose
no_component reader x front rest s = search std_rules

entry_again : (x : Entry) (front rest : List ℕ) → IsEntry x front → entry_at (front ++ rest) ≡ Some (x, rest)
unfolding entry_at as_at
entry_again (plain d) front rest s = rw (no_instance d front rest s, declaration_law.again d front rest s) refl
entry_again (holds ds) front rest s = rw ((tag_law (tag_law held_law 0x42) 1).again ds front rest s) refl

pub entry_law : IsReadBy IsEntry entry_at
unfolding entry_at
entry_law = record {
  takes = or_takes (as_at holds (tag_at 1 (tag_at 0x42 held_at))) (as_at plain declaration_at) (as_takes holds (tag_law (tag_law held_law 0x42) 1).takes (λ ds text s. s))
      (as_takes plain declaration_law.takes (λ d text s. s));
  again = entry_again;
}

-- ---- types at the top are component types

-- how many entries there are is how many declarations they are
entry_count : (es : List Entry) → declaration_count (declarations_of es) ≡ length es
entry_count [] = refl
entry_count (plain d ∷ es) = ap suc (entry_count es)
entry_count (holds ds ∷ es) = ap suc (entry_count es)

entries_behind_into : (es : List Entry) (text : List ℕ) → Tagged 0x41 (Vector IsEntry es) text → ComponentTypeOf (declarations_of es) (AreDeclarations (declarations_of es)) text
entries_behind_into es text s = search (std_rules, entry_count, entries_into)

entries_behind_out : (es : List Entry) (text : List ℕ) → ComponentTypeOf (declarations_of es) (AreDeclarations (declarations_of es)) text → Tagged 0x41 (Vector IsEntry es) text
entries_behind_out es text s = search (std_rules, entry_count, entries_out)

pub part_into : (p : PartType) (text : List ℕ) → IsPartType p text → ComponentTypeOf (raw_part p) (AreDeclarations (raw_part p)) text
part_into (shows es) text s = entries_behind_into es text s
part_into (wraps es name) text s =
    let w = s.2 in
    let j = w.4 in
    (s.0, s.1, (w.0, w.1, w.2, w.3, (j.0, j.1, j.2, (j.3.0, j.3.1, entries_behind_into es j.3.0 j.3.2), (j.1, [], sym (append-nil j.1), j.4, refl))))

pub part_out : (p : PartType) (text : List ℕ) → ComponentTypeOf (raw_part p) (AreDeclarations (raw_part p)) text → IsPartType p text
part_out (shows es) text s = entries_behind_out es text s
part_out (wraps es name) text s =
    let w = s.2 in
    let j = w.4 in
    let last : j.1 ≡ j.4.0 = j.4.2 ∙ ap (λ (t : List ℕ). j.4.0 ++ t) j.4.4 ∙ append-nil j.4.0 in
    let export : IsDeclaration (Declaration.exported name (refs.Component 0)) j.1 = rw last j.4.3 in
    (s.0, s.1, (w.0, w.1, w.2, w.3, (j.0, j.1, j.2, (j.3.0, j.3.1, entries_behind_out es j.3.0 j.3.2), export)))

-- ---- types at the top are read

exported_world : (d : Declaration) (name : ExternName) → world_export d ≡ Some name → d ≡ Declaration.exported name (refs.Component 0)
exported_world x other e = search std_rules

world_export_law : IsReadBy (λ name. IsDeclaration (Declaration.exported name (refs.Component 0))) world_export_at
unfolding world_export_at
world_export_law = record {
  takes = λ bytes name rest e.
      let b = bind_some (declaration_at bytes) (λ d. world_export d.0 >>= λ n. Some (n, d.1)) (name, rest) e in
      let n = bind_some (world_export b.0.0) (λ n. Some (n, b.0.1)) (name, rest) b.2 in
      let t = declaration_law.takes bytes b.0.0 b.0.1 b.1 in
      taken_at n.0 name b.0.1 rest n.2 (record { front = t.front; parts = t.parts; spelled = subst (λ (d : Declaration). IsDeclaration d t.front) (exported_world b.0.0 n.0 n.1) t.spelled });
  again = λ name front rest s. rw (declaration_law.again (Declaration.exported name (refs.Component 0)) front rest s) refl;
}

world_law : IsReadBy (λ w. Joined (Tagged 1 (Tagged 0x41 (Vector IsEntry w.0))) (IsDeclaration (Declaration.exported w.1 (refs.Component 0))))
    (pair_at (tag_at 1 (tag_at 0x41 (vector_at entry_at))) world_export_at)
world_law = pair_law (tag_law (tag_law (vector_law entry_law) 0x41) 1) world_export_law

wrapper_law : IsReadBy IsWrapper wrapper_at
unfolding wrapper_at
wrapper_law = record {
  takes = λ bytes w rest e.
      let b = bind_some (u32_at bytes) (λ n. cond (eqb n.0 2) (pair_at (tag_at 1 (tag_at 0x41 (vector_at entry_at))) world_export_at n.1) None) (w, rest) e in
      let c = when_some (eqb b.0.0 2) (pair_at (tag_at 1 (tag_at 0x41 (vector_at entry_at))) world_export_at b.0.1) (w, rest) b.2 in
      let t = u32_law.takes bytes b.0.0 b.0.1 b.1 in
      let u = world_law.takes b.0.1 w rest c.1 in
      reshaped (join_taken t u) (λ text s. rw (eqb-true b.0.0 2 c.0) at s);
  again = λ w front rest s. rw (s.2, append_assoc s.0 s.1 rest, u32_law.again 2 s.0 (s.1 ++ rest) s.3) (world_law.again w s.1 rest s.4);
}

-- what spells entries is no wrapper, whose first declaration is a component type
no_wrapper : (es : List Entry) (front rest : List ℕ) → Vector IsEntry es front → wrapper_at (front ++ rest) ≡ None
unfolding wrapper_at pair_at
no_wrapper [] front rest s = rw (s.2, append_assoc s.0 s.1 rest, u32_law.again 0 s.0 (s.1 ++ rest) s.3) refl
no_wrapper (x ∷ []) front rest s = rw (s.2, append_assoc s.0 s.1 rest, u32_law.again 1 s.0 (s.1 ++ rest) s.3) refl
no_wrapper (x ∷ y ∷ z ∷ es) front rest s =
    rw (s.2, append_assoc s.0 s.1 rest, u32_law.again (suc (suc (suc (length es)))) s.0 (s.1 ++ rest) s.3, ne_eqb (suc (suc (suc (length es)))) 2 (λ e. omega (arith, e))) refl
no_wrapper (x ∷ y ∷ []) front rest s = rw (s.2, append_assoc s.0 s.1 rest, u32_law.again 2 s.0 (s.1 ++ rest) s.3) (no_pair s.4)
  where
    no_pair : (t : Sequence IsEntry (x ∷ y ∷ []) s.1) → pair_at (tag_at 1 (tag_at 0x41 (vector_at entry_at))) world_export_at (s.1 ++ rest) ≡ None
    no_pair t = rw (t.2, append_assoc t.0 t.1 rest, no_component (vector_at entry_at) x t.0 (t.1 ++ rest) t.3) refl

part_again : (p : PartType) (front rest : List ℕ) → IsPartType p front → part_type_at (front ++ rest) ≡ Some (p, rest)
unfolding part_type_at part_behind_at tag_at tagged_at choose as_at
part_again (wraps es name) front rest s = rw (s.1, wrapper_law.again (es, name) s.0 rest s.2) refl
part_again (shows es) front rest s = rw (s.1, no_wrapper es s.0 rest s.2, (vector_law entry_law).again es s.0 rest s.2) refl

pub part_type_law : IsReadBy IsPartType part_type_at
unfolding part_type_at tag_at part_behind_at
part_type_law = record { takes = tagged_takes IsPartType ((0x41, part_behind_at) ∷ []) (behind, tt); again = part_again }
  where
    behind : Takes (λ q text. IsPartType q (0x41 ∷ text)) part_behind_at
    behind = or_takes (as_at (λ w. wraps w.0 w.1) wrapper_at) (as_at shows (vector_at entry_at)) (as_takes (λ w. wraps w.0 w.1) wrapper_law.takes (λ w text s. (text, refl, s)))
        (as_takes shows (vector_law entry_law).takes (λ es text s. (text, refl, s)))
