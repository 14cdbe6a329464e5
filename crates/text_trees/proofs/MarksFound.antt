-- What readers of attributes, of gates and of what stands in front of items find is there by the grammar.
use Rattle.std.proofs.Common.{◌≡◌, refl, ap, ◌∙◌, subst, ◌&&◌, ◌<◌, ◌+◌, ℕ, zero, suc, Bool, true, false, List, ◌∷◌, length, arith, Option, Some, None, is_none}
use Rattle.std.specs.Option.{option_map_or}
use Rattle.base_lemmas.proofs.{Bools.left_of, Bools.right_of, Options.none_is}
use Rattle.print_grammar.specs.{Token.Token, Tree.Gates}
use Rattle.print_grammar.specs.Token.Mark.{At}
use Rattle.print_grammar.specs.Token.Token.{Punctuation}
use Rattle.print_grammar.specs.Grammar.{ReadsVersionArgument, ReadsVersionArgument.version_argument}
use Rattle.text_trees.specs.Grammar.{Documentation, Marks, ReadsMarks, ReadsPrefix, ReadsGates, gates_of_marks, no_marks}
use Rattle.text_trees.specs.Grammar.ReadsMarks.{no_more, since, unstable, deprecated, external_id}
use Rattle.text_trees.specs.Grammar.{ReadsPrefix.prefix, ReadsGates.gates}
use Rattle.text_trees.specs.Reading.{Wanted.AGate, Reading, Reading.Found, Reading.Refused, then_read, begins, behind}
use Rattle.text_trees.specs.ReadDeclared.{version_argument_in_front, is_ungated, mark_behind, marks_from, marks_in_front, gates_behind, gates_in_front, prefix_in_front}
use Rattle.text_trees.proofs.{Fronts.begins_is, Lengths.argument-shortens}
use Rattle.text_trees.proofs.Finding.{Sound, Finds, finds, refuses, either_finds, as_begun, refused_sound, found_sound, then_sound, made_sound, sound_as, by_docs_sound, mark_sound, if_word_sound, if_free_sound, id_sound, version_sound, quoted_sound}

pub argument-sound : Sound ReadsVersionArgument version_argument_in_front
argument-sound = mark_sound _ (if_word_sound _ (mark_sound _ (version_sound (λ version. mark_sound _ (found_sound (λ rest. version_argument refl))))) refused_sound)

-- ---- one attribute

-- one where something may still stand
abbrev slot : Bool → ℕ
slot true = 1
slot false = 0

-- how many attributes may follow
abbrev pub slots : Marks → ℕ
slots marks = slot (is_ungated marks) + (slot (is_none marks.deprecated) + slot (is_none marks.external_id))

-- What an attribute behind its `@` says: it goes on with the attributes behind it, an external id only where one may stand, and fewer may follow.
pub record MarkSays (ids : Bool) (marks : Marks) (ts : List Token) (next : Marks) (rest : List Token) : Type 0 where
  pub goes_on : (all : Marks) (after : List Token) → ReadsMarks next rest all after → ReadsMarks marks (Punctuation At ∷ ts) all after
  pub no_id : ids ≡ false → next.external_id ≡ marks.external_id
  pub fewer : slots next < slots marks
  pub shorter : length rest < length ts

no_slot : (b : Bool) → slot (b && false) ≡ 0
no_slot true = refl
no_slot false = refl

pub mark-sound : (ids : Bool) (marks : Marks) → Sound (MarkSays ids marks) (mark_behind ids marks)
mark-sound ids marks =
    if_free_sound _ _ (λ free. made_sound _ (sound_as argument-sound (λ ts rest version r. record {
      goes_on = λ all after m.
          since refl (none_is marks.since (left_of _ _ free)) (none_is marks.unstable (right_of (is_none marks.since) _ free)) r m;
      no_id = λ h. refl;
      fewer = let o = ap slot free in omega (arith, o);
      shorter = let l = argument-shortens _ _ _ r in omega (arith, l);
    })))
    (if_free_sound _ _ (λ free. made_sound _ (mark_sound _ (if_word_sound _ (mark_sound _ (id_sound (λ t feature i. mark_sound _ (found_sound (λ rest. record {
      goes_on = λ all after m.
          unstable refl refl i (none_is marks.since (left_of _ _ free)) (none_is marks.unstable (right_of (is_none marks.since) _ free)) m;
      no_id = λ h. refl;
      fewer = let o = ap slot free in let c = no_slot (is_none marks.since) in omega (arith, o, c);
      shorter = omega arith;
    }))))) refused_sound)))
    (if_free_sound _ _ (λ free. made_sound _ (sound_as argument-sound (λ ts rest version r. record {
      goes_on = λ all after m. deprecated refl (none_is marks.deprecated free) r m;
      no_id = λ h. refl;
      fewer = let o = ap slot free in omega (arith, o);
      shorter = let l = argument-shortens _ _ _ r in omega (arith, l);
    })))
    (if_free_sound _ _ (λ free. made_sound _ (mark_sound _ (quoted_sound (λ characters. mark_sound _ (found_sound (λ rest. record {
      goes_on = λ all after m. external_id refl (none_is marks.external_id (right_of ids _ free)) m;
      no_id = λ h. let k = left_of ids _ free in absurd (cc (h, k));
      fewer = let o = ap slot (right_of ids _ free) in omega (arith, o);
      shorter = omega arith;
    })))))) refused_sound)))

-- ---- attributes

-- The attributes are there, and an external id only where one may stand.
abbrev pub MarksSay : Bool → Marks → List Token → Marks → List Token → Type 0
MarksSay ids marks ts all rest = ReadsMarks marks ts all rest × (ids ≡ false → all.external_id ≡ marks.external_id)

-- an attribute, and those behind it
round_sound : (ids : Bool) (marks : Marks) {loop : Marks → List Token → Reading Marks} → ((next : Marks) → Sound (MarksSay ids next) (loop next))
    → Sound (λ us. MarksSay ids marks (Punctuation At ∷ us)) (λ us. then_read (mark_behind ids marks us) loop)
round_sound ids marks f =
    then_sound (mark-sound ids marks) (λ next. sound_as (f next) (λ us rest all m ts s. (s.goes_on all rest m.0, λ k. m.1 k ∙ s.no_id k)))

marks_from-sound : (ids : Bool) (n : ℕ) (marks : Marks) → Sound (MarksSay ids marks) (marks_from ids n marks)
unfolding marks_from
marks_from-sound ids zero marks = refused_sound
marks_from-sound ids (suc n) marks =
    let round = round_sound ids marks (marks_from-sound ids n) in record {
      at = λ ts.
          either_finds (begins At ts) (λ h. as_begun (MarksSay ids marks) (begins_is At ts h) (round.at (behind ts))) (λ h. finds (no_more, λ k. refl));
    }

marks-sound : (ids : Bool) → Sound (MarksSay ids no_marks) (marks_in_front ids)
unfolding marks_in_front
marks-sound ids = record { at = λ ts. (marks_from-sound ids _ no_marks).at ts }

-- the gates that attributes are, if they are any
gates_sound : {Q : List Token → Gates → List Token → Type 0} (marks : Marks) → ((ts : List Token) (given : Gates) → gates_of_marks marks ≡ Some given → Q ts given ts)
    → Sound Q (gates_behind marks)
gates_sound {Q} marks f = record { at = λ ts. go ts (gates_of_marks marks) refl }
  where
    go : (ts : List Token) (o : Option Gates) → gates_of_marks marks ≡ o → Finds (option_map_or (λ given. Found given ts) o (Refused AGate ts)) (Q ts)
    go ts (Some given) e = finds (f ts given e)
    go ts None e = refuses

pub gates-sound : Sound ReadsGates gates_in_front
gates-sound = then_sound (marks-sound false) (λ marks. gates_sound marks (λ between given e ts m. gates marks m.0 (m.1 refl) e))

pub prefix-sound : {docs : Documentation} → Sound (ReadsPrefix docs) (prefix_in_front docs)
prefix-sound {docs} =
    by_docs_sound docs (λ lines. prefix_in_front (λ us. lines)) (λ lines.
    then_sound (marks-sound true) (λ marks. made_sound _ (gates_sound marks (λ between given e ts m same.
    subst (λ here. ReadsPrefix docs ts (record { docs = here; gates = given; external_id = marks.external_id }) between) same (prefix marks m.0 e)))))
