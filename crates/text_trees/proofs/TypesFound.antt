-- What readers of types and signatures find is there by the grammar.
use Rattle.std.proofs.Common.{ℕ, List, ◌∷◌, zero, suc}
use Rattle.print_grammar.specs.{Keyword.Keyword, Token.Token}
use Rattle.print_grammar.specs.Token.Mark.{Less, Greater}
use Rattle.print_grammar.specs.Token.Token.{Word, Escaped, Key, Punctuation}
use Rattle.print_grammar.specs.Tree.{TypeTree}
use Rattle.print_grammar.specs.Grammar.{CommaList, ReadsType, ReadsTypes, ReadsParam, ReadsParams, ReadsResult, ReadsSignature}
use Rattle.print_grammar.specs.Grammar.ReadsType.{primitive, named, named_with_percent, own, borrow, tuple, option, map, list, fixed_list, future, future_of, stream, stream_of, result, result_ok, result_of, result_err}
use Rattle.print_grammar.specs.Grammar.ReadsTypes.{last_type, last_type_with_comma, next_type}
use Rattle.print_grammar.specs.Grammar.CommaList.{last, last_with_comma, next}
use Rattle.print_grammar.specs.Grammar.{ReadsParam.param, ReadsParams.no_params, ReadsParams.params, ReadsResult.no_result, ReadsResult.with_result, ReadsSignature.func, ReadsSignature.async_func}
use Rattle.text_trees.specs.Reading.{Reading}
use Rattle.text_trees.specs.ReadTypes.{tuple_types, payload_in_front, result_parts_in_front, form_in_front, type_by, level_in_front, type_in_front, param_in_front, params_in_front, result_in_front, signature_in_front}
use Rattle.text_trees.proofs.Finding.{Sound, found_sound, refused_sound, then_sound, made_sound, sound_as, mark_sound, if_mark_sound, key_sound, if_key_sound, id_sound, digits_sound, listed_sound, Finds, finds, refuses}

-- ---- types

-- a list of types with commas between, as the types of a tuple
pub types_are : {ts rest : List Token} {types : List TypeTree} → CommaList ReadsType (Punctuation Greater) ts types rest → ReadsTypes ts (tuple_types types) rest
types_are (last r) = last_type r
types_are (last_with_comma r) = last_type_with_comma r
types_are (next r l) = next_type r (types_are l)

module _ {read : List Token → Reading TypeTree} (sound : Sound ReadsType read) where
  payload-sound : {before : List Token → List Token} {alone : TypeTree} {of : TypeTree → TypeTree} → ((after : List Token) → ReadsType (before after) alone after)
      → ((between after : List Token) (ty : TypeTree) → ReadsType between ty (Punctuation Greater ∷ after) → ReadsType (before (Punctuation Less ∷ between)) (of ty) after)
      → Sound (λ ts. ReadsType (before ts)) (payload_in_front alone of read)
  payload-sound alone of = if_mark_sound _ (then_sound sound (λ ty. mark_sound _ (found_sound (λ rest ts r. of ts rest ty r)))) (found_sound alone)

  result-sound : Sound (λ ts. ReadsType (Key Keyword.Result ∷ Punctuation Less ∷ ts)) (result_parts_in_front read)
  result-sound =
      if_key_sound _ (mark_sound _ (then_sound sound (λ err. mark_sound _ (found_sound (λ rest ts r. result_err r)))))
      (then_sound sound (λ ok. if_mark_sound _ (then_sound sound (λ err. mark_sound _ (found_sound (λ rest us s ts r. result_of r s))))
      (mark_sound _ (found_sound (λ rest ts r. result_ok r)))))

  form-sound : Sound ReadsType (form_in_front read)
  form-sound =
      if_key_sound _ (made_sound _ (mark_sound _ (id_sound (λ t label i. mark_sound _ (found_sound (λ rest. own i))))))
      (if_key_sound _ (made_sound _ (mark_sound _ (id_sound (λ t label i. mark_sound _ (found_sound (λ rest. borrow i))))))
      (if_key_sound _ (mark_sound _ (made_sound _ (sound_as (listed_sound sound) (λ ts rest types l. tuple (types_are l)))))
      (if_key_sound _ (made_sound _ (mark_sound _ (then_sound sound (λ ty. mark_sound _ (found_sound (λ rest ts r. option r))))))
      (if_key_sound _ (mark_sound _ (then_sound sound (λ ty.
      if_mark_sound _ (digits_sound (λ n. mark_sound _ (found_sound (λ rest ts r. fixed_list r)))) (mark_sound _ (found_sound (λ rest ts r. list r))))))
      (if_key_sound _ (mark_sound _ (then_sound sound (λ k. mark_sound _ (then_sound sound (λ v. mark_sound _ (found_sound (λ rest us s ts r. map r s)))))))
      (if_key_sound _ (if_mark_sound _ result-sound (found_sound (λ rest. result)))
      (if_key_sound _ (payload-sound (λ after. future) (λ between after ty r. future_of r))
      (if_key_sound _ (payload-sound (λ after. stream) (λ between after ty r. stream_of r)) refused_sound))))))))

pub by-sound : {form : List Token → Reading TypeTree} → Sound ReadsType form → Sound ReadsType (type_by form)
by-sound {form} sound = record { at = go }
  where
    go : (ts : List Token) → Finds (type_by form ts) (ReadsType ts)
    go (Word label ∷ ts) = finds named
    go (Escaped label ∷ ts) = finds named_with_percent
    go (Key (Keyword.PrimitiveWord p) ∷ ts) = finds primitive
    go (Key Keyword.Use ∷ ts) = sound.at _
    go (Key keyword ∷ ts) = sound.at _
    go _ = refuses

pub level-sound : (room : ℕ) → Sound ReadsType (level_in_front room)
unfolding level_in_front
level-sound zero = refused_sound
level-sound (suc room) = form-sound (by-sound (level-sound room))

-- A type that is found is there.
pub type-sound : (room : ℕ) → Sound ReadsType (type_in_front room)
type-sound room = by-sound (level-sound room)

-- ---- signatures

module _ (room : ℕ) where
  pub param-sound : Sound ReadsParam (param_in_front room)
  param-sound = id_sound (λ t name i. mark_sound _ (then_sound (type-sound room) (λ ty. found_sound (λ rest ts r. param i r))))

  pub params-sound : Sound ReadsParams (params_in_front room)
  params-sound = mark_sound _ (if_mark_sound _ (found_sound (λ rest. no_params)) (sound_as (listed_sound param-sound) (λ ts rest xs l. params l)))

  pub result-is_sound : Sound ReadsResult (result_in_front room)
  result-is_sound = if_mark_sound _ (made_sound _ (sound_as (type-sound room) (λ ts rest ty r. with_result r))) (found_sound (λ rest. no_result))

  pub signature-sound : Sound ReadsSignature (signature_in_front room)
  signature-sound =
      if_key_sound _ (key_sound _ (then_sound params-sound (λ params. then_sound result-is_sound (λ result. found_sound (λ rest us s ts r. async_func r s)))))
      (key_sound _ (then_sound params-sound (λ params. then_sound result-is_sound (λ result. found_sound (λ rest us s ts r. func r s)))))
