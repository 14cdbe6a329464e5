-- A name of an import or an export, from what the steps that append it do.
use Rattle.std.proofs.Common.{rules as std_rules, ◌≡◌, ℕ, ◌<◌, ◌≤◌, Bool, ◌&&◌, List, [], ◌∷◌, ◌++◌, length, Result, sym, ap, ◌∙◌, arith}
use Rattle.std.specs.List.{flat_map}
use Rattle.wit_model.specs.declared.error.Error.{Error}
use Rattle.comp_bytes.specs.{Form.Joined, Form.Name, Form.Sequence, Form.Vector, Spelling.attribute, Spelling.attributes, Spelling.Attribute, Spelling.NameWith}
use Rattle.comp_bytes.specs.{Number.IsU32, Fits.fits_length, Fits.fits_given, Fits.fits_attributes, Appending.Appended, Appending.Appends}
use Rattle.comp_bytes.specs.{Raw.ExternName, Writing.u32_bytes, Writing.name_bytes, Writing.attribute_bytes, Writing.attributed_bytes}
use Rattle.comp_bytes.proofs.{Appends.second_fails, Appends.joined, Appends.tagged, Writes.bytes_1, Writes.spells_u32, Sequences.both, Sequences.behind}

pub length-attributes : (name : ExternName) → length (attributes name) ≤ 3
length-attributes name = search std_rules

module _ {X : Type 0} where
  -- the three attributes, each where it is given
  pub three : (name : ExternName) (old one two new : List ℕ) (r : Result X Error)
      → Appended (Sequence Attribute (attribute 0 name.implements)) (flat_map attribute_bytes (attribute 0 name.implements)) old one
      → Appended (Sequence Attribute (attribute 1 name.version_suffix)) (flat_map attribute_bytes (attribute 1 name.version_suffix)) one two
      → Appends (Sequence Attribute (attribute 2 name.external_id)) (flat_map attribute_bytes (attribute 2 name.external_id)) (fits_given name.external_id) two new r
      → Appends (Sequence Attribute (attributes name)) (flat_map attribute_bytes (attributes name)) (fits_attributes name) old new r
  three name old one two new r a b c = search (std_rules, both, behind, second_fails)

  -- 02, the text, the count of the attributes and the attributes
  pub attributed : (given : List (ℕ × List ℕ)) (text : List ℕ) (n : ℕ) (part : Bool) (old tag named counted new : List ℕ) (r : Result X Error) → 0 < n → n < 128 → n ≡ length given
      → tag ≡ old ++ 2 ∷ [] → Appended (Name text) (name_bytes text) tag named → counted ≡ named ++ n ∷ [] → Appends (Sequence Attribute given) (flat_map attribute_bytes given) part counted new r
      → Appends (NameWith given text) (attributed_bytes given text) (fits_length text && part) old new r
  attributed [] text n part old tag named counted new r some small e t a c b = absurd (omega arith)
  attributed (first ∷ others) text n part old tag named counted new r some small e t a c b =
      let bytes : u32_bytes (length (first ∷ others)) ≡ n ∷ [] = ap u32_bytes (sym e) ∙ bytes_1 n small in
      let count : Appended (IsU32 (length (first ∷ others))) (u32_bytes (length (first ∷ others))) named counted =
      record { items = c ∙ ap (λ (l : List ℕ). named ++ l) (sym bytes); spelled = spells_u32 (length (first ∷ others)) (omega arith) } in
      let vector = joined (IsU32 (length (first ∷ others))) (Sequence Attribute (first ∷ others)) _ _ part part named counted new r count b (λ h. h) in
      let whole = joined (Name text) (Vector Attribute (first ∷ others)) _ _ part (fits_length text && part) tag named new r a vector (second_fails (fits_length text) part) in
      tagged 2 (Joined (Name text) (Vector Attribute (first ∷ others))) _ (fits_length text && part) old tag new r t whole
