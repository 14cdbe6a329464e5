use Rattle.std.specs.Cow.{cow_str_bytes}
use Rattle.comp_bytes.specs.{Form.Name, Writing.attribute_bytes, Spelling.Attribute}
use Rattle.comp_bytes.proofs.{Appends.tagged, Sequences.alone}
use Rattle.comp_bytes.proofs.append.append_attribute.Goals as goal

pub returns-in_ok-push-in-Some : goal.returns-in_ok-push-in-Some
returns-in_ok-push-in-Some c =
    let text = cow_str_bytes c.in-Some.text in
    rw c.in-Some.is (alone Attribute attribute_bytes (c.args.tag, text) _ _ _ _
    (tagged c.args.tag (Name text) _ _ _ _ _ _ c.in_ok-push-in-Some.ensures.items (rw c.deref.ensures.value at c.append_name.ensures.appends)))
