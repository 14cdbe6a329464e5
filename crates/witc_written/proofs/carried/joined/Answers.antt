use Rattle.std.proofs.Common.{◌≡◌, subst, ℕ, List, length, rules}
use Rattle.comp_bytes.specs.{Form.Name, Number.IsU32, Writing.name_bytes, Writing.u32_bytes}
use Rattle.witc_written.specs.Carried.{section_contents, section_name}
use Rattle.witc_written.proofs.AttachedLaws.{carried}
use Rattle.witc_written.proofs.carried.joined.Goals as goal

pub returns-clause-carried : goal.returns-clause-carried
returns-clause-carried c =
    let d = c.args.«data».now in
    let is : c.deref.result.now ≡ section_name c.args.name.now = search rules in
    carried c.args.name.now d (subst (λ (s : List ℕ). Name s (name_bytes s)) is c.in_ok-put_section.ensures.named)
    (subst (λ (s : List ℕ). IsU32 (length (section_contents s d)) (u32_bytes (length (section_contents s d)))) is c.in_ok-put_section.ensures.counted)
