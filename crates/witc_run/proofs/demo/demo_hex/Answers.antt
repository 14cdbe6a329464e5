use Rattle.std.proofs.Common.{ap, ◌∙◌}
use Rattle.witc_run.specs.{Demo.demo, Hex.hex_text}
use Rattle.witc_run.proofs.MemberLaws.{holds-world}
use Rattle.witc_run.proofs.demo.demo_hex.Goals as goal

pub returns : goal.returns
returns c =
    let r = c.in_ok-resolve.resolve in
    let holds = c.in_ok-resolve.ensures.holds in
    let some = holds-world r holds.package_ holds.stands holds.means in
    record {
      resolve = r;
      means = holds.means;
      bytes = c.in_ok-bytes.bytes.items;
      spelled = c.in_ok-bytes.ensures.holds;
      reads = (c.in_ok-bytes.ensures.means holds.package_ holds.stands some demo).0 holds.means;
      is_text = c.in_ok-hex_lines.ensures ∙ ap hex_text c.deref.ensures.value;
    }
