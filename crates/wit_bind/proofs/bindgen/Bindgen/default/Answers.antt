use Rattle.wit_bind.proofs.Roots.{root-in-range, root-means, root-valid}
use Rattle.wit_bind.proofs.bindgen.Bindgen.default.Goals as goal

pub returns-clause-root : goal.returns-clause-root
returns-clause-root c = record {
  valid = root-valid c.in_ok-root_resolve.field-0 c.in_ok-root_resolve.ensures.ok;
  holds = c.in_ok-root_resolve.ensures.ok;
  means = root-means c.in_ok-root_resolve.field-0 c.in_ok-root_resolve.ensures.ok;
  imports = c.empty.ensures.imports;
  exports = c.empty.ensures.exports;
}

pub returns-clause-valid : goal.returns-clause-valid
returns-clause-valid c = record {
  valid = root-valid c.in_ok-root_resolve.field-0 c.in_ok-root_resolve.ensures.ok;
  in_range = root-in-range c.in_ok-root_resolve.field-0 c.in_ok-root_resolve.ensures.ok;
}
