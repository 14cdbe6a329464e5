use Rattle.std.proofs.Common.{sym, ap, subst, ℕ, List}
use Rattle.std.specs.Prelude.{Vec}
use Rattle.std.specs.declared.alloc.Global.{Global}
use Rattle.wit_json.specs.{Listed.package_listing_tokens, Spelled.Spells}
use Rattle.witc_listed.proofs.listings.package_json.Goals as goal

pub returns-clause-listed : goal.returns-clause-listed
returns-clause-listed c =
    let is = c.in_ok-resolve.ensures in
    record {
      resolve = c.in_ok-resolve.resolve;
      id = c.in_ok-resolve.id;
      decoded = is.decoded;
      order = is.order;
      spells = subst (λ (t : List ℕ). Spells t (package_listing_tokens c.in_ok-resolve.resolve c.in_ok-resolve.id.0)) (sym (ap (λ (v : Vec ℕ Global). v.items) c.into_bytes.ensures.value))
          c.in_ok-package_listing.ensures.ok;
    }
