use Rattle.std.proofs.Common.{sym, ap, subst, ◌∙◌, ℕ, List}
use Rattle.std.specs.Prelude.{Vec}
use Rattle.std.specs.declared.alloc.Global.{Global}
use Rattle.bind_json.specs.Encodings.{bindgen_listing_tokens}
use Rattle.wit_json.specs.Spelled.{Spells}
use Rattle.base_lemmas.proofs.Options.{passed as err_is}
use Rattle.wit_component.specs.Bound.{RefusesBindings}
use Rattle.witc_listed.proofs.listings.module_json.Goals as goal

pub returns-in_err-bindgen_listing-clause-refused : goal.returns-in_err-bindgen_listing-clause-refused
returns-in_err-bindgen_listing-clause-refused c = err_is _ c.from_residual-in_err-bindgen_listing.result c.in_err-bindgen_listing.field-0.0 c.from_residual-in_err-bindgen_listing.ensures.1
    (subst (RefusesBindings c.args.bytes.now) (sym c.in_err-bindgen_listing.ensures.refuses) tt)

pub returns-in_err-bindgen_listing-clause-size : goal.returns-in_err-bindgen_listing-clause-size
returns-in_err-bindgen_listing-clause-size c = err_is _ c.from_residual-in_err-bindgen_listing.result c.in_err-bindgen_listing.field-0.0 c.from_residual-in_err-bindgen_listing.ensures.1
    (λ size. absurd (cc (sym c.in_err-bindgen_listing.ensures.refuses ∙ size)))

pub returns-clause-listed : goal.returns-clause-listed
returns-clause-listed c =
    let is = c.in_ok-_module.ensures in
    record {
      bound = c.in_ok-_module.bound;
      binds = is.bound;
      valid = is.valid;
      root = is.root;
      reached = is.reached;
      spells = subst (λ (t : List ℕ). Spells t (bindgen_listing_tokens c.in_ok-_module.bound)) (sym (ap (λ (v : Vec ℕ Global). v.items) c.into_bytes.ensures.value)) c.in_ok-bindgen_listing.ensures.ok;
    }
