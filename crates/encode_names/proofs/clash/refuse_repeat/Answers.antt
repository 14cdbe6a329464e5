use Rattle.std.proofs.Common.{rules, sym, ap, subst, ◌∙◌, ◌++◌, ◌+◌, ◌≤◌, length, map}
use Rattle.std.specs.List.{IsDistinct}
use Rattle.wit_model.specs.Text.{text_eq, text_of}
use Rattle.wit_model.specs.declared.model.InterfaceId.{InterfaceId}
use Rattle.encode_names.specs.Clashes.{canonical_paths_of, AreDifferent}
use Rattle.encode_names.proofs.Paths.{path-next, paths-end, paths_refused, split-on, left, next}
use Rattle.encode_names.proofs.clash.refuse_repeat.Goals as goal

pub loop-interface-init : goal.loop-interface-init
unfolding IsDistinct
loop-interface-init c = record {
  split = ap (λ ks. map text_of ks ++ canonical_paths_of c.args.resolve.now (map (λ (id : InterfaceId). id.0) c.args.interfaces.now)) (sym c.new-seen.ensures.empty);
  once = subst (λ ks. IsDistinct text_eq (map text_of ks)) (sym c.new-seen.ensures.empty) tt;
}

pub see-requires : goal.see-requires
see-requires c = record { once = c.loop-interface.invariant.once }

pub returns-in_err-see-clause-refuses : goal.returns-in_err-see-clause-refuses
returns-in_err-see-clause-refuses c =
    let r = c.args.resolve.now in
    let xs = c.args.interfaces.now in
    let i = c.loop-interface.interface-index in
    let before = map text_of c.loop-interface.seen.keys in
    paths_refused r before (left r xs i (i + 1)) (text_of c.in_ok-path.path) (next r xs i) c.in_err-see.field-0.0 c.from_residual-in_err-see.result (map (λ (id : InterfaceId). id.0) xs)
    (c.loop-interface.invariant.split ∙ ap (λ ts. before ++ ts) (path-next r xs i c.loop-interface-test.true)) c.in_ok-path.ensures.ok
    c.loop-interface.invariant.once c.in_err-see.ensures.refuses c.from_residual-in_err-see.ensures.1

pub loop-interface-preserved : goal.loop-interface-preserved
loop-interface-preserved c =
    let r = c.args.resolve.now in
    let xs = c.args.interfaces.now in
    let i = c.loop-interface.interface-index in
    let before = map text_of c.loop-interface.seen.keys in
    record {
      split = split-on (canonical_paths_of r (map (λ (id : InterfaceId). id.0) xs)) before (map text_of c.see.new.seen.keys) (left r xs i (i + 1)) (text_of c.in_ok-path.path) (next r xs i)
          (c.loop-interface.invariant.split ∙ ap (λ ts. before ++ ts) (path-next r xs i c.loop-interface-test.true)) c.in_ok-path.ensures.ok c.in_ok-see.ensures.seen;
      once = c.in_ok-see.ensures.once;
    }

pub returns-clause-ok : goal.returns-clause-ok
returns-clause-ok c =
    let xs = c.args.interfaces.now in
    let past : length xs ≤ c.loop-interface.interface-index = search rules in
    subst AreDifferent (sym (paths-end c.args.resolve.now xs c.loop-interface.interface-index (canonical_paths_of c.args.resolve.now (map (λ (id : InterfaceId). id.0) xs))
    (map text_of c.loop-interface.seen.keys) past c.loop-interface.invariant.split))
    c.loop-interface.invariant.once
