use Rattle.std.proofs.Common.{◌≡◌, refl, sym, subst, ◌∙◌, List, ℕ, [], map, Bor, arith}
use Rattle.wit_model.specs.Text.{Text, text_of}
use Rattle.wit_model.specs.declared.model.Param.{Param}
use Rattle.encode_types.specs.Codes.{names_of, HasNumber, HaveNumbers}
use Rattle.encode_types.specs.declared.maps.TypeEncodingMaps.{TypeEncodingMaps}
use Rattle.encode_types.proofs.Tables.{adds-names-then, adds-same-names, adds-grow, adds-next}
use Rattle.encode_types.proofs.maps.TypeEncodingMaps.list_of_key.Goals as goal

-- one more parameter, where all names of the key had numbers
same-next : (a b c : TypeEncodingMaps) (ps : List Param) (p : Param) → (HaveNumbers (names_of a.names) ps → b.names.entries ≡ a.names.entries)
    → (HasNumber (names_of b.names) (text_of p.name) → c.names.entries ≡ b.names.entries)
    → (HaveNumbers (names_of a.names) ps → HasNumber (names_of a.names) (text_of p.name)) → HaveNumbers (names_of a.names) ps → c.names.entries ≡ a.names.entries
same-next a b c ps p before now has h = now (subst (λ (ns : List (Bor Text × ℕ)). HasNumber (map (λ e. (e.0.now, e.1)) ns) (text_of p.name)) (sym (before h)) (has h)) ∙ before h

pub returns-in_err-list-clause-names : goal.returns-in_err-list-clause-names
returns-in_err-list-clause-names c = adds-same-names c.args.self.now

pub returns-in_err-list-clause-known : goal.returns-in_err-list-clause-known
returns-in_err-list-clause-known c = λ h. refl

pub loop-i-init : goal.loop-i-init
loop-i-init c = record { names = adds-same-names c.args.self.now; known = λ h. refl; adds = record { middle = []; is = c.in_ok-list.ensures; are = tt; most = omega arith } }

pub loop-i-preserved : goal.loop-i-preserved
loop-i-preserved c = record {
  names = adds-names-then c.loop-i.invariant.names c.push_named.ensures.names;
  known = same-next c.args.self.now c.loop-i.self c.push_named.new.self c.args.key.now.params.0.now c.index-params-i.result c.loop-i.invariant.known c.push_named.ensures.known
      (λ h. h c.index-params-i.result (c.loop-i.i, c.loop-i-test.true, sym c.index-params-i.is));
  adds = adds-next (names_of c.push_named.new.self.names) c.args.key.now.params.0.now c.loop-i.i c.index-params-i.result _ c.loop-i.list.items c.push_named.new.list.items c.loop-i-test.true
      c.index-params-i.is (adds-grow (names_of c.loop-i.self.names) (names_of c.push_named.new.self.names) c.loop-i.i _ c.loop-i.list.items c.args.key.now.params.0.now c.push_named.ensures.names.grow
      c.loop-i.invariant.adds) c.in_ok-push_named.ensures.ok;
}

pub returns-in_err-push_named-clause-names : goal.returns-in_err-push_named-clause-names
returns-in_err-push_named-clause-names c = adds-names-then c.loop-i.invariant.names c.push_named.ensures.names

pub returns-in_err-push_named-clause-known : goal.returns-in_err-push_named-clause-known
returns-in_err-push_named-clause-known c = same-next c.args.self.now c.loop-i.self c.push_named.new.self c.args.key.now.params.0.now c.index-params-i.result c.loop-i.invariant.known
    c.push_named.ensures.known (λ h. h c.index-params-i.result (c.loop-i.i, c.loop-i-test.true, sym c.index-params-i.is))

pub returns-in_err-push_optional-clause-names : goal.returns-in_err-push_optional-clause-names
returns-in_err-push_optional-clause-names c = c.loop-i.invariant.names

pub returns-in_err-push_optional-clause-known : goal.returns-in_err-push_optional-clause-known
returns-in_err-push_optional-clause-known c = c.loop-i.invariant.known

pub returns-clause-names : goal.returns-clause-names
returns-clause-names c = c.loop-i.invariant.names

pub returns-clause-known : goal.returns-clause-known
returns-clause-known c = c.loop-i.invariant.known
