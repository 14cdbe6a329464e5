use Rattle.std.proofs.Common.{refl, ap, map}
use Rattle.encode_types.specs.Codes.{names_of}
use Rattle.encode_types.proofs.{Tables.LearnsName, Tables.name-learnt, Tables.names-same, maps.TypeEncodingMaps.number_of.Goals.In_ok-number}
use Rattle.encode_types.proofs.maps.TypeEncodingMaps.number_of.Goals as goal

learnt : (c : In_ok-number) → LearnsName c.args.self.now.names.entries c.number_in.new.names.entries c.args.name c.in_ok-number.number
learnt c = name-learnt c.args.self.now.names.entries c.number_in.new.names.entries c.args.name c.in_ok-number.number
    c.in_ok-number.ensures.entries c.in_ok-number.ensures.number c.in_ok-number.ensures.kept

pub returns-clause-names : goal.returns-clause-names
returns-clause-names c = record {
  rest = record { numbers = refl; kinds = refl; keys = refl; names_ = refl; unit_future_ = refl; unit_stream_ = refl };
  grow = (learnt (goal.at.returns-clause-names c).In_ok-number).grow;
}

pub returns-clause-known : goal.returns-clause-known
returns-clause-known c = (learnt (goal.at.returns-clause-known c).In_ok-number).known

pub returns-clause-ok : goal.returns-clause-ok
returns-clause-ok c = (learnt (goal.at.returns-clause-ok c).In_ok-number).there

pub returns-in_err-number-clause-names : goal.returns-in_err-number-clause-names
returns-in_err-number-clause-names c = record {
  rest = record { numbers = refl; kinds = refl; keys = refl; names_ = refl; unit_future_ = refl; unit_stream_ = refl };
  grow = names-same (names_of c.args.self.now.names) (names_of c.number_in.new.names) (ap (map (λ e. (e.0.now, e.1))) c.in_err-number.ensures.err);
}

pub returns-in_err-number-clause-known : goal.returns-in_err-number-clause-known
returns-in_err-number-clause-known c = λ h. c.in_err-number.ensures.err
