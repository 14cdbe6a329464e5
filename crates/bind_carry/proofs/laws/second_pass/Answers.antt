use Rattle.bind_carry.proofs.SecondCarried.{bound_stands, interface_from, passes_merged, second_is_copied, type_from, world_from}
use Rattle.bind_carry.proofs.laws.second_pass.Goals as goal

pub returns-clause-copied : goal.returns-clause-copied
returns-clause-copied c = λ own other merged world other_world w v m k numbers p copied interfaces types valid_own valid_other s.
    second_is_copied own other merged valid_own valid_other world other_world w v m k numbers p copied interfaces types s

pub returns-clause-joined : goal.returns-clause-joined
returns-clause-joined c = λ own other merged world other_world w v m k numbers p copied interfaces types valid_own valid_other s.
    bound_stands own other merged valid_own valid_other world other_world w v m k numbers p copied interfaces types s

pub returns-clause-all : goal.returns-clause-all
returns-clause-all c = λ own other merged world other_world w v m k numbers p copied interfaces types valid_own valid_other s. record {
  types = type_from own other merged valid_own valid_other world other_world w v m k numbers p copied interfaces types s;
  interfaces = interface_from own other merged valid_own valid_other world other_world w v m k numbers p copied interfaces types s;
  worlds = world_from own other merged valid_own valid_other world other_world w v m k numbers p copied interfaces types s;
}

pub returns-clause-merged : goal.returns-clause-merged
returns-clause-merged c = λ own other merged world other_world w v m k numbers p copied interfaces types valid_own valid_other s.
    passes_merged own other merged valid_own valid_other world other_world w v m k numbers p copied interfaces types s
