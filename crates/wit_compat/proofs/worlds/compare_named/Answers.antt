use Rattle.compat_meaning.specs.Compatible.{Accepts, IsRefused, memory}
use Rattle.compat_meaning.proofs.{Validity.types_fit}
use Rattle.wit_compat.proofs.{Matching.by_result, Refusing.mismatch_refused, Refusing.repeated_refused}
use Rattle.std.proofs.lemmas.Result.{on_ok_weaker as ok_then, IfErr-weaker}
use Rattle.wit_compat.proofs.worlds.compare_named.Goals as goal

pub returns-in-Err-clause-accepts : goal.returns-in-Err-clause-accepts
returns-in-Err-clause-accepts c = repeated_refused c.args.resolve.now c.args.prev.now c.args.new.now c.requires.packages c.in-Err.error c.in-Err.ensures.refuses

pub heads-requires : goal.heads-requires
heads-requires c = types_fit c.args.resolve.now c.requires.valid

pub returns-in-Ok-clause-accepts : goal.returns-in-Ok-clause-accepts
returns-in-Ok-clause-accepts c =
    let r = c.args.resolve.now in
    let prev = c.args.prev.now in
    let new = c.args.new.now in
    by_result (Accepts r prev new) (IsRefused r prev new) c.compare_anew.result
    (ok_then c.compare_anew.result (λ k. record { comparable = record { packages = c.requires.packages; prev_keys = c.in_default.ensures.prev; new_keys = c.in_default.ensures.new }; compatible = k })
    c.compare_anew.ensures.compatible)
    (IfErr-weaker c.compare_anew.result _ _ (mismatch_refused r prev new c.requires.packages c.in_default.ensures.prev c.in_default.ensures.new) c.compare_anew.ensures.refuses)

pub returns-in-Err-heads-clause-accepts : goal.returns-in-Err-heads-clause-accepts
returns-in-Err-heads-clause-accepts c = memory
