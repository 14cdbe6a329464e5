use Rattle.std.proofs.{Common.sym, Common.subst, Common.◌∙◌, Common.ℕ, Common.false, Common.List, lemmas.Result.IfErr-weaker, lemmas.Result.IfOk-weaker}
use Rattle.comp_read.specs.Decoded.{IsDecoded, RefusesBytes}
use Rattle.wit_encode.specs.Packages.{MeansPackage, SpellsPackageAt}
use Rattle.wit_component.specs.ReadBack.{IsReadBack, RefusesReadBack}
use Rattle.wit_component.proofs.Refusing.{handed_on, memory_or_size, never_too_large, read_back, read_of, refused_decoding, refused_encoding}
use Rattle.wit_component.proofs.normal.normalized.Goals as goal
use Rattle.base_lemmas.proofs.Lists.{within_there as stands}
use Rattle.encode_names.proofs.Paths.{passed as passed_on}

pub returns-in_err-bytes-clause-size : goal.returns-in_err-bytes-clause-size
returns-in_err-bytes-clause-size c = λ refused. c.encode.ensures.size (c.in_err-bytes.was ∙ handed_on c.in_err-bytes.field-0.0 c.from_residual.result c.from_residual.ensures.1 refused)

pub returns-in_err-bytes-clause-refuses : goal.returns-in_err-bytes-clause-refuses
returns-in_err-bytes-clause-refuses c = λ p is.
    let r = c.args.resolve.now in
    let n = c.args.package.0 in
    let e = c.in_err-bytes.field-0.0 in
    passed_on (RefusesReadBack p) e c.from_residual.result (refused_encoding p e (memory_or_size r c.requires.valid n p is e (c.in_err-bytes.ensures.refuses p is)))
    c.from_residual.ensures.1

pub returns-clause-read_back : goal.returns-clause-read_back
returns-clause-read_back c =
    let r = c.args.resolve.now in
    let n = c.args.package.0 in
    let own = stands r.packages.items n c.requires.in_range in
    let bytes = c.deref.result.now in
    IfOk-weaker c.decode.result (λ x. IsDecoded bytes x.0 x.1.0) (λ x. IsReadBack r n x.0 x.1.0)
    (λ x decoded. read_back r n own.0 bytes own.1 (λ some. subst (λ (bs : List ℕ). MeansPackage r n bs) (sym c.deref.ensures.value) (c.in_ok-bytes.ensures.means own.0 own.1 some))
    (λ none. c.deref.ensures.value ∙ c.in_ok-bytes.ensures.empty own.0 own.1 none)
    x.0 x.1.0 decoded)
    c.decode.ensures.decoded

pub returns-clause-read_of : goal.returns-clause-read_of
returns-clause-read_of c =
    let r = c.args.resolve.now in
    let n = c.args.package.0 in
    read_of r n c.deref.result.now c.decode.result (subst (λ (bs : List ℕ). SpellsPackageAt r false n bs) (sym c.deref.ensures.value) c.in_ok-bytes.ensures.holds)
    c.decode.ensures.decoded c.decode.ensures.order

pub returns-clause-size : goal.returns-clause-size
returns-clause-size c = never_too_large c.deref.result.now c.decode.result c.decode.ensures.refuses

pub returns-clause-refuses : goal.returns-clause-refuses
returns-clause-refuses c = λ p is.
    let r = c.args.resolve.now in
    let n = c.args.package.0 in
    let bytes = c.deref.result.now in
    IfErr-weaker c.decode.result (RefusesBytes bytes) (RefusesReadBack p)
    (refused_decoding r n p bytes is (λ some. subst (λ (bs : List ℕ). MeansPackage r n bs) (sym c.deref.ensures.value) (c.in_ok-bytes.ensures.means p is some)))
    c.decode.ensures.refuses
