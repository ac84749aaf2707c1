use Rattle.std.proofs.Common.{◌≡◌, ◌<◌, length, ap, arith}
use Rattle.std.proofs.lemmas.Grind.{common_steps}
use Rattle.std.specs.Prelude.{ok_or}
use Rattle.spelled_words.specs.Words.{unspelled}
use Rattle.spelled_words.specs.declared.fault.LineFault.TheVariants.{BadByte}
use Rattle.spelled_words.proofs.Unescaping.{goes_on, fails, is_done}
use Rattle.spelled_words.proofs.spelling.unescaped.Goals as goal

pub returns-in_default-clause-exact : goal.returns-in_default-clause-exact
returns-in_default-clause-exact c =
    let some : 0 < length c.loop-rest.rest.now = grind (arith, common_steps) in
    ap (λ o. ok_or o BadByte) (fails c.loop-rest.bytes.items c.loop-rest.rest.now (unspelled c.args.word.now) some c.in_default.ensures.first c.loop-rest.invariant.0)

pub loop-rest-preserved : goal.loop-rest-preserved
loop-rest-preserved c =
    let some : 0 < length c.loop-rest.rest.now = grind (arith, common_steps) in (
      rw c.in_ok-push.ensures.ok (goes_on c.loop-rest.bytes.items c.loop-rest.rest.now c.in-Some.others.now c.in-Some.byte (unspelled c.args.word.now) some c.in-Some.ensures.first c.loop-rest.invariant.0),
      omega (arith, c.in_ok-push.ensures.len, c.in-Some.ensures.shorter, c.loop-rest.invariant.1),
      omega (arith, c.in_ok-push.ensures.capacity, c.loop-rest.invariant.2),
    )

pub returns-clause-exact : goal.returns-clause-exact
returns-clause-exact c =
    let none : length c.loop-rest.rest.now ≡ 0 = grind (arith, common_steps) in
    ap (λ o. ok_or o BadByte) (is_done c.loop-rest.bytes.items c.loop-rest.rest.now (unspelled c.args.word.now) none c.loop-rest.invariant.0)
