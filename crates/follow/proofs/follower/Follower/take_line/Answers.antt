use Rattle.std.proofs.Common.{◌++◌, ◌∷◌, ◌+◌, []}
use Rattle.follow.proofs.Common.{IfErr-weaker, on_ok_weaker, pending_of}
use Rattle.follow.proofs.Steps.{go_passed, go_holding, goes_on_still, over_misread}
use Rattle.follow.proofs.follower.Follower.take_line.Goals as goal

pub returns-in-Ok-None-clause-ok : goal.returns-in-Ok-None-clause-ok
returns-in-Ok-None-clause-ok c = let k = c.read.ensures in λ o r r' lines ms u. (
  ms,
  go_passed o r r' c.args.self.now c.read.new.self lines c.args.count ms c.requires.0 c.requires.1 u k.format k.complete k.replica k.telling k.started (rw c.in-Ok-None.field-0-is at c.in-Ok-None.ensures.ok),
  goes_on_still o ms (pending_of c.args.kept.now),
)

pub returns-in-Ok-Some-clause-ok : goal.returns-in-Ok-Some-clause-ok
returns-in-Ok-Some-clause-ok c = let k = c.read.ensures in let m = c.in-Ok-Some.message in on_ok_weaker c.take.result (λ takes. λ o r r' lines ms u.
    let t = takes o r r' (lines + 1) ms
    (go_holding o r r' c.args.self.now c.read.new.self lines c.args.count ms c.requires.0 c.requires.1 u m k.format k.complete k.replica k.telling k.started (rw c.in-Ok-Some.field-0-is at c.in-Ok-Some.ensures.ok)) in
    (ms ++ m ∷ [], t.0, t.1)) c.take.ensures.ok

pub returns-in-Ok-Some-clause-err : goal.returns-in-Ok-Some-clause-err
returns-in-Ok-Some-clause-err c = let k = c.read.ensures in let m = c.in-Ok-Some.message in IfErr-weaker c.take.result _ _ (λ e stops. λ o r r' lines ms u.
    stops o r r' (lines + 1) ms
    (go_holding o r r' c.args.self.now c.read.new.self lines c.args.count ms c.requires.0 c.requires.1 u m k.format k.complete k.replica k.telling k.started (rw c.in-Ok-Some.field-0-is at c.in-Ok-Some.ensures.ok))) c.take.ensures.err

pub returns-in-Err-clause-err : goal.returns-in-Err-clause-err
returns-in-Err-clause-err c = let f = c.args.self.now in λ o r r' lines ms u. over_misread o r r' f f lines c.args.count ms c.requires.0 c.requires.1 u c.in-Err.error f.formatted c.in-Err.ensures.refused
