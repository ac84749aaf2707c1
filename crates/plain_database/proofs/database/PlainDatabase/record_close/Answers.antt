use Rattle.std.proofs.Common.{◌∷◌, refl, arith}
use Rattle.spans.specs.Effects.{Closes}
use Rattle.plain_database.proofs.Common.{Close, CloseHard, Closed, HardCloses, common_steps, effects_of}
use Rattle.plain_database.proofs.Events.{stands_still, takes}
use Rattle.plain_database.proofs.Passed.{passed_more}
use Rattle.plain_database.proofs.VersionsTies.{tied_closes, tied_hard_closes}
use Rattle.plain_database.proofs.database.PlainDatabase.record_close.Goals as goal

pub returns-in-Closed-clause-soft : goal.returns-in-Closed-clause-soft
returns-in-Closed-clause-soft c = λ seat to h n. rw c.in-Closed.is (takes c.args.self.now _ h n seat (Close to) (Closed c.in-Closed.at c.in-Closed.aborted) _ refl (λ tied all allowed.
    let held = tied_closes c.args.self.now.versions (effects_of h) c.in-Closed.at tied.versions (allowed, all) in
    grind (arith, common_steps, passed_more (effects_of h) (Closes c.in-Closed.at) (allowed, all), c.close.ensures.counted (Closes c.in-Closed.at ∷ effects_of h) (allowed, all))))

pub returns-in-Closed-clause-hard : goal.returns-in-Closed-clause-hard
returns-in-Closed-clause-hard c = λ seat to h n. rw c.in-Closed.is (takes c.args.self.now _ h n seat (CloseHard to) (Closed c.in-Closed.at c.in-Closed.aborted) _ refl (λ tied all allowed.
    let held = tied_hard_closes c.args.self.now.versions (effects_of h) to c.in-Closed.at tied.versions all allowed in
    grind (arith, common_steps, passed_more (effects_of h) (HardCloses to c.in-Closed.at) (allowed, all), c.close.ensures.counted (HardCloses to c.in-Closed.at ∷ effects_of h) (allowed, all))))

pub returns-in_default-clause-soft : goal.returns-in_default-clause-soft
returns-in_default-clause-soft c = λ seat to h n. stands_still c.args.self.now h n seat (Close to) c.args.reply.now (grind (arith, common_steps))

pub returns-in_default-clause-hard : goal.returns-in_default-clause-hard
returns-in_default-clause-hard c = λ seat to h n. stands_still c.args.self.now h n seat (CloseHard to) c.args.reply.now (grind (arith, common_steps))
