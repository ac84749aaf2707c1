use Rattle.std.proofs.Common.{◌≡◌, eq-eqb, refl, true, ◌==◌}
use Rattle.version_chain.proofs.Common.{both_ways, is_kept, option_copied, readers_of}
use Rattle.version_chain.proofs.Gaps.{match_copied, noted_on, room_there}
use Rattle.version_chain.proofs.record.Record.note.Goals as goal

pub returns-then-above-ts-clause-noted : goal.returns-then-above-ts-clause-noted
returns-then-above-ts-clause-noted c =
    let m = is_kept c.args.forgotten (readers_of c.args.self.now.readers) in
    noted_on c.args.self.now.chain m (is_kept c.args.forgotten (readers_of c.note.new.self)) c.args.ts c.ts_or-above.result c.ts_or-until.result (option_copied c.around.result.0) (option_copied c.around.result.1)
    (match_copied _ _ c.around.result.0 c.around.ensures.newest) c.ts_or-above.ensures.low (match_copied _ _ c.around.result.1 c.around.ensures.next) c.ts_or-above.ensures.ts c.ts_or-until.ensures.ts
    (λ same. absurd (c.if-above-ts.true same))
    (λ _. room_there c.note.result c.note.ensures.ok c.note.ensures.room c.requires.room)

pub returns-else-above-ts-clause-noted : goal.returns-else-above-ts-clause-noted
returns-else-above-ts-clause-noted c =
    let m = is_kept c.args.forgotten (readers_of c.args.self.now.readers) in
    let same : (c.ts_or-above.result == c.args.ts) ≡ true = eq-eqb _ _ c.if-above-ts.false in
    noted_on c.args.self.now.chain m m c.args.ts c.ts_or-above.result c.ts_or-until.result (option_copied c.around.result.0) (option_copied c.around.result.1)
    (match_copied _ _ c.around.result.0 c.around.ensures.newest) c.ts_or-above.ensures.low (match_copied _ _ c.around.result.1 c.around.ensures.next) c.ts_or-above.ensures.ts c.ts_or-until.ensures.ts
    (λ _ j. refl)
    (λ differs. absurd (both_ways _ differs same))
