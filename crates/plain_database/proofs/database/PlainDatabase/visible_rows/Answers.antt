use Rattle.std.proofs.Common.{◌∙◌, arith}
use Rattle.plain_database.proofs.Common.{effects_of, legal_allowed}
use Rattle.plain_database.proofs.Scanning.{all_rows}
use Rattle.plain_database.proofs.database.PlainDatabase.visible_rows.Goals as goal

pub returns : goal.returns
returns c = λ h stands.
    let pairs = c.in_ok-pairs.pairs in
    c.from_vec.ensures ∙ all_rows (effects_of h) c.args.span.now c.args.ts 18446744073709551615 pairs.items (c.in_ok-pairs.ensures.pairs (effects_of h) (legal_allowed h stands.legal) stands.tied.versions) (omega (arith, pairs.ok, pairs.small))
