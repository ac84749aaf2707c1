use Rattle.std.proofs.Common.{◌∙◌, ap, arith, rules}
use Rattle.std.specs.Prelude.{filter}
use Rattle.std.proofs.lemmas.Fn.{filter_same}
use Rattle.plain_database.specs.Streams.{is_kept}
use Rattle.plain_database.proofs.Common.{all_keys, effects_of, legal_allowed, stream_of}
use Rattle.plain_database.proofs.Dumping.{left_are}
use Rattle.plain_database.proofs.Taken.{all_taken}
use Rattle.plain_database.proofs.database.PlainDatabase.left_rows.Goals as goal

pub returns : goal.returns
returns c = λ h stands low.
    let p = effects_of h in
    let rows = c.in_ok-rows.rows in
    let given = c.in_ok-rows.ensures.rows p (legal_allowed h stands.legal) stands.tied.versions in
    filter_same _ _ _ (λ x b f' k. search rules) _ _ c.retain.ensures.filtered
    ∙ ap (filter (is_kept c.args.self.now)) (all_taken 18446744073709551615 rows.items (stream_of p all_keys 0 c.in-Some.through) given (omega (arith, rows.ok, rows.small)) ∙ ap (stream_of p all_keys 0) c.in-Some.ensures.number)
    ∙ left_are c.args.self.now h stands c.args.through
