use Rattle.std.proofs.Common.{◌≡◌, ap, ◌∙◌}
use Rattle.std.specs.Prelude.{min}
use Rattle.embedded.proofs.Common.{effects_of, mark_of}
use Rattle.embedded.proofs.DumpTexts.{mark_is}
use Rattle.embedded.proofs.database.Database.dump_end.Goals as goal

pub returns : goal.returns
returns c = λ h held.
    let p = effects_of h in
    let closes : c.max-to.result ≡ mark_of p c.args.at = c.max-to.ensures ∙ mark_is p c.args.at c.places.result.reached (c.places.ensures h held.stands).reached in
    record {
      closes = closes;
      goes = c.min.ensures ∙ ap (min c.args.through) closes;
      told = c.horizon.ensures h held.stands;
    }
