use Rattle.std.proofs.Common.{arith, ◌≤◌}
use Rattle.embedded.proofs.Common.{effects_of, horizon_of, take_rest}
use Rattle.embedded.proofs.VersionKeys.{key_within, told_more}
use Rattle.embedded.proofs.database.Database.versions_at.Goals as goal

pub loop-count-preserved : goal.loop-count-preserved
loop-count-preserved c =
    let l = c.loop-count in
    let from = take_rest c.args.keys.now l.at in
    record {
      within = key_within c.args.keys.now _ c.in-Some.key.now l.at l.invariant.within from c.in-Some.ensures;
      going = λ h held.
          let high : horizon_of (effects_of h) ≤ c.args.t = omega (arith, c.horizon-horizon.ensures h held.stands, c.if-t-horizon.false) in
          told_more (effects_of h) c.args.t c.args.keys.now c.args.versions.now l.at l.count l.versions _ c.in-Some.key.now c.in-Ok.version (l.invariant.going h held) (omega (arith, c.loop-count-test.true, l.auto.versions)) from c.in-Some.ensures (c.in-Ok.ensures.ok h held high);
    }
