use Rattle.std.proofs.Common.{ap, arith, rules, ◌≡◌, ◌≤◌, ◌∙◌}
use Rattle.std.specs.Prelude.{max, min}
use Rattle.mvto_rules.proofs.Common.{MAX, closed_in, is_committed_in, nat_tests, reached, version_in}
use Rattle.mvto_rules.specs.Holding.{holding}
use Rattle.mvto_rules.proofs.Collections.{collect_done, collect_outside, held_back}
use Rattle.mvto_rules.proofs.Noting.{same_marks}
use Rattle.mvto_rules.proofs.rules.Rules.collect.Goals as goal

pub returns-then-to-gt-MAX : goal.returns-then-to-gt-MAX
returns-then-to-gt-MAX c = record { answered = λ seat k lowest. collect_outside (holding k c.args.self.now) seat c.args.to (omega arith) }

pub returns : goal.returns
returns c = record {
  answered = λ seat k lowest.
      let limit = c.limit.ensures in let dead = c.drop_dead-removed.ensures.collected in let r = c.args.self.now in
      let low : c.args.to ≤ MAX = first_of (omega arith, grind (arith, nat_tests), search rules) in
      let so : c.max-horizon.result ≡ reached (holding k r) c.args.to limit.protection c.args.floor = c.max-horizon.ensures ∙ ap (max r.horizon) (c.min.ensures ∙ ap (min c.args.to) limit.is ∙ held_back limit.protection c.args.floor c.args.to (closed_in r.closing)) in
      collect_done (holding k r) _ seat c.args.to c.max-horizon.result c.drop_dead-removed.result limit.protection c.args.floor dead.dropped low so limit.least lowest dead.those dead.counted
      (record {
        version = dead.version;
        committed = dead.committed;
        rest = ap (λ m. record (holding k r) { horizon = c.max-horizon.result; version = version_in c.drop_dead-removed.new.self; committed = is_committed_in c.drop_dead-removed.new.self; marked = m }) (same_marks r.store c.drop_dead-removed.new.self c.drop_dead-removed.ensures.marks);
      });
}
