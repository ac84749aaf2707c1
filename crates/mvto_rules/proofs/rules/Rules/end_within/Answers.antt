use Rattle.std.proofs.Common.{None, ap, arith, cond, false, sym, true, ◌≡◌, ◌∙◌}
use Rattle.std.specs.Prelude.{nat_lt}
use Rattle.std.proofs.lemmas.Bool.Decides.{nat_tests}
use Rattle.mvto_rules.specs.Holding.{holding}
use Rattle.mvto_rules.specs.Scans.{end_seen, keys_in}
use Rattle.mvto_rules.proofs.Scanning.{keys_are}
use Rattle.mvto_rules.proofs.rules.Rules.end_within.Goals as goal

pub returns-then-ts-self : goal.returns-then-ts-self
returns-then-ts-self c = λ k.
    let r = c.args.self.now in
    let keys = keys_in r.store c.args.span.now in
    let low : nat_lt c.args.ts r.horizon ≡ true = grind (arith, nat_tests, c.if-ts-self.true) in
    (keys, keys_are k r c.args.span.now c.keys_rise.ensures.rising c.keys_rise.ensures.filled, sym (ap (λ b. cond b None (end_seen (holding k r) c.args.ts c.args.rows c.args.bytes keys)) low))

pub returns : goal.returns
returns c = λ k.
    let r = c.args.self.now in
    let keys = keys_in r.store c.args.span.now in
    let high : nat_lt c.args.ts r.horizon ≡ false = grind (arith, nat_tests, c.if-ts-self.false) in
    (keys, keys_are k r c.args.span.now c.keys_rise.ensures.rising c.keys_rise.ensures.filled, c.find_end.ensures ∙ sym (ap (λ b. cond b None (end_seen (holding k r) c.args.ts c.args.rows c.args.bytes keys)) high))
