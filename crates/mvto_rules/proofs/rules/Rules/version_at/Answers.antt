use Rattle.std.proofs.Common.{◌≡◌, ◌-◌, ◌∙◌, ap, arith, rules, subst, sym}
use Rattle.mvto_rules.proofs.Common.{common_steps}
use Rattle.spans.specs.Versions.{newest, version_at}
use Rattle.mvto_rules.specs.Holding.{value_at}
use Rattle.mvto_rules.proofs.Committed.{committed_in, newest_done, newest_nowhere, newest_passed}
use Rattle.mvto_rules.proofs.rules.Rules.version_at.Goals as goal

pub returns-then-committed : goal.returns-then-committed
returns-then-committed c = λ k.
    let version = c.in-Some.version.now in
    let here : c.then_some.result ≡ value_at (version_at version.ts version.after) = first_of (search rules, grind (arith, common_steps)) in
    here ∙ ap value_at (sym (newest_done c.args.self.now.store c.args.key.now c.loop-version.at c.in-Some.version.now c.in-Some.ensures (omega (arith, c.get-ts.ensures.number, c.get-ts.ensures.in_range)) c.if-committed.true) ∙ c.loop-version.invariant)

pub loop-version-preserved : goal.loop-version-preserved
loop-version-preserved c = subst (λ n. newest (committed_in c.args.self.now.store c.args.key.now) (n - 1) ≡ newest (committed_in c.args.self.now.store c.args.key.now) c.args.t) (sym c.get-ts.ensures.number)
    (newest_passed c.args.self.now.store c.args.key.now c.loop-version.at c.in-Some.version.now c.in-Some.ensures (omega (arith, c.get-ts.ensures.number, c.get-ts.ensures.in_range)) c.if-committed.false ∙ c.loop-version.invariant)

pub returns : goal.returns
returns c = λ k. ap value_at (sym (newest_nowhere c.args.self.now.store c.args.key.now c.loop-version.at c.in_default.ensures) ∙ c.loop-version.invariant)
