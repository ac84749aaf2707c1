use Rattle.std.proofs.Common.{ap, arith, refl, rules, subst, sym, ◌≤◌, ◌∙◌, ◌≡◌}
use Rattle.mvto_rules.proofs.Common.{Found, IsNextAbove, IsReadBy, Kept, MAX, alike_self, any_err, common_steps, option_copied, seen, version_in}
use Rattle.mvto_rules.specs.Holding.{holding}
use Rattle.mvto_rules.specs.Scans.{sight_of, value_in}
use Rattle.mvto_rules.specs.declared.sight.Sight.{Sight}
use Rattle.mvto_rules.proofs.Noting.{gap_read, own_is_read, past_until, stays}
use Rattle.mvto_rules.proofs.Replies.{get_refused}
use Rattle.mvto_rules.proofs.Seeing.{IsGot, got_so}
use Rattle.mvto_rules.proofs.rules.Rules.try_get.Goals.{After-of}
use Rattle.mvto_rules.proofs.rules.Rules.try_get.Goals as goal

-- what the sight says
got : (c : After-of) (k : Kept) (s : Sight) → s ≡ sight_of c.in-Ok.ts (option_copied c.around-next.result.0) → IsGot (holding k c.args.self.now) c.args.seat c.args.ts c.args.key.now s (value_in (option_copied c.around-next.result.0))
got c k s is = got_so k c.args.self.now c.args.seat c.args.ts c.in-Ok.ts c.get.result c.args.key.now c.around-next.result.0 s c.in-Ok.ensures.none c.in-Ok.ensures.ok c.get.ensures.number c.get.ensures.in_range.0 c.around-next.ensures.newest c.of.ensures.above is

pub returns-in-Err-clause-answered : goal.returns-in-Err-clause-answered
returns-in-Err-clause-answered c = λ k. get_refused (holding k c.args.self.now) c.args.seat c.args.ts c.args.key.now c.in-Err.refusal c.in-Err.ensures.err

-- what stands above the transaction
next_above : (c : After-of) → IsNextAbove (version_in c.args.self.now.store c.args.key.now) c.in-Ok.ts c.around-next.result.1
next_above c = subst (λ t. IsNextAbove (version_in c.args.self.now.store c.args.key.now) t c.around-next.result.1) c.get.ensures.number c.around-next.ensures.next

in_range : (c : After-of) → c.in-Ok.ts ≤ MAX
in_range c = subst (λ t. t ≤ MAX) (sym c.in-Ok.ensures.ok) c.in-Ok.ensures.in_range.1

pub mark-requires-clause-high : goal.mark-requires-clause-high
mark-requires-clause-high c = past_until (version_in c.args.self.now.store c.args.key.now) c.in-Ok.ts c.around-next.result.1 (in_range (goal.at.mark-requires-clause-high c).After-of) (next_above (goal.at.mark-requires-clause-high c).After-of)

pub returns-in-Blocked-clause-answered : goal.returns-in-Blocked-clause-answered
returns-in-Blocked-clause-answered c = λ k. record { right = (got (goal.at.returns-in-Blocked-clause-answered c).After-of k _ c.in-Blocked.ensures.sight).reply; change = alike_self (holding k c.args.self.now) }

pub returns-in_ok-after-in-Own-clause-answered : goal.returns-in_ok-after-in-Own-clause-answered
returns-in_ok-after-in-Own-clause-answered c = λ k. let own = got (goal.at.returns-in_ok-after-in-Own-clause-answered c).After-of k _ c.in-Own.ensures.sight in
    record { right = ap Found c.in_ok-after-in-Own.ensures ∙ own.reply; change = own_is_read (holding k c.args.self.now) c.args.key.now c.args.ts c.around-next.result.1 (subst (λ t. IsNextAbove (version_in c.args.self.now.store c.args.key.now) t c.around-next.result.1) (c.get.ensures.number ∙ c.in-Ok.ensures.ok) c.around-next.ensures.next) (own.own refl) }

pub returns-in_ok-mark-in-Other-clause-answered : goal.returns-in_ok-mark-in-Other-clause-answered
returns-in_ok-mark-in-Other-clause-answered c = λ k. let other = got (goal.at.returns-in_ok-mark-in-Other-clause-answered c).After-of k _ c.in-Other.ensures.sight in
    record {
      right = ap Found c.in_ok-after-in-Other.ensures ∙ other.reply;
      change = subst (λ t. (seen (holding k c.args.self.now) c.args.key.now t).ts ≡ c.in-Other.above → IsReadBy (holding k c.args.self.now) (holding k (record c.args.self.now { store = c.mark.new.self })) t c.args.key.now) c.in-Ok.ensures.ok
          (gap_read k c.args.self.now c.mark.new.self c.args.key.now c.in-Ok.ts c.in-Other.above c.around-next.result.1 (first_of (search rules, grind (arith, common_steps))) (in_range (goal.at.returns-in_ok-mark-in-Other-clause-answered c).After-of) (next_above (goal.at.returns-in_ok-mark-in-Other-clause-answered c).After-of) c.mark.ensures.versions c.in_ok-mark-in-Other.ensures.ok)
          (other.other c.in-Other.above refl);
    }

pub returns-in_err-after-in-Own-clause-wanting : goal.returns-in_err-after-in-Own-clause-wanting
returns-in_err-after-in-Own-clause-wanting c = any_err c.from_residual.result (λ k.
    record { may = refl; accepting = (Found _, (got (goal.at.returns-in_err-after-in-Own-clause-wanting c).After-of k _ c.in-Own.ensures.sight).reply, refl); alike = alike_self (holding k c.args.self.now) })

pub returns-in_err-after-in-Other-clause-wanting : goal.returns-in_err-after-in-Other-clause-wanting
returns-in_err-after-in-Other-clause-wanting c = any_err c.from_residual-in_err-after-in-Other.result (λ k.
    record { may = refl; accepting = (Found _, (got (goal.at.returns-in_err-after-in-Other-clause-wanting c).After-of k _ c.in-Other.ensures.sight).reply, refl); alike = alike_self (holding k c.args.self.now) })

pub returns-in_err-mark-in-Other-clause-wanting : goal.returns-in_err-mark-in-Other-clause-wanting
returns-in_err-mark-in-Other-clause-wanting c = any_err c.from_residual-in_err-mark-in-Other.result (λ k.
    record { may = refl; accepting = (Found _, (got (goal.at.returns-in_err-mark-in-Other-clause-wanting c).After-of k _ c.in-Other.ensures.sight).reply, refl); alike = stays k c.args.self.now c.mark.new.self c.mark.ensures.versions c.in_err-mark-in-Other.ensures.err })
