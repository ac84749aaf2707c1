use Rattle.std.proofs.Common.{arith, cond, length, subst, true, ◌+◌, ◌≡◌}
use Rattle.std.specs.Prelude.{is_some}
use Rattle.catch_up.proofs.Merge.{heads_cut}
use Rattle.catch_up.proofs.heads.cut.Goals as goal

pub returns-clause-cut : goal.returns-clause-cut
returns-clause-cut c s span t x through ahead are =
    heads_cut s span t x through c.args.n ahead c.args.heads.now c.pop_last.new.self c.pop_last.result (omega (arith, c.if-len-n.false, c.len.ensures.len)) c.pop_last.ensures.variant.1 c.pop_last.ensures.removal c.pop_last.ensures.ordered are

pub returns-clause-few : goal.returns-clause-few
returns-clause-few c = λ low.
    let some : is_some c.pop_last.result ≡ true = c.pop_last.ensures.variant.1 (omega (arith, c.if-len-n.false, c.len.ensures.len)) in
    let long : length c.pop_last.new.self.entries + 1 ≡ length c.args.heads.now.entries = subst (λ b. length c.pop_last.new.self.entries + cond b 1 0 ≡ length c.args.heads.now.entries) some c.pop_last.ensures.len in
    omega (arith, low, long)
