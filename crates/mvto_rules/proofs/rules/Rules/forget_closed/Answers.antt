use Rattle.std.proofs.Common.{ap, cond, ◌&&◌, ◌∙◌}
use Rattle.std.specs.Prelude.{None, nat_lt}
use std.Path.{fun_ext}
use Rattle.mvto_rules.proofs.Common.{is_committed_in, marked_in, transaction_in}
use Rattle.mvto_rules.specs.Holding.{holding, marked_of, transactions_of}
use Rattle.mvto_rules.proofs.rules.Rules.forget_closed.Goals as goal

pub returns-clause-marks : goal.returns-clause-marks
returns-clause-marks c = λ x j. c.forget_through.ensures.marks x j ∙ ap (λ n. nat_lt n j && marked_of c.args.self.now x j) c.closed-closed.ensures

pub returns-clause-closed : goal.returns-clause-closed
returns-clause-closed c = λ was k.
    let kept = holding k c.args.self.now in
    let store = c.forget_through.new.self in
    let txns = c.forget_through-2.new.self in
    let before = c.forget_through.ensures.versions in
    record {
      marked = λ x j. c.forget_through.ensures.marks x j ∙ ap (λ n. nat_lt n j && marked_of c.args.self.now x j) c.closed-closed.ensures;
      transaction = λ i. c.forget_through-2.ensures i ∙ ap (λ n. cond (nat_lt n i) (transactions_of c.args.self.now i) None) c.closed-closed.ensures;
      rest = ap (λ v. record kept { version = v; committed = is_committed_in store; marked = marked_in store; transaction = transaction_in txns }) (fun_ext (λ y. fun_ext (λ i. before.version y i)))
          ∙ ap (λ d. record kept { committed = d; marked = marked_in store; transaction = transaction_in txns }) (fun_ext (λ y. fun_ext (λ i. before.committed y i)));
    }
