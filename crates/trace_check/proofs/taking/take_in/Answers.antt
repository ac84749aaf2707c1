use Rattle.std.proofs.Common.{sym, ◌∙◌, ap, inl}
use Rattle.spans.specs.Legal.{is_accepted}
use Rattle.trace_check.proofs.Wanting.{stands_wanting}
use Rattle.trace_check.proofs.taking.take_in.Goals as goal

pub returns-then-same_reply-clause-taken : goal.returns-then-same_reply-clause-taken
returns-then-same_reply-clause-taken c = λ _ h stands few.
    c.in_ok-record.ensures.ok h c.args.event.now.position stands (inl (c.same_reply.ensures.0 c.if-same_reply.true ∙ c.in_ok-answer.ensures.answer h stands few))

pub returns-clause-taken : goal.returns-clause-taken
returns-clause-taken c = λ lacks h stands few. let why = c.is_want_of_memory.ensures.0 lacks in
    stands_wanting c.args.database.now h c.args.event.now stands why.0 (ap is_accepted (sym (c.in_ok-answer.ensures.answer h stands few)) ∙ why.1) why.2
