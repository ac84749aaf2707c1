use Rattle.std.proofs.Common.{◌≡◌, ◌<◌, List, [], ◌∷◌, length, Ok, Err, arith, inl, subst}
use Rattle.std.specs.Prelude.{Result, OnErr}
use Rattle.embedded.proofs.Common.{Cmd, Message, Messages, Reply}
use Rattle.embedded.specs.Typed.{IsBulk}
use Rattle.embedded.proofs.typed.copy_reply.Goals as goal

at_least_one : {T E : Type 0} (result : Result T E) (cmd : Cmd) (r : Reply) (ms : List Message) → r ≡ Messages ms → 0 < length ms → OnErr result (IsBulk cmd r)
at_least_one (Ok x) cmd r ms is some = tt
at_least_one (Err e) cmd r [] is some = absurd (omega (arith, some))
at_least_one (Err e) cmd r (m ∷ ms) is some = inl (m, ms, is)

pub returns-in_err-put_messages-in-Messages-clause-memory : goal.returns-in_err-put_messages-in-Messages-clause-memory
returns-in_err-put_messages-in-Messages-clause-memory c =
    let some : 0 < length c.in-Messages.messages = subst (λ (ms : List Message). 0 < length ms) c.as_slice.ensures c.in_err-put_messages-in-Messages.ensures.some in
    at_least_one c.from_residual.result c.args.cmd.now c.args.reply.now c.in-Messages.messages c.in-Messages.is some
