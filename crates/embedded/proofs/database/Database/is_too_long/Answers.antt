use Rattle.std.proofs.Common.{arith, false, sym, ℕ, Bool, List, ◌==◌, ◌≡◌}
use Rattle.embedded.proofs.Common.{Cmd, Effect, IfOk-weaker, effects_of, nat_tests}
use Rattle.engine.specs.Room.{is_long}
use Rattle.embedded.specs.Several.{is_too_long}
use Rattle.embedded.proofs.database.Database.is_too_long.Goals as goal

-- not all is let through
bounded_long : (p : List Effect) (seat most : ℕ) (cmd : Cmd) (long : Bool) → ¬ (most ≡ 18446744073709551615) → long ≡ is_long p seat most cmd → is_too_long p seat most cmd ≡ long
bounded_long p seat most cmd long bounded is = let off : (most == 18446744073709551615) ≡ false = grind (arith, nat_tests) in rw off (sym is)

pub returns-clause-long : goal.returns-clause-long
returns-clause-long c = λ h held.
    IfOk-weaker c.is_long.result (λ long. long ≡ is_long (effects_of h) c.args.seat c.args.most c.args.cmd.now) (λ long. is_too_long (effects_of h) c.args.seat c.args.most c.args.cmd.now ≡ long)
    (λ long is. bounded_long (effects_of h) c.args.seat c.args.most c.args.cmd.now long c.if-most-eq18446744073709551615.false is)
    (c.is_long.ensures.long h held.stands)
