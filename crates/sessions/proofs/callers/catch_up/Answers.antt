use Rattle.std.proofs.Common.{arith, inl, inr, refl}
use Rattle.sessions.proofs.Making.{met_made}
use Rattle.sessions.proofs.callers.catch_up.Goals as goal

pub returns-then-caller-latest-clause-made : goal.returns-then-caller-latest-clause-made
returns-then-caller-latest-clause-made c = let a = c.args in
    λ events made. met_made a.caller a.latest a.latest a.caller a.seats.now.items c.meet_at.new.seats.items events (λ e. let lt = c.if-caller-latest.true in absurd (omega arith)) c.meet_at.ensures.met made (inr refl) (inl refl)

pub returns-then-latest-caller-clause-made : goal.returns-then-latest-caller-clause-made
returns-then-latest-caller-clause-made c = let a = c.args in
    λ events made. met_made a.latest a.caller a.latest a.caller a.seats.now.items c.meet_at-then-latest-caller.new.seats.items events (λ e. let lt = c.if-latest-caller.true in absurd (omega arith)) c.meet_at-then-latest-caller.ensures.met made (inl refl) (inr refl)
