use Rattle.std.proofs.Common.{◌≡◌, ◌∙◌, sym, subst, rules, [], ◌∷◌, ◌++◌, set}
use Rattle.sessions.proofs.Common.{IfErr-weaker, IfOk-weaker, IsAnswered, IsSpent}
use mathlib.Core.Option.{some}
use lib.ListN.{get_elem?}
use Rattle.sessions.specs.Runs.{HasMade}
use Rattle.sessions.proofs.Halves.{read_at}
use Rattle.sessions.proofs.Seating.{lent, back}
use Rattle.sessions.proofs.Making.{call_made, spent_made, spent_known}
use Rattle.sessions.proofs.callers.Callers.call.Goals as goal

pub call_in_place-requires : goal.call_in_place-requires
call_in_place-requires g c = record { own = (lent c.args.self.now.db c.catch_up.new.seats.items c.from-place.result c.index_mut.result.now c.catch_up.ensures.seated (search rules) c.index_mut.ensures.value).own }

pub invariant_of-self-clause-seated : goal.invariant_of-self-clause-seated
invariant_of-self-clause-seated g c = let db = c.args.self.now.db in let seats = c.catch_up.new.seats.items in let seat = c.index_mut.result.now in
    back db seats c.from-place.result seat c.call_in_place.new.seat c.catch_up.ensures.seated (lent db seats c.from-place.result seat c.catch_up.ensures.seated (search rules) c.index_mut.ensures.value) c.call_in_place.ensures.own c.call_in_place.ensures.same

pub returns-clause-event : goal.returns-clause-event
returns-clause-event g c = let seat = c.index_mut.result.now in
    let seated = lent c.args.self.now.db c.catch_up.new.seats.items c.from-place.result seat c.catch_up.ensures.seated (search rules) c.index_mut.ensures.value in
    IfOk-weaker c.call_in_place.result (λ _. IsAnswered c.args.self.now.db.lock.first seat c.args.event.now.cmd c.call_in_place.new.event c.call_in_place.new.seat) (λ _. (c.call_in_place.new.event.seat ≡ c.args.caller) × (c.call_in_place.new.event.cmd ≡ c.args.event.now.cmd))
    (λ _ answered. (answered.seat ∙ (seated.numbered ∙ c.from-place.ensures), answered.command)) c.call_in_place.ensures.event

-- the seats after they met, and after the call
pub returns-clause-made : goal.returns-clause-made
returns-clause-made g c = let seats = c.catch_up.new.seats.items in let seat = c.index_mut.result.now in let old = c.args.self.now in let k = c.from-place.result in
    let at : get_elem? seats k ≡ some seat = read_at seats k seat (search rules) c.index_mut.ensures.value in
    IfOk-weaker c.call_in_place.result (λ _. IsAnswered old.db.lock.first seat c.args.event.now.cmd c.call_in_place.new.event c.call_in_place.new.seat) _
    (λ _ answered events made.
    let here = c.catch_up.ensures.made events (subst (λ j. HasMade j old.seats.items events) (sym c.from.ensures) made) in
    subst (λ j. HasMade j (set seats k c.call_in_place.new.seat) (events ++ c.call_in_place.new.event ∷ [])) c.from-place.ensures (call_made old.db.lock.first k seats seat c.call_in_place.new.seat c.args.event.now.cmd c.call_in_place.new.event events at answered here)) c.call_in_place.ensures.event

pub returns-clause-still : goal.returns-clause-still
returns-clause-still g c = let seats = c.catch_up.new.seats.items in let seat = c.index_mut.result.now in let old = c.args.self.now in let k = c.from-place.result in
    let at : get_elem? seats k ≡ some seat = read_at seats k seat (search rules) c.index_mut.ensures.value in
    IfErr-weaker c.call_in_place.result (λ _. (c.call_in_place.new.event ≡ c.args.event.now) × IsSpent seat c.call_in_place.new.seat) _
    (λ _ refused events made.
    let here = c.catch_up.ensures.made events (subst (λ j. HasMade j old.seats.items events) (sym c.from.ensures) made) in
    subst (λ j. HasMade j (set seats k c.call_in_place.new.seat) events) c.from-place.ensures (spent_made k seats seat c.call_in_place.new.seat events at refused.1 here)) c.call_in_place.ensures.spent

pub returns-clause-spent : goal.returns-clause-spent
returns-clause-spent g c = let seats = c.catch_up.new.seats.items in let seat = c.index_mut.result.now in let k = c.from-place.result in
    let at : get_elem? seats k ≡ some seat = read_at seats k seat (search rules) c.index_mut.ensures.value in
    IfErr-weaker c.call_in_place.result (λ _. (c.call_in_place.new.event ≡ c.args.event.now) × IsSpent seat c.call_in_place.new.seat) _ (λ _ refused. spent_known k seats seat c.call_in_place.new.seat at refused.1) c.call_in_place.ensures.spent

pub returns-clause-kept : goal.returns-clause-kept
returns-clause-kept g c =
    IfErr-weaker c.call_in_place.result (λ _. (c.call_in_place.new.event ≡ c.args.event.now) × IsSpent c.index_mut.result.now c.call_in_place.new.seat) _ (λ _ refused. refused.0) c.call_in_place.ensures.spent
