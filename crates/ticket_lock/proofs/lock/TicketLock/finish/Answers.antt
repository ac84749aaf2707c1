use Rattle.std.proofs.Common.{rules, ◌≡◌, ◌∙◌, map, length, Some, ap}
use mathlib.Core.Option.{some}
use Rattle.std.proofs.lemmas.List.{length-map}
use Rattle.ticket_lock.specs.Seats.{record_of}
use Rattle.ticket_lock.proofs.Merging.{Whole, merges}
use Rattle.ticket_lock.proofs.Gathering.{finishes_from}
use Rattle.ticket_lock.proofs.ListFacts.{same_value}
use Rattle.ticket_lock.proofs.lock.TicketLock.finish.Goals as goal

pub unwrap-value-requires : goal.unwrap-value-requires
unwrap-value-requires g c = let all : length c.args.seats.items ≡ c.args.self.count = search rules in
    let r = finishes_from g.T.Chronicle.stands g.T.Chronicle.seat_of g.T.Chronicle.floor_of c.args.self.board.shared.key c.args.self.first c.args.self.count c.gather-all.result.id c.gather-all.result.me _ _ _ c.take.result c.args.self.keyed c.gather-all.ensures.1
    (length-map c.args.seats.items record_of ∙ all) c.close_with-closed.ensures.values.2 c.take.ensures.value in rw r.1

pub returns-clause-ok : goal.returns-clause-ok
returns-clause-ok g c = let all : length c.args.seats.items ≡ c.args.self.count = search rules in
    let r = finishes_from g.T.Chronicle.stands g.T.Chronicle.seat_of g.T.Chronicle.floor_of c.args.self.board.shared.key c.args.self.first c.args.self.count c.gather-all.result.id c.gather-all.result.me (map record_of c.args.seats.items) _ _ (Some c.unwrap-value.result) c.args.self.keyed c.gather-all.ensures.1
    (length-map c.args.seats.items record_of ∙ all) c.close_with-closed.ensures.values.2 (c.take.ensures.value ∙ ap (λ x. some x) c.unwrap-value.ensures) in
    let whole = same_value (Whole g.T.Chronicle.stands g.T.Chronicle.seat_of g.T.Chronicle.floor_of c.args.self.first c.args.self.count (map record_of c.args.seats.items)) c.unwrap-value.result r.0 r.1 r.2 in
    merges g.T.Chronicle.stands g.T.Chronicle.seat_of g.T.Chronicle.floor_of c.args.self.first c.args.self.count c.args.seats.items c.unwrap-value.result all whole
