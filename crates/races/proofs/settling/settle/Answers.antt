use Rattle.races.proofs.Shares.{all_own, never, settled}
use Rattle.races.proofs.settling.settle.Goals as goal

pub finish-requires : goal.finish-requires
finish-requires c = record { own = all_own c.args.db c.args.ended.items c.in_ok-seats.seats.items c.requires.own c.in_ok-seats.ensures.seats }

pub unreachable-requires : goal.unreachable-requires
unreachable-requires c = let s = c.in_ok-seats in never c.args.db c.args.ended.items s.seats.items s.lists.items c.in-Ok.engine s.ensures.seats s.ensures.lists c.in-Ok.ensures.ok.0 c.in-Err-Repeated.field-0 (λ is. let e = c.in-Err-Repeated.field-0-is in cc) c.in-Err-Repeated.ensures.refused

pub unreachable-requires-in-Err-Gap : goal.unreachable-requires-in-Err-Gap
unreachable-requires-in-Err-Gap c = let s = c.in_ok-seats in never c.args.db c.args.ended.items s.seats.items s.lists.items c.in-Ok.engine s.ensures.seats s.ensures.lists c.in-Ok.ensures.ok.0 c.in-Err-Gap.field-0 (λ is. let e = c.in-Err-Gap.field-0-is in cc) c.in-Err-Gap.ensures.refused

pub returns-in-Ok-merge : goal.returns-in-Ok-merge
returns-in-Ok-merge c = settled c.args.db c.args.ended.items c.in_ok-seats.seats.items c.in_ok-seats.lists.items c.in-Ok.engine c.in_ok-seats.ensures.seats c.in_ok-seats.ensures.lists c.in-Ok.ensures.ok.0 c.in-Ok-merge.events.items c.in-Ok-merge.ensures.merged
