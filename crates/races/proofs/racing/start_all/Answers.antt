use Rattle.std.proofs.Common.{◌≡◌, [], ◌∷◌, ◌++◌, rules}
use Rattle.races.proofs.Common.{All-push, All-rest, All-same, IsOf, into_iter_items}
use Rattle.races.specs.Racing.{IsIdle}
use Rattle.races.proofs.Starting.{one_more}
use Rattle.races.proofs.racing.start_all.Goals as goal

pub loop-seat-preserved : goal.loop-seat-preserved
loop-seat-preserved g c =
    let was = c.loop-seat.invariant in let s = c.in_ok-handle.ensures.promised in let h = c.in_ok-handle.handle in
    let seats = into_iter_items c.loop-seat.seat-iterator in let seats' = into_iter_items c.next.new.self in
    let lists = into_iter_items c.loop-seat.others in let lists' = into_iter_items c.next-in-loop-seat.new.self in
    let hs = c.loop-seat.handles.items in let hs' = c.push.new.self.items in
    let next : seats ≡ c.in-Some.seat ∷ seats' = search rules in
    let next' : lists ≡ c.in-Some-next.commands ∷ lists' = search rules in
    let grown : hs' ≡ hs ++ h ∷ [] = search rules in (
      one_more (λ h. h.promise.seat.value) hs hs' h c.in-Some.seat seats seats' _ was.0 grown next s.1,
      one_more (λ h. h.promise.commands.value) hs hs' h c.in-Some-next.commands lists lists' _ was.1 grown next' s.2,
      All-same (λ h. h.promise.db.value ≡ c.args.db.now) hs' (hs ++ h ∷ []) grown (All-push (λ h. h.promise.db.value ≡ c.args.db.now) hs h was.2 s.0),
      All-rest (IsOf c.args.db.now) c.in-Some.seat seats' seats next was.3,
      All-rest IsIdle c.in-Some.seat seats' seats next was.4,
      search rules,
      search rules,
    )
