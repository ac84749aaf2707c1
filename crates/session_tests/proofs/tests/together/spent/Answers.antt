use Rattle.std.proofs.Common.{◌≡◌, [], ◌∷◌, ◌++◌, rules}
use Rattle.session_tests.proofs.Common.{All-push, All-rest, All-same, IsOf, into_iter_items}
use Rattle.session_tests.proofs.Each.{at_place}
use Rattle.session_tests.proofs.tests.together.spent.Goals as goal

pub loop-one-preserved : goal.loop-one-preserved
loop-one-preserved g c =
    let db = c.args.db.now in let i = c.loop-one.invariant in
    let before = c.loop-one.seats.items in let after = c.push.new.self.items in let seat = c.is_spent.new.seat in
    let rest = into_iter_items c.loop-one.one-iterator in let rest' = into_iter_items c.next.new.self in
    let grown : after ≡ before ++ seat ∷ [] = search rules in
    let next : rest ≡ c.in-Some.one ∷ rest' = search rules in (
      All-same (IsOf db) after (before ++ seat ∷ []) grown (All-push (IsOf db) before seat i.0 c.if-not-is_spent.ensures.own),
      All-rest (λ e. IsOf db e.seat) c.in-Some.one rest' rest next i.1,
    )

pub returns : goal.returns
returns g c = record { own = λ k s at. at_place (IsOf c.args.db.now) c.loop-one.seats.items k s c.loop-one.invariant.0 at }
