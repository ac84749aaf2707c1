use Rattle.std.proofs.Common.{◌≡◌, ◌<◌, suc, List, [], ◌∷◌, ◌++◌, length, rules, refl, ap, sym, subst, set, arith, All}
use Rattle.races.proofs.Common.{All-rest, each_read, into_iter_items}
use mathlib.Core.Option.{some}
use lib.ListN.{get_elem?}
use Rattle.races.proofs.Giving.{AreLeft, none_given, one_given, all_given}
use Rattle.races.proofs.calls.lists_of.Goals as goal

pub loop-session-init : goal.loop-session-init
loop-session-init c = (search rules, none_given (into_iter_items c.into_iter-session-iterator.result) c.in_ok-lists.lists.items c.in_ok-lists.ensures.each, search rules, search rules)

pub loop-session-preserved : goal.loop-session-preserved
loop-session-preserved c =
    let i = c.loop-session.invariant in let all = into_iter_items c.into_iter-session-iterator.result in
    let rest = into_iter_items c.loop-session.session-iterator in let rest' = into_iter_items c.next.new.self in
    let lists = c.loop-session.lists.items in let old = c.index_mut.result.now in let new = c.push.new.self in
    let session = c.in-Some.session in
    let next : rest ≡ (session, c.in-Some.cmd) ∷ rest' = search rules in
    let low : session < c.args.sessions = (subst (λ r. All (λ call. call.0 < c.args.sessions) r) next i.2) 0 (session, c.in-Some.cmd) (omega arith) in
    let there : session < length lists = omega (arith, low, i.0, c.loop-session.lists.ok) in
    let from : c.from.result ≡ session = search rules in
    let at : get_elem? lists session ≡ some old = each_read (λ j d. get_elem? lists j ≡ some d) lists session old (λ j d e. e) there (search rules) in
    let grown : new.items ≡ old.items ++ c.in-Some.cmd ∷ [] = search rules in (
      i.0,
      subst (λ n. AreLeft all rest' (set lists n new)) (sym from) (one_given all session c.in-Some.cmd rest' lists old new at grown (subst (λ r. AreLeft all r lists) next i.1)),
      All-rest (λ call. call.0 < c.args.sessions) (session, c.in-Some.cmd) rest' rest next i.2,
      let long : length rest ≡ suc (length rest') = ap length next in omega (arith, long, i.3, c.in-Some.ensures.steps.1),
    )

empty : {A : Type 0} (xs : List A) → length xs ≡ 0 → xs ≡ []
empty [] none = refl
empty (x ∷ xs) none = absurd (omega (arith, none))

pub returns-clause-each : goal.returns-clause-each
returns-clause-each c =
    let lists = c.loop-session.lists.items in let rest = into_iter_items c.loop-session.session-iterator in
    let none : rest ≡ [] = empty rest (omega (arith, (c.in-None.ensures).steps.0, c.loop-session.invariant.3)) in
    let all : into_iter_items c.into_iter-session-iterator.result ≡ c.args.calls.items = search rules in
    all_given c.args.calls.items lists (subst (λ r. AreLeft c.args.calls.items r lists) none (subst (λ a. AreLeft a rest lists) all c.loop-session.invariant.1))
