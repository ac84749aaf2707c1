use Rattle.std.proofs.Common.{◌∙◌, ◌++◌, List, ℕ, ap, refl, subst, sym}
use Rattle.follow.proofs.Common.{err_from_is_err_and, pending_of}
use Rattle.follow.specs.declared.fault.FollowError.{FollowError}
use Rattle.follow.specs.Steps.{IsOver, end_by}
use Rattle.follow.proofs.Steps.{over_wanting, over_refused, go_told, go_taken}
use Rattle.follow.proofs.follower.Follower.take.Goals as goal

-- memory is wanted for what it shows before it is taken, for its key, for what it resolves, or for all of that
pub returns-in_err-tell-clause-err : goal.returns-in_err-tell-clause-err
returns-in_err-tell-clause-err c =
    let p = err_from_is_err_and c.from_residual.result c.from_residual.ensures.1 in
    rw (p.1, p.2) (λ o r r' number ms h. over_wanting o r r' c.args.self.now number ms c.args.message h)

pub returns-in_err-note-clause-err : goal.returns-in_err-note-clause-err
returns-in_err-note-clause-err c =
    let p = err_from_is_err_and c.from_residual-in_err-note.result c.from_residual-in_err-note.ensures.1 in
    rw (p.1, p.2) (λ o r r' number ms h. over_wanting o r r' c.args.self.now number ms c.args.message h)

pub returns-in_err-tell-2-clause-err : goal.returns-in_err-tell-2-clause-err
returns-in_err-tell-2-clause-err c =
    let p = err_from_is_err_and c.from_residual-in_err-tell-2.result c.from_residual-in_err-tell-2.ensures.1 in
    rw (p.1, p.2) (λ o r r' number ms h. over_wanting o r r' c.args.self.now number ms c.args.message h)

pub returns-in_err-keep-clause-err : goal.returns-in_err-keep-clause-err
returns-in_err-keep-clause-err c =
    let p = err_from_is_err_and c.from_residual-in_err-keep.result c.from_residual-in_err-keep.ensures.1 in
    rw (p.1, p.2) (λ o r r' number ms h. over_wanting o r r' c.args.self.now number ms c.args.message h)

pub returns-in-Err-clause-err : goal.returns-in-Err-clause-err
returns-in-Err-clause-err c = λ o r r' number ms h.
    subst (λ (e : FollowError). IsOver o r r' ms (end_by number e)) (sym c.of_replica.ensures) (over_refused o r r' c.args.self.now number ms c.args.message h c.in-Err.fault c.in-Err.ensures.refused)

pub returns-clause-ok : goal.returns-clause-ok
returns-clause-ok c = λ o r r' number ms h. (
  go_taken o r r' c.args.self.now number ms c.args.message h _ c.tell.new.self c.note.new.self c.ready-ready.result c.at_resolved-resolved.result c.new-report.result.items c.tell.new.report.items c.tell-2.new.report.items c.ready-ready.ensures c.in_ok-tell.ensures
      c.in_ok-note.ensures.named c.in_ok-note.ensures.shown c.in-Ok.ensures.accepted c.in-Ok.ensures.ok c.at_resolved-resolved.ensures.messages c.in_ok-tell-2.ensures refl refl refl refl refl,
  go_told o r r' c.args.self.now number ms c.args.message h (record c.args.self.now { replica = c.apply.new.self; telling = c.tell-2.new.self }) c.tell.new.self c.note.new.self c.ready-ready.result c.at_resolved-resolved.result c.new-report.result.items
      c.tell.new.report.items c.tell-2.new.report.items c.ready-ready.ensures c.in_ok-tell.ensures c.in_ok-note.ensures.named c.in_ok-note.ensures.shown c.in-Ok.ensures.accepted c.in-Ok.ensures.ok c.at_resolved-resolved.ensures.messages c.in_ok-tell-2.ensures
      (pending_of c.args.kept.now) (pending_of c.keep.new.self) c.new-report.ensures.items (c.in_ok-keep.ensures.ok ∙ ap (λ (xs : List ℕ). pending_of c.args.kept.now ++ xs) c.as_slice.ensures.value),
)
