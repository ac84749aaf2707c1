use Rattle.std.proofs.Common.{◌≡◌, ◌∙◌, ℕ, true, List, [], refl, sym, ap, subst, append-nil, arith}
use Rattle.follow.proofs.Common.{Message, Reads, Writes, err_from_is_err_and, has_ended, pending_of, waiting}
use Rattle.follow.specs.declared.ending.FollowEnd.{FollowEnd}
use Rattle.follow.specs.declared.ending.FollowEnd.TheVariants as ends
use Rattle.follow.specs.declared.follower.Follower.{Follower}
use Rattle.follow.specs.declared.options.FollowOptions.{FollowOptions}
use Rattle.follow.specs.Steps.{IsGoing, IsStopped, end_at}
use Rattle.follow.proofs.Steps.{started, stop_reported, stop_unfound, go_on, over_done, done_fails, over_spent}
use Rattle.follow.proofs.follower.Follower.follow.Goals as goal

-- all of the input was taken
stop_done : (o : FollowOptions) (r r' : Reads) (w w' : Writes) (f : Follower) (kept : List ℕ) (lines : ℕ) (ms : List Message) (e : FollowEnd) → waiting f.lines ≡ [] → has_ended f.lines ≡ true → e ≡ end_at f.started → IsGoing o r r' w w' f kept lines ms
    → IsStopped o r r' w w' kept e
stop_done o r r' w w' f kept lines ms e none found is u =
    subst (IsStopped o r r' w w' kept) (sym (is ∙ ap end_at u.0.started))
    (stop_reported o ms r r' w w' kept _ (over_done o r r' f lines ms u.0 none found) u.1 (done_fails ms r r' w w' u.2 u.3))

pub loop-before-init : goal.loop-before-init
loop-before-init g c = let r = g.S.Source.reads c.args.input.now in let w = g.K.Sink.writes c.args.output.now in
    λ o fresh none. ([], (started o r c.args.self.now fresh, ([], refl, record { part = []; took = sym (append-nil w.taken); left = sym none }), refl, refl))

-- there is none
pub returns-in-Ok-None : goal.returns-in-Ok-None
returns-in-Ok-None g c = let S = g.S.Source in let K = g.K.Sink in let l = c.loop-before in let x = c.next_line.new in λ o fresh empty. let u = l.invariant o fresh empty in let s = c.in-Ok-None.ensures.sought in
    let none : (waiting x.self ≡ []) × (has_ended x.self ≡ true) = rw c.in-Ok-None.field-0-is at s.0 in
    let same = c.next_line.ensures.read.format ∙ l.self.formatted in
    stop_done o (S.reads c.args.input.now) (S.reads x.source) (K.writes c.args.output.now) (K.writes x.sink) (record l.self { lines = x.self; formatted = same }) (pending_of x.output) l.before u.0 _ none.0 none.1 c.done.ensures
    (go_on o (S.reads c.args.input.now) (S.reads l.input) (S.reads x.source) l.self x.self l.before u.0 c.next_line.ensures.read same (K.writes c.args.output.now) (K.writes l.output) (K.writes x.sink) l.kept x.output u.1 _ s)

pub loop-before-preserved : goal.loop-before-preserved
loop-before-preserved g c = let S = g.S.Source in let K = g.K.Sink in let l = c.loop-before in let x = c.next_line.new in λ o fresh empty. let u = l.invariant o fresh empty in
    c.in_ok-line-in-Ok-Some.ensures.ok o (S.reads c.args.input.now) (S.reads x.source) (K.writes c.args.output.now) l.before u.0 refl
    (go_on o (S.reads c.args.input.now) (S.reads l.input) (S.reads x.source) l.self x.self l.before u.0 c.next_line.ensures.read _ (K.writes c.args.output.now) (K.writes l.output) (K.writes x.sink) l.kept x.output u.1 _ c.in-Ok-Some.ensures.sought)

pub returns-in_err-line-in-Ok-Some : goal.returns-in_err-line-in-Ok-Some
returns-in_err-line-in-Ok-Some g c = let S = g.S.Source in let K = g.K.Sink in let l = c.loop-before in let x = c.next_line.new in λ o fresh empty. let u = l.invariant o fresh empty in
    let p = err_from_is_err_and c.from_residual.result c.from_residual.ensures.1 in
    rw (p.1, p.2) (c.in_err-line-in-Ok-Some.ensures.err o (S.reads c.args.input.now) (S.reads x.source) (K.writes c.args.output.now) l.before u.0 refl
    (go_on o (S.reads c.args.input.now) (S.reads l.input) (S.reads x.source) l.self x.self l.before u.0 c.next_line.ensures.read _ (K.writes c.args.output.now) (K.writes l.output) (K.writes x.sink) l.kept x.output u.1 _ c.in-Ok-Some.ensures.sought))

pub returns-in-Err : goal.returns-in-Err
returns-in-Err g c = let S = g.S.Source in let K = g.K.Sink in let l = c.loop-before in let x = c.next_line.new in λ o fresh empty. let u = l.invariant o fresh empty in
    subst (IsStopped o (S.reads c.args.input.now) (S.reads x.source) (K.writes c.args.output.now) (K.writes x.sink) (pending_of x.output)) (sym c.unfound.ensures)
    (stop_unfound o (S.reads c.args.input.now) (S.reads l.input) (S.reads x.source) l.self x.self l.before u.0 c.next_line.ensures.read (c.next_line.ensures.read.format ∙ l.self.formatted) (K.writes c.args.output.now) (K.writes l.output) (K.writes x.sink) l.kept x.output u.1 c.in-Err.end c.in-Err.ensures.sought)

-- no further line can be counted
pub returns : goal.returns
returns g c = let S = g.S.Source in let K = g.K.Sink in let l = c.loop-before in λ o fresh empty. let u = l.invariant o fresh empty in
    stop_reported o u.0 (S.reads c.args.input.now) (S.reads l.input) (K.writes c.args.output.now) (K.writes l.output) (pending_of l.kept) ends.Spent (over_spent o (S.reads c.args.input.now) (S.reads l.input) l.self l.before u.0 u.1.0 (omega arith)) u.1.1 (u.1.2, u.1.3)
