use Rattle.std.proofs.Common.{◌≡◌, List, []}
use Rattle.follow.proofs.Common.{Message, pending_of}
use Rattle.follow.specs.declared.options.FollowOptions.{FollowOptions}
use Rattle.follow.specs.Steps.{IsFresh, IsGoing}
use Rattle.follow.proofs.follower.Follower.follow.Given as goal

abbrev pub invariant-loop-before : goal.invariant-loop-before
invariant-loop-before g l =
    let S = g.S.Source in let K = g.K.Sink in
    (o : FollowOptions) → IsFresh o l.initial.self → pending_of l.initial.kept ≡ []
    → (ms : List Message) × IsGoing o (S.reads l.initial.input) (S.reads l.input) (K.writes l.initial.output) (K.writes l.output) l.self (pending_of l.kept) l.before ms
