use Rattle.std.proofs.Common.{◌≡◌, ◌++◌, ◌≤◌, vec_len}
use Rattle.sessions.proofs.whole.read_whole.Given as goal

abbrev pub invariant-loop-turn : goal.invariant-loop-turn
invariant-loop-turn g l =
    let r = g.S.Source.reads l.initial.source in
    let r' = g.S.Source.reads l.source in
    (65536 ≤ vec_len l.block)
    × (r'.given ≡ r.given ++ l.whole.items)
    × (r'.ends ≡ r.ends)
    × (r'.failures ≡ r.failures)
    × (l._turn ≤ vec_len l.whole)
