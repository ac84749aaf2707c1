use Rattle.std.proofs.Common.{drop, ◌≡◌, ◌++◌}
use Rattle.spans.proofs.Cutting.{parts}
use Rattle.spans.proofs.span.Span.without.Given as goal

-- the parts so far, and those of what is left
abbrev pub invariant-loop-key : goal.invariant-loop-key
invariant-loop-key l = l.pieces.items ++ parts l.lo l.self.hi (drop l.key-index l.keys) ≡ parts l.self.lo l.self.hi l.keys
