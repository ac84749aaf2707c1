use Rattle.std.proofs.Common.{arith, ◌≡◌, ◌∙◌}
use Rattle.spans.proofs.Ascending.{rising_keys}
use Rattle.spans.proofs.Cutting.{all_parts, parts, parts_apart, parts_few, parts_hold}
use Rattle.spans.proofs.span.Span.without.Goals as goal

made : (c : goal.In_ok-push-2) → c.push-2.new.self.items ≡ parts c.args.self.now.lo c.args.self.now.hi c.args.keys.now
made c =
    c.in_ok-push-2.ensures.items
    ∙ all_parts c.loop-key.pieces.items c.loop-key.lo c.args.self.now.lo c.args.self.now.hi c.in_ok-hi-2.hi c.args.keys.now c.loop-key.key-index (omega arith) c.in_ok-hi-2.ensures c.loop-key.invariant

pub returns-clause-held : goal.returns-clause-held
returns-clause-held c = λ x. rw (made c) (parts_hold c.args.self.now.lo c.args.self.now.hi c.args.keys.now (rising_keys c.args.keys.now c.requires.rising) x)

pub returns-clause-apart : goal.returns-clause-apart
returns-clause-apart c = rw (made c) (parts_apart c.args.self.now.lo c.args.self.now.hi c.args.keys.now (rising_keys c.args.keys.now c.requires.rising))

pub returns-clause-few : goal.returns-clause-few
returns-clause-few c = rw (made c) (parts_few c.args.self.now.lo c.args.self.now.hi c.args.keys.now)
