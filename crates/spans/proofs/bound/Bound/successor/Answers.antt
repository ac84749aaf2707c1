use Rattle.std.proofs.Common.{rules, [], ◌∷◌, ◌≡◌, ◌∙◌, length, take, sym, ap, arith}
use Rattle.std.proofs.lemmas.List.{take_at}
use Rattle.spans.specs.KeyOrder.{successor}
use Rattle.spans.proofs.Succeeding.{above_successor}
use Rattle.spans.proofs.bound.Bound.successor.Goals as goal

pub returns-then-bytes-lt-MAX_KEY_BYTES-clause-least : goal.returns-then-bytes-lt-MAX_KEY_BYTES-clause-least
returns-then-bytes-lt-MAX_KEY_BYTES-clause-least c = λ x. let bytes : c.short.result ≡ successor c.args.key.now = search rules in rw bytes (above_successor c.args.key.now x)

pub long-requires-clause-first : goal.long-requires-clause-first
long-requires-clause-first c =
    let key = c.args.key.now in
    let bytes : c.in_ok-all.all ≡ successor key = c.in_ok-all.ensures.bytes ∙ ap successor c.as_small_bytes.ensures in
    let read = ap length c.bytes.ensures.bytes in
    let full : length key ≡ 256 = omega (arith, c.bytes.ensures.in_range) in
    c.in_ok-copy.ensures.bytes ∙ sym (ap (take 256) bytes ∙ take_at key (0 ∷ []) 256 full)

pub returns-clause-least : goal.returns-clause-least
returns-clause-least c = λ x. let bytes : c.in_ok-above.above ≡ successor c.args.key.now = search rules in rw bytes (above_successor c.args.key.now x)
