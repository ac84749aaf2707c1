use Rattle.std.proofs.Common.{arith}
use Rattle.spans.proofs.Common.{MAX_KEY_BYTES, length-take-le}
use Rattle.spans.proofs.bound.Bound.of.Goals as goal

pub slice_bounds-key_of-end : goal.slice_bounds-key_of-end
slice_bounds-key_of-end c = let long = length-take-le MAX_KEY_BYTES c.args.bytes.now (omega arith) in omega arith

pub key_of-requires-2-clause-few : goal.key_of-requires-2-clause-few
key_of-requires-2-clause-few c = let long = length-take-le MAX_KEY_BYTES c.args.bytes.now (omega arith) in omega arith
