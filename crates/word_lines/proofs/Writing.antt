-- What stands in a buffer stays there: the lemmas of `json_lines`, where this crate's functions name them.
use Rattle.std.proofs.Common.{◌≡◌, ℕ, ◌+◌, ◌<◌, ◌≤◌, ◌^◌, List, ◌++◌, length, length-append, decimal, vec_len, Vec, Result, Ok, Err, OnErr, ap, arith}
use Rattle.word_lines.proofs.Common.{Global, length-decimal-le}
use Rattle.std.specs.declared.alloc.AllocError.{AllocError}
use Rattle.json_lines.specs.Messages.{Keeps}
pub use Rattle.json_lines.proofs.Writing.{keeps_text, keeps_same, keeps_then, on_error, undone, keeping}

-- what stands in a buffer stays there when a part more was written, and then what stands there stays
pub keeps_on : (a b c part : List ℕ) → b ≡ a ++ part → Keeps b c → Keeps a c
keeps_on a b c part is keeps = keeps_then a b c (keeps_text a b part is) keeps

-- the same where the last writer may have failed
pub error_on : (r : Result (Unit {0}) AllocError) (a b c part : List ℕ) → b ≡ a ++ part → OnErr r (Keeps b c) → OnErr r (Keeps a c)
error_on (Ok x) a b c part is keeps = tt
error_on (Err e) a b c part is keeps = keeps_on a b c part is keeps

-- a number word has at most 20 bytes
pub numbered : (old new : Vec ℕ Global) (n : ℕ) → n < 2 ^ 64 → new.items ≡ old.items ++ decimal n → vec_len new ≤ vec_len old + 20
numbered old new n small is =
    omega (arith, old.ok.0, new.ok.0, ap length is, length-append old.items (decimal n), length-decimal-le 20 n (omega arith) (omega arith) small)
