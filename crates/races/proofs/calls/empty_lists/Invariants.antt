use Rattle.std.proofs.Common.{◌≡◌, [], All, vec_len}
use Rattle.races.proofs.calls.empty_lists.Given as goal

abbrev pub invariant-loop-place : goal.invariant-loop-place
invariant-loop-place l = (vec_len l.lists ≡ l._place) × All (λ list. list.items ≡ []) l.lists.items
