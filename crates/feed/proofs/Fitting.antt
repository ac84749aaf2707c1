-- How many messages find room, by the first of them.
use Rattle.std.proofs.lemmas.Grind.{common_steps}
use Rattle.std.proofs.Common.{List, [], ap, arith, length, refl, suc, take, zero, ℕ, ◌-◌, ◌<◌, ◌∙◌, ◌∷◌, ◌≡◌, ◌≤◌}
use Rattle.feed.proofs.Common.{Message, Place, Stored, nat_tests}
use Rattle.kept.specs.Replies.{messages_left}
use Rattle.feed.specs.Left.{IsCountLeft, count_or, count_within, message_weight, IsTold}
use Rattle.feed.specs.declared.live.telling.Told.{Told}

-- where not all of the first find room, no more are counted behind them
counted_first : (bytes n m : ℕ) (xs : List Message) → n ≤ m → count_within bytes (take n xs) < length (take n xs) → count_within bytes (take m xs) ≡ count_within bytes (take n xs)
counted_first bytes zero m xs low some = absurd (omega arith)
counted_first bytes (suc n) zero xs low some = absurd (omega arith)
counted_first bytes (suc n) (suc m) [] low some = refl
counted_first bytes (suc n) (suc m) (x ∷ xs) low some = grind (arith, nat_tests, common_steps, counted_first (bytes - message_weight x) n m xs)

-- not all of the first find room
pub counts_short : (bytes max chunk : ℕ) (xs : List Message) → chunk ≤ max → count_within bytes (take chunk xs) < length (take chunk xs) → count_within bytes (take chunk xs) ≡ count_or max bytes (take max xs)
counts_short bytes max chunk xs low few = grind (arith, nat_tests, common_steps, counted_first bytes chunk max xs)

-- what was told says how many find room
pub left_short : (store : Stored) (place : Place) (closed chunk max bytes count : ℕ) (told : Told) → IsTold store place closed chunk told → chunk ≤ max → count ≡ count_within bytes told.messages.items → count < length told.messages.items → IsCountLeft store closed max bytes place count
left_short store place closed chunk max bytes count told is low counted few = record {
  rows = is.rows;
  left = is.left;
  count = counted ∙ ap (count_within bytes) is.first ∙ counts_short bytes max chunk (messages_left closed place is.rows) low (omega (arith, few, ap (count_within bytes) is.first, ap length is.first, counted));
}
