-- Where fewer were taken than were asked for, all were.
use Rattle.std.proofs.Common.{◌≡◌, ℕ, ◌<◌, ◌∙◌, List, length, ap, take, arith}
use Rattle.plain_database.proofs.Common.{length-take, take_all}

pub all_taken : {A : Type 0} (n : ℕ) (xs all : List A) → xs ≡ take n all → length xs < n → xs ≡ all
all_taken n xs all is few = is ∙ take_all n all (omega (arith, few, ap length is, length-take n all))
