-- A long value among a command's arguments.
use Rattle.word_lines.proofs.Common.{Format, common_steps}
use Rattle.std.proofs.Common.{arith, ◌≡◌, ℕ, true, List, Ok}
use Rattle.std.specs.Prelude.{drop}
use Rattle.spelled_words.specs.Reading.{has_long}
use Rattle.word_lines.specs.Reading.{number_and_key_at}
use Rattle.word_lines.proofs.LongWords.{behind_number, behind_key, left_long, long_behind}
use Rattle.word_lines.proofs.ReadWords.{bind_ok, ok_is}

-- the value stands behind a number and a key
pub value_long : (format : Format) (words : List (List ℕ)) (x : (ℕ × List ℕ) × List (List ℕ)) → number_and_key_at format words ≡ Ok x → has_long 1 x.1 ≡ true → has_long 2 (drop 1 words) ≡ true
unfolding number_and_key_at
value_long format words x e long = grind (arith, common_steps, bind_ok, ok_is, left_long, behind_number, long_behind, behind_key)
