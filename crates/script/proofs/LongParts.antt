-- A long value behind the command of an event's first line.
use Rattle.script.proofs.Common.{common_steps, list_any, list_any-append, number_at, row_at, session_at, table}
use Rattle.std.proofs.Common.{arith, ◌≡◌, ℕ, true, false, Bool, ◌||◌, List, Ok, refl}
use Rattle.spelled_words.specs.Reading.{is_long}
use Rattle.word_lines.specs.declared.table.Form.{Form}
use Rattle.script.specs.EventLines.{behind_arrow, event_words_of, ok_has, value_words}

or_true : (b : Bool) → (b || true) ≡ true
or_true true = refl
or_true false = refl

pub answer_long : (words left behind arguments answer : List (List ℕ)) (position seat : ℕ) (row : Form) → number_at words ≡ Ok (position, left) → session_at 64 left ≡ Ok (seat, behind)
    → row_at table behind ≡ Ok (row, arguments) → behind_arrow row.arguments arguments ≡ Ok answer → list_any is_long (value_words answer) ≡ true → ok_has (list_any is_long) (event_words_of words) ≡ true
unfolding event_words_of
answer_long words left behind arguments answer position seat row number session name arrow long = grind (arith, common_steps, list_any-append, or_true)
