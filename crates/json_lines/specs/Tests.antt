-- The tests of a line, over what `serde_json` reads of it, and which lines may want memory (this project's own).
use Rattle.std.specs.Prelude.{ℕ, ◌==◌, if◌then◌else◌, is_some, List, codes, bytes_eq, Option, Some, None, option_and_then, Result, Ok, Err, ok_or, true, ◌≡◌, ◌≢◌}
use Rattle.serde_json.specs.Data.{Data}
use Rattle.serde_json.specs.Read.{read}
use Rattle.serde_json.specs.Find.{get, as_null, as_str, as_object}
use Rattle.serde_json.specs.Events.{members_len}
use Rattle.spans.specs.declared.calls.messages.Message.TheVariants.{Resolved}
use Rattle.json_lines.specs.Meaning.{◌>>=◌, message_of, Texts, resolved, row}
use Rattle.json_lines.specs.Prelude.{Format, Message, is_utf8, MessageFault, NotJson, Shape}
use Rattle.json_lines.specs.Messages.{message_line, IsTimestamp}

-- a member that is a string
unfoldable pub text_at : List ℕ → Data → Result (List ℕ) MessageFault
text_at name tree = ok_or (option_and_then as_str (get name tree)) Shape

-- the member `after`: a string, or null
unfoldable pub after_at : Data → Result (Option (List ℕ)) MessageFault
after_at tree = do
  after ← ok_or (get (codes "after") tree) Shape
  if is_some (as_null after) then Ok None else (do
    text ← ok_or (as_str after) Shape
    Ok (Some text))

unfoldable pub resolved_in : Data → Result Texts MessageFault
resolved_in tree = do
  ts ← text_at (codes "resolved") tree
  Ok (resolved ts)

unfoldable pub row_in : Data → Result Texts MessageFault
row_in tree = do
  after ← after_at tree
  key ← text_at (codes "key") tree
  updated ← text_at (codes "updated") tree
  Ok (row after key updated)

-- no other members: one in a resolved message, three in a row
unfoldable pub texts_in : Data → Result Texts MessageFault
texts_in tree = do
  members ← ok_or (as_object tree) Shape
  if members_len members == 1 then resolved_in tree else (if members_len members == 3 then row_in tree else Err Shape)

-- the value that the line is in JSON
unfoldable pub tree_of : List ℕ → Result Data MessageFault
tree_of line = if is_utf8 line then ok_or (read line) NotJson else Err NotJson

-- the message of the format that the line has, however it is written
unfoldable pub meant_by : Format → List ℕ → Result Message MessageFault
meant_by format line = do
  tree ← tree_of line
  texts ← texts_in tree
  message_of format texts

-- the message of the line, which has to be written as a message's line is
unfoldable pub message_at : Format → List ℕ → Result Message MessageFault
message_at format line = do
  m ← meant_by format line
  if bytes_eq line (message_line m) then Ok m else Err Shape

-- the texts are a row's, whose bytes are kept
abbrev pub AreOfRow : Texts → Type 0
AreOfRow (resolved ts) = ⊥
AreOfRow (row after key updated) = Unit {0}

-- the line is no resolved message's
abbrev pub IsUnresolved : List ℕ → Type 0
IsUnresolved line = (t : ℕ) → IsTimestamp t → line ≢ message_line (Resolved t)

-- the line is UTF-8, and no resolved message's
pub record MayWantMemory (line : List ℕ) : Type 0 where
  pub utf8 : is_utf8 line ≡ true
  pub unresolved : IsUnresolved line
