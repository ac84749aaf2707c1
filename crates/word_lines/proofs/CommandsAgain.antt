-- What is written of a command is read so.
use Rattle.std.proofs.Common.{◌≡◌, ℕ, ◌^◌, ◌<◌, ◌≤◌, false, List, [], ◌∷◌, ◌++◌, length, Ok, refl, sym, ap, ◌∙◌, arith}
use Rattle.std.specs.Prelude.{decimal, nat_lt}
use Rattle.word_lines.proofs.Common.{AllByRecursion, Cmd, Format, append-nil, eq-eqb, join_with_byte-slice_split, le-ltb, line_limit}
use Rattle.word_lines.specs.declared.table.Form.{Form}
use Rattle.word_lines.specs.Table.{layout_of, pieces_of, row, table}
use Rattle.word_lines.specs.Words.{text_at, words, words_at}
use Rattle.word_lines.specs.Events.{joined, parts_words, words_of, command_line}
use Rattle.word_lines.specs.Limits.{IsNumber, IsCommand}
use Rattle.word_lines.specs.Reading.{row_at, arguments_at, counted_at, taken_of, command_of, command_at}
use Rattle.word_lines.proofs.Joining.{some_words, words_are}
use Rattle.word_lines.proofs.ReadWords.{session_again}
use Rattle.word_lines.proofs.ReadParts.{command_words, parts_read}
use Rattle.word_lines.proofs.ReadCommands.{arguments_are, taken_found, made_again, parts_count, row_named}
use Rattle.word_lines.proofs.JoinedParts.{IsWord, text_again, words_again}
use Rattle.word_lines.proofs.WrittenWords.{number_word, number_length, joined_few, command_few}

module _ (format : Format) where
  -- the row of a command, and the words of its arguments, are read as this command
  pub record IsRead (c : Cmd) (rest : List (List ℕ)) : Type 0 where
    pub row : Form
    pub front : List (List ℕ)
    pub named : row_at table (words_of c ++ rest) ≡ Ok (row, front ++ rest)
    pub count : length front ≡ row.arguments
    pub read : arguments_at format row.verb (front ++ rest) ≡ Ok (c, rest)

  -- each command is read from its words, whatever stands behind them
  pub read_again : (c : Cmd) (rest : List (List ℕ)) → IsCommand format c → IsRead c rest
  unfolding row_at IsCommand
  read_again c rest is =
      let p = pieces_of c in
      let l = layout_of p.verb in
      record {
        row = (row p.verb).1;
        front = parts_words l.signature p.parts;
        named = rw (words_are c, row_named p.verb) refl;
        count = parts_count l.signature p.parts;
        read = rw (arguments_are format p.verb, (parts_read format l.signature).again p.parts rest is) (ap (λ (x : Cmd). Ok (x, rest)) (made_again c));
      }

two_words : (c : Cmd) (seat : ℕ) → 2 ≤ length (decimal seat ∷ words_of c)
two_words c seat = omega (arith, some_words c)

module _ (format : Format) where
  -- a command's line is read as this command
  pub command_again : (seats seat : ℕ) (c : Cmd) → seats < 2 ^ 8 → seat < seats → IsCommand format c → command_at format table seats (command_line seat c) ≡ Ok (seat, c)
  unfolding command_at command_of counted_at taken_of
  command_again seats seat c few lt is =
      let ws = decimal seat ∷ words_of c in
      let small : IsNumber seat = omega arith in
      let are : AllByRecursion IsWord ws = (number_word seat small, command_words format c is) in
      let short : length (joined ws) ≤ line_limit format = omega (arith, joined_few ws, number_length seat small, command_few format c is) in
      let text : text_at format (command_line seat c) ≡ Ok (joined ws) = text_again format (joined ws) short in
      let words : words_at (joined ws) ≡ Ok ws = words_again ws (omega arith) are in
      let many : nat_lt (length ws) 2 ≡ false = le-ltb (length ws) 2 (two_words c seat) in
      let again = read_again format c [] is in
      let named : row_at table (words_of c) ≡ Ok (again.row, again.front) = ap (row_at table) (sym (append-nil (words_of c))) ∙ again.named ∙ ap (λ (v : List (List ℕ)). Ok (again.row, v)) (append-nil again.front) in
      let read : arguments_at format again.row.verb again.front ≡ Ok (c, []) = ap (arguments_at format again.row.verb) (sym (append-nil again.front)) ∙ again.read in
      rw (text, words, many, session_again seats seat (words_of c) lt small, named, eq-eqb (length again.front) again.row.arguments again.count, read) refl

  -- the words that a command was taken from are printable, and none of them is empty
  pub taken_right : (seats : ℕ) (line text : List ℕ) (x : ℕ × Cmd) → seats < 2 ^ 8 → text_at format line ≡ Ok text → taken_of format table seats (words text) ≡ Ok x → command_at format table seats line ≡ Ok x
  unfolding command_at command_of
  taken_right seats line text x few t taken =
      let found = taken_found format seats (words text) x taken in
      let ws = decimal x.0 ∷ words_of x.1 in
      let small : IsNumber x.0 = omega (arith, found.1) in
      let are : AllByRecursion IsWord ws = (number_word x.0 small, command_words format x.1 found.2) in
      let is : text ≡ joined ws = sym (join_with_byte-slice_split 32 text) ∙ ap joined found.0 in
      let good : words_at text ≡ Ok (words text) = ap words_at is ∙ words_again ws (omega arith) are ∙ ap (λ (v : List (List ℕ)). Ok v) (sym found.0) in
      rw (t, good, found.3) taken
