-- What is written of an event is read so.
use Rattle.script.proofs.Common.{All, AllByRecursion, Event, Format, IsAfter, IsEvent, IsMessage, IsNumber, IsPair, IsRefusal, IsReply, IsWord, KeepsLimit, Lacks, LineFault, Message, Refusal, Reply, after_text, base64, bytes_few, bytes_word, command_words, common_steps, decimal_all, event_text, flat_map, following_lines, header_lines, heading_text, joined, joined_few, key_again, key_limit, le-ltb, length-append, length-replicate, line_limit, list_all-append, message_line, ne_eqb, number_again, number_length, number_word, read_again, recursion_from_All, refusal_words, reply_words, room, row_line, session_again, spelling, text_again, text_at, value_again, value_limit, words_again, words_of, words_then}
use Rattle.std.proofs.Common.{◌≡◌, ℕ, zero, suc, ◌+◌, ◌*◌, ◌≤◌, false, List, [], ◌∷◌, ◌++◌, length, Option, Some, None, Result, Ok, refl, sym, ap, ◌∙◌, append_assoc, arith}
use Rattle.std.specs.Prelude.{codes, decimal, not, ◌==◌}
use Rattle.base64.proofs.RoundTrip.{length-encode_symbols}
use Rattle.spans.specs.declared.calls.messages.Message.TheVariants as message
use Rattle.spans.specs.declared.calls.replies.Reply.TheVariants as reply
use Rattle.spans.specs.declared.calls.replies.Refusal.TheVariants as refusal
use Rattle.script.specs.declared.reply_reading.Shape.{Shape}
use Rattle.script.specs.declared.reply_reading.Shape.TheVariants as shape
use Rattle.script.specs.EventLines.{Place, lines_of, behind_arrow, heading_of, heading_at, pair_at, pair_of, row_line_at, message_line_at}
use Rattle.script.specs.ReplyReading.{refusal_at, stats_at, shape_at, named_at, reply_at}
use Rattle.script.specs.Transcripts.{Fault, many_at, following_at, event_at, events_at, body_at, transcript_at, events_text, transcript_text}
use Rattle.script.proofs.WrittenReplies.{reply_are_words}
use Rattle.script.proofs.MessageLines.{message_only, base64_all}
use Rattle.word_lines.proofs.Joining.{some_words}
use Rattle.script.proofs.CutLines.{lines_again, words_line_again}
use Rattle.script.proofs.TakeLines.{event_fewer}
use Rattle.script.proofs.Headers.{header_again}

-- ---- replies

-- a reply without the lines that follow
abbrev shape_of : Reply → Shape
shape_of (reply.Rows rows) = shape.Rows (length rows)
shape_of (reply.Messages messages) = shape.Messages (length messages)
shape_of r = shape.Alone r

module _ (format : Format) where
  -- a refusal is read from its words
  refusal_again : (r : Refusal) → IsRefusal r → reply_at format (refusal_words r) ≡ Ok (shape.Alone (reply.Refused r))
  unfolding named_at shape_at refusal_at
  refusal_again (refusal.BelowClosed closed) is = rw (number_again closed [] is) refl
  refusal_again refusal.TsUsed is = refl
  refusal_again refusal.TsRange is = refl
  refusal_again (refusal.Blocked by) is = rw (number_again by [] is) refl
  refusal_again refusal.NoTxn is = refl
  refusal_again refusal.NotOwner is = refl
  refusal_again refusal.Ended is = refl
  refusal_again refusal.TooLate is = refl
  refusal_again (refusal.NotClosed closed) is = rw (number_again closed [] is) refl
  refusal_again (refusal.BelowHorizon horizon) is = rw (number_again horizon [] is) refl
  refusal_again refusal.NoProtection is = refl
  refusal_again refusal.NoFeed is = refl
  refusal_again refusal.FeedCancelled is = refl
  refusal_again refusal.NoMemory is = refl
  refusal_again refusal.GapRange is = refl

  -- a reply is read from its words
  reply_again : (r : Reply) → IsReply format r → reply_at format (reply_words r) ≡ Ok (shape_of r)
  unfolding named_at shape_at stats_at reply_words IsReply
  reply_again reply.Started is = refl
  reply_again (reply.Found None) is = refl
  reply_again (reply.Found (Some value)) is = rw (value_again format value [] is) refl
  reply_again (reply.Rows rows) is = rw (number_again (length rows) [] is.0) refl
  reply_again reply.Written is = refl
  reply_again (reply.Committed keys) is = rw (number_again keys [] is) refl
  reply_again reply.Aborted is = refl
  reply_again (reply.Closed at aborted) is = rw (number_again at (decimal aborted ∷ []) is.0, number_again aborted [] is.1) refl
  reply_again (reply.Protected id) is = rw (number_again id [] is) refl
  reply_again reply.Released is = refl
  reply_again (reply.Collected horizon removed) is = rw (number_again horizon (decimal removed ∷ []) is.0, number_again removed [] is.1) refl
  reply_again (reply.Opened feed) is = rw (number_again feed [] is) refl
  reply_again (reply.Messages messages) is = rw (number_again (length messages) [] is.0) refl
  reply_again reply.Cancelled is = refl
  reply_again (reply.Stats versions undecided feeds closed horizon) is =
      rw (
        number_again versions (decimal undecided ∷ decimal feeds ∷ decimal closed ∷ decimal horizon ∷ []) is.0,
        number_again undecided (decimal feeds ∷ decimal closed ∷ decimal horizon ∷ []) is.1,
        number_again feeds (decimal closed ∷ decimal horizon ∷ []) is.2,
        number_again closed (decimal horizon ∷ []) is.3,
        number_again horizon [] is.4,
      ) refl
  reply_again (reply.Refused r) is = refusal_again r is

-- ---- the first line

-- the words behind `=>` are found
behind_again : (n : ℕ) (front answer : List (List ℕ)) → length front ≡ n → behind_arrow n (front ++ codes "=>" ∷ answer) ≡ Ok answer
unfolding behind_arrow
behind_again n front answer e = grind (arith, common_steps)

-- the words of an event's first line
abbrev words_in : Event → List (List ℕ)
words_in e = decimal e.position ∷ decimal e.seat ∷ (words_of e.cmd ++ codes "=>" ∷ reply_words e.reply)

module _ (format : Format) where
  heading_words_again : (e : Event) → IsEvent format e → heading_of format (words_in e) ≡ Ok (record { position = e.position; seat = e.seat; cmd = e.cmd; shape = shape_of e.reply })
  unfolding heading_of
  heading_words_again e is =
      let rest = codes "=>" ∷ reply_words e.reply in
      let small : IsNumber e.seat = omega (arith, is.1) in
      let again = read_again format e.cmd rest is.2 in
      rw (
        number_again e.position (decimal e.seat ∷ (words_of e.cmd ++ rest)) is.0,
        session_again 64 e.seat (words_of e.cmd ++ rest) is.1 small,
        again.named,
        behind_again again.row.arguments again.front (reply_words e.reply) again.count,
        again.read,
        reply_again format e.reply is.3,
      ) refl

  words_in_are : (e : Event) → IsEvent format e → AllByRecursion IsWord (words_in e)
  words_in_are e is =
      let small : IsNumber e.seat = omega (arith, is.1) in
      (number_word e.position is.0, (number_word e.seat small, words_then (words_of e.cmd) (codes "=>" ∷ reply_words e.reply) (command_words format e.cmd is.2) ((omega arith, refl), reply_are_words format e.reply is.3)))

  -- a first line that keeps the limit is read so
  heading_again : (e : Event) → IsEvent format e → KeepsLimit format e → heading_at format (heading_text e ++ 10 ∷ []) ≡ Ok (record { position = e.position; seat = e.seat; cmd = e.cmd; shape = shape_of e.reply })
  unfolding heading_at
  heading_again e is short =
      let long : 3 ≤ length (words_in e) = omega (arith, length-append (words_of e.cmd) (codes "=>" ∷ reply_words e.reply), some_words e.cmd) in
      rw (text_again format (heading_text e) short, words_again (words_in e) (omega (arith, long)) (words_in_are e is), le-ltb (length (words_in e)) 3 long) (heading_words_again e is)

-- ---- the lines that follow

-- what is written of a thing is one line, which is read as this thing
abbrev pub IsLineOf : {A : Type 0} → (List ℕ → Result A LineFault) → (A → List ℕ) → A → Type 0
IsLineOf read show x = ((rest : List ℕ) → lines_of (show x ++ rest) ≡ show x ∷ lines_of rest) × (read (show x) ≡ Ok x)

module _ (format : Format) where
  row_words_are : (row : List ℕ × List ℕ) → IsPair format row → AllByRecursion IsWord (codes "row" ∷ spelling row.0 ∷ spelling row.1 ∷ [])
  row_words_are row is = ((omega arith, refl), (bytes_word row.0 is.0.2, (bytes_word row.1 is.1.1, tt)))

  -- the line of a row
  pub row_again : (row : List ℕ × List ℕ) → IsPair format row → IsLineOf (row_line_at format) row_line row
  unfolding row_line_at pair_of pair_at
  row_again row is =
      let ws = codes "row" ∷ spelling row.0 ∷ spelling row.1 ∷ [] in
      let are = row_words_are row is in
      let short : length (joined ws) ≤ line_limit format = omega (arith, (room format).0, joined_few ws, bytes_few row.0 (key_limit format) is.0.2 is.0.1, bytes_few row.1 (value_limit format) is.1.1 is.1.0) in (
        λ rest. ap lines_of (append_assoc (joined ws) (10 ∷ []) rest) ∙ words_line_again ws rest are,
        rw (text_again format (joined ws) short, words_again ws (omega arith) are, key_again format row.0 (spelling row.1 ∷ []) is.0, value_again format row.1 [] is.1) refl,
      )

-- a message's line without its newline
abbrev message_text : Message → List ℕ
message_text (message.Row row) = codes "{\"after\":" ++ after_text row.after ++ codes ",\"key\":\"" ++ base64 row.key ++ codes "\",\"updated\":\"" ++ decimal row.ts ++ codes "\"}"
message_text (message.Resolved ts) = codes "{\"resolved\":\"" ++ decimal ts ++ codes "\"}"

message_ends : (m : Message) → message_line m ≡ message_text m ++ 10 ∷ []
unfolding message_line
message_ends (message.Row row) = sym (append_assoc (codes "{\"after\":" ++ after_text row.after ++ codes ",\"key\":\"" ++ base64 row.key ++ codes "\",\"updated\":\"" ++ decimal row.ts) (codes "\"}") (10 ∷ []))
message_ends (message.Resolved ts) = sym (append_assoc (codes "{\"resolved\":\"" ++ decimal ts) (codes "\"}") (10 ∷ []))

-- a text that has no newline, and at most so many bytes
record IsInLine (text : List ℕ) (most : ℕ) : Type 0 where
  clean : Lacks 10 text
  few : length text ≤ most

in_line : (a b : List ℕ) (m n : ℕ) → IsInLine a m → IsInLine b n → IsInLine (a ++ b) (m + n)
in_line a b m n p q = record { clean = list_all-append (λ c. not (c == 10)) a b ∙ rw (p.clean, q.clean) refl; few = omega (arith, length-append a b, p.few, q.few) }

number_in_line : (n : ℕ) → IsNumber n → IsInLine (decimal n) 20
number_in_line n is = record { clean = decimal_all (λ c. not (c == 10)) (λ d small. ap not (ne_eqb (48 + d) 10 (λ e. absurd (omega (arith, e))))) n is; few = number_length n is }

base64_few : (bytes : List ℕ) (most : ℕ) → length bytes ≤ most → length (base64 bytes) ≤ 2 * most + 4
base64_few bytes most le = grind (arith, common_steps, length-append, length-encode_symbols, length-replicate)

base64_in_line : (bytes : List ℕ) (most : ℕ) → length bytes ≤ most → IsInLine (base64 bytes) (2 * most + 4)
base64_in_line bytes most le = record { clean = base64_all (λ c. not (c == 10)) refl refl refl bytes; few = base64_few bytes most le }

module _ (format : Format) where
  after_in_line : (after : Option (List ℕ)) → IsAfter format after → IsInLine (after_text after) (2 * value_limit format + 6)
  after_in_line None is = record { clean = refl; few = omega arith }
  after_in_line (Some value) is =
      let v = 2 * value_limit format + 4 in
      let s = in_line (codes "\"" ++ base64 value) (codes "\"") (1 + v) 1 (in_line (codes "\"") (base64 value) 1 v (record { clean = refl; few = omega arith }) (base64_in_line value (value_limit format) is.0)) (record { clean = refl; few = omega arith }) in
      record { clean = s.clean; few = omega (arith, s.few) }

  message_in_line : (m : Message) → IsMessage format m → IsInLine (message_text m) (2 * key_limit format + 2 * value_limit format + 90)
  message_in_line (message.Row row) is =
      let v = 2 * value_limit format + 6 in
      let k = 2 * key_limit format + 4 in
      let small : IsNumber row.ts = omega (arith, is.0.1) in
      let a = in_line (codes "{\"after\":") (after_text row.after) 9 v (record { clean = refl; few = omega arith }) (after_in_line row.after is.2) in
      let b = in_line (codes "{\"after\":" ++ after_text row.after) (codes ",\"key\":\"") (9 + v) 8 a (record { clean = refl; few = omega arith }) in
      let c = in_line (codes "{\"after\":" ++ after_text row.after ++ codes ",\"key\":\"") (base64 row.key) (9 + v + 8) k b (base64_in_line row.key (key_limit format) is.1.1) in
      let d = in_line (codes "{\"after\":" ++ after_text row.after ++ codes ",\"key\":\"" ++ base64 row.key) (codes "\",\"updated\":\"") (9 + v + 8 + k) 13 c (record { clean = refl; few = omega arith }) in
      let f = in_line (codes "{\"after\":" ++ after_text row.after ++ codes ",\"key\":\"" ++ base64 row.key ++ codes "\",\"updated\":\"") (decimal row.ts) (9 + v + 8 + k + 13) 20 d (number_in_line row.ts small) in
      let g = in_line (codes "{\"after\":" ++ after_text row.after ++ codes ",\"key\":\"" ++ base64 row.key ++ codes "\",\"updated\":\"" ++ decimal row.ts) (codes "\"}") (9 + v + 8 + k + 13 + 20) 2 f (record { clean = refl; few = omega arith }) in
      record { clean = g.clean; few = omega (arith, g.few) }
  message_in_line (message.Resolved ts) is =
      let small : IsNumber ts = omega (arith, is.1) in
      let a = in_line (codes "{\"resolved\":\"") (decimal ts) 13 20 (record { clean = refl; few = omega arith }) (number_in_line ts small) in
      let b = in_line (codes "{\"resolved\":\"" ++ decimal ts) (codes "\"}") 33 2 a (record { clean = refl; few = omega arith }) in
      record { clean = b.clean; few = omega (arith, b.few) }

  -- the line of a message
  message_again : (m : Message) → IsMessage format m → IsLineOf (message_line_at format) message_line m
  unfolding message_line_at
  message_again m is =
      let fits = message_in_line m is in
      let text : text_at format (message_line m) ≡ Ok (message_text m) = ap (text_at format) (message_ends m) ∙ text_again format (message_text m) (omega (arith, (room format).0, fits.few)) in (
        λ rest. ap (λ (x : List ℕ). lines_of (x ++ rest)) (message_ends m) ∙ ap lines_of (append_assoc (message_text m) (10 ∷ []) rest) ∙ lines_again (message_text m) rest fits.clean ∙ ap (λ (x : List ℕ). x ∷ lines_of rest) (sym (message_ends m)),
        rw (text, message_only format m is) refl,
      )

-- what is read at a place, and where the text behind it is
record IsReadBy {A : Type 0} (read : Result (A × Place) Fault) (x : A) (rest : List ℕ) : Type 0 where
  number : ℕ
  is : read ≡ Ok (x, record { number = number; lines = lines_of rest })

abbrev place : ℕ → List ℕ → Place
place number text = record { number = number; lines = lines_of text }

-- lines of one kind, one after the other
many_again : {A : Type 0} (read : List ℕ → Result A LineFault) (show : A → List ℕ) (Is : A → Type 0) → ((x : A) → Is x → IsLineOf read show x) → (xs : List A) (number : ℕ) (rest : List ℕ) → AllByRecursion Is xs
    → IsReadBy (many_at read (length xs) (place number (flat_map show xs ++ rest))) xs rest
unfolding many_at
many_again read show Is each [] number rest are = record { number = number; is = refl }
many_again read show Is each (x ∷ xs) number rest are = grind (arith, common_steps, many_again read show Is each xs (number + 1) rest are.1)

module _ (format : Format) where
  -- the lines that follow a reply
  following_again : (r : Reply) (number : ℕ) (rest : List ℕ) → IsReply format r → IsReadBy (following_at format (shape_of r) (place number (following_lines r ++ rest))) r rest
  unfolding following_at following_lines IsReply
  following_again (reply.Rows rows) number rest is = let f = many_again (row_line_at format) row_line (IsPair format) (row_again format) rows number rest is.1 in record { number = f.number; is = rw (f.is) refl }
  following_again (reply.Messages messages) number rest is = let f = many_again (message_line_at format) message_line (IsMessage format) (message_again format) messages number rest is.1 in record { number = f.number; is = rw (f.is) refl }
  following_again reply.Started number rest is = record { number = number; is = refl }
  following_again (reply.Found found) number rest is = record { number = number; is = refl }
  following_again reply.Written number rest is = record { number = number; is = refl }
  following_again (reply.Committed keys) number rest is = record { number = number; is = refl }
  following_again reply.Aborted number rest is = record { number = number; is = refl }
  following_again (reply.Closed at aborted) number rest is = record { number = number; is = refl }
  following_again (reply.Protected id) number rest is = record { number = number; is = refl }
  following_again reply.Released number rest is = record { number = number; is = refl }
  following_again (reply.Collected horizon removed) number rest is = record { number = number; is = refl }
  following_again (reply.Opened feed) number rest is = record { number = number; is = refl }
  following_again reply.Cancelled number rest is = record { number = number; is = refl }
  following_again (reply.Stats versions undecided feeds closed horizon) number rest is = record { number = number; is = refl }
  following_again (reply.Refused r) number rest is = record { number = number; is = refl }

-- ---- events

module _ (format : Format) where
  -- the lines of an event
  event_again : (e : Event) (number : ℕ) (rest : List ℕ) → IsEvent format e → KeepsLimit format e → IsReadBy (event_at format (place number (event_text e ++ rest))) e rest
  unfolding event_at
  event_again e number rest is short =
      let follows = following_again format e.reply (number + 1) rest is.3 in
      let cut : lines_of (event_text e ++ rest) ≡ (heading_text e ++ 10 ∷ []) ∷ lines_of (following_lines e.reply ++ rest) = ap lines_of (append_assoc (heading_text e) (10 ∷ following_lines e.reply) rest) ∙ words_line_again (words_in e) (following_lines e.reply ++ rest) (words_in_are format e is) in
      record { number = follows.number; is = rw (cut, heading_again format e is short, follows.is) refl }

  -- there are lines where an event is read
  some_lines : (e : Event) (rest : List ℕ) (p : Place) → IsReadBy (event_at format p) e rest → (length p.lines == 0) ≡ false
  some_lines e rest p by = ne_eqb (length p.lines) 0 (λ none. absurd (omega (arith, none, event_fewer format p (e, place by.number rest) by.is)))

  -- the lines of events, where enough events are allowed
  events_again : (es : List Event) (number n : ℕ) → AllByRecursion (IsEvent format) es → AllByRecursion (KeepsLimit format) es → length (lines_of (events_text es)) ≤ n → events_at format n (place number (events_text es)) ≡ Ok es
  unfolding events_at lines_of
  events_again [] number zero are short enough = refl
  events_again [] number (suc n) are short enough = refl
  events_again (e ∷ es) number zero are short enough =
      let one = event_again e number (events_text es) are.0 short.0 in
      absurd (omega (arith, enough, event_fewer format (place number (events_text (e ∷ es))) (e, place one.number (events_text es)) one.is))
  events_again (e ∷ es) number (suc n) are short enough =
      let p = place number (events_text (e ∷ es)) in
      let one = event_again e number (events_text es) are.0 short.0 in
      let fewer = event_fewer format p (e, place one.number (events_text es)) one.is in
      let others = events_again es one.number n are.1 short.1 (omega (arith, enough, fewer)) in
      rw (some_lines e (events_text es) p one, one.is, others) refl

  -- the transcript of events is read as these events
  pub transcript_again : (es : List Event) → All (IsEvent format) es → All (KeepsLimit format) es → transcript_at format (transcript_text format es) ≡ Ok es
  unfolding body_at
  transcript_again es are short =
      header_again format (events_text es)
      ∙ events_again es (1 + header_lines format) (length (lines_of (events_text es))) (recursion_from_All (IsEvent format) es are) (recursion_from_All (KeepsLimit format) es short) (omega arith)
