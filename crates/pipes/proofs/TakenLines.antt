-- What a follower takes of the lines of events.
use Rattle.std.proofs.Common.{◌≡◌, ℕ, ◌+◌, ◌==◌, ◌≤◌, Bool, true, false, cond, not, List, [], ◌∷◌, ◌++◌, length, Option, Some, None, Ok, refl, sym, ap, subst, ◌∙◌, append_assoc, arith}
use Rattle.std.specs.Prelude.{codes, decimal}
use Rattle.pipes.proofs.Common.{AllByRecursion, AllTaken, ApplyFault, Cmd, Event, FollowOptions, Followed, Format, IsCommand, IsEvent, IsMessage, IsNumber, IsPair, IsReply, IsWord, KeepsLimit, Lacks, Message, One, Reply, Two, append-nil, apply_fault, begins_message, bytes_few, bytes_word, chosen_at, decimal_all, decimal_nonempty, event_text, flat_map, followed_lines, followed_through, following_lines, header, heading_text, is_chosen, is_false, is_feed, is_taking_after, joined, joined_few, key_limit, line_at, line_limit, lines_again, lines_of, list_all, message_at, message_line, ne_eqb, number_word, onto_followed, polled_among, polled_by, polled_in, reply_words, room, row_line, said_by, start_of, text_again, text_at, value_limit, words_again, words_line_again, words_of, words_then}
use Rattle.spans.specs.declared.calls.commands.Cmd.TheVariants as cmd
use Rattle.spans.specs.declared.calls.messages.Message.TheVariants as messages
use Rattle.spans.specs.declared.calls.replies.Reply.TheVariants as reply
use Rattle.json_lines.proofs.NumberWords.{number_only}
use Rattle.word_lines.specs.Words.{spelling}
use Rattle.word_lines.proofs.Spellings.{both}
use Rattle.word_lines.proofs.ReadParts.{command_words}
use Rattle.script.proofs.WrittenReplies.{reply_are_words}
use Rattle.follow.proofs.Lines.{followed_message, followed_none, followed_passed, line_message}
use Rattle.pipes.proofs.MessageTexts.{message_first, message_kept, message_text}

-- ---- which lines are messages

-- what begins with a word that has no brace is no message's line
no_message_begins : (word rest : List ℕ) → 1 ≤ length word → Lacks 123 word → begins_message (word ++ rest) ≡ false
no_message_begins [] rest some lacks = absurd (omega (arith, some))
no_message_begins (b ∷ bs) rest some lacks = is_false (b == 123) (both (not (b == 123)) (list_all (λ x. not (x == 123)) bs) lacks).0

-- an event's first line is none, since it begins with a number
heading_begins : (e : Event) → IsNumber e.position → begins_message (heading_text e) ≡ false
heading_begins e small =
    let words = decimal e.seat ∷ (words_of e.cmd ++ codes "=>" ∷ reply_words e.reply) in
    no_message_begins (decimal e.position) (32 ∷ joined words) (decimal_nonempty e.position small) (decimal_all (λ b. not (b == 123)) (λ d few. ap not (ne_eqb (48 + d) 123 (λ is. absurd (omega (arith, is))))) e.position small)

message_begins : (m : Message) → begins_message (message_text m) ≡ true
message_begins (messages.Row row) = refl
message_begins (messages.Resolved ts) = refl

-- behind a message they are taken as before it
taking_stays : (feed : Option ℕ) (taking : Bool) (text : List ℕ) → begins_message text ≡ true → taking ≡ is_taking_after feed taking text
taking_stays None taking text is = refl
taking_stays (Some n) taking text is = rw is refl

-- behind another line by what it polls
taking_turns : (feed : Option ℕ) (n : ℕ) (taking : Bool) (text : List ℕ) → feed ≡ Some n → begins_message text ≡ false → is_feed n (polled_in text) ≡ is_taking_after feed taking text
taking_turns feed n taking text e isnt = rw (e, isnt) refl

-- ---- which feed a heading polls

-- the feed that a command polls
abbrev pub polled_of : Cmd → Option ℕ
polled_of (cmd.Poll feed max) = Some feed
polled_of c = None

abbrev words_in : Event → List (List ℕ)
words_in e = decimal e.position ∷ decimal e.seat ∷ (words_of e.cmd ++ codes "=>" ∷ reply_words e.reply)

module _ (format : Format) where
  words_poll : (position seat : List ℕ) (c : Cmd) (rest : List (List ℕ)) → IsCommand format c → polled_among (position ∷ seat ∷ (words_of c ++ codes "=>" ∷ rest)) ≡ polled_of c
  unfolding words_of IsCommand
  words_poll position seat (cmd.Poll feed max) rest is = number_only feed is.0
  words_poll position seat (_) rest is = refl

  words_in_are : (e : Event) → IsEvent format e → AllByRecursion IsWord (words_in e)
  words_in_are e is =
      let small : IsNumber e.seat = omega (arith, is.1) in
      (number_word e.position is.0, (number_word e.seat small, words_then (words_of e.cmd) (codes "=>" ∷ reply_words e.reply) (command_words format e.cmd is.2) ((omega arith, refl), reply_are_words format e.reply is.3)))

  -- the first line of an event polls the feed that its command polls
  heading_polls : (e : Event) → IsEvent format e → polled_in (heading_text e) ≡ polled_of e.cmd
  heading_polls e is = ap polled_by (words_again (words_in e) (omega arith) (words_in_are e is)) ∙ words_poll (decimal e.position) (decimal e.seat) e.cmd (reply_words e.reply) is.2

  -- a line that isn't taken
  line_passed : (taking : Bool) (line text : List ℕ) → text_at format line ≡ Ok text → is_chosen taking text ≡ false → line_at format taking line ≡ Ok None
  line_passed taking line text e off = ap (said_by format taking line) e ∙ ap (λ (b : Bool). cond b (chosen_at (message_at format line)) (Ok None)) off

  unchosen : (taking : Bool) (text : List ℕ) → begins_message text ≡ false → is_chosen taking text ≡ false
  unchosen taking text isnt = rw isnt refl

  chosen_as : (taking : Bool) (text : List ℕ) → begins_message text ≡ true → is_chosen taking text ≡ taking
  chosen_as taking text is = rw is refl

-- ---- lines, one after the other

-- of a reply these messages are taken, where messages are taken or not
abbrev pub told_where : Bool → Reply → List Message
told_where taking (reply.Messages ms) = cond taking ms []
told_where taking r = []

-- what an event tells the feed
abbrev pub told_of : ℕ → Event → List Message
told_of n e = told_where (is_feed n (polled_of e.cmd)) e.reply

module _ (o : FollowOptions) where
  -- behind these messages the text is followed so, whatever its first line's number, and whether messages are taken or not
  abbrev pub Goes : List Message → List ℕ → Followed → Type 0
  Goes before text result = (taking : Bool) (number : ℕ) → followed_lines o taking before number (lines_of text) ≡ result

  abbrev pub AreTaken : List Message → List Message → Type 0
  AreTaken before ms = AllTaken o.span (start_of o.span o.start).start before ms

  -- nothing is left
  pub nothing_goes : (before : List Message) → Goes before [] (followed_through [])
  nothing_goes before taking number = followed_none o taking before number

  onto_taken : (number : ℕ) (test : Option ApplyFault) (m : Message) (below : Followed) (ms : List Message) → test ≡ None → below ≡ followed_through ms → onto_followed number test m below ≡ followed_through (m ∷ ms)
  onto_taken number test m below ms passes is = rw (passes, is) refl

  -- messages that are taken
  pub messages_taken : (ms more before : List Message) (number : ℕ) (rest : List ℕ) → AllByRecursion (IsMessage o.format) ms → AreTaken before (ms ++ more)
      → ((number' : ℕ) → followed_lines o true (before ++ ms) number' (lines_of rest) ≡ followed_through more)
      → followed_lines o true before number (lines_of (flat_map message_line ms ++ rest)) ≡ followed_through (ms ++ more)
  messages_taken [] more before number rest are taken goes = subst (λ (b : List Message). followed_lines o true b number (lines_of rest) ≡ followed_through more) (append-nil before) (goes number)
  messages_taken (m ∷ ms) more before number rest are taken goes =
      let text = message_text m in
      let below = messages_taken ms more (before ++ m ∷ []) (number + 1) rest are.1 taken.1 (λ number'. subst (λ (b : List Message). followed_lines o true b number' (lines_of rest) ≡ followed_through more) (sym (append_assoc before (m ∷ []) ms)) (goes number')) in
      ap (λ (x : List ℕ). followed_lines o true before number (lines_of x)) (append_assoc (message_line m) (flat_map message_line ms) rest)
      ∙ followed_message o true true before number m (message_line m ++ (flat_map message_line ms ++ rest)) (flat_map message_line ms ++ rest) (message_line m) text
      (message_first o.format m (flat_map message_line ms ++ rest) are.0)
      (line_message o.format true (message_line m) text m (message_kept o.format m are.0) (chosen_as o.format true text (message_begins m)) (refl, are.0))
      (message_kept o.format m are.0) (taking_stays o.feed true text (message_begins m))
      ∙ onto_taken number (apply_fault o.span (start_of o.span o.start).start before m) m (followed_lines o true (before ++ m ∷ []) (number + 1) (lines_of (flat_map message_line ms ++ rest))) (ms ++ more) taken.0 below

  -- messages that are passed over
  messages_passed : (ms before : List Message) (number : ℕ) (rest : List ℕ) (result : Followed) → AllByRecursion (IsMessage o.format) ms → Goes before rest result
      → followed_lines o false before number (lines_of (flat_map message_line ms ++ rest)) ≡ result
  messages_passed [] before number rest result are goes = goes false number
  messages_passed (m ∷ ms) before number rest result are goes =
      let text = message_text m in
      ap (λ (x : List ℕ). followed_lines o false before number (lines_of x)) (append_assoc (message_line m) (flat_map message_line ms) rest)
      ∙ followed_passed o false false before number (message_line m ++ (flat_map message_line ms ++ rest)) (flat_map message_line ms ++ rest) (message_line m) text
      (message_first o.format m (flat_map message_line ms ++ rest) are.0)
      (line_passed o.format false (message_line m) text (message_kept o.format m are.0) (chosen_as o.format false text (message_begins m)))
      (message_kept o.format m are.0) (taking_stays o.feed false text (message_begins m))
      ∙ messages_passed ms before (number + 1) rest result are.1 goes

  -- rows are passed over
  rows_passed : (rows : List (List ℕ × List ℕ)) (before : List Message) (rest : List ℕ) (result : Followed) → AllByRecursion (IsPair o.format) rows → Goes before rest result → Goes before (flat_map row_line rows ++ rest) result
  rows_passed [] before rest result are goes taking number = goes taking number
  rows_passed (row ∷ rows) before rest result are goes taking number =
      let is = are.0 in
      let ws = codes "row" ∷ spelling row.0 ∷ spelling row.1 ∷ [] in
      let words : AllByRecursion IsWord ws = ((omega arith, refl), (bytes_word row.0 is.0.2, (bytes_word row.1 is.1.1, tt))) in
      let short : length (joined ws) ≤ line_limit o.format = omega (arith, (room o.format).0, joined_few ws, bytes_few row.0 (key_limit o.format) is.0.2 is.0.1, bytes_few row.1 (value_limit o.format) is.1.1 is.1.0) in
      let kept : text_at o.format (row_line row) ≡ Ok (joined ws) = text_again o.format (joined ws) short in
      let more = flat_map row_line rows ++ rest in
      ap (λ (x : List ℕ). followed_lines o taking before number (lines_of x)) (append_assoc (row_line row) (flat_map row_line rows) rest)
      ∙ followed_passed o taking (is_taking_after o.feed taking (joined ws)) before number (row_line row ++ more) more (row_line row) (joined ws)
      (ap lines_of (append_assoc (joined ws) (10 ∷ []) more) ∙ words_line_again ws more words)
      (line_passed o.format taking (row_line row) (joined ws) kept (unchosen o.format taking (joined ws) refl)) kept refl
      ∙ rows_passed rows before rest result are.1 goes (is_taking_after o.feed taking (joined ws)) (number + 1)

  -- the lines that follow a first line
  reply_goes : (r : Reply) (taking : Bool) (before more : List Message) (number : ℕ) (rest : List ℕ) → IsReply o.format r → AreTaken before (told_where taking r ++ more) → Goes (before ++ told_where taking r) rest (followed_through more)
      → followed_lines o taking before number (lines_of (following_lines r ++ rest)) ≡ followed_through (told_where taking r ++ more)
  unfolding following_lines IsReply
  reply_goes (reply.Messages ms) true before more number rest is taken goes = messages_taken ms more before number rest is.1 taken (goes true)
  reply_goes (reply.Messages ms) false before more number rest is taken goes = messages_passed ms before number rest (followed_through more) is.1 (subst (λ (b : List Message). Goes b rest (followed_through more)) (append-nil before) goes)
  reply_goes (reply.Rows rows) taking before more number rest is taken goes = rows_passed rows before rest (followed_through more) is.1 (subst (λ (b : List Message). Goes b rest (followed_through more)) (append-nil before) goes) taking number
  reply_goes (_) taking before more number rest is taken goes = subst (λ (b : List Message). Goes b rest (followed_through more)) (append-nil before) goes taking number

  -- the lines of an event
  pub event_goes : (n : ℕ) (e : Event) (before more : List Message) (rest : List ℕ) → o.feed ≡ Some n → IsEvent o.format e → KeepsLimit o.format e → AreTaken before (told_of n e ++ more)
      → Goes (before ++ told_of n e) rest (followed_through more) → Goes before (event_text e ++ rest) (followed_through (told_of n e ++ more))
  event_goes n e before more rest picks is short taken goes taking number =
      let text = heading_text e in
      let behind = following_lines e.reply ++ rest in
      let polls : is_feed n (polled_of e.cmd) ≡ is_taking_after o.feed taking text = sym (ap (is_feed n) (heading_polls o.format e is)) ∙ taking_turns o.feed n taking text picks (heading_begins e is.0) in
      let kept : text_at o.format (text ++ 10 ∷ []) ≡ Ok text = text_again o.format text short in
      ap (λ (x : List ℕ). followed_lines o taking before number (lines_of x)) (append_assoc text (10 ∷ following_lines e.reply) rest)
      ∙ followed_passed o taking (is_feed n (polled_of e.cmd)) before number (text ++ 10 ∷ behind) behind (text ++ 10 ∷ []) text (words_line_again (words_in e) behind (words_in_are o.format e is))
      (line_passed o.format taking (text ++ 10 ∷ []) text kept (unchosen o.format taking text (heading_begins e is.0))) kept polls
      ∙ reply_goes e.reply (is_feed n (polled_of e.cmd)) before more (number + 1) rest is.3 taken goes

  -- the header
  pub header_goes : (format : Format) (text : List ℕ) (result : Followed) → o.format ≡ format → Goes [] text result → Goes [] (header format ++ text) result
  header_goes One text result e goes taking number = goes taking number
  header_goes Two text result e goes taking number =
      let word = codes "mvfeed 2" in
      let kept : text_at o.format (word ++ 10 ∷ []) ≡ Ok word = ap (λ (f : Format). text_at f (word ++ 10 ∷ [])) e ∙ text_again Two word (omega arith) in
      followed_passed o taking (is_taking_after o.feed taking word) [] number (word ++ 10 ∷ text) text (word ++ 10 ∷ []) word (lines_again word text refl) (line_passed o.format taking (word ++ 10 ∷ []) word kept (unchosen o.format taking word refl)) kept refl
      ∙ goes (is_taking_after o.feed taking word) (number + 1)
