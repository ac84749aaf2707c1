-- What is read as an event is written so.
use Rattle.script.proofs.Common.{All, All-from_recursion, AllByRecursion, Begins, Cmd, Event, Follow, Format, IsCommand, IsEvent, IsMessage, IsNumber, IsPair, IsReply, LineFault, Message, Reply, WordCount, arguments_at, arguments_found, arity_of, bind_ok, bytes_eq-Decides, cases_lt, common_steps, concat, drop_at, drop_more, eqb-true, event_text, flat_map, following_lines, get_or_past, guarded, header, header_lines, joined, key_at, key_word, message_line, name_of, nil_from_length, number_at, ok_is, refused, reply_words, row_at, row_line, row_word, session_at, session_word, some_ok, spelling, table, text_at, text_found, value_at, value_word, word_at, word_found, words_at, words_found, words_of}
use Rattle.std.proofs.Common.{Vec, Global, ◌≡◌, ℕ, zero, suc, ◌+◌, ◌<◌, ◌≤◌, Bool, true, false, cond, List, [], ◌∷◌, ◌++◌, length, get_or, take, drop, Result, Ok, Err, refl, sym, ap, subst, ◌∙◌, inl, inr, append_assoc, add-one, arith}
use Rattle.std.specs.Prelude.{codes, decimal, bytes_eq, ok_or, nat_lt, ◌==◌, IfOk}
use Rattle.spans.specs.declared.calls.replies.Reply.TheVariants as reply
use Rattle.script.specs.declared.headings.Heading.{Heading}
use Rattle.script.specs.declared.reply_reading.Shape.{Shape}
use Rattle.script.specs.declared.reply_reading.Shape.TheVariants as shape
use Rattle.script.specs.EventLines.{Place, lines_of, message_of, behind_arrow, heading_of, heading_at, pair_at, pair_of, row_line_at, message_line_at}
use Rattle.word_lines.specs.Reading.{◌>>=◌}
use Rattle.script.specs.ReplyReading.{told_as, to_the_end, reply_at}
use Rattle.script.specs.Transcripts.{next_at, many_at, following_at, event_at, events_at, body_at, transcript_at, events_text, transcript_text, Tells}
use Rattle.script.specs.declared.fault.TranscriptError.{TranscriptError}
use Rattle.word_lines.proofs.ReadWords.{number_word}
use Rattle.script.proofs.ReadReplies.{shape_words, IsShape, reply_found, ended, told}
use Rattle.script.proofs.MessageLines.{message_found}
use Rattle.script.proofs.TakeLines.{next_found, event_fewer}
use Rattle.script.proofs.CutLines.{lines_whole}
use Rattle.script.proofs.Headers.{behind_header, header_is, no_header}

-- ---- the first line

-- the word behind the arguments is `=>`
behind_found : (n : ℕ) (words answer : List (List ℕ)) → behind_arrow n words ≡ Ok answer → drop n words ≡ codes "=>" ∷ answer
unfolding behind_arrow
behind_found n words answer e =
    let g = guarded (bytes_eq (get_or words n []) (codes "=>")) WordCount (drop (n + 1) words) answer e in
    let is : get_or words n [] ≡ codes "=>" = (bytes_eq-Decides (get_or words n []) (codes "=>")).0 g.0 in
    elim (cases_lt n (length words)) [
      | inl lt ↦ drop_more words n [] lt ∙ ap (λ (w : List ℕ). w ∷ drop (n + 1) words) is ∙ ap (λ (v : List (List ℕ)). codes "=>" ∷ v) g.1
      | inr le ↦ (let none : [] ≡ codes "=>" = sym (get_or_past words n [] le) ∙ is in absurd cc)
    ]

-- the words that a first line has
abbrev heading_words : Heading → List (List ℕ)
heading_words h = decimal h.position ∷ decimal h.seat ∷ (words_of h.cmd ++ codes "=>" ∷ shape_words h.shape)

module _ (format : Format) where
  abbrev IsHeading : Heading → Type 0
  IsHeading h = IsNumber h.position × (h.seat < 64) × IsCommand format h.cmd × IsShape format h.shape

  -- what stands behind the arguments
  behind_arguments : (name : List ℕ) (arity : ℕ) (ws : List (List ℕ)) (x : Cmd × List (List ℕ)) → Begins format name arity ws x → drop arity ws ≡ x.1
  behind_arguments name arity ws x begins =
      let one : drop (arity + 1) (name ∷ ws) ≡ drop arity ws = rw add-one refl in
      sym one ∙ ap (drop (arity + 1)) begins.text ∙ drop_at (words_of x.0) x.1 (arity + 1) begins.count

abbrev heading : ℕ → ℕ → Cmd → Shape → Heading
heading position seat c s = record { position = position; seat = seat; cmd = c; shape = s }

module _ (format : Format) where
  -- the words that were taken one after the other are those of the whole
  in_a_row : (ws rest others args answer after : List (List ℕ)) (position seat arity : ℕ) (name : List ℕ) (c : Cmd) (s : Shape) → ws ≡ decimal position ∷ rest → rest ≡ decimal seat ∷ others → others ≡ name ∷ args
      → Begins format name arity args (c, after) → drop arity args ≡ codes "=>" ∷ answer → answer ≡ shape_words s → ws ≡ heading_words (heading position seat c s)
  in_a_row ws rest others args answer after position seat arity name c s a b d begins arrow e =
      let behind : after ≡ codes "=>" ∷ shape_words s = sym (behind_arguments format name arity args (c, after) begins) ∙ arrow ∙ ap (λ (v : List (List ℕ)). codes "=>" ∷ v) e in
      let command : name ∷ args ≡ words_of c ++ codes "=>" ∷ shape_words s = begins.text ∙ ap (λ (v : List (List ℕ)). words_of c ++ v) behind in
      a ∙ ap (λ (v : List (List ℕ)). decimal position ∷ v) (b ∙ ap (λ (v : List (List ℕ)). decimal seat ∷ v) (d ∙ command))

  abbrev Heads : List (List ℕ) → Heading → Type 0
  Heads ws h = (ws ≡ heading_words h) × IsHeading format h

  -- from the row on
  from_row : (ws rest : List (List ℕ)) (position seat : ℕ) (others : List (List ℕ)) (x : Heading) → ws ≡ decimal position ∷ rest → IsNumber position → rest ≡ decimal seat ∷ others → seat < 64
      → (row_at table others >>= λ r. behind_arrow r.0.arguments r.1 >>= λ answer. arguments_at format r.0.verb r.1 >>= λ c. reply_at format answer >>= λ y. Ok (heading position seat c.0 y)) ≡ Ok x → Heads ws x
  from_row ws rest position seat others x a is b seated e =
      let r = bind_ok (row_at table others) (λ r. behind_arrow r.0.arguments r.1 >>= λ answer. arguments_at format r.0.verb r.1 >>= λ c. reply_at format answer >>= λ y. Ok (heading position seat c.0 y)) x e in
      let k = bind_ok (behind_arrow r.0.0.arguments r.0.1) (λ answer. arguments_at format r.0.0.verb r.0.1 >>= λ c. reply_at format answer >>= λ y. Ok (heading position seat c.0 y)) x r.2 in
      let c = bind_ok (arguments_at format r.0.0.verb r.0.1) (λ c. reply_at format k.0 >>= λ y. Ok (heading position seat c.0 y)) x k.2 in
      let y = bind_ok (reply_at format k.0) (λ y. Ok (heading position seat c.0.0 y)) x c.2 in
      let row = row_word others r.0 r.1 in
      let begins = arguments_found format r.0.0.verb r.0.1 c.0 c.1 in
      let answer = reply_found format k.0 y.0 y.1 in
      let arrow : drop (arity_of r.0.0.verb) r.0.1 ≡ codes "=>" ∷ k.0 = subst (λ (n : ℕ). drop n r.0.1 ≡ codes "=>" ∷ k.0) row.1 (behind_found r.0.0.arguments r.0.1 k.0 k.1) in
      let words : ws ≡ heading_words (heading position seat c.0.0 y.0) = in_a_row ws rest others r.0.1 k.0 c.0.1 position seat (arity_of r.0.0.verb) (name_of r.0.0.verb) c.0.0 y.0 a b row.0 begins arrow answer.0 in
      subst (λ (h : Heading). Heads ws h) (ok_is (heading position seat c.0.0 y.0) x y.2) (words, (is, seated, begins.lawful, answer.1))

  -- the words of a first line
  heading_words_found : (ws : List (List ℕ)) (x : Heading) → heading_of format ws ≡ Ok x → Heads ws x
  unfolding heading_of
  heading_words_found ws x e =
      let p = bind_ok (number_at ws) (λ p. session_at 64 p.1 >>= λ s. row_at table s.1 >>= λ r. behind_arrow r.0.arguments r.1 >>= λ answer. arguments_at format r.0.verb r.1 >>= λ c. reply_at format answer >>= λ y. Ok (heading p.0 s.0 c.0 y)) x e in
      let s = bind_ok (session_at 64 p.0.1) (λ s. row_at table s.1 >>= λ r. behind_arrow r.0.arguments r.1 >>= λ answer. arguments_at format r.0.verb r.1 >>= λ c. reply_at format answer >>= λ y. Ok (heading p.0.0 s.0 c.0 y)) x p.2 in
      let position = number_word ws p.0 p.1 in
      let session = session_word 64 p.0.1 s.0 s.1 in
      from_row ws p.0.1 p.0.0 s.0.0 s.0.1 x position.0 position.1 session.0 session.1 s.2

  -- a first line
  heading_found : (line : List ℕ) (x : Heading) → heading_at format line ≡ Ok x → (line ≡ joined (heading_words x) ++ 10 ∷ []) × IsHeading format x
  unfolding heading_at
  heading_found line x e =
      let t = bind_ok (text_at format line) (λ text. words_at text >>= λ ws. cond (nat_lt (length ws) 3) (Err WordCount) (heading_of format ws)) x e in
      let w = bind_ok (words_at t.0) (λ ws. cond (nat_lt (length ws) 3) (Err WordCount) (heading_of format ws)) x t.2 in
      let g = refused (nat_lt (length w.0) 3) WordCount (heading_of format w.0) x w.2 in
      let heads = heading_words_found w.0 x g.1 in
      (text_found format line t.0 t.1 ∙ ap (λ (v : List ℕ). v ++ 10 ∷ []) (words_found t.0 w.0 w.1 ∙ ap joined heads.0), heads.1)

-- ---- the lines that follow

-- a test that held
held : {B : Type 0} (b : Bool) (d : LineFault) (r : Result B LineFault) (y : B) → cond b r (Err d) ≡ Ok y → (b ≡ true) × (r ≡ Ok y)
held true d r y e = (refl, e)
held false d r y e = absurd cc

module _ (format : Format) where
  -- the words of a row
  pair_words : (ws : List (List ℕ)) (x : (List ℕ × List ℕ) × List (List ℕ)) → pair_at format ws ≡ Ok x → (ws ≡ codes "row" ∷ spelling x.0.0 ∷ spelling x.0.1 ∷ x.1) × IsPair format x.0
  unfolding pair_at
  pair_words ws x e =
      let n = bind_ok (word_at ws) (λ n. cond (bytes_eq n.0 (codes "row")) (key_at format n.1 >>= λ k. value_at format k.1 >>= λ v. Ok ((k.0, v.0), v.1)) (Err Follow)) x e in
      let g = held (bytes_eq n.0.0 (codes "row")) Follow (key_at format n.0.1 >>= λ k. value_at format k.1 >>= λ v. Ok ((k.0, v.0), v.1)) x n.2 in
      let k = bind_ok (key_at format n.0.1) (λ k. value_at format k.1 >>= λ v. Ok ((k.0, v.0), v.1)) x g.1 in
      let v = bind_ok (value_at format k.0.1) (λ v. Ok ((k.0.0, v.0), v.1)) x k.2 in
      let a = key_word format n.0.1 k.0 k.1 in
      let b = value_word format k.0.1 v.0 v.1 in
      subst (λ (y : (List ℕ × List ℕ) × List (List ℕ)). (ws ≡ codes "row" ∷ spelling y.0.0 ∷ spelling y.0.1 ∷ y.1) × IsPair format y.0) (ok_is ((k.0.0, v.0.0), v.0.1) x v.2)
      (word_found ws n.0 n.1 ∙ ap (λ (w : List ℕ). w ∷ n.0.1) ((bytes_eq-Decides n.0.0 (codes "row")).0 g.0) ∙ ap (λ (z : List (List ℕ)). codes "row" ∷ z) (a.0 ∙ ap (λ (z : List (List ℕ)). spelling k.0.0 ∷ z) b.0), (a.1, b.1))

  -- the line of a row
  row_line_found : (line : List ℕ) (x : List ℕ × List ℕ) → row_line_at format line ≡ Ok x → (line ≡ row_line x) × IsPair format x
  unfolding row_line_at pair_of
  row_line_found line x e =
      let t = bind_ok (text_at format line) (λ text. told_as Follow (pair_of format text)) x e in
      let w = bind_ok (words_at t.0) (λ ws. to_the_end (pair_at format ws)) x (told Follow (pair_of format t.0) x t.2) in
      let p = pair_words w.0 (x, []) (ended (pair_at format w.0) x w.2) in
      (text_found format line t.0 t.1 ∙ ap (λ (v : List ℕ). v ++ 10 ∷ []) (words_found t.0 w.0 w.1 ∙ ap joined p.0), p.1)

  -- the line of a message
  message_line_found : (line : List ℕ) (m : Message) → message_line_at format line ≡ Ok m → (line ≡ message_line m) × IsMessage format m
  unfolding message_line_at
  message_line_found line m e =
      let t = bind_ok (text_at format line) (λ text. ok_or (message_of format line) Follow) m e in
      message_found format line m (some_ok (message_of format line) Follow m t.2)

-- lines of one kind, one after the other
many_found : {A : Type 0} (read : List ℕ → Result A LineFault) (show : A → List ℕ) (Is : A → Type 0) → ((line : List ℕ) (x : A) → read line ≡ Ok x → (line ≡ show x) × Is x)
    → (n : ℕ) (p : Place) (x : List A × Place) → many_at read n p ≡ Ok x → (concat p.lines ≡ flat_map show x.0 ++ concat x.1.lines) × (length x.0 ≡ n) × AllByRecursion Is x.0
unfolding many_at
many_found read show Is each zero p x e = subst (λ y. (concat p.lines ≡ flat_map show y.0 ++ concat y.1.lines) × (length y.0 ≡ 0) × AllByRecursion Is y.0) (ok_is ([], p) x e) (refl, refl, tt)
many_found read show Is each (suc n) p x e =
    let a = bind_ok (next_at read p) (λ first. many_at read n first.1 >>= λ others. Ok (first.0 ∷ others.0, others.1)) x e in
    let b = bind_ok (many_at read n a.0.1) (λ others. Ok (a.0.0 ∷ others.0, others.1)) x a.2 in
    let line = next_found read p a.0 a.1 in
    let first = each line.0 a.0.0 line.2 in
    let others = many_found read show Is each n a.0.1 b.0 b.1 in
    subst (λ y. (concat p.lines ≡ flat_map show y.0 ++ concat y.1.lines) × (length y.0 ≡ suc n) × AllByRecursion Is y.0) (ok_is (a.0.0 ∷ b.0.0, b.0.1) x b.2)
    (ap concat line.1 ∙ ap (λ (z : List ℕ). z ++ concat a.0.1.lines) first.0 ∙ ap (λ (z : List ℕ). show a.0.0 ++ z) others.0 ∙ sym (append_assoc (show a.0.0) (flat_map show b.0.0) (concat b.0.1.lines)), ap suc others.1, (first.1, others.2))

module _ (format : Format) where
  -- a reply, from what its words say and the lines that follow
  record Follows (s : Shape) (p : Place) (x : Reply × Place) : Type 0 where
    lines : concat p.lines ≡ following_lines x.0 ++ concat x.1.lines
    words : shape_words s ≡ reply_words x.0
    lawful : IsReply format x.0

  -- the lines that follow a reply
  following_found : (s : Shape) (p : Place) (x : Reply × Place) → IsShape format s → following_at format s p ≡ Ok x → Follows s p x
  unfolding following_at shape_words IsShape reply_words following_lines IsReply
  following_found (shape.Alone r) p x is e = subst (λ (y : Reply × Place). Follows (shape.Alone r) p y) (ok_is (r, p) x e) (record { lines = sym (ap (λ (z : List ℕ). z ++ concat p.lines) is.1); words = refl; lawful = is.0 })
  following_found (shape.Rows n) p x is e =
      let rows = bind_ok (many_at (row_line_at format) n p) (λ rows. Ok (reply.Rows rows.0, rows.1)) x e in
      let f = many_found (row_line_at format) row_line (IsPair format) (row_line_found format) n p rows.0 rows.1 in
      subst (λ (y : Reply × Place). Follows (shape.Rows n) p y) (ok_is (reply.Rows rows.0.0, rows.0.1) x rows.2)
      (record { lines = f.0; words = ap (λ (k : ℕ). codes "rows" ∷ decimal k ∷ []) (sym f.1); lawful = (subst IsNumber (sym f.1) is, f.2) })
  following_found (shape.Messages n) p x is e =
      let messages = bind_ok (many_at (message_line_at format) n p) (λ messages. Ok (reply.Messages messages.0, messages.1)) x e in
      let f = many_found (message_line_at format) message_line (IsMessage format) (message_line_found format) n p messages.0 messages.1 in
      subst (λ (y : Reply × Place). Follows (shape.Messages n) p y) (ok_is (reply.Messages messages.0.0, messages.0.1) x messages.2)
      (record { lines = f.0; words = ap (λ (k : ℕ). codes "messages" ∷ decimal k ∷ []) (sym f.1); lawful = (subst IsNumber (sym f.1) is, f.2) })

-- ---- events

module _ (format : Format) where
  -- the lines of an event
  event_found : (p : Place) (x : Event × Place) → event_at format p ≡ Ok x → (concat p.lines ≡ event_text x.0 ++ concat x.1.lines) × IsEvent format x.0
  unfolding event_at
  event_found p x e =
      let made : Heading → Reply → Event = λ h r. record { position = h.position; seat = h.seat; cmd = h.cmd; reply = r } in
      let h = bind_ok (next_at (heading_at format) p) (λ h. following_at format h.0.shape h.1 >>= λ r. Ok (made h.0 r.0, r.1)) x e in
      let r = bind_ok (following_at format h.0.0.shape h.0.1) (λ r. Ok (made h.0.0 r.0, r.1)) x h.2 in
      let line = next_found (heading_at format) p h.0 h.1 in
      let first = heading_found format line.0 h.0.0 line.2 in
      let follows = following_found format h.0.0.shape h.0.1 r.0 first.1.3 r.1 in
      let text = joined (decimal h.0.0.position ∷ decimal h.0.0.seat ∷ (words_of h.0.0.cmd ++ codes "=>" ∷ reply_words r.0.0)) in
      let same : line.0 ≡ text ++ 10 ∷ [] = first.0 ∙ ap (λ (z : List (List ℕ)). joined (decimal h.0.0.position ∷ decimal h.0.0.seat ∷ (words_of h.0.0.cmd ++ codes "=>" ∷ z)) ++ 10 ∷ []) follows.words in
      let whole : concat p.lines ≡ event_text (made h.0.0 r.0.0) ++ concat r.0.1.lines =
      ap concat line.1 ∙ ap (λ (z : List ℕ). z ++ concat h.0.1.lines) same ∙ append_assoc text (10 ∷ []) (concat h.0.1.lines) ∙ ap (λ (z : List ℕ). text ++ 10 ∷ z) follows.lines ∙ sym (append_assoc text (10 ∷ following_lines r.0.0) (concat r.0.1.lines)) in
      subst (λ (y : Event × Place). (concat p.lines ≡ event_text y.0 ++ concat y.1.lines) × IsEvent format y.0) (ok_is (made h.0.0 r.0.0, r.0.1) x r.2) (whole, (first.1.0, first.1.1, first.1.2, follows.lawful))

  -- the events of a place are the text of its lines
  abbrev AreEvents : Place → List Event → Type 0
  AreEvents p es = (concat p.lines ≡ events_text es) × AllByRecursion (IsEvent format) es

  -- no line is no event
  none_left : (p : Place) (es : List Event) → length p.lines ≡ 0 → [] ≡ es → AreEvents p es
  none_left p es none e = subst (λ (v : List Event). AreEvents p v) e (ap concat (nil_from_length p.lines none), tt)

  events_by : (b : Bool) (n : ℕ) (p : Place) (es : List Event) → (length p.lines == 0) ≡ b → ((q : Place) (others : List Event) → length q.lines ≤ n → events_at format n q ≡ Ok others → AreEvents q others) → length p.lines ≤ suc n
      → cond b (Ok []) (event_at format p >>= λ first. events_at format n first.1 >>= λ others. Ok (first.0 ∷ others)) ≡ Ok es → AreEvents p es
  events_by true n p es none ih enough e = none_left p es (eqb-true _ _ none) (ok_is [] es e)
  events_by false n p es some ih enough e =
      let first = bind_ok (event_at format p) (λ first. events_at format n first.1 >>= λ others. Ok (first.0 ∷ others)) es e in
      let others = bind_ok (events_at format n first.0.1) (λ others. Ok (first.0.0 ∷ others)) es first.2 in
      let one = event_found p first.0 first.1 in
      let rest = ih first.0.1 others.0 (omega (arith, event_fewer format p first.0 first.1)) others.1 in
      subst (λ (v : List Event). AreEvents p v) (ok_is (first.0.0 ∷ others.0) es others.2) (one.0 ∙ ap (λ (z : List ℕ). event_text first.0.0 ++ z) rest.0, (one.1, rest.1))

  events_found : (n : ℕ) (p : Place) (es : List Event) → length p.lines ≤ n → events_at format n p ≡ Ok es → AreEvents p es
  unfolding events_at
  events_found zero p es enough e = none_left p es (omega arith) (ok_is [] es e)
  events_found (suc n) p es enough e = events_by (length p.lines == 0) n p es refl (events_found n) enough e

  -- all lines of a text
  pub body_found : (body : List ℕ) (es : List Event) → body_at format body ≡ Ok es → (body ≡ events_text es) × All (IsEvent format) es
  unfolding body_at
  body_found body es e =
      let f = events_found (length (lines_of body)) (record { number = 1 + header_lines format; lines = lines_of body }) es (omega arith) e in
      (sym (lines_whole body) ∙ f.0, All-from_recursion (IsEvent format) es f.1)

  transcript_found : (b : Bool) (text : List ℕ) (es : List Event) → bytes_eq (take (length (header format)) text) (header format) ≡ b → transcript_at format text ≡ Ok es → (text ≡ transcript_text format es) × All (IsEvent format) es
  transcript_found true text es begins e =
      let f = body_found (drop (length (header format)) text) es (sym (behind_header format text begins) ∙ e) in
      (header_is format text begins ∙ ap (λ (body : List ℕ). header format ++ body) f.0, f.1)
  transcript_found false text es begins e = absurd (let clash : Err (record { line = 1; fault = WordCount }) ≡ Ok es = sym (no_header format text begins) ∙ e in cc)

  -- what is read of a text is its events, where nothing is said of being out of memory
  pub told_found : (text : List ℕ) (r : Result (Vec Event Global) TranscriptError) → Tells (λ events. events.items) r (transcript_at format text)
      → IfOk r (λ events. (text ≡ transcript_text format events.items) × All (IsEvent format) events.items)
  told_found text (Ok events) tells = transcript_found (bytes_eq (take (length (header format)) text) (header format)) text events.items refl tells
  told_found text (Err e) tells = tt
