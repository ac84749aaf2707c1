-- What is read of a reply's words is written so.
use Rattle.script.proofs.Common.{AllByRecursion, Format, IsNumber, IsRefusal, IsReply, LineFault, Refusal, Reply, append-nil, bind_ok, bytes_eq-Decides, common_steps, following_lines, number_at, ok_is, pure, refusal_words, reply_words, some_ok, value_at, value_word, word_at, word_found}
use Rattle.std.proofs.Common.{arith, ◌≡◌, ℕ, Bool, true, false, cond, List, [], ◌∷◌, ◌++◌, Some, None, Result, Ok, Err, refl, sym, ap, subst, ◌∙◌}
use Rattle.std.specs.Prelude.{codes, decimal, bytes_eq, ok_or}
use Rattle.spans.specs.declared.calls.replies.Reply.TheVariants as reply
use Rattle.spans.specs.declared.calls.replies.Refusal.TheVariants as refusal
use Rattle.spelled_words.specs.declared.fault.LineFault.TheVariants as fault
use Rattle.script.specs.declared.reply_table.Kind.{Kind}
use Rattle.script.specs.declared.reply_table.Kind.TheVariants as kind
use Rattle.script.specs.declared.reply_table.Reason.{Reason}
use Rattle.script.specs.declared.reply_table.Reason.TheVariants as reason
use Rattle.script.specs.declared.reply_reading.Shape.{Shape}
use Rattle.script.specs.declared.reply_reading.Shape.TheVariants as shape
use Rattle.word_lines.specs.Reading.{◌>>=◌}
use Rattle.script.specs.ReplyReading.{replies, kind_of, told_as, to_the_end, of_number, of_two, refusal_at, stats_at, shape_at, named_at, reply_at}
use Rattle.word_lines.proofs.ReadWords.{number_word}

-- the words of a reply of which the lines that follow aren't read yet
unfoldable pub shape_words : Shape → List (List ℕ)
shape_words (shape.Alone r) = reply_words r
shape_words (shape.Rows n) = codes "rows" ∷ decimal n ∷ []
shape_words (shape.Messages n) = codes "messages" ∷ decimal n ∷ []

module _ (format : Format) where
  -- its numbers and its value are in range, and nothing follows where it is whole
  unfoldable pub IsShape : Shape → Type 0
  IsShape (shape.Alone r) = IsReply format r × (following_lines r ≡ [])
  IsShape (shape.Rows n) = IsNumber n
  IsShape (shape.Messages n) = IsNumber n

-- the name of a refusal
abbrev reason_name : Reason → List ℕ
reason_name reason.BelowClosed = codes "belowclosed"
reason_name reason.TsUsed = codes "tsused"
reason_name reason.TsRange = codes "tsrange"
reason_name reason.Blocked = codes "blocked"
reason_name reason.NoTxn = codes "notxn"
reason_name reason.NotOwner = codes "notowner"
reason_name reason.Ended = codes "ended"
reason_name reason.TooLate = codes "toolate"
reason_name reason.NotClosed = codes "notclosed"
reason_name reason.BelowHorizon = codes "belowhorizon"
reason_name reason.NoProtection = codes "noprotection"
reason_name reason.NoFeed = codes "nofeed"
reason_name reason.FeedCancelled = codes "feedcancelled"
reason_name reason.NoMemory = codes "nomemory"
reason_name reason.GapRange = codes "gaprange"

-- the name of a reply
abbrev kind_name : Kind → List ℕ
kind_name kind.Started = codes "started"
kind_name kind.Absent = codes "none"
kind_name kind.Value = codes "value"
kind_name kind.Rows = codes "rows"
kind_name kind.Written = codes "written"
kind_name kind.Committed = codes "committed"
kind_name kind.Aborted = codes "aborted"
kind_name kind.Closed = codes "closed"
kind_name kind.Messages = codes "messages"
kind_name kind.Protected = codes "protected"
kind_name kind.Released = codes "released"
kind_name kind.Collected = codes "collected"
kind_name kind.Opened = codes "opened"
kind_name kind.Cancelled = codes "cancelled"
kind_name kind.Stats = codes "stats"
kind_name (kind.Refused why) = reason_name why

-- behind this name these words begin with what was read, which is in range
record Says {A : Type 0} (words_of : A → List (List ℕ)) (Is : A → Type 0) (name : List ℕ) (words : List (List ℕ)) (x : A × List (List ℕ)) : Type 0 where
  text : name ∷ words ≡ words_of x.0 ++ x.1
  lawful : Is x.0

-- a reply that is its name alone
says_alone : {A : Type 0} (words_of : A → List (List ℕ)) (Is : A → Type 0) (name : List ℕ) (a : A) (words : List (List ℕ)) (x : A × List (List ℕ)) → words_of a ≡ name ∷ [] → Is a → pure {E = LineFault} (a, words) ≡ pure x → Says words_of Is name words x
says_alone words_of Is name a words x text lawful e = subst (λ y. Says words_of Is name words y) (ok_is (a, words) x e) (record { text = ap (λ v. v ++ words) (sym text); lawful = lawful })

-- a reply with a number
says_number : {A : Type 0} (words_of : A → List (List ℕ)) (Is : A → Type 0) (name : List ℕ) (make : ℕ → A) (words : List (List ℕ)) (x : A × List (List ℕ))
    → ((n : ℕ) → words_of (make n) ≡ name ∷ decimal n ∷ []) → ((n : ℕ) → IsNumber n → Is (make n)) → of_number make words ≡ Ok x → Says words_of Is name words x
says_number words_of Is name make words x text lawful e = grind (arith, common_steps, bind_ok, number_word, ok_is)

-- a reply with two numbers
says_two : {A : Type 0} (words_of : A → List (List ℕ)) (Is : A → Type 0) (name : List ℕ) (make : ℕ → ℕ → A) (words : List (List ℕ)) (x : A × List (List ℕ))
    → ((n m : ℕ) → words_of (make n m) ≡ name ∷ decimal n ∷ decimal m ∷ []) → ((n m : ℕ) → IsNumber n → IsNumber m → Is (make n m)) → of_two make words ≡ Ok x → Says words_of Is name words x
says_two words_of Is name make words x text lawful e = grind (arith, common_steps, bind_ok, number_word, ok_is)

refusal_found : (why : Reason) (ws : List (List ℕ)) (x : Refusal × List (List ℕ)) → refusal_at why ws ≡ Ok x → Says refusal_words IsRefusal (reason_name why) ws x
unfolding refusal_at
refusal_found reason.BelowClosed ws x e = says_number refusal_words IsRefusal (codes "belowclosed") refusal.BelowClosed ws x (λ n. refl) (λ n h. h) e
refusal_found reason.TsUsed ws x e = says_alone refusal_words IsRefusal (codes "tsused") refusal.TsUsed ws x refl tt e
refusal_found reason.TsRange ws x e = says_alone refusal_words IsRefusal (codes "tsrange") refusal.TsRange ws x refl tt e
refusal_found reason.Blocked ws x e = says_number refusal_words IsRefusal (codes "blocked") refusal.Blocked ws x (λ n. refl) (λ n h. h) e
refusal_found reason.NoTxn ws x e = says_alone refusal_words IsRefusal (codes "notxn") refusal.NoTxn ws x refl tt e
refusal_found reason.NotOwner ws x e = says_alone refusal_words IsRefusal (codes "notowner") refusal.NotOwner ws x refl tt e
refusal_found reason.Ended ws x e = says_alone refusal_words IsRefusal (codes "ended") refusal.Ended ws x refl tt e
refusal_found reason.TooLate ws x e = says_alone refusal_words IsRefusal (codes "toolate") refusal.TooLate ws x refl tt e
refusal_found reason.NotClosed ws x e = says_number refusal_words IsRefusal (codes "notclosed") refusal.NotClosed ws x (λ n. refl) (λ n h. h) e
refusal_found reason.BelowHorizon ws x e = says_number refusal_words IsRefusal (codes "belowhorizon") refusal.BelowHorizon ws x (λ n. refl) (λ n h. h) e
refusal_found reason.NoProtection ws x e = says_alone refusal_words IsRefusal (codes "noprotection") refusal.NoProtection ws x refl tt e
refusal_found reason.NoFeed ws x e = says_alone refusal_words IsRefusal (codes "nofeed") refusal.NoFeed ws x refl tt e
refusal_found reason.FeedCancelled ws x e = says_alone refusal_words IsRefusal (codes "feedcancelled") refusal.FeedCancelled ws x refl tt e
refusal_found reason.NoMemory ws x e = says_alone refusal_words IsRefusal (codes "nomemory") refusal.NoMemory ws x refl tt e
refusal_found reason.GapRange ws x e = says_alone refusal_words IsRefusal (codes "gaprange") refusal.GapRange ws x refl tt e

module _ (format : Format) where
  stats_found : (ws : List (List ℕ)) (x : Reply × List (List ℕ)) → stats_at ws ≡ Ok x → Says reply_words (λ r. IsReply format r × (following_lines r ≡ [])) (codes "stats") ws x
  unfolding stats_at reply_words IsReply following_lines
  stats_found ws x e =
      let a = bind_ok (number_at ws) (λ a. number_at a.1 >>= λ b. number_at b.1 >>= λ c. number_at c.1 >>= λ d. number_at d.1 >>= λ h. Ok (reply.Stats a.0 b.0 c.0 d.0 h.0, h.1)) x e in
      let b = bind_ok (number_at a.0.1) (λ b. number_at b.1 >>= λ c. number_at c.1 >>= λ d. number_at d.1 >>= λ h. Ok (reply.Stats a.0.0 b.0 c.0 d.0 h.0, h.1)) x a.2 in
      let c = bind_ok (number_at b.0.1) (λ c. number_at c.1 >>= λ d. number_at d.1 >>= λ h. Ok (reply.Stats a.0.0 b.0.0 c.0 d.0 h.0, h.1)) x b.2 in
      let d = bind_ok (number_at c.0.1) (λ d. number_at d.1 >>= λ h. Ok (reply.Stats a.0.0 b.0.0 c.0.0 d.0 h.0, h.1)) x c.2 in
      let h = bind_ok (number_at d.0.1) (λ h. Ok (reply.Stats a.0.0 b.0.0 c.0.0 d.0.0 h.0, h.1)) x d.2 in
      let p = number_word ws a.0 a.1 in
      let q = number_word a.0.1 b.0 b.1 in
      let r = number_word b.0.1 c.0 c.1 in
      let s = number_word c.0.1 d.0 d.1 in
      let t = number_word d.0.1 h.0 h.1 in
      subst (λ (y : Reply × List (List ℕ)). Says reply_words (λ r. IsReply format r × (following_lines r ≡ [])) (codes "stats") ws y) (ok_is (reply.Stats a.0.0 b.0.0 c.0.0 d.0.0 h.0.0, h.0.1) x h.2)
      (record {
        text = ap (λ (z : List (List ℕ)). codes "stats" ∷ z) (p.0 ∙ ap (λ (z : List (List ℕ)). decimal a.0.0 ∷ z) (q.0 ∙ ap (λ (z : List (List ℕ)). decimal b.0.0 ∷ z) (r.0 ∙ ap (λ (z : List (List ℕ)). decimal c.0.0 ∷ z) (s.0 ∙ ap (λ (z : List (List ℕ)). decimal d.0.0 ∷ z) t.0))));
        lawful = ((p.1, q.1, r.1, s.1, t.1), refl);
      })

  shape_found : (k : Kind) (ws : List (List ℕ)) (x : Shape × List (List ℕ)) → shape_at format k ws ≡ Ok x → Says shape_words (IsShape format) (kind_name k) ws x
  unfolding shape_at shape_words IsShape reply_words IsReply following_lines
  shape_found kind.Started ws x e = says_alone shape_words (IsShape format) (codes "started") (shape.Alone reply.Started) ws x refl (tt, refl) e
  shape_found kind.Absent ws x e = says_alone shape_words (IsShape format) (codes "none") (shape.Alone (reply.Found None)) ws x refl (tt, refl) e
  shape_found kind.Value ws x e =
      let v = bind_ok (value_at format ws) (λ v. Ok (shape.Alone (reply.Found (Some v.0)), v.1)) x e in
      let w = value_word format ws v.0 v.1 in
      subst (λ (y : Shape × List (List ℕ)). Says shape_words (IsShape format) (codes "value") ws y) (ok_is (shape.Alone (reply.Found (Some v.0.0)), v.0.1) x v.2) (record { text = ap (λ (z : List (List ℕ)). codes "value" ∷ z) w.0; lawful = (w.1, refl) })
  shape_found kind.Rows ws x e = says_number shape_words (IsShape format) (codes "rows") shape.Rows ws x (λ n. refl) (λ n h. h) e
  shape_found kind.Written ws x e = says_alone shape_words (IsShape format) (codes "written") (shape.Alone reply.Written) ws x refl (tt, refl) e
  shape_found kind.Committed ws x e = says_number shape_words (IsShape format) (codes "committed") (λ n. shape.Alone (reply.Committed n)) ws x (λ n. refl) (λ n h. (h, refl)) e
  shape_found kind.Aborted ws x e = says_alone shape_words (IsShape format) (codes "aborted") (shape.Alone reply.Aborted) ws x refl (tt, refl) e
  shape_found kind.Closed ws x e = says_two shape_words (IsShape format) (codes "closed") (λ n m. shape.Alone (reply.Closed n m)) ws x (λ n m. refl) (λ n m h i. ((h, i), refl)) e
  shape_found kind.Messages ws x e = says_number shape_words (IsShape format) (codes "messages") shape.Messages ws x (λ n. refl) (λ n h. h) e
  shape_found kind.Protected ws x e = says_number shape_words (IsShape format) (codes "protected") (λ n. shape.Alone (reply.Protected n)) ws x (λ n. refl) (λ n h. (h, refl)) e
  shape_found kind.Released ws x e = says_alone shape_words (IsShape format) (codes "released") (shape.Alone reply.Released) ws x refl (tt, refl) e
  shape_found kind.Collected ws x e = says_two shape_words (IsShape format) (codes "collected") (λ n m. shape.Alone (reply.Collected n m)) ws x (λ n m. refl) (λ n m h i. ((h, i), refl)) e
  shape_found kind.Opened ws x e = says_number shape_words (IsShape format) (codes "opened") (λ n. shape.Alone (reply.Opened n)) ws x (λ n. refl) (λ n h. (h, refl)) e
  shape_found kind.Cancelled ws x e = says_alone shape_words (IsShape format) (codes "cancelled") (shape.Alone reply.Cancelled) ws x refl (tt, refl) e
  shape_found kind.Stats ws x e =
      let r = bind_ok (stats_at ws) (λ r. Ok (shape.Alone r.0, r.1)) x e in
      let says = stats_found ws r.0 r.1 in
      subst (λ (y : Shape × List (List ℕ)). Says shape_words (IsShape format) (codes "stats") ws y) (ok_is (shape.Alone r.0.0, r.0.1) x r.2) (record { text = says.text; lawful = says.lawful })
  shape_found (kind.Refused why) ws x e =
      let r = bind_ok (refusal_at why ws) (λ r. Ok (shape.Alone (reply.Refused r.0), r.1)) x e in
      let says = refusal_found why ws r.0 r.1 in
      subst (λ (y : Shape × List (List ℕ)). Says shape_words (IsShape format) (reason_name why) ws y) (ok_is (shape.Alone (reply.Refused r.0.0), r.0.1) x r.2) (record { text = says.text; lawful = (says.lawful, refl) })

-- a row that says what its kind is
abbrev Names : List ℕ × Kind → Type 0
Names r = r.0 ≡ kind_name r.1

-- each row of the table has the name of its kind
replies_right : AllByRecursion Names replies
replies_right = (refl, (refl, (refl, (refl, (refl, (refl, (refl, (refl, (refl, (refl, (refl, (refl, (refl, (refl, (refl, (refl, (refl, (refl, (refl, (refl, (refl, (refl, (refl, (refl, (refl, (refl, (refl, (refl, (refl, (refl, tt))))))))))))))))))))))))))))))

kind_by : (same : Bool) (row : List ℕ × Kind) (rows : List (List ℕ × Kind)) (name : List ℕ) (k : Kind) → bytes_eq row.0 name ≡ same → Names row → (kind_of rows name ≡ Some k → name ≡ kind_name k) → cond same (Some row.1) (kind_of rows name) ≡ Some k → name ≡ kind_name k
kind_by true row rows name k is right ih e = let same : row.1 ≡ k = cc in sym ((bytes_eq-Decides row.0 name).0 is) ∙ right ∙ ap kind_name same
kind_by false row rows name k is right ih e = ih e

-- the kind of a name has this name
kind_found : (rows : List (List ℕ × Kind)) (name : List ℕ) (k : Kind) → AllByRecursion Names rows → kind_of rows name ≡ Some k → name ≡ kind_name k
kind_found [] name k right e = absurd cc
kind_found (row ∷ rows) name k right e = kind_by (bytes_eq row.0 name) row rows name k refl right.0 (kind_found rows name k right.1) e

-- no word was left
pub ended : {A : Type 0} (read : Result (A × List (List ℕ)) LineFault) (x : A) → to_the_end read ≡ Ok x → read ≡ Ok (x, [])
ended read x e = grind (arith, common_steps)

-- what was read was no fault
pub told : {A : Type 0} (f : LineFault) (read : Result A LineFault) (x : A) → told_as f read ≡ Ok x → read ≡ Ok x
told f (Ok y) x e = e
told f (Err d) x e = absurd cc

module _ (format : Format) where
  -- a name, and what stands behind it
  named_found : (ws : List (List ℕ)) (s : Shape) → named_at format ws ≡ Ok s → (ws ≡ shape_words s) × IsShape format s
  unfolding named_at
  named_found ws s e =
      let w = bind_ok (word_at ws) (λ w. ok_or (kind_of replies w.0) fault.Reply >>= λ k. to_the_end (shape_at format k w.1)) s e in
      let k = bind_ok (ok_or (kind_of replies w.0.0) fault.Reply) (λ k. to_the_end (shape_at format k w.0.1)) s w.2 in
      let name = kind_found replies w.0.0 k.0 replies_right (some_ok (kind_of replies w.0.0) fault.Reply k.0 k.1) in
      let says = shape_found format k.0 w.0.1 (s, []) (ended (shape_at format k.0 w.0.1) s k.2) in
      (word_found ws w.0 w.1 ∙ ap (λ (v : List ℕ). v ∷ w.0.1) name ∙ says.text ∙ append-nil (shape_words s), says.lawful)

  -- all words of a reply
  pub reply_found : (ws : List (List ℕ)) (s : Shape) → reply_at format ws ≡ Ok s → (ws ≡ shape_words s) × IsShape format s
  reply_found ws s e = named_found ws s (told fault.Reply (named_at format ws) s e)
