-- A follower of a feed takes what the history told the feed.
use Rattle.std.proofs.Common.{◌≡◌, ℕ, ◌==◌, Bool, true, false, List, [], ◌∷◌, ◌++◌, reverse, Option, Some, None, refl, sym, ap, subst, ◌∙◌}
use Rattle.std.specs.Prelude.{is_none}
use Rattle.pipes.proofs.Common.{All-append, All-from_recursion, AllByRecursion, AllTaken, Cmd, ConsumerIsRight, Effect, Event, Feed, FollowOptions, Format, IsEvent, IsLegal, IsMessage, IsReply, IsStartOf, KeepsLimit, Message, Messages, Poll, Refused, Reply, Span, Start, TooLate, append-nil, by_test, effect, effects_of, events_text, feed_of, flat_map, followed_at, followed_lines, followed_through, is_feed, lawful, lines_of, recursion_from_All, reverse-append, reverse-reverse, taken_after, told_to, transcript_text}
use Rattle.std.proofs.lemmas.Grind.{flat_map-append}
use Rattle.follow.specs.Following.{start_of as options_start}
use Rattle.pipes.specs.Followers.{Follows, IsFollowing, TakesAll, told_in, told_lines}
use Rattle.pipes.specs.Texts.{IsWritable}
use Rattle.pipes.proofs.TakenLines.{AreTaken, Goes, event_goes, header_goes, messages_taken, nothing_goes, polled_of, told_of, told_where}
use Rattle.pipes.proofs.Texts.{events_are, lines_keep}

-- ---- what events told a feed

module _ (n : ℕ) where
  -- one effect tells the feed what its reply has, where its command polls the feed
  tells_more : (seat : ℕ) (c : Cmd) (r : Reply) (p : List Effect) → told_to (effect seat c r ∷ p) n ≡ told_to p n ++ told_where (is_feed n (polled_of c)) r
  tells_more seat (Poll f max) (Messages ms) p = by_test (f == n) (λ is. rw is refl) (λ isnt. rw isnt (sym (append-nil (told_to p n))))
  tells_more seat c (Refused TooLate) p = sym (append-nil (told_to p n))
  tells_more seat c r p = sym (append-nil (told_to p n))

  -- what the events of a list told, one after the other
  abbrev told_by : List Event → List Message
  told_by es = flat_map (told_of n) es

  told_so : (h : List Event) → told_to (effects_of h) n ≡ told_by (reverse h)
  told_so [] = refl
  told_so (e ∷ h) =
      let last : told_by (reverse (e ∷ h)) ≡ told_by (reverse h) ++ told_of n e =
      ap told_by (reverse-append (e ∷ []) h) ∙ flat_map-append (told_of n) (reverse h) (e ∷ []) ∙ ap (λ (ms : List Message). told_by (reverse h) ++ ms) (append-nil (told_of n e)) in
      tells_more e.seat e.cmd e.reply (effects_of h) ∙ ap (λ (ms : List Message). ms ++ told_of n e) (told_so h) ∙ sym last

  told_is : (es : List Event) → told_in es n ≡ told_by es
  told_is es = told_so (reverse es) ∙ ap told_by (reverse-reverse es)

-- ---- each of these messages has a line

both_are : {A : Type 0} (P : A → Type 0) (xs ys : List A) → AllByRecursion P xs → AllByRecursion P ys → AllByRecursion P (xs ++ ys)
both_are P xs ys all more = recursion_from_All P (xs ++ ys) (All-append P xs ys (All-from_recursion P xs all) (All-from_recursion P ys more))

module _ (format : Format) where
  reply_told : (taking : Bool) (r : Reply) → IsReply format r → AllByRecursion (IsMessage format) (told_where taking r)
  unfolding IsReply
  reply_told true (Messages ms) is = is.1
  reply_told false (Messages ms) is = tt
  reply_told taking (_) is = tt

  told_are : (n : ℕ) (es : List Event) → AllByRecursion (IsEvent format) es → AllByRecursion (IsMessage format) (told_by n es)
  told_are n [] are = tt
  told_are n (e ∷ es) are = both_are (IsMessage format) (told_of n e) (told_by n es) (reply_told (is_feed n (polled_of e.cmd)) e.reply are.0.3) (told_are n es are.1)

  pub told_lawful : (first n : ℕ) (es : List Event) → IsWritable format first es → AllByRecursion (IsMessage format) (told_in es n)
  told_lawful first n es w = subst (AllByRecursion (IsMessage format)) (sym (told_is n es)) (told_are n es (recursion_from_All (IsEvent format) es (events_are format first es w)))

-- ---- the whole text

module _ (o : FollowOptions) where
  events_go : (n : ℕ) (es : List Event) (before : List Message) → o.feed ≡ Some n → AllByRecursion (IsEvent o.format) es → AllByRecursion (KeepsLimit o.format) es → AreTaken o before (told_by n es) → Goes o before (events_text es) (followed_through (told_by n es))
  events_go n [] before picks are short taken = nothing_goes o before
  events_go n (e ∷ es) before picks are short taken =
      event_goes o n e before (told_by n es) (events_text es) picks are.0 short.0 taken
      (events_go n es (before ++ told_of n e) picks are.1 short.1 (taken_after o.span (options_start o.span o.start).start before (told_of n e) (told_by n es) taken))

  text_goes : (n : ℕ) (es : List Event) → o.feed ≡ Some n → AllByRecursion (IsEvent o.format) es → AllByRecursion (KeepsLimit o.format) es → AreTaken o [] (told_in es n) → Goes o [] (transcript_text o.format es) (followed_through (told_in es n))
  text_goes n es picks are short taken =
      header_goes o o.format (events_text es) (followed_through (told_in es n)) refl
      (subst (λ (ms : List Message). Goes o [] (events_text es) (followed_through ms)) (sym (told_is n es)) (events_go n es [] picks are short (subst (AreTaken o []) (told_is n es) taken)))

-- ---- what the follower of a feed takes

-- who begins as its consumer is to begin refuses none of the feed's messages
pub none_refused : (es : List Event) (n : ℕ) (feed : Feed) (s : Start) → IsLegal (reverse es) → feed_of (effects_of (reverse es)) n ≡ Some feed → IsStartOf (effects_of (reverse es)) feed s → AllTaken feed.span s.start [] (told_in es n)
none_refused es n feed s legal opened starts =
    let right : ConsumerIsRight (effects_of (reverse es)) n feed = (lawful (reverse es) legal).consumers n feed opened in
    subst (λ (k : ℕ). AllTaken feed.span k [] (told_in es n)) (sym starts.start) right.takes

all_taken : (es : List Event) (o : FollowOptions) (n : ℕ) (feed : Feed) → IsLegal (reverse es) → Follows (effects_of (reverse es)) n feed o → AreTaken o [] (told_in es n)
all_taken es o n feed legal follows =
    let s : Start = options_start o.span o.start in
    subst (λ (i : Span). AllTaken i s.start [] (told_in es n)) (sym follows.span) (none_refused es n feed s legal follows.opened follows.starts)

module _ (es : List Event) (o : FollowOptions) (n : ℕ) where
  events_in : IsFollowing es o n → AllByRecursion (IsEvent o.format) es
  events_in w = recursion_from_All (IsEvent o.format) es (events_are o.format w.first es w.writable)

  -- from the text of all events, by the feed's number
  pub picked : IsFollowing es o n → o.feed ≡ Some n → TakesAll o (transcript_text o.format es) (told_in es n)
  unfolding followed_at
  picked w picks =
      let short = recursion_from_All (KeepsLimit o.format) es (lines_keep o.format w.first es w.writable) in
      text_goes o n es picks (events_in w) short (all_taken es o n w.feed w.writable.history.legal w.follows) (is_none o.feed) 1

  -- from the feed's lines alone
  pub alone : IsFollowing es o n → o.feed ≡ None → TakesAll o (told_lines es n) (told_in es n)
  unfolding followed_at
  alone w none =
      let ms = told_in es n in
      let end : ms ++ [] ≡ ms = append-nil ms in
      let are = told_lawful o.format w.first n es w.writable in
      let taken : AreTaken o [] (ms ++ []) = subst (AreTaken o []) (sym end) (all_taken es o n w.feed w.writable.history.legal w.follows) in
      ap (λ (to : Option ℕ). followed_lines o (is_none to) [] 1 (lines_of (told_lines es n))) none
      ∙ ap (λ (text : List ℕ). followed_lines o true [] 1 (lines_of text)) (sym (append-nil (told_lines es n)))
      ∙ messages_taken o ms [] [] 1 [] are taken (nothing_goes o ms true) ∙ ap followed_through end
