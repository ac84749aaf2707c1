-- A part of what was asked is answered with a row or a message at least.
use Rattle.std.proofs.Common.{Bool, List, None, Ok, Err, Option, Result, Some, [], ap, arith, false, inl, inr, refl, subst, sym, true, zero, suc, length, take, ℕ, ◌++◌, ◌<◌, ◌∙◌, ◌∷◌, ◌≡◌, ◌≤◌, ◌⊎◌}
use Rattle.std.specs.Prelude.{OnOk, filter, is_ok, is_some, map, max, min, nat_lt, not, ◌==◌}
use Rattle.std.proofs.lemmas.Bool.{ltb-false}
use Rattle.std.proofs.lemmas.Grind.{common_steps}
use Rattle.embedded.proofs.Common.{Cmd, Effect, Event, Message, Messages, Reply, by_test, effects_of}
use Rattle.engine.specs.Prelude.{count_or, end_within}
use Rattle.engine.specs.Room.{poll_count, scan_end, up_to}
use Rattle.spans.specs.Answer.{answer_of, first_refusal_or, transaction_tests, snapshot_tests}
use Rattle.spans.specs.Collection.{horizon_of}
use Rattle.spans.specs.Effects.{After}
use Rattle.spans.specs.Feeds.{Feed, due_message, feed_of, is_cancelled, untold_rows}
use Rattle.spans.specs.KeyOrder.{successor}
use Rattle.spans.specs.Keys.{in_span, pairs_of}
use Rattle.spans.specs.Legal.{IsLegal}
use Rattle.spans.specs.Transactions.{closed_of}
use Rattle.spans.specs.Versions.{committed_value, is_blocked, visible, written_keys}
use Rattle.spans.specs.declared.calls.commands.Cmd.TheVariants.{Poll, Scan, ScanAt}
use Rattle.spans.specs.declared.calls.messages.Message.TheVariants as messages
use Rattle.spans.specs.declared.calls.replies.Refusal.{Refusal}
use Rattle.spans.specs.declared.calls.replies.Refusal.TheVariants.{Blocked, FeedCancelled, NotOwner}
use Rattle.spans.specs.declared.calls.replies.Reply.TheVariants.{Rows}
use Rattle.spans.specs.declared.span.Span.{Span}
use Rattle.spans.proofs.Closed.{closed_value}
use Rattle.spans.proofs.Copies.{AllAllowed}
use Rattle.spans.proofs.KeyOrder.{not_itself}
use Rattle.spans.proofs.Keyed.{IsIn, filter_in}
use Rattle.spans.proofs.Legal.{legal_allowed}
use Rattle.spans.proofs.Succeeding.{above_successor}
use Rattle.embedded.specs.Embedded.{last_of}
use Rattle.embedded.specs.Typed.{GetsOn, HasSome, MadeBy, command_within, has_row, span_within, unbounded, with_row}
use Rattle.embedded.specs.declared.bounded.Bounded.{Bounded}
use Rattle.embedded.specs.declared.bounded.Bounded.TheVariants as bounded
use Rattle.embedded.specs.declared.bounded.BoundedError.{BoundedError}
use Rattle.embedded.specs.declared.database.Database.{Database}
use Rattle.embedded.specs.declared.typed.NoPosition.{NoPosition}

-- ---- the span of a scan has a row

-- a scan at t finds a row of the span at the key
record IsRowAt (p : List Effect) (t : ℕ) (span : Span) (x : List ℕ) : Type 0 where
  inside : in_span span x ≡ true
  written : IsIn x (written_keys p)
  found : is_some (visible p x t).after ≡ true

-- the end is one of the keys, and has a value
end_has : (stops : List ℕ → Bool) (value : List ℕ → After) (rows bytes : ℕ) (keys : List (List ℕ)) (x : List ℕ) → end_within stops value rows bytes keys ≡ Some x → IsIn x keys × (is_some (value x) ≡ true)
end_has stops value rows bytes [] x is = cc
end_has stops value rows bytes (y ∷ keys) x is = let more : (r b : ℕ) → end_within stops value r b keys ≡ Some x → IsIn x keys × (is_some (value x) ≡ true) = (λ r b behind. end_has stops value r b keys x behind) in grind (arith, common_steps)

row_at : (p : List Effect) (t : ℕ) (span : Span) (rows bytes : ℕ) (x : List ℕ) → scan_end p t span rows bytes ≡ Some x → IsRowAt p t span x
row_at p t span rows bytes x is = by_test (nat_lt t (horizon_of p))
    (λ low. absurd (let no : None ≡ Some x = rw low at is in cc))
    (λ high.
    let has = end_has (λ y. is_blocked p y t) (λ y. (visible p y t).after) rows bytes (filter (in_span span) (written_keys p)) x (rw high at is) in
    let key = (filter_in (in_span span) x (written_keys p)).0 has.0 in
    record { inside = key.0; written = key.1; found = has.1 })

-- what ends just behind a key has it
behind_has : (span : Span) (x : List ℕ) → in_span span x ≡ true → in_span (up_to (Some (successor x)) span) x ≡ true
behind_has span x inside = grind (arith, common_steps, above_successor x x, not_itself x)

some_of : (o : Option (List ℕ)) → is_some o ≡ true → (x : List ℕ) × (o ≡ Some x)
some_of None is = cc
some_of (Some x) is = (x, refl)

-- the span of a scan is the caller's own, or has a row
part_has : (p : List Effect) (t : ℕ) (span : Span) (rows bytes : ℕ) (end : Option (List ℕ)) → scan_end p t span rows bytes ≡ end → (with_row p t span end ≡ span) ⊎ ((x : List ℕ) × IsRowAt p t (with_row p t span end) x)
part_has p t span rows bytes None is = inl refl
part_has p t span rows bytes (Some x) is = by_test (has_row p t (up_to (Some x) span))
    (λ some. rw some (inr (let first = some_of _ some in (first.0, row_at p t (up_to (Some x) span) 0 0 first.0 first.1))))
    (λ none. rw none (inr (x, let row = row_at p t span rows bytes x is in record { inside = behind_has span x row.inside; written = row.written; found = row.found })))

-- ---- so its answer has one

-- behind tests, whose refusals are answers
past : (tests : List (Bool × Refusal)) (reply : Reply) → HasSome reply → HasSome (first_refusal_or tests reply)
past [] reply some = some
past (test ∷ tests) reply some = by_test test.0
    (λ is. rw is tt)
    (λ isnt. rw isnt (past tests reply some))

pairs_some : (value : List ℕ → After) (keys : List (List ℕ)) (x : List ℕ) → IsIn x keys → is_some (value x) ≡ true → HasSome (Rows (pairs_of value keys))
pairs_some value [] x i some = absurd i
pairs_some value (y ∷ keys) x i some = grind (arith, common_steps, pairs_some value keys x)

rows_some : (p : List Effect) (t : ℕ) (span : Span) (value : List ℕ → After) (x : List ℕ) → IsRowAt p t span x → is_some (value x) ≡ true → HasSome (Rows (pairs_of value (filter (in_span span) (written_keys p))))
rows_some p t span value x row some = pairs_some value (filter (in_span span) (written_keys p)) x ((filter_in (in_span span) x (written_keys p)).1 (row.inside, row.written)) some

scan_some : (p : List Effect) (seat t : ℕ) (span : Span) (x : List ℕ) → IsRowAt p t span x → HasSome (answer_of p seat (Scan t span))
scan_some p seat t span x row =
    past (transaction_tests p seat t ++ map (λ x. (is_blocked p x t, Blocked (visible p x t).ts)) (filter (in_span span) (written_keys p))) (Rows (pairs_of (λ x. (visible p x t).after) (filter (in_span span) (written_keys p)))) (rows_some p t span (λ x. (visible p x t).after) x row row.found)

scan_at_some : (p : List Effect) → AllAllowed p → (seat t : ℕ) (span : Span) (x : List ℕ) → IsRowAt p t span x → HasSome (answer_of p seat (ScanAt t span))
scan_at_some p all seat t span x row = by_test (nat_lt (closed_of p) t)
    (λ early. rw early tt)
    (λ closed. past (snapshot_tests p t) (Rows (pairs_of (λ x. committed_value p x t) (filter (in_span span) (written_keys p)))) (rows_some p t span (λ x. committed_value p x t) x row (ap is_some (sym (closed_value p all x t (ltb-false (closed_of p) t closed))) ∙ row.found)))

-- ---- and so has that of a poll

take_some : (n : ℕ) (ms : List Message) → 1 ≤ n → 0 < length ms → HasSome (Messages (take n ms))
take_some zero ms one some = absurd (omega (arith, one))
take_some (suc n) [] one some = absurd (omega (arith, some))
take_some (suc n) (m ∷ ms) one some = tt

some_left : (n : ℕ) (ms : List Message) → 0 < length (take n ms) → (1 ≤ n) × (0 < length ms)
some_left zero ms some = absurd (omega (arith, some))
some_left (suc n) [] some = absurd (omega (arith, some))
some_left (suc n) (m ∷ ms) some = (omega arith, omega arith)

abbrev polled : ℕ → ℕ → ℕ
polled count most = min (max count 1) most

-- all that was asked for finds room, or there is a message
count_some : (most bytes : ℕ) (ms : List Message) → (count_or most bytes ms ≡ most) ⊎ (0 < length ms)
count_some most bytes [] = inl refl
count_some most bytes (m ∷ ms) = inr (omega arith)

poll_some : (p : List Effect) (seat f most bytes : ℕ) → (polled (poll_count p f most bytes) most ≡ most) ⊎ HasSome (answer_of p seat (Poll f (polled (poll_count p f most bytes) most)))
poll_some p seat f most bytes = by (feed_of p f) refl
  where
    by : (o : Option Feed) → feed_of p f ≡ o → (polled (poll_count p f most bytes) most ≡ most) ⊎ HasSome (answer_of p seat (Poll f (polled (poll_count p f most bytes) most)))
    by None is = rw is (inr tt)
    by (Some feed) is = by_test (is_cancelled p f)
        (λ ended. rw (is, ended) (inr tt))
        (λ lives. let left : List Message = map messages.Row (untold_rows p f feed) ++ due_message p f feed in elim (count_some most bytes (take most left)) [
          | inl whole ↦ rw (is, lives, whole) (inl (omega arith))
          | inr some ↦ rw (is, lives) (inr (let told : ℕ = polled (count_or most bytes (take most left)) most in let all = some_left most left some in past ((false, FeedCancelled) ∷ (not (feed.seat == seat), NotOwner) ∷ []) (Messages (take told left)) (take_some told left (omega (arith, all.0)) all.1)))
        ])

-- ---- the event

part_some : (h : List Event) → IsLegal h → (seat : ℕ) (asked : Bounded) → (command_within h asked ≡ unbounded asked) ⊎ HasSome (answer_of (effects_of h) seat (command_within h asked))
part_some h legal seat (bounded.Scan t span rows bytes) = elim (part_has (effects_of h) t span rows bytes _ refl) [
  | inl whole ↦ inl (ap (Scan t) whole)
  | inr part ↦ inr (scan_some (effects_of h) seat t (span_within h t span rows bytes) part.0 part.1)
]
part_some h legal seat (bounded.ScanAt t span rows bytes) = elim (part_has (effects_of h) t span rows bytes _ refl) [
  | inl whole ↦ inl (ap (ScanAt t) whole)
  | inr part ↦ inr (scan_at_some (effects_of h) (legal_allowed h legal) seat t (span_within h t span rows bytes) part.0 part.1)
]
part_some h legal seat (bounded.Poll feed most bytes) = elim (poll_some (effects_of h) seat feed most bytes) [
  | inl whole ↦ inl (ap (Poll feed) whole)
  | inr part ↦ inr part
]

event_gets_on : (h : List Event) (asked : Bounded) (e : Event) → IsLegal (e ∷ h) → e.cmd ≡ command_within h asked → GetsOn asked (Some e)
event_gets_on h asked e legal is = elim legal.0 [
  | inl answered ↦ elim (part_some h legal.1 e.seat asked) [
    | inl whole ↦ inl (is ∙ whole)
    | inr some ↦ inr (subst HasSome (sym (answered ∙ ap (answer_of (effects_of h) e.seat) is)) some)
  ]
  | inr refused ↦ inr (subst HasSome (sym refused.0) tt)
]

pub gets_on : (h : List Event) (seat : ℕ) (asked : Bounded) (cmd : Cmd) (old new : Database) (made : Result (Unit {0}) NoPosition) (r : Result (Unit {0}) BoundedError) → cmd ≡ command_within h asked → MadeBy h seat cmd old made new → is_ok r ≡ is_ok made → OnOk r (GetsOn asked (last_of new))
gets_on h seat asked cmd old new (Ok u) (Ok v) is step same = subst (GetsOn asked) (sym step.holds.last) (event_gets_on h asked step.event step.holds.legal (step.command ∙ is))
gets_on h seat asked cmd old new (Ok u) (Err e) is step same = tt
gets_on h seat asked cmd old new (Err n) (Ok v) is unmade same = cc
gets_on h seat asked cmd old new (Err n) (Err e) is unmade same = tt
