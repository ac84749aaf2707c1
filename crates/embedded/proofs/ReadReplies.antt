-- A read is answered with no messages.
use Rattle.std.proofs.Common.{◌≡◌, ℕ, Bool, true, false, List, [], ◌∷◌, ◌++◌, refl, sym, ap, ◌∙◌, inl, inr}
use Rattle.embedded.proofs.Common.{Cmd, Effect, Event, Found, Get, IsRightEvent, Message, Messages, ReadAt, Refused, Reply, both_ways, by_test}
use Rattle.spans.specs.declared.calls.replies.Refusal.{Refusal}
use Rattle.spans.specs.declared.calls.replies.Refusal.TheVariants.{Blocked, NoMemory}
use Rattle.spans.specs.Answer.{answer_of, first_refusal_or, snapshot_tests, transaction_tests}
use Rattle.spans.specs.Versions.{committed_value, is_blocked, visible}
use Rattle.embedded.specs.Typed.{is_read}

abbrev has_messages : Reply → Bool
has_messages (Messages ms) = true
has_messages _ = false

-- behind tests, whose refusals have none
past : (tests : List (Bool × Refusal)) (reply : Reply) → has_messages reply ≡ false → has_messages (first_refusal_or tests reply) ≡ false
past [] reply plain = plain
past (test ∷ tests) reply plain = by_test test.0
    (λ is. rw is refl)
    (λ isnt. rw isnt (past tests reply plain))

read_plain : (p : List Effect) (seat : ℕ) (cmd : Cmd) → is_read cmd ≡ true → has_messages (answer_of p seat cmd) ≡ false
read_plain p seat (Get t x) is = past (transaction_tests p seat t ++ (is_blocked p x t, Blocked (visible p x t).ts) ∷ []) (Found (visible p x t).after) refl
read_plain p seat (ReadAt t x) is = past (snapshot_tests p t) (Found (committed_value p x t)) refl
read_plain p seat (_) is = cc

-- a right event that has messages is no read's
pub is_no_read : (p : List Effect) (e : Event) (ms : List Message) → IsRightEvent p e → e.reply ≡ Messages ms → is_read e.cmd ≡ false
is_no_read p e ms right is = elim right [
  | inl answered ↦ by_test (is_read e.cmd) (λ reads. absurd (both_ways _ (read_plain p e.seat e.cmd reads) (ap has_messages (sym answered ∙ is)))) (λ other. other)
  | inr refused ↦ absurd (let same : Refused NoMemory ≡ Messages ms = sym refused.0 ∙ is in cc)
]
