-- The replies to the commands that open a feed, by its kind.
use Rattle.std.proofs.lemmas.Grind.{common_steps}
use Rattle.std.proofs.Common.{arith, None, Some, ℕ, ◌≤◌, ◌≡◌}
use Rattle.std.specs.Prelude.{suc}
use Rattle.engine.proofs.Common.{nat_tests, IsAlike, IsAnswered, IsOpenedAt, IsWanting, Kept, Opened, Refused, Span, first_refusal, kept_opening_tests, open_cmd}
use Rattle.timestamps.specs.declared.ts.TheConstants.{MAX}
use Rattle.spans.specs.declared.calls.replies.Refusal.{Refusal}
use Rattle.spans.specs.declared.kind.Kind.{Kind}

-- where nothing refuses, the cursor is in the range of timestamps
pub opens_low : (kind : Kind) (k : Kept) (cursor : ℕ) → first_refusal (kept_opening_tests kind k cursor) ≡ None → cursor ≤ MAX
opens_low kind k cursor none = grind (arith, nat_tests, common_steps)

module _ (k k' : Kept) (seat : ℕ) (span : Span) (cursor : ℕ) where
  pub open_refused : (kind : Kind) (q : Refusal) → first_refusal (kept_opening_tests kind k cursor) ≡ Some q → IsAlike k k' → IsAnswered k k' seat (open_cmd kind span cursor) (Refused q)
  open_refused kind q some alike = grind (arith, common_steps)

  pub open_done : (kind : Kind) (f : ℕ) → first_refusal (kept_opening_tests kind k cursor) ≡ None → f ≡ suc k.feeds_opened → IsOpenedAt k k' f seat kind span cursor → IsAnswered k k' seat (open_cmd kind span cursor) (Opened f)
  open_done kind f none next change = grind (arith, common_steps)

  pub open_wanting : (kind : Kind) → first_refusal (kept_opening_tests kind k cursor) ≡ None → IsAlike k k' → IsWanting k k' seat (open_cmd kind span cursor)
  open_wanting kind none alike = grind (arith, common_steps)
