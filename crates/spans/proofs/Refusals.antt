-- Tests that refuse, the first that applies.
use Rattle.spans.proofs.Common.{append-nil, common_steps}
use Rattle.std.proofs.Common.{arith}
use Rattle.std.proofs.Common.{Bool, List, None, Some, [], refl, subst, ◌++◌, ◌∷◌, ◌≡◌}
use Rattle.spans.specs.Answer.{first_refusal, first_refusal_or}
use Rattle.spans.specs.declared.calls.replies.Refusal.{Refusal}
use Rattle.spans.specs.declared.calls.replies.Reply.{Reply}
use Rattle.spans.specs.declared.calls.replies.Reply.TheVariants.{Refused}

-- tests of which none applies are passed
pub tests_past : (tests more : List (Bool × Refusal)) (reply : Reply) → first_refusal tests ≡ None → first_refusal_or (tests ++ more) reply ≡ first_refusal_or more reply
tests_past [] more reply none = refl
tests_past (test ∷ tests) more reply none = grind (arith, common_steps, tests_past tests more reply)

pub none_met : (tests : List (Bool × Refusal)) (reply : Reply) → first_refusal tests ≡ None → first_refusal_or tests reply ≡ reply
none_met tests reply none = subst (λ l. first_refusal_or l reply ≡ reply) (append-nil tests) (tests_past tests [] reply none)

-- tests of which one applies refuse
pub tests_met : (tests more : List (Bool × Refusal)) (reply : Reply) (r : Refusal) → first_refusal tests ≡ Some r → first_refusal_or (tests ++ more) reply ≡ Refused r
tests_met [] more reply r some = cc
tests_met (test ∷ tests) more reply r some = grind (arith, common_steps, tests_met tests more reply r)

pub first_met : (tests : List (Bool × Refusal)) (reply : Reply) (r : Refusal) → first_refusal tests ≡ Some r → first_refusal_or tests reply ≡ Refused r
first_met tests reply r some = subst (λ l. first_refusal_or l reply ≡ Refused r) (append-nil tests) (tests_met tests [] reply r some)
