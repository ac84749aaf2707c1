use Rattle.std.proofs.Common.{◌≡◌, ℕ, Some}
use Rattle.replica.proofs.Common.{ConsumerIsRight, Feed, effects_of, fed, feed_of, feed_rises, feeding, views}
use Rattle.spans.proofs.Legal.{legal_allowed}
use Rattle.spans.proofs.Taking.{told_taken}
use Rattle.spans.proofs.GoingOn.{complete_is_right}
use Rattle.replica.proofs.Completing.{replica_is_right, starts_initial, starts_seeded}
use Rattle.replica.proofs.law.law_of_replicas.Goals as goal

pub returns-clause-right : goal.returns-clause-right
returns-clause-right c = λ h f legal feed is s starts.
    let all = legal_allowed h legal in
    let consumer : (g : ℕ) (next : Feed) → feed_of (effects_of h) g ≡ Some next → ConsumerIsRight (effects_of h) g next = λ g next opened.
    let so_far = feeding (effects_of h) all g next opened in record {
      takes = told_taken (effects_of h) g next so_far.begins.0 so_far.begins.1 so_far.divides (feed_rises (effects_of h) g next so_far) so_far.below;
      views = views (effects_of h) g next so_far.divides (feed_rises (effects_of h) g next so_far);
    } in
    replica_is_right (effects_of h) f feed s starts (consumer f feed is)
    (complete_is_right (effects_of h) f feed (fed (effects_of h) all f feed is) (consumer f feed is).takes (λ g next opened. fed (effects_of h) all g next opened))
    consumer (fed (effects_of h) all f feed is) (fed (effects_of h) all)

pub returns-clause-initial : goal.returns-clause-initial
returns-clause-initial c = starts_initial

pub returns-clause-seeded : goal.returns-clause-seeded
returns-clause-seeded c = λ p feed rows seed. starts_seeded p feed rows seed.0 seed.1

pub returns-clause-begins : goal.returns-clause-begins
returns-clause-begins c = λ span m rows are. record { rising = are.rising; inside = λ x v i. ((are.each x v).0 i).0 }
