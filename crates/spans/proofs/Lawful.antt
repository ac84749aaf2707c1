-- Each legal history is lawful.
use Rattle.spans.proofs.Dead.{left_newest}
use Rattle.spans.specs.Consumer.{AllTaken}
use Rattle.spans.specs.Feeds.{Feed, feed_of, told_to, start_of}
use Rattle.std.proofs.Common.{List, ℕ, ◌≡◌, ◌++◌, [], Some, subst, sym}
use Rattle.spans.specs.declared.calls.events.Event.{Event}
use Rattle.spans.specs.Effects.{effects_of, Effect}
use Rattle.spans.specs.Legal.{IsLegal}
use Rattle.spans.specs.Promises.{MapsStand}
use Rattle.spans.specs.Law.{IsLawful}
use Rattle.spans.proofs.Legal.{legal_allowed}
use Rattle.spans.proofs.Marks.{late_across, across_late}
use Rattle.spans.proofs.Copies.{reads_from, AllAllowed, one_copy}
use Rattle.spans.proofs.Feeding.{fed, feed_rises, feeding}
use Rattle.spans.proofs.Taking.{told_taken}
use Rattle.spans.proofs.Viewing.{views}
use Rattle.spans.proofs.GoingOn.{complete_is_right}
use Rattle.spans.proofs.Promises.{reads_own, has_risen, maps_stand, horizon_held, versions_counted}

-- whatever came later, the maps at closed timestamps of what was before it stand
stands : (h : List Event) → IsLegal h → (later before : List Event) → h ≡ later ++ before → MapsStand (effects_of h) (effects_of before)
stands h legal later before is = subst (λ (l : List Event). MapsStand (effects_of l) (effects_of before)) (sym is) (maps_stand later before (subst IsLegal is legal))

-- a consumer takes all that its feed told
takes : (p : List Effect) → AllAllowed p → (f : ℕ) (feed : Feed) → feed_of p f ≡ Some feed → AllTaken feed.span (start_of feed) [] (told_to p f)
takes p all f feed is = let h = feeding p all f feed is in told_taken p f feed h.begins.0 h.begins.1 h.divides (feed_rises p f feed h) h.below

pub lawful : (h : List Event) → IsLegal h → IsLawful h
lawful h legal = let p = effects_of h in let all = legal_allowed h legal in record {
  one_copy = one_copy p all;
  write_rule = λ x i. (late_across p x i, across_late p x i);
  reads_from = reads_from p all;
  feeds = fed p all;
  consumers = λ f feed is. record { takes = takes p all f feed is; views = views p f feed (fed p all f feed is).divides (feed_rises p f feed (feeding p all f feed is)) };
  completes = λ f feed is. complete_is_right p f feed (fed p all f feed is) (takes p all f feed is) (fed p all);
  own = reads_own p all;
  rises = has_risen p all;
  for_ever = stands h legal;
  horizon = horizon_held p all;
  snapshots = left_newest p;
  counts = versions_counted p all;
}
