-- How many messages find room, by what is kept.
use Rattle.std.proofs.Common.{Bool, List, None, Option, Some, ap, cond, false, refl, sym, subst, take, true, ℕ, ◌∙◌, ◌≡◌}
use Rattle.std.specs.Prelude.{option_map}
use Rattle.engine.proofs.Common.{AreLeft, Effect, Event, Feed, IsFeedCount, Place, closed_in, closing_of, count_or, effects_of, feed_of, is_cancelled, is_committed_in, legal_allowed, messages_left, next_messages, place_in, place_with, placed_by, version_in, versions_of}
use Rattle.kept.proofs.Polling.{poll_is}
use Rattle.engine.specs.Layers.{StandsFor, kept_of}
use Rattle.engine.specs.Room.{count_of, poll_count}
use Rattle.engine.specs.declared.layers.Layers.{Layers}

-- of a feed that doesn't live there are none
none_counted : (p : List Effect) (f max bytes : ℕ) (b : Bool) (o : Option Feed) → cond b None (option_map (place_with p f) o) ≡ None → cond b 0 (count_of p f max bytes o) ≡ 0
none_counted p f max bytes true o none = refl
none_counted p f max bytes false None none = refl
none_counted p f max bytes false (Some feed) none = cc

-- what is counted of what is left is counted of the history's next messages
pub count_is : (e : Layers) (steps : ℕ) (h : List Event) (f max bytes n : ℕ) → StandsFor e steps h → IsFeedCount (versions_of e.rules) (closed_in (closing_of e.rules)) max bytes (place_in e.feeds f) n → n ≡ poll_count (effects_of h) f max bytes
count_is e steps h f max bytes n stands is = by (place_in e.feeds f) refl is
  where
    p : List Effect
    p = effects_of h

    by : (o : Option Place) → place_in e.feeds f ≡ o → IsFeedCount (versions_of e.rules) (closed_in (closing_of e.rules)) max bytes o n → n ≡ poll_count (effects_of h) f max bytes
    by None lives zeroth = zeroth ∙ sym (none_counted p f max bytes (is_cancelled p f) (feed_of p f) (sym (stands.kept.fits.feeds f) ∙ lives))
    by (Some place) lives counted =
        let at = placed_by (kept_of e) p stands.kept.fits f place lives in
        let left : AreLeft (version_in (versions_of e.rules)) (is_committed_in (versions_of e.rules)) (place_with p f at.0) (closed_in (closing_of e.rules)) counted.rows =
        subst (λ (v : Place). AreLeft (version_in (versions_of e.rules)) (is_committed_in (versions_of e.rules)) v (closed_in (closing_of e.rules)) counted.rows) (sym at.3) counted.left in
        let next : take max (messages_left (closed_in (closing_of e.rules)) (place_with p f at.0) counted.rows) ≡ next_messages p f at.0 max = poll_is (kept_of e) p (legal_allowed h stands.kept.legal) stands.kept.fits f max at.0 at.1 at.2 counted.rows left in
        counted.count
        ∙ ap (λ (v : Place). count_or max bytes (take max (messages_left (closed_in (closing_of e.rules)) v counted.rows))) (sym at.3)
        ∙ ap (count_or max bytes) next
        ∙ sym (λ i. cond (at.2 i) 0 (count_of p f max bytes (at.1 i)))
