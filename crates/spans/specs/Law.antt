-- The law of histories in one word: each clause of `law_of_histories`, said of one legal history. (The write rule holds of
-- every list of events.)
use Rattle.std.specs.Prelude.{ℕ, List, true, ◌≡◌, ◌↔◌, ◌++◌, Some}
use Rattle.spans.specs.declared.calls.events.Event.{Event}
use Rattle.spans.specs.Effects.{effects_of}
use Rattle.spans.specs.Reads.{IsReadAcross, ReadNewest, too_late}
use Rattle.spans.specs.Serial.{IsOneCopy}
use Rattle.spans.specs.Feeds.{Feed, feed_of}
use Rattle.spans.specs.FeedRight.{FeedIsRight}
use Rattle.spans.specs.Consumer.{ConsumerIsRight}
use Rattle.spans.specs.Completeness.{CompleteIsRight}
use Rattle.spans.specs.Promises.{ReadsOwn, HasRisen, MapsStand, IsHorizonHeld, SnapshotsStand, AreVersionsCounted}

pub record IsLawful (h : List Event) : Type 0 where
  pub one_copy : IsOneCopy (effects_of h)
  pub write_rule : (x : List ℕ) (i : ℕ) → (too_late (effects_of h) x i ≡ true) ↔ IsReadAcross (effects_of h) x i
  pub reads_from : ReadNewest (effects_of h)
  pub feeds : (f : ℕ) (feed : Feed) → feed_of (effects_of h) f ≡ Some feed → FeedIsRight (effects_of h) f feed
  pub consumers : (f : ℕ) (feed : Feed) → feed_of (effects_of h) f ≡ Some feed → ConsumerIsRight (effects_of h) f feed
  pub completes : (f : ℕ) (feed : Feed) → feed_of (effects_of h) f ≡ Some feed → CompleteIsRight (effects_of h) f feed
  pub own : ReadsOwn (effects_of h)
  pub rises : HasRisen (effects_of h)
  pub for_ever : (later before : List Event) → h ≡ later ++ before → MapsStand (effects_of h) (effects_of before)
  pub horizon : IsHorizonHeld (effects_of h)
  pub snapshots : SnapshotsStand (effects_of h)
  pub counts : AreVersionsCounted (effects_of h)
