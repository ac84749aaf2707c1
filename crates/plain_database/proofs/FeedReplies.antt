-- What a database stands for after a feed was opened.
use Rattle.std.proofs.Common.{◌≡◌, ℕ, suc, Bool, true, false, List, ◌∷◌, Option, Some, None, refl, sym, ◌∙◌, arith}
use Rattle.plain_database.proofs.Common.{Event, IsRightEvent, Kind, Opened, Opens, Span, common_steps, effect, effects_of, event, kind_of, open_cmd}
use Rattle.plain_database.specs.FeedTie.{Book, LeadsTo, Says}
use Rattle.spans.specs.Feeds.{feeds_opened}
use Rattle.plain_database.specs.declared.database.PlainDatabase.{PlainDatabase}
use Rattle.plain_database.specs.Tied.{StandsFor}
use Rattle.plain_database.proofs.Events.{takes}

opens_is : (kind : Kind) (seat : ℕ) (span : Span) (cursor f : ℕ) → effect seat (open_cmd kind span cursor) (Opened f) ≡ Opens f seat kind span cursor
opens_is kind seat span cursor f = by_parts kind.initial kind.gap
  where
    by_parts : (initial : Bool) (gap : Option ℕ) → effect seat (open_cmd (kind_of initial gap) span cursor) (Opened f) ≡ Opens f seat (kind_of initial gap) span cursor
    by_parts false None = refl
    by_parts true None = refl
    by_parts false (Some gap) = refl
    by_parts true (Some gap) = refl

-- a feed was opened with the next number
pub stands_opens : (db : PlainDatabase) (book : Book) (h : List Event) (n seat f number : ℕ) (kind : Kind) (span : Span) (cursor : ℕ) → Says db.feeds (λ p. number ≡ suc (feeds_opened p)) → LeadsTo db.feeds (Opens number seat kind span cursor) book
    → StandsFor db h → IsRightEvent (effects_of h) (event n seat (open_cmd kind span cursor) (Opened f)) → StandsFor (record db { feeds = book }) (event n seat (open_cmd kind span cursor) (Opened f) ∷ h)
stands_opens db book h n seat f number kind span cursor next leads = takes db (record db { feeds = book }) h n seat (open_cmd kind span cursor) (Opened f) (Opens f seat kind span cursor) (opens_is kind seat span cursor f) (λ tied all given.
    let same : number ≡ f = next (effects_of h) tied.feeds ∙ sym given.0 in
    let feeds = leads (effects_of h) all tied.feeds in
    grind (arith, common_steps))
