-- A replica of a feed is complete at each resolved timestamp.
use Rattle.replica.proofs.Common.{AllAbove, AllTaken, AreRows, CompleteIsRight, ConsumerIsRight, Effect, Feed, FeedIsRight, Map, Message, all_above_floor, common_steps, complete_for, complete_is, feed_of, is_new, map_at, put, seed_of, seen_after, span_part, start_of, taken_after, told_to, view_of}
use Rattle.std.proofs.Common.{◌≡◌, ℕ, ◌-◌, ◌<◌, true, false, cond, List, [], ◌∷◌, ◌++◌, Some, sym, ◌∙◌, ap, subst, arith}
use Rattle.std.specs.Prelude.{bytes_eq}
use Rattle.spans.specs.declared.calls.messages.Message.TheVariants as messages
use Rattle.replica.specs.declared.replica.Replica.{Replica}
use Rattle.replica.specs.Replicas.{view_in, through_in, Follows}
use Rattle.replica.specs.Starts.{Start, seeded_start, initial_start, IsStartOf}
use Rattle.replica.specs.Right.{IsCompleteAt, ReplicaIsRight}
use Rattle.replica.proofs.Following.{view_join, at_join, through_is, ready_row}
use Rattle.replica.proofs.Seeding.{among_part}
use Rattle.replica.proofs.Again.{again_ready, new_above}

-- maps that are alike stay alike
view_like : (m n : Map) (ms : List Message) (x : List ℕ) → ((y : List ℕ) → m y ≡ n y) → view_of m ms x ≡ view_of n ms x
view_like m n [] x same = same x
view_like m n (messages.Row r ∷ ms) x same = view_like (put m r.key r.after) (put n r.key r.after) ms x (λ y. ap (λ v. cond (bytes_eq r.key y) r.after v) (same y))
view_like m n (messages.Resolved t ∷ ms) x same = view_like m n ms x same

-- what a replica has that began as the feed's consumer is what that has
view_seen : (p : List Effect) (feed : Feed) (s : Start) (r : Replica) (before : List Message) → IsStartOf p feed s → Follows r s before → (x : List ℕ) → view_in r x ≡ seen_after p feed before x
view_seen p feed s r before starts follows x = follows.rows x ∙ view_like s.rows (seed_of feed.kind p feed.span feed.cursor) before x starts.rows

-- and it was told all through the same timestamp
complete_seen : (p : List Effect) (feed : Feed) (s : Start) (r : Replica) (before : List Message) → IsStartOf p feed s → Follows r s before → through_in r ≡ complete_for feed before
complete_seen p feed s r before starts follows = grind (arith, common_steps)

-- after a resolved message a replica is complete at its timestamp, if what the messages make of its first rows is the map there
complete_at : (p : List Effect) (feed : Feed) (s : Start) (r : Replica) (before : List Message) (t : ℕ) → Follows r s (before ++ messages.Resolved t ∷ [])
    → ((x : List ℕ) → view_of s.rows before x ≡ span_part feed.span (map_at p t) x) → IsCompleteAt p feed r t
complete_at p feed s r before t follows views = record { complete = grind (arith, common_steps, follows.complete, at_join); rows = λ x. grind (arith, common_steps, follows.rows x, view_join, views x) }

-- what is told after the messages that a replica has taken is above where it was told all
told_above : (r : Replica) (s : Start) (before rest : List Message) (n : ℕ) → AllTaken s.span s.start [] (before ++ rest) → Follows r s before → through_in r ≡ Some n → AllAbove n rest
told_above r s before rest n taken follows is = grind (arith, common_steps, complete_is, through_is, all_above_floor, taken_after)

pub replica_is_right : (p : List Effect) (f : ℕ) (feed : Feed) (s : Start) → IsStartOf p feed s → ConsumerIsRight p f feed → CompleteIsRight p f feed
    → ((g : ℕ) (next : Feed) → feed_of p g ≡ Some next → ConsumerIsRight p g next) → FeedIsRight p f feed → ((g : ℕ) (next : Feed) → feed_of p g ≡ Some next → FeedIsRight p g next)
    → ReplicaIsRight p f feed s
replica_is_right p f feed s starts right complete others fed fed_others = record {
  takes = subst (λ i. AllTaken i s.start [] (told_to p f)) (sym starts.span) (subst (λ n. AllTaken feed.span n [] (told_to p f)) (sym starts.start) right.takes);
  complete = λ r before rest t told follows. complete_at p feed s r before t follows (λ x. view_like s.rows (seed_of feed.kind p feed.span feed.cursor) before x starts.rows ∙ right.views before rest t told x);
  whole = λ r t follows is x. grind (arith, common_steps, follows.rows x, starts.rows x);
  through = λ r before rest n told follows is. complete.above before rest n told (sym (complete_seen p feed s r before starts follows) ∙ is);
  ready = λ r before rest m n told follows is x.
      let shown = ready_row r m n s before follows is in
      let told' : told_to p f ≡ before ++ messages.Row shown.0 ∷ rest = told ∙ ap (λ k. before ++ k ∷ rest) shown.1 in
      let new : is_new feed.cursor before shown.0.ts ≡ true = subst (λ n. is_new n before shown.0.ts ≡ true) starts.cursor shown.2 in
      view_seen p feed s r before starts follows x ∙ complete.ready before rest shown.0 told' new x ∙ ap (λ k. span_part feed.span (map_at p k) x) shown.3;
  goes_on = λ r before rest n told follows is g next opened goes s' from.
      let span : next.span ≡ s'.span = goes.span ∙ sym starts.span ∙ sym follows.span ∙ sym from.span in
      let taken : AllTaken s'.span s'.start [] (told_to p g) =
      subst (λ k. AllTaken s'.span k [] (told_to p g)) (goes.start ∙ sym from.start) (subst (λ i. AllTaken i (start_of next) [] (told_to p g)) span (others g next opened).takes) in
      let at = complete_is (start_of feed) feed.cursor n before (sym (complete_seen p feed s r before starts follows) ∙ is) in
      let seen : (y : List ℕ) → s'.rows y ≡ seen_after p feed before y = λ y. from.rows y ∙ view_seen p feed s r before starts follows y in record {
        takes = taken;
        complete = λ r' again later t told_again follows'. complete_at p feed s' r' again t follows' (λ x. view_like s'.rows (seen_after p feed before) again x seen
            ∙ complete.repeats before rest n told (sym (complete_seen p feed s r before starts follows) ∙ is) g next opened goes again later t told_again x);
        through = λ r' again later k told_again follows' is'. told_above r' s' again later k (subst (AllTaken s'.span s'.start []) told_again taken) follows' is';
        ready = λ r' again later m k told_again follows' is' past x.
            let shown = ready_row r' m k s' again follows' is' in
            let told' : told_to p g ≡ again ++ messages.Row shown.0 ∷ later = told_again ∙ ap (λ i. again ++ i ∷ later) shown.1 in
            let past' : n < shown.0.ts - 1 = omega (arith, from.start, past, shown.3) in
            let new : is_new next.cursor again shown.0.ts ≡ true = new_above s'.cursor next.cursor shown.0.ts again shown.2 (omega (arith, goes.cursor, past')) in
            follows'.rows x ∙ view_like s'.rows (seen_after p feed before) again x seen
            ∙ again_ready p f feed before rest n fed right.takes told at.0 at.1 g next (fed_others g next opened) goes again later shown.0 told' new past' x
            ∙ ap (λ i. span_part feed.span (map_at p i) x) shown.3;
      };
}

pub starts_initial : (p : List Effect) (feed : Feed) → feed.kind.initial ≡ true → IsStartOf p feed (initial_start feed.span feed.cursor)
starts_initial p feed is = grind (arith, common_steps)

pub starts_seeded : (p : List Effect) (feed : Feed) (rows : List (List ℕ × List ℕ)) → feed.kind.initial ≡ false → AreRows feed.span (map_at p feed.cursor) rows → IsStartOf p feed (seeded_start feed.span feed.cursor rows)
starts_seeded p feed rows isnt are = grind (arith, common_steps, among_part)
