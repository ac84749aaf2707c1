-- What a follower tells of a feed is the map's.
use Rattle.std.proofs.Common.{◌≡◌, ℕ, ◌-◌, Bool, true, false, cond, ◌&&◌, List, [], ◌∷◌, ◌++◌, Option, Some, None, refl, ap, subst, ◌∙◌}
use Rattle.std.specs.Prelude.{is_none}
use Rattle.pipes.proofs.Common.{ConsumerIsRight, Event, Feed, FollowOptions, IsLegal, Map, Message, Row, Start, apply_fault, effects_of, lawful, map_at, put, seed_of, shown_before, span_part, start_of, told_to, view_of}
use Rattle.spans.specs.declared.calls.messages.Message.TheVariants as messages
use Rattle.spans.specs.Completeness.{CompleteIsRight, is_new, ready_after}
use Rattle.replica.proofs.Following.{view_join}
use Rattle.pipes.specs.Followers.{Follows, TellsMaps, rows_after}

-- maps that are alike stay alike
view_like : (m n : Map) (ms : List Message) (x : List ℕ) → ((y : List ℕ) → m y ≡ n y) → view_of m ms x ≡ view_of n ms x
view_like m n [] x same = same x
view_like m n (messages.Row r ∷ ms) x same = view_like (put m r.key r.after) (put n r.key r.after) ms x (λ y. rw (same y) refl)
view_like m n (messages.Resolved t ∷ ms) x same = view_like m n ms x same

module _ (o : FollowOptions) where
  -- a message before which rows are told is the first row of its timestamp
  first_row : (before : List Message) (m : Message) (t : ℕ) → shown_before o before m ≡ Some t
      → (row : Row) × (m ≡ messages.Row row) × (is_new (start_of o.span o.start).cursor before row.ts ≡ true) × (row.ts - 1 ≡ t)
  first_row before m t is = by_message m (when o.complete (ready_after o.span (start_of o.span o.start).start (start_of o.span o.start).cursor before m) is)
    where
      when : (b : Bool) (x : Option ℕ) → cond b x None ≡ Some t → x ≡ Some t
      when true x e = e
      when false x e = absurd cc

      shown : (a b : Bool) (k : ℕ) → cond (a && b) (Some k) None ≡ Some t → (b ≡ true) × (k ≡ t)
      shown true true k e = (refl, cc)
      shown _ _ k e = absurd cc

      by_message : (m : Message) → ready_after o.span (start_of o.span o.start).start (start_of o.span o.start).cursor before m ≡ Some t
          → (row : Row) × (m ≡ messages.Row row) × (is_new (start_of o.span o.start).cursor before row.ts ≡ true) × (row.ts - 1 ≡ t)
      by_message (messages.Resolved k) e = absurd cc
      by_message (messages.Row row) e =
          let both = shown (is_none (apply_fault o.span (start_of o.span o.start).start before (messages.Row row))) (is_new (start_of o.span o.start).cursor before row.ts) (row.ts - 1) e in
          (row, refl, both.0, both.1)

  pub tells_maps : (h : List Event) (n : ℕ) (feed : Feed) → IsLegal h → Follows (effects_of h) n feed o → TellsMaps (effects_of h) feed o (told_to (effects_of h) n)
  tells_maps h n feed legal follows =
      let p = effects_of h in
      let s : Start = start_of o.span o.start in
      let law = lawful h legal in
      let right : ConsumerIsRight p n feed = law.consumers n feed follows.opened in
      let complete : CompleteIsRight p n feed = law.completes n feed follows.opened in
      let seen : (ms : List Message) (x : List ℕ) → rows_after o ms x ≡ view_of (seed_of feed.kind p feed.span feed.cursor) ms x = λ ms x. view_like s.rows (seed_of feed.kind p feed.span feed.cursor) ms x follows.starts.rows in record {
        resolved = λ before behind t told x. ap (λ (m : Map). m x) (view_join s.rows before (messages.Resolved t ∷ [])) ∙ seen before x ∙ right.views before behind t told x;
        complete = λ before behind m t told is x.
            let first = first_row before m t is in
            let new : is_new feed.cursor before first.0.ts ≡ true = subst (λ (k : ℕ). is_new k before first.0.ts ≡ true) follows.starts.cursor first.2 in
            seen before x ∙ complete.ready before behind first.0 (told ∙ ap (λ (k : Message). before ++ k ∷ behind) first.1) new x ∙ ap (λ (k : ℕ). span_part feed.span (map_at p k) x) first.3;
      }
