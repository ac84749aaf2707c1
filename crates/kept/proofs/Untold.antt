-- The rows that a feed was not told are those beyond its place.
use Rattle.kept.proofs.Common.{AllAllowed, Effect, Feed, IsFeeding, IsListed, IsRowIn, Message, RisingRows, Row, VersionName, and_from, and_parts, both_ways, closed_of, common_steps, false_from_ne_true, feed_of, in_append, in_list, is_after_name, last_name, list_rises, listed_above, lt-ltb, name_of, place_with, rest_above, rises_parts, rows_clash, rows_in, start_of, told_to}
use Rattle.std.proofs.Common.{arith}
use Rattle.std.proofs.Common.{List, refl, inr, None, Option, subst, false, true, Some, inl, sym, ◌≡◌, ◌∷◌, ℕ, []}
use Rattle.std.specs.Prelude.{◌↔◌}
use Rattle.spans.specs.Streams.{row_lt}
use Rattle.kept.specs.Places.{is_beyond}
use Rattle.spans.specs.declared.calls.messages.Message.TheVariants as messages

-- rows that rise are determined by which they are
pub only_rows : (rs ss : List Row) → RisingRows rs → RisingRows ss → ((r : Row) → IsRowIn r rs ↔ IsRowIn r ss) → rs ≡ ss
only_rows [] [] h k same = refl
only_rows [] (s ∷ ss) h k same = absurd ((same s).1 (inl refl))
only_rows (r ∷ rs) [] h k same = absurd ((same r).0 (inl refl))
only_rows (r ∷ rs) (s ∷ ss) h k same =
    let a = same r in let b = same s in let e : r ≡ s = grind (arith, common_steps, rows_clash) in
    let more : rs ≡ ss = only_rows rs ss h.1 k.1 (λ q. let c = same q in grind (arith, common_steps, rows_clash)) in rw (e, more) refl

-- a row after all that were told comes after the last
after_all : (ms : List Message) (o : Option VersionName) (r : Row) → is_after_name o r ≡ true → ((s : Row) → IsRowIn s (rows_in ms) → row_lt s r ≡ true) → is_after_name (last_name o ms) r ≡ true
after_all [] o r e h = e
after_all (messages.Row s ∷ ms) o r e h = after_all ms (Some (name_of s)) r (h s (inl refl)) (λ q i. h q (inr i))
after_all (messages.Resolved t ∷ ms) o r e h = after_all ms o r e h

-- a row before all that follow doesn't come after the last
not_after : (ms : List Message) (o : Option VersionName) (r : Row) → is_after_name o r ≡ false → ((s : Row) → IsRowIn s (rows_in ms) → row_lt r s ≡ true) → is_after_name (last_name o ms) r ≡ false
not_after [] o r e h = e
not_after (messages.Row s ∷ ms) o r e h = not_after ms (Some (name_of s)) r (false_from_ne_true _ (λ l. rows_clash s r l (h s (inl refl)))) (λ q i. h q (inr i))
not_after (messages.Resolved t ∷ ms) o r e h = not_after ms o r e h

-- a row that was told doesn't come after the last
told_before : (ms : List Message) (o : Option VersionName) (r : Row) → RisingRows (rows_in ms) → IsRowIn r (rows_in ms) → is_after_name (last_name o ms) r ≡ false
told_before [] o r h i = absurd i
told_before (messages.Row s ∷ ms) o r h i = grind (arith, common_steps, not_after, false_from_ne_true, rows_clash, told_before ms)
told_before (messages.Resolved t ∷ ms) o r h i = told_before ms o r h i

-- what wasn't told is what is beyond the place
pub beyond_is : (p : List Effect) → AllAllowed p → (f : ℕ) (feed : Feed) → feed_of p f ≡ Some feed → (h : IsFeeding p f feed)
    → RisingRows h.begins.0 × ((r : Row) → IsRowIn r h.begins.0 ↔ (IsListed p feed (closed_of p) r × (is_beyond (place_with p f feed) r ≡ true)))
beyond_is p all f feed is h =
    let parts = rises_parts (rows_in (told_to p f)) h.begins.0 (subst RisingRows h.begins.1 (list_rises p feed (closed_of p))) in (
      parts.1,
      λ r. (
        λ i.
            let s : IsListed p feed (closed_of p) r = (in_list p feed (closed_of p) r).0 (subst (IsRowIn r) (sym h.begins.1) ((in_append r (rows_in (told_to p f)) h.begins.0).1 (inr i))) in (
              s,
              and_from _ _ (lt-ltb _ r.ts (rest_above p feed (start_of feed) [] h.begins.0 (told_to p f) (sym h.begins.1) h.divides h.below r i (listed_above p feed (closed_of p) r s)))
                  (after_all (told_to p f) None r refl (λ q j. parts.2 q r j i)),
            ),
        λ s. elim ((in_append r (rows_in (told_to p f)) h.begins.0).0 (subst (IsRowIn r) h.begins.1 ((in_list p feed (closed_of p) r).1 s.0))) [
          | inl told' ↦ absurd (both_ways _ (told_before (told_to p f) None r parts.0 told') (and_parts _ _ s.1).1)
          | inr rest ↦ rest
        ],
      ),
    )
