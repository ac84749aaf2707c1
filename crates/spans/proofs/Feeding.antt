-- Each feed tells its list.
use Rattle.spans.proofs.Common.{Row, append-nil, common_steps, eq-eqb, eqb-true, filter_map-append}
use Rattle.std.proofs.Common.{◌≡◌, ℕ, zero, suc, ◌+◌, ◌<◌, ◌≤◌, ◌==◌, Bool, true, false, not, cond, List, [], ◌∷◌, ◌++◌, map, length, take, drop, Some, None, refl, sym, ◌∙◌, ap, subst, arith, append_assoc, Option}
use Rattle.std.specs.Prelude.{max, filter}
use Rattle.std.proofs.Math.Seq.{drop-append_seam}
use Rattle.spans.specs.declared.calls.messages.Message.{Message}
use Rattle.spans.specs.declared.calls.messages.Message.TheVariants as messages
use Rattle.spans.specs.declared.kind.Kind.{Kind}
use Rattle.spans.specs.Effects.{Effect, Opens, Polls}
use Rattle.spans.specs.Transactions.{closed_of}
use Rattle.spans.specs.Feeds.{Feed, feed_of, feeds_opened, is_cancelled, told_to, rows_in, last_resolved, list_of, start_of, resolved_of, is_due, due_message, untold_rows, next_messages}
use Rattle.spans.specs.FeedRight.{DividesList, ResolvedApart, least_gap, ReachesClosed, IsSilentAfterCancel, LeavesNothingDue, RowsAreAbove, RowsFollowResolved, FeedIsRight}
use Rattle.spans.specs.Collection.{VersionName}
use Rattle.spans.specs.Consumer.{name_of}
use Rattle.spans.specs.Kept.{last_name}
use Rattle.spans.proofs.Steps.{by_test}
use Rattle.spans.proofs.Copies.{Allowed, AllAllowed, closed_grows}
use Rattle.spans.proofs.StreamOrder.{RisingRows, is_told, left_untold}
use Rattle.spans.proofs.Streaming.{RowsAbove}
use Rattle.spans.proofs.Listing.{IsSettled, list_rises, list_stays, list_above}

-- the resolved messages are at or below n
abbrev pub AllBelow : ℕ → List Message → Type 0
AllBelow n [] = Unit {0}
AllBelow n (messages.Row r ∷ ms) = AllBelow n ms
AllBelow n (messages.Resolved t ∷ ms) = (t ≤ n) × AllBelow n ms

pub below_grows : (n m : ℕ) → n ≤ m → (ms : List Message) → AllBelow n ms → AllBelow m ms
below_grows n m low [] b = tt
below_grows n m low (messages.Row r ∷ ms) b = below_grows n m low ms b
below_grows n m low (messages.Resolved t ∷ ms) b = (omega arith, below_grows n m low ms b.1)

pub divides_stay : (p : List Effect) (d : Effect) → Allowed p d → (feed : Feed) → IsSettled p feed → (before : List Row) (ms : List Message) → AllBelow (closed_of p) ms → DividesList p feed before ms → DividesList (d ∷ p) feed before ms
divides_stay p d allowed feed settled before [] low h = tt
divides_stay p d allowed feed settled before (messages.Row r ∷ ms) low h = divides_stay p d allowed feed settled (before ++ r ∷ []) ms low h
divides_stay p d allowed feed settled before (messages.Resolved t ∷ ms) low h = grind (arith, common_steps, list_stays, divides_stay p d allowed feed settled before ms low.1 h.1)

-- joined messages
pub divides_join : (p : List Effect) (feed : Feed) (before : List Row) (ms ns : List Message) → DividesList p feed before ms → DividesList p feed (before ++ rows_in ms) ns → DividesList p feed before (ms ++ ns)
divides_join p feed before [] ns h k = subst (λ b. DividesList p feed b ns) (append-nil before) k
divides_join p feed before (messages.Row r ∷ ms) ns h k = divides_join p feed (before ++ r ∷ []) ms ns h (subst (λ b. DividesList p feed b ns) (sym (append_assoc before (r ∷ []) (rows_in ms))) k)
divides_join p feed before (messages.Resolved t ∷ ms) ns h k = (h.0, divides_join p feed before ms ns h.1 k)

pub apart_join : (gap n : ℕ) (ms ns : List Message) → ResolvedApart gap n ms → ResolvedApart gap (last_resolved n ms) ns → ResolvedApart gap n (ms ++ ns)
apart_join gap n [] ns h k = k
apart_join gap n (messages.Row r ∷ ms) ns h k = apart_join gap n ms ns h k
apart_join gap n (messages.Resolved t ∷ ms) ns h k = (h.0, apart_join gap t ms ns h.1 (let e : max n t ≡ t = omega arith in rw e at k))

-- resolved timestamps rise above n
abbrev pub ResolvedRise : ℕ → List Message → Type 0
ResolvedRise n [] = Unit {0}
ResolvedRise n (messages.Row r ∷ ms) = ResolvedRise n ms
ResolvedRise n (messages.Resolved t ∷ ms) = (n < t) × ResolvedRise t ms

-- a gap is no less than one
pub some_gap : (kind : Kind) → 1 ≤ least_gap kind
some_gap kind = omega arith

pub apart_rises : (gap n : ℕ) (ms : List Message) → 1 ≤ gap → ResolvedApart gap n ms → ResolvedRise n ms
apart_rises gap n [] some h = tt
apart_rises gap n (messages.Row r ∷ ms) some h = apart_rises gap n ms some h
apart_rises gap n (messages.Resolved t ∷ ms) some h = (omega (arith, h.0), apart_rises gap t ms some h.1)

pub below_join : (n : ℕ) (ms ns : List Message) → AllBelow n ms → AllBelow n ns → AllBelow n (ms ++ ns)
below_join n [] ns h k = k
below_join n (messages.Row r ∷ ms) ns h k = below_join n ms ns h k
below_join n (messages.Resolved t ∷ ms) ns h k = (h.0, below_join n ms ns h.1 k)

-- what comes next: some of these rows, and a resolved message only after all of them
pub record IsNext (p : List Effect) (feed : Feed) (n : ℕ) (before rows : List Row) (ms : List Message) : Type 0 where
  pub rest : (rest : List Row) × (rows ≡ rows_in ms ++ rest)
  pub divides : DividesList p feed before ms
  pub apart : ResolvedApart (least_gap feed.kind) n ms
  pub below : AllBelow (closed_of p) ms

abbrev pub due_if : Bool → ℕ → List Message
due_if b n = cond b (messages.Resolved n ∷ []) []

pub next_of : (p : List Effect) (feed : Feed) (n : ℕ) (b : Bool) → (b ≡ true → n + least_gap feed.kind ≤ closed_of p) → (m : ℕ) (before rows : List Row) → before ++ rows ≡ list_of p feed (closed_of p)
    → IsNext p feed n before rows (take m (map messages.Row rows ++ due_if b (closed_of p)))
next_of p feed n b above zero before rows is = record { rest = (rows, refl); divides = tt; apart = tt; below = tt }
next_of p feed n true above (suc m) before [] is = grind (arith, common_steps)
next_of p feed n false above (suc m) before [] is = record { rest = ([], refl); divides = tt; apart = tt; below = tt }
next_of p feed n b above (suc m) before (r ∷ rs) is = grind (arith, common_steps, next_of p feed n b above m (before ++ r ∷ []) rs)

-- what is kept of a feed
pub record IsFeeding (p : List Effect) (f : ℕ) (feed : Feed) : Type 0 where
  pub begins : (rest : List Row) × (list_of p feed (closed_of p) ≡ rows_in (told_to p f) ++ rest)
  pub divides : DividesList p feed [] (told_to p f)
  pub apart : ResolvedApart (least_gap feed.kind) (start_of feed) (told_to p f)
  pub below : AllBelow (closed_of p) (told_to p f)
  pub settled : IsSettled p feed

-- a deed that tells nothing of f
pub feeding_stays : (p : List Effect) (d : Effect) → Allowed p d → (f : ℕ) (feed : Feed) → told_to (d ∷ p) f ≡ told_to p f → IsFeeding p f feed → IsFeeding (d ∷ p) f feed
feeding_stays p d allowed f feed same h =
    let grows : closed_of p ≤ closed_of (d ∷ p) = closed_grows p d allowed in
    let more = list_above (d ∷ p) feed (closed_of p) (closed_of (d ∷ p)) grows in
    let was = list_stays p d allowed feed h.settled (closed_of p) (omega arith) ∙ h.begins.1 in record {
      begins = (
        h.begins.0 ++ more.0,
        more.1 ∙ ap (λ l. l ++ more.0) was ∙ append_assoc (rows_in (told_to p f)) h.begins.0 more.0
            ∙ ap (λ ms. rows_in ms ++ (h.begins.0 ++ more.0)) (sym same),
      );
      divides = rw same (divides_stay p d allowed feed h.settled [] (told_to p f) h.below h.divides);
      apart = rw same h.apart;
      below = rw same (below_grows (closed_of p) (closed_of (d ∷ p)) grows (told_to p f) h.below);
      settled = λ is. let low : feed.cursor ≤ closed_of p = h.settled is in omega arith;
    }

-- the feed tells its next messages
pub feeding_tells : (p : List Effect) (f g m : ℕ) (ms : List Message) (feed : Feed) → Allowed p (Polls g m ms) → g ≡ f → (h : IsFeeding p f feed)
    → IsNext p feed (resolved_of p f feed) (rows_in (told_to p f)) h.begins.0 ms → IsFeeding (Polls g m ms ∷ p) f feed
feeding_tells p f g m ms feed allowed e h new = grind (arith, common_steps, eq-eqb, below_join, divides_join, list_stays, filter_map-append, divides_stay, apart_join)

-- the rows that were not told are those after the told ones
pub untold_is : (p : List Effect) (f : ℕ) (feed : Feed) (rest : List Row) → list_of p feed (closed_of p) ≡ rows_in (told_to p f) ++ rest → untold_rows p f feed ≡ rest
untold_is p f feed rest is =
    let rises : RisingRows (rows_in (told_to p f) ++ rest) = subst RisingRows is (list_rises p feed (closed_of p)) in
    ap (filter (λ r. not (is_told (rows_in (told_to p f)) r))) is ∙ left_untold (rows_in (told_to p f)) rest rises

-- a resolved message that is due is the gap above what was resolved last
pub due_apart : (kind : Kind) (n c : ℕ) → is_due kind n c ≡ true → n + least_gap kind ≤ c
due_apart kind n c is = grind (arith, common_steps)

pub due_above : (kind : Kind) (n c : ℕ) → is_due kind n c ≡ true → n < c
due_above kind n c is = let far : n + least_gap kind ≤ c = due_apart kind n c is in let some : 1 ≤ least_gap kind = some_gap kind in omega arith

-- what is told is what comes next
pub told_next : (p : List Effect) (f m : ℕ) (feed : Feed) → (h : IsFeeding p f feed) → IsNext p feed (resolved_of p f feed) (rows_in (told_to p f)) h.begins.0 (next_messages p f feed m)
told_next p f m feed h =
    let left : untold_rows p f feed ≡ h.begins.0 = untold_is p f feed h.begins.0 h.begins.1 in
    subst (λ l. IsNext p feed (resolved_of p f feed) (rows_in (told_to p f)) h.begins.0 (take m (map messages.Row l ++ due_message p f feed))) (sym left)
    (next_of p feed (resolved_of p f feed) (is_due feed.kind (resolved_of p f feed) (closed_of p)) (λ e. due_apart feed.kind (resolved_of p f feed) (closed_of p) e) m (rows_in (told_to p f)) h.begins.0 (sym h.begins.1))

-- a feed that wasn't opened has told nothing
pub unopened : (p : List Effect) → AllAllowed p → (f : ℕ) → feeds_opened p < f → (feed_of p f ≡ None) × (told_to p f ≡ [])
unopened [] all f above = (refl, refl)
unopened (_ ∷ p) all f above = grind (arith, common_steps, unopened p all.1)

-- a feed that wasn't opened wasn't cancelled
pub uncancelled : (p : List Effect) → AllAllowed p → (f : ℕ) → feeds_opened p < f → is_cancelled p f ≡ false
uncancelled [] all f above = refl
uncancelled (_ ∷ p) all f above = grind (arith, common_steps, eqb-true, unopened, uncancelled p all.1)

-- what a poll of the feed told
pub polled : (p : List Effect) (f g m : ℕ) (ms : List Message) (feed : Feed) → Allowed p (Polls g m ms) → g ≡ f → feed_of p f ≡ Some feed
    → (ms ≡ next_messages p f feed m) × (is_cancelled p f ≡ false)
polled p f g m ms feed allowed e is = grind (arith, common_steps)

pub feeding : (p : List Effect) → AllAllowed p → (f : ℕ) (feed : Feed) → feed_of p f ≡ Some feed → IsFeeding p f feed
feeding [] all f feed is = cc
feeding (Opens g seat kind span cursor ∷ p) all f feed is = by_test (g == f)
    (λ same. let none = (unopened p all.1 f (let e = eqb-true g f same in omega (arith, all.0.0))).1 in record {
      begins = (list_of (Opens g seat kind span cursor ∷ p) feed (closed_of p), rw none refl);
      divides = rw none tt;
      apart = rw none tt;
      below = rw none tt;
      settled = (let one : record { seat = seat; kind = kind; span = span; cursor = cursor } ≡ feed = (let both : Some (record { seat = seat; kind = kind; span = span; cursor = cursor }) ≡ Some feed = rw same at is in cc) in subst (IsSettled p) one all.0.2);
    })
    (λ other. feeding_stays p (Opens g seat kind span cursor) all.0 f feed refl (feeding p all.1 f feed (rw other at is)))
feeding (Polls g m ms ∷ p) all f feed is = by_test (g == f)
    (λ same. let e = eqb-true g f same in let h = feeding p all.1 f feed is in
    feeding_tells p f g m ms feed all.0 e h (subst (IsNext p feed (resolved_of p f feed) (rows_in (told_to p f)) h.begins.0) (sym (polled p f g m ms feed all.0 e is).0) (told_next p f m feed h)))
    (λ other. feeding_stays p (Polls g m ms) all.0 f feed (rw other refl) (feeding p all.1 f feed is))
feeding (d ∷ p) all f feed is = feeding_stays p d all.0 f feed refl (feeding p all.1 f feed is)

-- nothing after a cancellation
pub silent : (p : List Effect) → AllAllowed p → (f : ℕ) → IsSilentAfterCancel p f
silent [] all f = tt
silent (_ ∷ p) all f = grind (arith, common_steps, silent p all.1 f)

-- a short reply has all that there was
whole_take : {A : Type 0} (m : ℕ) (xs : List A) → length (take m xs) < m → take m xs ≡ xs
whole_take zero xs low = absurd (omega arith)
whole_take (suc m) [] low = refl
whole_take (suc m) (x ∷ xs) low = ap (λ l. x ∷ l) (whole_take m xs (omega arith))

pub resolved_join : (n : ℕ) (ms ns : List Message) → last_resolved n (ms ++ ns) ≡ last_resolved (last_resolved n ms) ns
resolved_join n [] ns = refl
resolved_join n (messages.Row r ∷ ms) ns = resolved_join n ms ns
resolved_join n (messages.Resolved t ∷ ms) ns = resolved_join (max n t) ms ns

-- the row that is told last of two lists of messages
pub last_join : (o : Option VersionName) (ms ns : List Message) → last_name o (ms ++ ns) ≡ last_name (last_name o ms) ns
last_join o [] ns = refl
last_join o (messages.Row r ∷ ms) ns = last_join (Some (name_of r)) ms ns
last_join o (messages.Resolved t ∷ ms) ns = last_join o ms ns

resolved_rows : (n : ℕ) (rs : List Row) (ms : List Message) → last_resolved n (map messages.Row rs ++ ms) ≡ last_resolved n ms
resolved_rows n [] ms = refl
resolved_rows n (r ∷ rs) ms = resolved_rows n rs ms

rows_whole : (rs : List Row) (b : Bool) (n : ℕ) → rows_in (map messages.Row rs ++ due_if b n) ≡ rs
rows_whole [] true n = refl
rows_whole [] false n = refl
rows_whole (r ∷ rs) b n = ap (λ l. r ∷ l) (rows_whole rs b n)

-- nothing is due once the resolved message that was due is told
due_told : (kind : Kind) (n k : ℕ) → is_due kind (last_resolved n (due_if (is_due kind n k) k)) k ≡ false
due_told kind n k = grind (arith, common_steps)

pub exhausted : (p : List Effect) (f g m : ℕ) (ms : List Message) (feed : Feed) → Allowed p (Polls g m ms) → g ≡ f → ms ≡ next_messages p f feed m
    → IsFeeding p f feed → length ms < m
    → (untold_rows (Polls g m ms ∷ p) f feed ≡ []) × (due_message (Polls g m ms ∷ p) f feed ≡ [])
exhausted p f g m ms feed allowed e told h short =
    let left : untold_rows p f feed ≡ h.begins.0 = untold_is p f feed h.begins.0 h.begins.1 in
    let all : ms ≡ map messages.Row h.begins.0 ++ due_message p f feed = told
    ∙ whole_take m (map messages.Row (untold_rows p f feed) ++ due_message p f feed) (subst (λ l. length l < m) told short)
    ∙ ap (λ l. map messages.Row l ++ due_message p f feed) left in
    let now : told_to (Polls g m ms ∷ p) f ≡ told_to p f ++ (map messages.Row h.begins.0 ++ due_message p f feed) = rw (eq-eqb g f e) (ap (λ l. told_to p f ++ l) all) in
    let rows : rows_in (told_to (Polls g m ms ∷ p) f) ≡ list_of p feed (closed_of p) = grind (arith, common_steps, filter_map-append, rows_whole) in
    let last : resolved_of (Polls g m ms ∷ p) f feed ≡ last_resolved (resolved_of p f feed) (due_message p f feed) =
    ap (last_resolved (start_of feed)) now ∙ resolved_join (start_of feed) (told_to p f) (map messages.Row h.begins.0 ++ due_message p f feed) ∙ resolved_rows (resolved_of p f feed) h.begins.0 (due_message p f feed) in (
      untold_is (Polls g m ms ∷ p) f feed [] (list_stays p (Polls g m ms) allowed feed h.settled (closed_of p) (omega arith) ∙ sym rows
          ∙ sym (append-nil _)),
      ap (λ n. due_if (is_due feed.kind n (closed_of p)) (closed_of p)) last ∙ ap (λ b. due_if b (closed_of p)) (due_told feed.kind (resolved_of p f feed) (closed_of p)),
    )

pub unknown_exhausts : (p : List Effect) → AllAllowed p → (f : ℕ) (feed : Feed) → feed_of p f ≡ None → LeavesNothingDue p f feed
unknown_exhausts [] all f feed none = tt
unknown_exhausts (_ ∷ p) all f feed none = grind (arith, common_steps, unknown_exhausts p all.1)

pub exhausts : (p : List Effect) → AllAllowed p → (f : ℕ) (feed : Feed) → feed_of p f ≡ Some feed → LeavesNothingDue p f feed
exhausts [] all f feed is = tt
exhausts (Opens g seat kind span cursor ∷ p) all f feed is = grind (arith, common_steps, unknown_exhausts, unopened, eqb-true, exhausts p all.1 f feed)
exhausts (Polls g m ms ∷ p) all f feed is = (λ e short. exhausted p f g m ms feed all.0 e (polled p f g m ms feed all.0 e is).0 (feeding p all.1 f feed is) short, exhausts p all.1 f feed is)
exhausts (_ ∷ p) all f feed is = exhausts p all.1 f feed is

-- where no resolved message is due any more, closed is nearer than the gap
pub reaches : (p : List Effect) (f : ℕ) (feed : Feed) → LeavesNothingDue p f feed → ReachesClosed p f feed
reaches [] f feed h = tt
reaches (Polls g m ms ∷ p) f feed h = grind (arith, common_steps, reaches p f feed h.1)
reaches (_ ∷ p) f feed h = reaches p f feed h

-- each feed's resolved timestamps rise
pub feed_rises : (p : List Effect) (f : ℕ) (feed : Feed) → IsFeeding p f feed → ResolvedRise (start_of feed) (told_to p f)
feed_rises p f feed h = apart_rises (least_gap feed.kind) (start_of feed) (told_to p f) (some_gap feed.kind) h.apart

all_above : (t : ℕ) (ms : List Message) (rest : List Row) → RowsAbove t (rows_in ms ++ rest) → RowsAreAbove t ms
all_above t [] rest h = tt
all_above t (messages.Row r ∷ ms) rest h = (h.0, all_above t ms rest h.1)
all_above t (messages.Resolved n ∷ ms) rest h = all_above t ms rest h

pub cancel_front : (xs ys zs : List Row) → xs ++ ys ≡ xs ++ zs → ys ≡ zs
cancel_front xs ys zs e = sym (drop-append_seam xs ys) ∙ ap (drop (length xs)) e ∙ drop-append_seam xs zs

-- what a list goes on with after a closed timestamp is above that
pub rest_past : (p : List Effect) (feed : Feed) (t : ℕ) (rest : List Row) → t ≤ closed_of p
    → list_of p feed t ++ rest ≡ list_of p feed (closed_of p) → RowsAbove t rest
rest_past p feed t rest low is =
    let more = list_above p feed t (closed_of p) low in subst (RowsAbove t) (sym (cancel_front (list_of p feed t) rest more.0 (is ∙ more.1))) more.2

pub parts_of : (p : List Effect) (feed : Feed) (before : List Row) (ms : List Message) (rest : List Row) → before ++ (rows_in ms ++ rest) ≡ list_of p feed (closed_of p)
    → DividesList p feed before ms → AllBelow (closed_of p) ms → RowsFollowResolved ms
parts_of p feed before [] rest is h below = tt
parts_of p feed before (messages.Row r ∷ ms) rest is h below = parts_of p feed (before ++ r ∷ []) ms rest (append_assoc before (r ∷ []) (rows_in ms ++ rest) ∙ is) h below
parts_of p feed before (messages.Resolved t ∷ ms) rest is h below = grind (arith, common_steps, rest_past, all_above, parts_of p feed before ms rest is h.1 below.1)

-- each feed is right
pub fed : (p : List Effect) → AllAllowed p → (f : ℕ) (feed : Feed) → feed_of p f ≡ Some feed → FeedIsRight p f feed
fed p all f feed is = let h = feeding p all f feed is in record {
  begins = λ n low. let more = list_above p feed (closed_of p) n low in (h.begins.0 ++ more.0, grind (arith, common_steps, append_assoc));
  divides = h.divides;
  follows = parts_of p feed [] (told_to p f) h.begins.0 (sym h.begins.1) h.divides h.below;
  apart = h.apart;
  silent = silent p all f;
  exhausts = exhausts p all f feed is;
  reaches = reaches p f feed (exhausts p all f feed is);
}
