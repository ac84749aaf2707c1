-- What a feed is told, and where its place is then.
use Rattle.std.proofs.Common.{List, None, Option, Some, [], ap, get_or, length, map, refl, subst, sym, take, ℕ, ◌+◌, ◌<◌, ◌≡◌, ◌≤◌, ◌++◌, ◌∷◌, ◌∙◌}
use Rattle.feed.proofs.Common.{Message, Place, Row, Stored, VersionName, last_name, last_resolved, moved, name_of, take-map, take_again, take_few, take_more}
use Rattle.spans.specs.declared.calls.messages.Message.TheVariants as messages
use Rattle.spans.proofs.Feeding.{last_join, resolved_join}
use Rattle.feed.specs.Standing.{arrived_at, due_at, due_in, row_or, AreNextAt, IsPolledBy, IsPut, Standing, place_in}
use Rattle.feed.specs.Left.{IsTold}
use Rattle.feed.specs.declared.live.telling.Told.{Told}

-- the last row of some messages, or else that of before
last_name_is : (p o : Option VersionName) (ms : List Message) → row_or (last_name p ms) o ≡ last_name (row_or p o) ms
last_name_is p o [] = refl
last_name_is p o (messages.Row r ∷ ms) = last_name_is (Some (name_of r)) o ms
last_name_is p o (messages.Resolved t ∷ ms) = last_name_is p o ms

pub next_resolved : (n i : ℕ) (ms : List Message) (m : Message) → i < length ms → m ≡ get_or ms i m → last_resolved n (take (i + 1) ms) ≡ last_resolved (last_resolved n (take i ms)) (m ∷ [])
next_resolved n i ms m low is = ap (last_resolved n) (take_more ms i m low ∙ ap (λ d. take i ms ++ d ∷ []) (sym is)) ∙ resolved_join n (take i ms) (m ∷ [])

pub next_row : (i : ℕ) (ms : List Message) (m : Message) → i < length ms → m ≡ get_or ms i m → last_name None (take (i + 1) ms) ≡ last_name (last_name None (take i ms)) (m ∷ [])
next_row i ms m low is = ap (last_name None) (take_more ms i m low ∙ ap (λ d. take i ms ++ d ∷ []) (sym is)) ∙ last_join None (take i ms) (m ∷ [])

-- the next rows, as messages
pub next_few : (store : Stored) (place : Place) (closed most : ℕ) (rows : List Row) (ms : List Message) → AreNextAt store place closed most rows → ms ≡ map messages.Row rows → length ms ≤ most
next_few store place closed most rows ms next is = subst (λ ns. length ns ≤ most) (sym (is ∙ ap (map messages.Row) next.first ∙ sym (take-map messages.Row most next.all))) (take_few most (map messages.Row next.all))

-- with the resolved message
pub told_due : (store : Stored) (place : Place) (closed most : ℕ) (rows : List Row) (ms : List Message) (due : Option ℕ) (told : Told) → AreNextAt store place closed most rows → ms ≡ map messages.Row rows → due_in place closed ≡ due_at due
    → told.messages.items ≡ take most (ms ++ due_at due) → told.place.after ≡ last_resolved place.after told.messages.items → told.place.row ≡ last_name None told.messages.items → IsTold store place closed most told
told_due store place closed most rows ms due told next rows_are is all after row = record {
  rows = next.all;
  left = next.left;
  first =
      all
      ∙ ap (λ ns. take most (ns ++ due_at due)) (rows_are ∙ ap (map messages.Row) next.first ∙ sym (take-map messages.Row most next.all))
      ∙ take_again most (map messages.Row next.all) (due_at due)
      ∙ ap (λ ns. take most (map messages.Row next.all ++ ns)) (sym is);
  after = after;
  row = row;
}

-- the poll of a feed that goes to where it is told
pub polled_by : (store : Stored) (s s' : Standing) (seat f closed most : ℕ) (place : Place) (told : Told) → place_in s f ≡ Some place → place.seat ≡ seat → IsTold store place closed most told
    → IsPut s s' f (Some (arrived_at told.place.after told.place.row place)) → IsPolledBy store s s' seat f closed most told.messages.items
polled_by store s s' seat f closed most place told lives owner is put = record {
  place = place;
  lives = lives;
  owner = owner;
  rows = is.rows;
  left = is.left;
  told = is.first;
  put = subst (λ (v : Place). IsPut s s' f (Some v)) there put;
}
  where
    there : arrived_at told.place.after told.place.row place ≡ moved told.messages.items place
    there =
        ap (λ n. arrived_at n told.place.row place) is.after
        ∙ ap (λ o. record { seat = place.seat; kind = place.kind; span = place.span; cursor = place.cursor; after = last_resolved place.after told.messages.items; row = o })
        (ap (λ o. row_or o place.row) is.row ∙ last_name_is None place.row told.messages.items)
