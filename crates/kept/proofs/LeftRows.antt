-- The rows that are left for a feed, in two parts.
use Rattle.kept.proofs.Common.{Event, Kept, Place, Row, VersionName, and_parts, common_steps, in_append, is_after_name, lt-ltb, ltb-true, name_order, or_left, rises_append, start_at, take-take}
use Rattle.std.proofs.Common.{false, true, sym, List, Some, [], ap, arith, length, subst, take, ℕ, ◌++◌, ◌-◌, ◌<◌, ◌∙◌, ◌≡◌, ◌≤◌}
use Rattle.std.specs.Prelude.{true}
use Rattle.spans.proofs.Taking.{resolved_grows}
use Rattle.spans.proofs.Lists.{take_both}
use Rattle.kept.specs.Places.{AreFirsts, AreLeft, AreNext, AreStored, IsFirst}
use Rattle.kept.specs.StandsFor.{StandsFor}
use Rattle.kept.proofs.Floors.{placed_by}

-- the two parts are what is left
pub parts_left : (k : Kept) (place : Place) (firsts stored : List Row) → AreFirsts k.version place firsts → AreStored k.version k.committed place k.closed stored → AreLeft k.version k.committed place k.closed (firsts ++ stored)
parts_left k place firsts stored f s = grind (arith, common_steps, rises_append, or_left, lt-ltb, in_append)

-- so the next are those of the first part, and of the second where there is room
pub parts_next : (k : Kept) (place : Place) (max : ℕ) (firsts stored : List Row) → AreFirsts k.version place firsts → AreStored k.version k.committed place k.closed stored → AreNext k place max (take max firsts ++ take (max - length firsts) stored)
parts_next k place max firsts stored f s = record {
  all = firsts ++ stored;
  left = parts_left k place firsts stored f s;
  first = ap (take max) (take_both max firsts stored) ∙ take-take max max (firsts ++ stored) (omega arith);
}

-- where no row is a first one, none are
none_are : (k : Kept) (place : Place) → ((r : Row) → IsFirst k.version place r → ⊥) → AreFirsts k.version place []
none_are k place none = record { rising = tt; each = λ r. (λ i. absurd i, λ i. absurd (none r i)) }

-- of a feed of another kind
pub another_none : (k : Kept) (place : Place) → place.kind.initial ≡ false → AreFirsts k.version place []
another_none k place other = none_are k place (λ r i. absurd (let no' : false ≡ true = sym other ∙ i.initial in cc))

-- of a feed that resolved its cursor or more
pub resolved_none : (k : Kept) (place : Place) → place.cursor ≤ place.after → AreFirsts k.version place []
resolved_none k place low = none_are k place (λ r i. let above : place.after < r.ts = ltb-true _ _ (and_parts _ _ i.later).0 in omega (arith, i.at))

-- of a feed that was told a row above its cursor
pub past_none : (k : Kept) (place : Place) (n : VersionName) → place.row ≡ Some n → place.cursor < n.ts → AreFirsts k.version place []
past_none k place n is above = none_are k place (λ r i. let after : is_after_name (Some n) r ≡ true = subst (λ o. is_after_name o r ≡ true) is (and_parts _ _ i.later).1 in let low : n.ts ≤ r.ts = name_order n r after in omega (arith, i.at))

-- what was told lies at or above the feed's start
pub placed_above : (k : Kept) (h : List Event) (f : ℕ) (place : Place) → StandsFor k h → k.feed f ≡ Some place → start_at place.kind place.cursor ≤ place.after
placed_above k h f place stands at = grind (arith, common_steps, placed_by, resolved_grows)
