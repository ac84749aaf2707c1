-- How far the layers have come is how far the history has.
use Rattle.std.proofs.Common.{List, None, Option, Some, ap, arith, false, inl, inr, map, refl, reverse, sym, true, ℕ, ◌++◌, ◌∙◌, ◌∷◌, ◌≡◌, ◌≤◌, []}
use Rattle.std.specs.Prelude.{is_some, min, nat_le, option_map}
use Rattle.std.proofs.lemmas.Grind.{common_steps}
use Rattle.engine.proofs.Common.{AllAllowed, Effect, Event, IsKeptOf, IsLeastFloor, IsReachedIn, Kept, Protection, by_test, closed_of, closing_of, effects_of, feed_limit, first_least, floor_of, least_floor_is, least_of, legal_allowed, limit, limit_of, live_feeds, map-append, nat_tests, or_min, place_floor, place_floor_is, place_of, protection_limit, protections_of, reverse-append, used_is}
use Rattle.spans.specs.declared.report.Holder.TheVariants as holders
use Rattle.spans.specs.declared.report.Limit.{Limit}
use Rattle.spans.proofs.Horizon.{least_join}
use Rattle.kept.specs.StandsFor as keeping
use Rattle.kept.specs.Finding as table
use Rattle.kept.proofs.AfterCloses.{open_is}
use Rattle.mvto_rules.specs.Holding.{IsLimit}
use Rattle.engine.specs.Layers.{kept_of, HavePlaces}
use Rattle.engine.specs.Looking.{ArePlaces, IsOldest, IsReached, feed_floor}
use Rattle.engine.specs.declared.layers.Layers.{Layers}
use Rattle.engine.specs.declared.looking.Places.{Places}

-- ---- transactions

oldest_is : (k : Kept) (p : List Effect) → AllAllowed p → IsKeptOf k p → (o : Option ℕ) → table.IsOldest k.transaction o → IsOldest p o
oldest_is k p all fits None none = λ t. sym (open_is k p all fits t) ∙ none t
oldest_is k p all fits (Some o) is = (sym (open_is k p all fits o) ∙ is.0, λ t undecided. is.1 t (open_is k p all fits t ∙ undecided))

-- only above closed a transaction is kept
kept_above : (k : Kept) (p : List Effect) → IsKeptOf k p → (t : ℕ) → is_some (k.transaction t) ≡ true → nat_le t (closed_of p) ≡ false
kept_above k p fits t is = grind (arith, nat_tests, common_steps, fits.transactions t)

reached_is : (k : Kept) (p : List Effect) → IsKeptOf k p → (n : ℕ) → IsReachedIn k n → IsReached p n
reached_is k p fits n is = record {
  closed = omega (arith, is.closed, fits.closed_at);
  begun = λ t begun. by_test (nat_le t (closed_of p))
      (λ low. let under : t ≤ closed_of p = grind (arith, nat_tests) in omega (arith, under, is.closed, fits.closed_at))
      (λ high. is.begun t (used_is k p fits t high ∙ begun));
  least = elim is.least [
    | inl closed ↦ inl (closed ∙ fits.closed_at)
    | inr begun ↦ inr (sym (used_is k p fits n (kept_above k p fits n begun)) ∙ begun)
  ];
}

-- ---- what holds a collection back

-- a number more
least_more : (a n : ℕ) (ns : List ℕ) → least_of (min a n) ns ≡ min a (least_of n ns)
least_more a n [] = refl
least_more a n (m ∷ ns) = let e = least_more a n ns in omega (arith, e)

-- the first of the least stands at the least
first_at : (l : Limit) (ms : List Limit) → (first_least l ms).at ≡ least_of l.at (map (λ (m : Limit). m.at) ms)
first_at l [] = refl
first_at l (m ∷ ms) = grind (arith, nat_tests, common_steps, first_at l ms, first_at m ms, least_more m.at l.at (map (λ (k : Limit). k.at) ms))

-- in the other order
least_turned : {A : Type 0} (n : ℕ) (f : A → ℕ) (xs : List A) → least_of n (map f (reverse xs)) ≡ least_of n (map f xs)
least_turned n f [] = refl
least_turned n f (x ∷ xs) = grind (arith, common_steps, least_turned n f xs, least_join n (map f (reverse xs)) (f x ∷ []), reverse-append (x ∷ []) xs, map-append f (reverse xs) (x ∷ []), least_more (f x) n (map f (reverse xs)))

-- the timestamps of limits
at_each : {A : Type 0} (f : A → Limit) (xs : List A) → map (λ (m : Limit). m.at) (map f xs) ≡ map (λ x. (f x).at) xs
at_each f [] = refl
at_each f (x ∷ xs) = ap (λ l. (f x).at ∷ l) (at_each f xs)

-- the limit stands at the least of closed, the floors and the protections
limit_at : (p : List Effect) → (limit_of p).at ≡ least_of (least_of (closed_of p) (map (floor_of p) (live_feeds p))) (map (λ (n : Protection). n.at) (protections_of p))
limit_at p =
    let n = closed_of p in
    let ps = protections_of p in
    let ws = live_feeds p in
    let at : Protection → ℕ = λ x. x.at in
    first_at (limit n holders.Closed) (map protection_limit (reverse ps) ++ map (feed_limit p) (reverse ws))
    ∙ ap (least_of n) (map-append (λ (m : Limit). m.at) (map protection_limit (reverse ps)) (map (feed_limit p) (reverse ws)))
    ∙ ap (λ l. least_of n (l ++ map (λ (m : Limit). m.at) (map (feed_limit p) (reverse ws)))) (at_each protection_limit (reverse ps))
    ∙ ap (λ l. least_of n (map at (reverse ps) ++ l)) (at_each (feed_limit p) (reverse ws))
    ∙ least_join n (map at (reverse ps)) (map (floor_of p) (reverse ws))
    ∙ ap (λ k. least_of k (map at (reverse ps))) (least_turned n (floor_of p) ws)
    ∙ least_turned (least_of n (map (floor_of p) ws)) at ps

limit_is : (e : Layers) (p : List Effect) → AllAllowed p → IsKeptOf (kept_of e) p → (floor : Option ℕ) (n : ℕ) → IsLeastFloor (kept_of e).feed floor → IsLimit (closing_of e.rules) floor n → n ≡ (limit_of p).at
limit_is e p all fits floor n lowest is =
    let k = kept_of e in
    is.is ∙ is.least (or_min floor k.closed)
    ∙ ap (λ ps. least_of (or_min floor k.closed) (map (λ (n : Protection). n.at) ps)) fits.protected
    ∙ ap (λ m. least_of m (map (λ (n : Protection). n.at) (protections_of p))) (least_floor_is k p all fits floor lowest k.closed ∙ ap (λ m. least_of m (map (floor_of p) (live_feeds p))) fits.closed_at)
    ∙ sym (limit_at p)

-- ---- all of it

pub places_are : (e : Layers) (h : List Event) (places : Places) → keeping.StandsFor (kept_of e) h → HavePlaces e places → ArePlaces (effects_of h) places
places_are e h places stands is =
    let all = legal_allowed h stands.legal in
    let fits = stands.fits in record {
      closed = is.closed ∙ fits.closed_at;
      horizon = is.horizon ∙ fits.horizon_at;
      limit = limit_is e (effects_of h) all fits is.limit.0 places.limit is.limit.1 is.limit.2;
      oldest = oldest_is (kept_of e) (effects_of h) all fits places.oldest is.oldest;
      reached = reached_is (kept_of e) (effects_of h) fits places.reached is.reached;
    }

-- the floor of the place of a feed that lives
pub feed_floor_is : (p : List Effect) → AllAllowed p → (f : ℕ) → option_map place_floor (place_of p f) ≡ feed_floor p f
feed_floor_is p all f = grind (arith, common_steps, place_floor_is p all f)
