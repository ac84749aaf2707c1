-- The limit of a legal history is how far a collection up to closed goes.
use Rattle.std.proofs.Common.{◌≡◌, ℕ, ◌≤◌, List, [], ◌∷◌, ◌++◌, map, reverse, refl, ◌∙◌, ap, arith}
use Rattle.std.specs.Prelude.{min}
use Rattle.spans.specs.declared.report.Limit.{Limit}
use Rattle.spans.specs.declared.report.Holder.TheVariants as holders
use Rattle.spans.proofs.FeedFloors.{live_floor_high}
use Rattle.spans.proofs.ReportLimit.{first_least-append}
use Rattle.plain_database.proofs.Common.{Event, Has, IsLegal, Protection, closed_of, collection_horizon, common_steps, effects_of, feed_limit, first_least, floor_of, horizon_low, horizon_of, least_of, legal_allowed, limit, limit_of, live_feeds, map-append, nat_tests, protection_limit, protections_high, protections_of, reverse-append}

-- the first of the least stands at the least
first_at : {A : Type 0} (l : Limit) (f : A → Limit) (xs : List A) → (first_least l (map f (reverse xs))).at ≡ least_of l.at (map (λ x. (f x).at) xs)
first_at l f [] = refl
first_at l f (x ∷ xs) = grind (arith, common_steps, nat_tests, reverse-append, map-append, first_least-append, first_at l f xs)

-- a number more, and more numbers
least_more : (a n : ℕ) (ns : List ℕ) → least_of (min a n) ns ≡ min a (least_of n ns)
least_more a n [] = refl
least_more a n (m ∷ ns) = omega (arith, least_more a n ns)

least_both : (n : ℕ) (ms ns : List ℕ) → least_of n (ms ++ ns) ≡ least_of (least_of n ms) ns
least_both n [] ns = refl
least_both n (m ∷ ms) ns = omega (arith, least_more m (least_of n ms) ns, least_both n ms ns)

-- what is at or below each is at or below the least
least_over : {A : Type 0} (k n : ℕ) (f : A → ℕ) (xs : List A) → k ≤ n → ((x : A) → Has x xs → k ≤ f x) → k ≤ least_of n (map f xs)
least_over k n f [] low each = low
least_over k n f (x ∷ xs) low each = grind (arith, common_steps, least_over k n f xs low)

pub limit_reached : (h : List Event) → IsLegal h → (limit_of (effects_of h)).at ≡ collection_horizon (effects_of h) (closed_of (effects_of h))
limit_reached h legal =
    let p = effects_of h in
    let all = legal_allowed h legal in
    let n = closed_of p in
    let ps = protections_of p in
    let ws = live_feeds p in
    let at : Protection → ℕ = λ x. x.at in
    let first = first_least (limit n holders.Closed) (map protection_limit (reverse ps)) in
    let found : (limit_of p).at ≡ least_of (least_of n (map at ps)) (map (floor_of p) ws) =
    ap (λ (l : Limit). l.at) (first_least-append (limit n holders.Closed) (map protection_limit (reverse ps)) (map (feed_limit p) (reverse ws)))
    ∙ first_at first (feed_limit p) ws ∙ ap (λ k. least_of k (map (floor_of p) ws)) (first_at (limit n holders.Closed) protection_limit ps) in
    let low = least_over (horizon_of p) (least_of n (map at ps)) (floor_of p) ws (least_over (horizon_of p) n at ps (horizon_low p all) (protections_high p all)) (live_floor_high p all) in
    let same : min n n ≡ n = omega arith in
    omega (arith, found, low, least_both n (map at ps) (map (floor_of p) ws), ap (λ k. least_of k (map at ps ++ map (floor_of p) ws)) same)
