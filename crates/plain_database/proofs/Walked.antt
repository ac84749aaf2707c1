-- What a walk of the table adds up, one timestamp after another.
use Rattle.std.proofs.Common.{◌≡◌, ℕ, zero, suc, ◌+◌, ◌-◌, ◌≤◌, List, [], ◌∷◌, length, Some, None, refl, ap, inl, inr, arith}
use Rattle.std.specs.Prelude.{filter, is_some}
use Rattle.std.specs.List.Sorted.{IsStrictlySortedBy}
use Rattle.plain_database.proofs.Common.{After, AllAllowed, AllByRecursion, AreDistinct, Effect, Excluded, Has, Included, Less, Version, closed_of, common_steps, dead_of, entries_between, horizon_of, is_at, is_eq-slice_cmp, key_cmp, key_itself, keys_of, length-map, lookup, nat_cmp, nat_tests, newest, newest_same, same_key, version_of}
use Rattle.plain_database.specs.Table.{AllBegun, begun_at}
use Rattle.plain_database.specs.VersionsTied.{Held, VersionsTied, version_in, deaths_by, newly_dead, standing, versions_between}
use Rattle.spans.specs.Effects.{Collects}
use Rattle.plain_database.proofs.Dead.{dead_next, dying, is_deleted, is_replaced}
use Rattle.plain_database.proofs.Passed.{between_are, distinct_keys, keys_at, through_more, versions_through}

-- what the versions of the transactions add up to
abbrev pub total : Held → (ℕ → List (List ℕ × After) → ℕ) → AllBegun → ℕ
total h k [] = 0
total h k (e ∷ es) = k e.0 (standing h e.0 (Some e.1)) + total h k es

abbrev pub between : ℕ → ℕ → AllBegun → AllBegun
between low high es = entries_between nat_cmp (Excluded low) (Included high) es

-- no transaction is between two timestamps that don't rise
total_none : (h : Held) (k : ℕ → List (List ℕ × After) → ℕ) (low high : ℕ) (es : AllBegun) → high ≤ low → total h k (between low high es) ≡ 0
total_none h k low high [] over = refl
total_none h k low high (e ∷ es) over = grind (arith, common_steps, nat_tests, total_none h k low high es)

-- none is at or below one that is below the others
none_below : (t : ℕ) (es : AllBegun) (u : ℕ) → u ≤ t → AllByRecursion (λ i. nat_cmp t i ≡ Less) (keys_of es) → begun_at es u ≡ None
none_below t [] u low all = refl
none_below t (e ∷ es) u low all = grind (arith, common_steps, nat_tests, none_below t es u)

-- one timestamp more
total_more : (h : Held) (k : ℕ → List (List ℕ × After) → ℕ) → ((t : ℕ) → k t [] ≡ 0) → (low n : ℕ) → low ≤ n → (es : AllBegun) → IsStrictlySortedBy nat_cmp (keys_of es)
    → total h k (between low (suc n) es) ≡ total h k (between low n es) + k (suc n) (standing h (suc n) (begun_at es (suc n)))
unfolding IsStrictlySortedBy
total_more h k none low n under [] sorted = omega (arith, none (suc n))
total_more h k none low n under (e ∷ es) sorted = grind (arith, common_steps, nat_tests, none_below e.0 es (suc n), total_more h k none low n under es)

-- a number that grows, timestamp by timestamp, by what the versions there add
walk : (f : ℕ → ℕ) (h : Held) (k : ℕ → List (List ℕ × After) → ℕ) → ((t : ℕ) → k t [] ≡ 0) → IsStrictlySortedBy nat_cmp (keys_of h.table) → (low high : ℕ) → low ≤ high
    → ((n : ℕ) → low ≤ n → suc n ≤ high → f (suc n) ≡ f n + k (suc n) (standing h (suc n) (begun_at h.table (suc n)))) → f high ≡ f low + total h k (between low high h.table)
walk f h k none sorted low zero under step = grind (arith, common_steps, total_none h k low 0 h.table)
walk f h k none sorted low (suc n) under step = grind (arith, common_steps, step n, total_none h k low (suc n) h.table, total_more h k none low n, walk f h k none sorted low n)

-- what stands of t is at the keys of t
keys_standing : (h : Held) (p : List Effect) → VersionsTied h p → (t : ℕ) → keys_of (standing h t (begun_at h.table t)) ≡ keys_at p t
keys_standing h p tied t = grind (arith, common_steps, tied.aborted t, tied.keys t)

-- as many as the versions
pub counted : (h : Held) (p : List Effect) → AllAllowed p → VersionsTied h p → IsStrictlySortedBy nat_cmp (keys_of h.table) → (low high : ℕ) → low ≤ high → total h (λ t ws. length ws) (between low high h.table) ≡ versions_between p low high
counted h p all tied sorted low high under =
    let more = walk (versions_through p) h (λ t ws. length ws) (λ t. refl) sorted low high under (λ n above below.
    omega (arith, through_more p all n, ap length (keys_standing h p tied (suc n)), length-map (standing h (suc n) (begun_at h.table (suc n))) (λ (w : List ℕ × After). w.0))) in
    omega (arith, between_are p low high under)

-- those that die by what was written at t, by its keys
die_by_keys : (h : Held) (p : List Effect) (t : ℕ) (ws : List (List ℕ × After)) → AreDistinct (keys_of ws) → ((x : List ℕ) → Has x (keys_of ws) → version_of p x t ≡ lookup (is_at (key_cmp x)) ws) → ((x : List ℕ) → is_some (newest (version_in h x) (t - 1)).after ≡ is_replaced p t x)
    → deaths_by h t ws ≡ length (filter (is_deleted p t) (keys_of ws)) + length (filter (is_replaced p t) (keys_of ws))
die_by_keys h p t [] d found same = refl
die_by_keys h p t (w ∷ ws) d found same =
    let more = die_by_keys h p t ws d.1 (λ x i. let f = found x (inr i) in grind (arith, common_steps, is_eq-slice_cmp x w.0, same_key x w.0)) same in
    let here = found w.0 (inl refl) in let newer = same w.0 in grind (arith, common_steps, is_eq-slice_cmp w.0 w.0, key_itself w.0)

dying_is : (h : Held) (p : List Effect) → VersionsTied h p → (t : ℕ) → deaths_by h t (standing h t (begun_at h.table t)) ≡ dying p t
dying_is h p tied t = rw (← keys_standing h p tied t) (die_by_keys h p t (standing h t (begun_at h.table t)) (rw (keys_standing h p tied t) (distinct_keys p t)) (λ x i. grind (arith, common_steps, tied.aborted t, tied.writes t x))
    (λ x. ap (λ (m : Version). is_some m.after) (newest_same (version_in h x) (version_of p x) (t - 1) (λ k low. rw (tied.aborted k, tied.writes k x) refl))))

-- as many as die
pub died : (h : Held) (p : List Effect) → AllAllowed p → VersionsTied h p → IsStrictlySortedBy nat_cmp (keys_of h.table) → (high : ℕ) → horizon_of p ≤ high → high ≤ closed_of p → total h (deaths_by h) (between (horizon_of p) high h.table) ≡ newly_dead p high
died h p all tied sorted high under closed =
    let more = walk (λ m. length (dead_of (Collects m ∷ p))) h (deaths_by h) (λ t. refl) sorted (horizon_of p) high under (λ n above below. omega (arith, dead_next p all n (omega arith), dying_is h p tied (suc n))) in
    omega arith
