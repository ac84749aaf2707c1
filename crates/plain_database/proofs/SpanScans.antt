-- What the store finds in a span is what the definitions say of it. The index may have keys that no one wrote: they give
-- nothing.
use Rattle.plain_database.proofs.Common.{Blocked, Effect, IsIn, Refusal, RisingKeys, Span, Writes, below_high, blocked_in, by_test, common_steps, filter_in, filter_rises, filtered_same, first_refusal, in_span, is_blocked, is_eq-slice_cmp, key_itself, key_lt, keys_of, keys_rise, nat_list_cmp_total, newest, newest_only, only_in, pairs_of, pairs_of_some, same_key, visible, visible_in, write_of, written_keys}
use Rattle.std.proofs.Common.{◌≡◌, ℕ, Bool, true, false, ◌&&◌, List, [], ◌∷◌, map, Option, Some, None, refl, sym, ◌∙◌, ap, inl, inr, arith, rules}
use Rattle.std.specs.Prelude.{filter, is_some}
use Rattle.std.proofs.lemmas.Map.Lookups.{exact_bytes}
use Rattle.spans.specs.KeyOrder.{from_low}
use Rattle.spans.proofs.KeyOrder.{above_low, less_is}
use Rattle.spans.specs.Versions.{Version}
use Rattle.plain_database.specs.Replies.{is_past, keys_past, block_tests}
use Rattle.plain_database.specs.Table.{IsIndexed, Listed, is_listed, source_found}
use Rattle.plain_database.specs.VersionsTied.{Held, VersionsTied, version_in}

-- ---- the keys of the index

listed_in : (ws : Listed) (x : List ℕ) (t : ℕ) → is_listed ws x t ≡ true → IsIn x (keys_of ws)
listed_in [] x t is = cc
listed_in (w ∷ ws) x t is = search (by_test, same_key, is_eq-slice_cmp, listed_in ws x t, rules, arith)

wrote_some : (p : List Effect) (x : List ℕ) → IsIn x (written_keys p) → (t : ℕ) × (is_some (write_of p t x) ≡ true)
wrote_some [] x i = absurd i
wrote_some (Writes k y a ∷ p) x i = elim (only_in y x (written_keys p) i) [
  | inl here ↦ (k, grind (arith, common_steps, key_itself))
  | inr there ↦ (let one = wrote_some p x there in (one.0, grind (arith, common_steps, by_test)))
]
wrote_some (_ ∷ p) x i = wrote_some p x i

-- what was written is listed
written_listed : (h : Held) (ws : Listed) (p : List Effect) → IsIndexed h.table ws → VersionsTied h p → (x : List ℕ) → IsIn x (written_keys p) → IsIn x (keys_of ws)
written_listed h ws p indexed tied x i = let one = wrote_some p x i in listed_in ws x one.0 (indexed x one.0 (ap is_some (tied.writes one.0 x) ∙ one.1))

-- of the listed keys of a span and the written ones those that pass a test are the same, where only written ones pass
same_keys : (q : List ℕ → Bool) (h : Held) (ws : Listed) (p : List Effect) → IsIndexed h.table ws → RisingKeys (keys_of ws) → VersionsTied h p → ((x : List ℕ) → q x ≡ true → IsIn x (written_keys p)) → (span : Span)
    → filter q (filter (in_span span) (keys_of ws)) ≡ filter q (filter (in_span span) (written_keys p))
same_keys q h ws p indexed rising tied only span =
    filtered_same q (filter (in_span span) (keys_of ws)) (filter (in_span span) (written_keys p)) (filter_rises (in_span span) (keys_of ws) rising) (filter_rises (in_span span) (written_keys p) (keys_rise p))
    (λ x is. let i = written_listed h ws p indexed tied x (only x is) in grind (arith, common_steps, filter_in, only x is))

-- ---- the keys above one

-- where that key lies before the span, all keys of the span are above it
pub all_above : (span : Span) (k x : List ℕ) → from_low span.lo k ≡ false → in_span span x ≡ (in_span span x && key_lt k x)
all_above span k x before = grind (arith, common_steps, by_test, nat_list_cmp_total, exact_bytes, above_low span.lo x k)

-- and where it doesn't, no key above it does
pub only_above : (span : Span) (low : Option (List ℕ)) (k x : List ℕ) → from_low span.lo k ≡ true → from_low low x ≡ key_lt k x → (from_low low x && below_high span.hi x) ≡ (in_span span x && key_lt k x)
only_above span low k x from is = grind (arith, common_steps, by_test, above_low span.lo k x, less_is)

-- ---- who stops a scan

abbrev pub tests_of : List Effect → ℕ → List (List ℕ) → List (Bool × Refusal)
tests_of p t xs = map (λ x. (is_blocked p x t, Blocked (visible p x t).ts)) xs

-- a key that doesn't stop one doesn't matter
blocked_only : (p : List Effect) (t : ℕ) (xs : List (List ℕ)) → first_refusal (tests_of p t xs) ≡ first_refusal (tests_of p t (filter (λ x. is_blocked p x t) xs))
blocked_only p t [] = refl
blocked_only p t (x ∷ xs) = grind (arith, common_steps, blocked_only p t xs)

pub blockers_listed : (h : Held) (ws : Listed) (p : List Effect) → IsIndexed h.table ws → RisingKeys (keys_of ws) → VersionsTied h p → (span : Span) (t : ℕ)
    → first_refusal (tests_of p t (filter (in_span span) (keys_of ws))) ≡ first_refusal (block_tests p span t)
blockers_listed h ws p indexed rising tied span t =
    blocked_only p t (filter (in_span span) (keys_of ws))
    ∙ ap (λ xs. first_refusal (tests_of p t xs)) (same_keys (λ x. is_blocked p x t) h ws p indexed rising tied (λ x is. blocked_in p x t is) span)
    ∙ sym (blocked_only p t (filter (in_span span) (written_keys p)))

-- ---- the values of a span

abbrev pub rows_of : List Effect → ℕ → List (List ℕ) → List (List ℕ × List ℕ)
rows_of p t xs = pairs_of (λ x. (visible p x t).after) xs

past_in : (span rest : Span) (after : Option (List ℕ)) → ((x : List ℕ) → in_span rest x ≡ (in_span span x && is_past after x)) → (xs : List (List ℕ)) → filter (in_span rest) xs ≡ keys_past after (filter (in_span span) xs)
past_in span rest after both [] = refl
past_in span rest after both (x ∷ xs) = grind (arith, common_steps, both x, past_in span rest after both xs)

-- of what is left of the span
pub rows_listed : (h : Held) (ws : Listed) (p : List Effect) → IsIndexed h.table ws → RisingKeys (keys_of ws) → VersionsTied h p → (span rest : Span) (after : Option (List ℕ)) (t : ℕ) → ((x : List ℕ) → in_span rest x ≡ (in_span span x && is_past after x))
    → rows_of p t (filter (in_span rest) (keys_of ws)) ≡ rows_of p t (keys_past after (filter (in_span span) (written_keys p)))
rows_listed h ws p indexed rising tied span rest after t both =
    pairs_of_some (λ x. (visible p x t).after) (filter (in_span rest) (keys_of ws))
    ∙ ap (rows_of p t) (same_keys (λ x. is_some (visible p x t).after) h ws p indexed rising tied (λ x is. let v = some_of (visible p x t).after is in visible_in p x t v.0 v.1) rest)
    ∙ sym (pairs_of_some (λ x. (visible p x t).after) (filter (in_span rest) (written_keys p)))
    ∙ ap (rows_of p t) (past_in span rest after both (written_keys p))
  where
    some_of : (o : Option (List ℕ)) → is_some o ≡ true → (v : List ℕ) × (o ≡ Some v)
    some_of None is = cc
    some_of (Some v) is = (v, refl)

-- ---- the source of each key

-- no version is seen of a key that isn't listed
none_seen : (h : Held) (ws : Listed) → IsIndexed h.table ws → (x : List ℕ) (t : ℕ) → (IsIn x (keys_of ws) → ⊥) → (newest (version_in h x) t).ts ≡ 0
none_seen h ws indexed x t out = ap (λ (v : Version). v.ts) (newest_only (version_in h x) t 0 None (record { at_most = omega arith; gap = λ i low high. none i; has = inl (refl, refl) }))
  where
    none : (i : ℕ) → version_in h x i ≡ None
    none i = grind (arith, common_steps, listed_in ws x i, indexed x i, out)

-- all but the keys that are left have their sources
abbrev pub AreGiven : Held → Span → ℕ → List (List ℕ) → List (List ℕ × ℕ) → Type 0
AreGiven h span t xs sources = (x : List ℕ) → in_span span x ≡ true → (IsIn x xs → ⊥) → source_found sources x ≡ (newest (version_in h x) t).ts

pub given_starts : (h : Held) (ws : Listed) → IsIndexed h.table ws → (span : Span) (t : ℕ) → AreGiven h span t (filter (in_span span) (keys_of ws)) []
given_starts h ws indexed span t x inside out = sym (none_seen h ws indexed x t (λ i. out ((filter_in (in_span span) x (keys_of ws)).1 (inside, i))))
