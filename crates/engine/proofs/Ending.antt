-- Where a scan of the kept keys ends, one of all written keys ends.
use Rattle.std.proofs.Common.{Bool, List, None, Option, Some, [], ap, arith, cond, false, inl, inr, refl, sym, true, ℕ, ◌-◌, ◌<◌, ◌∙◌, ◌∷◌, ◌≡◌, ◌≤◌, ◌⊎◌}
use Rattle.std.specs.Prelude.{filter, is_some, nat_lt, ◌||◌}
use Rattle.std.proofs.lemmas.Grind.{common_steps}
use Rattle.std.proofs.lemmas.Bool.{or_cases}
use Rattle.engine.proofs.Common.{nat_tests, After, AllAllowed, AreKeysOf, Effect, Event, IsKeptOf, Kept, Span, StandsFor, blocked_in, by_test, effects_of, horizon_of, is_blocked, is_seen_blocked, keys_rise, legal_allowed, ltb-false, newest_is, seen, visible, visible_in, written_keys}
use Rattle.spans.specs.Keys.{in_span}
use Rattle.spans.proofs.Keyed.{IsIn, filter_in, filter_rises, filtered_same}
use Rattle.kept.proofs.Reading.{blocked_is, seen_value}
use Rattle.mvto_rules.specs.Scans.{IsEnd, end_seen, end_within}
use Rattle.engine.specs.Room.{scan_end}

-- a read stops at the key, or finds a value there
abbrev matters : (stops : List ℕ → Bool) (value : List ℕ → After) → List ℕ → Bool
matters stops value x = stops x || is_some (value x)

-- keys at which a read goes on and finds no value don't matter
matter : (stops : List ℕ → Bool) (value : List ℕ → After) (rows bytes : ℕ) (xs : List (List ℕ)) → end_within stops value rows bytes xs ≡ end_within stops value rows bytes (filter (matters stops value) xs)
matter stops value rows bytes [] = refl
matter stops value rows bytes (x ∷ xs) = let more : (r b : ℕ) → end_within stops value r b xs ≡ end_within stops value r b (filter (matters stops value) xs) = (λ r b. matter stops value r b xs) in grind (arith, common_steps)

-- reads that find the same end alike
alike : (stops stops' : List ℕ → Bool) (value value' : List ℕ → After) (rows bytes : ℕ) (xs : List (List ℕ)) → ((x : List ℕ) → stops x ≡ stops' x) → ((x : List ℕ) → value x ≡ value' x) → end_within stops value rows bytes xs ≡ end_within stops' value' rows bytes xs
alike stops stops' value value' rows bytes xs same values = (λ i. end_within (λ x. same x i) (λ x. values x i) rows bytes xs)

-- a key of the span at which something is found is kept
seen_key : (k : Kept) (span : Span) (keys : List (List ℕ)) → AreKeysOf k span keys → (x : List ℕ) (t : ℕ) → in_span span x ≡ true → (0 < (seen k x t).ts) ⊎ (is_some (seen k x t).after ≡ true) → IsIn x keys
seen_key k span keys are x t inside found = elim (newest_is (k.version x) t).has [
  | inl zeroth ↦ absurd (elim found [ inl some ↦ omega (arith, zeroth.0, some) | inr value ↦ (let no' : false ≡ true = sym (ap is_some zeroth.1) ∙ value in cc) ])
  | inr some ↦ (are.each x).1 (inside, (seen k x t).ts, ap is_some some.1)
]

some_of : (o : After) → is_some o ≡ true → (v : List ℕ) × (o ≡ Some v)
some_of None is = cc
some_of (Some v) is = (v, refl)

-- from the horizon on
seen_end : (k : Kept) (p : List Effect) → AllAllowed p → IsKeptOf k p → (t rows bytes : ℕ) → horizon_of p ≤ t → (span : Span) (keys : List (List ℕ)) → AreKeysOf k span keys
    → end_seen k t rows bytes keys ≡ end_within (λ x. is_blocked p x t) (λ x. (visible p x t).after) rows bytes (filter (in_span span) (written_keys p))
seen_end k p all fits t rows bytes high span keys are =
    alike (λ x. is_seen_blocked k x t) blocked (λ x. (seen k x t).after) value rows bytes keys (λ x. blocked_is k p fits all x t high) (λ x. seen_value k p fits all x t high)
    ∙ matter blocked value rows bytes keys
    ∙ ap (end_within blocked value rows bytes)
    (filtered_same (matters blocked value) keys (filter (in_span span) (written_keys p)) are.rising (filter_rises (in_span span) (written_keys p) (keys_rise p)) (λ x is. let f = filter_in (in_span span) x (written_keys p) in (
      λ i. f.1 (((are.each x).0 i).0, written x (or_cases (blocked x) (is_some (value x)) is)),
      λ i. seen_key k span keys are x t (f.0 i).0 (found x (or_cases (blocked x) (is_some (value x)) is)),
    )))
    ∙ sym (matter blocked value rows bytes (filter (in_span span) (written_keys p)))
  where
    blocked : List ℕ → Bool
    blocked x = is_blocked p x t

    value : List ℕ → After
    value x = (visible p x t).after

    written : (x : List ℕ) → (blocked x ≡ true) ⊎ (is_some (value x) ≡ true) → IsIn x (written_keys p)
    written x (inl on) = blocked_in p x t on
    written x (inr some) = let v = some_of (value x) some in visible_in p x t v.0 v.1

    found : (x : List ℕ) → (blocked x ≡ true) ⊎ (is_some (value x) ≡ true) → (0 < (seen k x t).ts) ⊎ (is_some (seen k x t).after ≡ true)
    found x (inl on) = inl (let is : is_seen_blocked k x t ≡ true = blocked_is k p fits all x t high ∙ on in grind (arith, nat_tests, is))
    found x (inr some) = inr (ap is_some (seen_value k p fits all x t high) ∙ some)

-- the end that is found in what is kept is the history's
pub end_is : (k : Kept) (h : List Event) (t rows bytes : ℕ) (span : Span) (end : Option (List ℕ)) → StandsFor k h → IsEnd k t span rows bytes end → end ≡ scan_end (effects_of h) t span rows bytes
end_is k h t rows bytes span end stands is =
    let p = effects_of h in
    is.2 ∙ ap (λ n. cond (nat_lt t n) None (end_seen k t rows bytes is.0)) stands.fits.horizon_at ∙ by_test (nat_lt t (horizon_of p))
    (λ low. rw low refl)
    (λ high. rw high (seen_end k p (legal_allowed h stands.legal) stands.fits t rows bytes (ltb-false t (horizon_of p) high) span is.0 is.1))
