-- A walk through the entries of a span.
use Rattle.mvto_rules.proofs.Common.{AllByRecursion, Entry, IsIn, IsNewestOf, IsNoneUpTo, RisingKeys, Span, Stored, Version, chain_among, chain_of, common_steps, in_span, is_committed_in, key_among, keys_of, newest_in, option_copied, version_in}
use Rattle.std.proofs.Common.{arith, Bor, List, Option, Some, ap, append_assoc, cond, false, inl, inr, refl, subst, sym, true, ℕ, ◌<◌, ◌≤◌, ◌++◌, ◌∷◌, ◌≡◌, ◌∙◌, []}
use Rattle.std.specs.Prelude.{IfSome, MatchOption}
use Rattle.mvto_rules.specs.Scans.{entries_of, first_blocker, keys_in, sight_of}
use Rattle.mvto_rules.specs.declared.sight.Sight.TheVariants as sights
use Rattle.mvto_rules.proofs.Seeing.{IsThere, blocked_is, chain_newest, found_there, is_stopped}

-- what stands at an entry's key
pub there_at : (s : Stored) (t m : ℕ) (x : List ℕ) (vs : List Version) (o : Option (Bor Version)) → chain_of s x ≡ vs → m ≡ t → MatchOption o (IsNoneUpTo vs m) (λ v. IsNewestOf vs m v.now) → IfSome (option_copied o) (λ v. 1 ≤ v.ts)
    → IsThere (version_in s x) (is_committed_in s x) t (option_copied o)
there_at s t m x vs o is same newest named = found_there s x t m o same (chain_newest s x vs m o is newest) named

-- it stops the reader
pub stopped_at : (s : Stored) (t n : ℕ) (x : List ℕ) (xs : List (List ℕ)) (o : Option Version) → 0 < t → IsThere (version_in s x) (is_committed_in s x) t o → sights.Blocked n ≡ sight_of t o → first_blocker s t (x ∷ xs) ≡ Some n
stopped_at s t n x xs o low there is = grind (arith, common_steps)

-- or it doesn't
pub passed_at : (s : Stored) (t : ℕ) (x : List ℕ) (xs : List (List ℕ)) (o : Option Version) → IsThere (version_in s x) (is_committed_in s x) t o → is_stopped (sight_of t o) ≡ false → first_blocker s t (x ∷ xs) ≡ first_blocker s t xs
passed_at s t x xs o there free = ap (λ b. cond b (Some (newest_in s t x).ts) (first_blocker s t xs)) (blocked_is (version_in s x) (is_committed_in s x) t o there ∙ free)

-- ---- the entries of a span

pub each_found : (s : Stored) (span : Span) (found done rest : List Entry) → found ≡ entries_of s span → RisingKeys (keys_of s.entries) → found ≡ done ++ rest → AllByRecursion (λ (e : Entry). (in_span span e.0 ≡ true) × (chain_of s e.0 ≡ e.1)) rest
each_found s span found done [] those rising is = tt
each_found s span found done (e ∷ es) those rising is =
    let inside : in_span span e.0 ≡ true = key_among span s.entries found done es e rising those is in
    ((inside, chain_among span s.entries found done es e rising those is), each_found s span found (done ++ e ∷ []) es those rising (is ∙ sym (append_assoc done (e ∷ []) es)))

pub in_each : (s : Stored) (span : Span) (es : List Entry) (x : List ℕ) → AllByRecursion (λ (e : Entry). (in_span span e.0 ≡ true) × (chain_of s e.0 ≡ e.1)) es → IsIn x (keys_of es) → in_span span x ≡ true
in_each s span [] x each i = absurd i
in_each s span (e ∷ es) x each i = elim i [ inl here ↦ subst (λ y. in_span span y ≡ true) here each.0.0 | inr there ↦ in_each s span es x each.1 there ]

-- the entries of the span that are left, where nothing stopped the reader at the others
pub record IsSeeking (s : Stored) (t : ℕ) (span : Span) (rest : List Entry) : Type 0 where
  pub each : AllByRecursion (λ (e : Entry). (in_span span e.0 ≡ true) × (chain_of s e.0 ≡ e.1)) rest
  pub free : first_blocker s t (keys_of rest) ≡ first_blocker s t (keys_in s span)

pub seek_begins : (s : Stored) (t : ℕ) (span : Span) (found : List Entry) → found ≡ entries_of s span → RisingKeys (keys_of s.entries) → IsSeeking s t span found
seek_begins s t span found those rising = record { each = each_found s span found [] found those rising refl; free = ap (λ es. first_blocker s t (keys_of es)) those }

pub seek_goes_on : (s : Stored) (t : ℕ) (span : Span) (x : List ℕ) (vs : List Version) (rest : List Entry) (o : Option Version) → IsSeeking s t span ((x, vs) ∷ rest) → IsThere (version_in s x) (is_committed_in s x) t o → is_stopped (sight_of t o) ≡ false → IsSeeking s t span rest
seek_goes_on s t span x vs rest o seek there free = record { each = seek.each.1; free = sym (passed_at s t x (keys_of rest) o there free) ∙ seek.free }
