-- What a read finds, by the newest version at or below its timestamp.
use Rattle.mvto_rules.proofs.Common.{After, Blocked, Found, IsNewestIn, IsNewestOf, IsNoneUpTo, Kept, Refused, Reply, Stored, Version, after_of, chain_of, common_steps, get_reply, is_committed_in, newest, newest_only, option_copied, refusal, seen, version_at, version_in, version_of}
use Rattle.std.proofs.Common.{Bool, Bor, List, None, Option, Some, ap, arith, false, inl, inr, refl, true, ℕ, ◌<◌, ◌≤◌, ◌≡◌, ◌∙◌}
use Rattle.std.specs.Prelude.{IfSome, MatchOption}
use Rattle.mvto_rules.specs.Scans.{sight_of, ts_of, value_in, would_stop}
use Rattle.mvto_rules.specs.declared.sight.Sight.{Sight}
use Rattle.mvto_rules.specs.Holding.{holding}
use Rattle.mvto_rules.specs.declared.rules.Rules.{Rules}
use Rattle.mvto_rules.specs.declared.sight.Sight.TheVariants as sights

-- what stands at a key for a read at t: the version, or none
pub record IsThere (version : ℕ → Option After) (committed : ℕ → Bool) (t : ℕ) (o : Option Version) : Type 0 where
  pub is : newest version t ≡ version_at (ts_of o) (value_in o)
  pub low : ts_of o ≤ t
  pub done : IfSome o (λ v. committed v.ts ≡ v.committed)
  pub named : IfSome o (λ v. 1 ≤ v.ts)

-- what is newest in the store is there
pub found_there : (s : Stored) (x : List ℕ) (t m : ℕ) (o : Option (Bor Version)) → m ≡ t → MatchOption o ((i : ℕ) → i ≤ m → version_in s x i ≡ None) (λ v. IsNewestIn s x m v.now)
    → IfSome (option_copied o) (λ v. 1 ≤ v.ts) → IsThere (version_in s x) (is_committed_in s x) t (option_copied o)
found_there s x t m None same none named = record {
  is = newest_only (version_in s x) t 0 None (record { at_most = omega arith; gap = λ i l h. none i (omega arith); has = inl (refl, refl) });
  low = omega arith;
  done = tt;
  named = tt;
}
found_there s x t m (Some b) same new named = record {
  is = newest_only (version_in s x) t b.now.ts b.now.after (record { at_most = omega (arith, new.at_most); gap = λ i l h. new.gap i l (omega arith); has = inr (omega (arith, named), new.version) });
  low = omega (arith, new.at_most);
  done = new.committed;
  named = named;
}

-- the newest of a key's chain is the newest in the store
pub chain_newest : (s : Stored) (x : List ℕ) (vs : List Version) (m : ℕ) (o : Option (Bor Version)) → chain_of s x ≡ vs → MatchOption o (IsNoneUpTo vs m) (λ v. IsNewestOf vs m v.now)
    → MatchOption o ((i : ℕ) → i ≤ m → version_in s x i ≡ None) (λ v. IsNewestIn s x m v.now)
chain_newest s x vs m None is none = λ i l. ap (λ us. after_of (version_of us i)) is ∙ ap after_of (none i l)
chain_newest s x vs m (Some b) is new = grind (arith, common_steps)

-- the reply to a read by what it found
abbrev pub told : Sight → After → Reply
told sights.Own a = Found a
told (sights.Other n) a = Found a
told (sights.Blocked n) a = Refused (Blocked n)

-- whether that is blocked
abbrev pub is_stopped : Sight → Bool
is_stopped sights.Own = false
is_stopped (sights.Other n) = false
is_stopped (sights.Blocked n) = true

pub unstopped : (s : Sight) → ((n : ℕ) → s ≡ sights.Blocked n → ⊥) → is_stopped s ≡ false
unstopped sights.Own free = refl
unstopped (sights.Other n) free = refl
unstopped (sights.Blocked n) free = absurd (free n refl)

stops : (d : ℕ → Bool) (t : ℕ) (o : Option Version) → IfSome o (λ v. d v.ts ≡ v.committed) → IfSome o (λ v. 1 ≤ v.ts) → would_stop d t (ts_of o) ≡ is_stopped (sight_of t o)
stops d t None done named = refl
stops d t (Some v) done named = grind (arith, common_steps)

pub blocked_is : (f : ℕ → Option After) (d : ℕ → Bool) (t : ℕ) (o : Option Version) → IsThere f d t o → would_stop d t (newest f t).ts ≡ is_stopped (sight_of t o)
blocked_is f d t o there = ap (λ v. would_stop d t v.ts) there.is ∙ stops d t o there.done there.named

-- what the sight of a read says: the reply, unless its transaction refuses it, and whose version was found
pub record IsGot (k : Kept) (seat t : ℕ) (x : List ℕ) (s : Sight) (found : After) : Type 0 where
  pub reply : told s found ≡ get_reply k seat t x
  pub own : s ≡ sights.Own → (seen k x t).ts ≡ t
  pub other : (n : ℕ) → s ≡ sights.Other n → (seen k x t).ts ≡ n

got_there : (k : Kept) (seat t : ℕ) (x : List ℕ) (o : Option Version) (s : Sight) → 0 < t → refusal k seat t ≡ None → IsThere (k.version x) (k.committed x) t o → s ≡ sight_of t o → IsGot k seat t x s (value_in o)
got_there k seat t x o s low free there is = record { reply = grind (arith, common_steps); own = λ e. grind (arith, common_steps); other = λ n e. grind (arith, common_steps) }

pub got_so : (k : Kept) (r : Rules) (seat t u m : ℕ) (x : List ℕ) (o : Option (Bor Version)) (s : Sight) → refusal (holding k r) seat t ≡ None → u ≡ t → m ≡ u → 1 ≤ m → MatchOption o ((i : ℕ) → i ≤ m → version_in r.store x i ≡ None) (λ v. IsNewestIn r.store x m v.now)
    → IfSome (option_copied o) (λ v. 1 ≤ v.ts) → s ≡ sight_of u (option_copied o) → IsGot (holding k r) seat t x s (value_in (option_copied o))
got_so k r seat t u m x o s free same at low newest named is = got_there (holding k r) seat t x (option_copied o) s (omega arith) free (found_there r.store x t m o (at ∙ same) newest named) (is ∙ ap (λ n. sight_of n (option_copied o)) same)
