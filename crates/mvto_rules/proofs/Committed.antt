-- The newest committed version of a key, found from above.
use Rattle.mvto_rules.proofs.Common.{After, IsNewestIn, Stored, by_test, common_steps, is_committed_in, ltb-false, ltb-true, newest, newest_is, newest_only, version_at, version_in}
use Rattle.std.proofs.Common.{Bool, List, None, Option, arith, cond, false, inl, refl, true, ℕ, ◌-◌, ◌<◌, ◌≡◌, ◌≤◌}
use Rattle.version_chain.specs.declared.chain.Version as chains

-- the committed versions of x
abbrev pub committed_in : Stored → List ℕ → ℕ → Option After
committed_in s x i = cond (is_committed_in s x i) (version_in s x i) None

-- where there is no version, there is no committed one
none_committed : (b : Bool) (o : Option After) → o ≡ None → cond {A = Option After} b o None ≡ None
none_committed true o e = e
none_committed false o e = refl

-- what is above the lower of two timestamps changes nothing where it is none
newest_down : (f : ℕ → Option After) (m n : ℕ) → m ≤ n → ((i : ℕ) → m < i → i ≤ n → f i ≡ None) → newest f n ≡ newest f m
newest_down f m n low none = grind (arith, common_steps, newest_is, newest_only, by_test, ltb-true, ltb-false)

-- the newest version is committed
pub newest_done : (s : Stored) (x : List ℕ) (t : ℕ) (v : chains.Version) → IsNewestIn s x t v → 1 ≤ v.ts → v.committed ≡ true → newest (committed_in s x) t ≡ version_at v.ts v.after
newest_done s x t v is named done = newest_only (committed_in s x) t v.ts v.after (grind (arith, common_steps))

-- the newest version is undecided, so what is committed is below it
pub newest_passed : (s : Stored) (x : List ℕ) (t : ℕ) (v : chains.Version) → IsNewestIn s x t v → 1 ≤ v.ts → v.committed ≡ false → newest (committed_in s x) (v.ts - 1) ≡ newest (committed_in s x) t
newest_passed s x t v is named undone = grind (arith, common_steps, newest_down, by_test, none_committed, ltb-true, ltb-false)

-- there is no version
pub newest_nowhere : (s : Stored) (x : List ℕ) (t : ℕ) → ((i : ℕ) → i ≤ t → version_in s x i ≡ None) → newest (committed_in s x) t ≡ version_at 0 None
newest_nowhere s x t none = newest_only (committed_in s x) t 0 None (record {
  at_most = omega arith;
  gap = λ i above upto. none_committed (is_committed_in s x i) (version_in s x i) (none i upto);
  has = inl (refl, refl);
})
