-- How many versions there are at a timestamp, and that no event but a closing changes how many stand at or below closed.
use Rattle.plain_database.proofs.Common.{AllAllowed, AreDistinct, Effect, Has, VersionName, all_within, and_from, and_parts, closed_of, closed_stays, closed_version, common_steps, distinct_filter, has_filter, has_is, has_versions, in_has, is_aborted, key_cmp, length-map, nat_tests, rising_distinct, same_length, version_name, version_of, versions_distinct, versions_of, write_set}
use Rattle.std.proofs.Common.{◌≡◌, ℕ, suc, ◌+◌, ◌≤◌, ◌==◌, Bool, true, false, cond, ◌&&◌, List, [], ◌∷◌, map, length, refl, sym, ◌∙◌, ap, inl, inr, arith}
use Rattle.std.specs.Prelude.{◌↔◌, filter, is_some, nat_le, nat_lt}
use Rattle.spans.specs.Effects.{Closes, HardCloses}
use Rattle.spans.proofs.Copies.{closed_grows}
use Rattle.spans.proofs.WriteSets.{has_in, has_written, write_set_rises}
use Rattle.plain_database.specs.VersionsTied.{passed_then, versions_between}

-- ---- lists

abbrev pub one_if : Bool → ℕ
one_if b = cond b 1 0

-- a test that says what one of three says
pub counts_three : {A : Type 0} (a b c d : A → Bool) (xs : List A) → ((x : A) → Has x xs → one_if (a x) ≡ one_if (b x) + (one_if (c x) + one_if (d x))) → length (filter a xs) ≡ length (filter b xs) + (length (filter c xs) + length (filter d xs))
counts_three a b c d [] each = refl
counts_three a b c d (x ∷ xs) each = let more = counts_three a b c d xs (λ y i. each y (inr i)) in let here = each x (inl refl) in grind (arith, common_steps)

-- one that says no
none_pass : {A : Type 0} (q : A → Bool) (xs : List A) → ((x : A) → q x ≡ false) → length (filter q xs) ≡ 0
none_pass q [] none = refl
none_pass q (x ∷ xs) none = rw (none x) (none_pass q xs none)

-- ---- versions by their names

-- as many versions pass a test as pass another after another history
pub counted_same : (p p' : List Effect) → AllAllowed p → AllAllowed p' → (q q' : VersionName → Bool) → ((v : VersionName) → (q v && is_some (version_of p v.key v.ts)) ≡ (q' v && is_some (version_of p' v.key v.ts)))
    → length (filter q (versions_of p)) ≡ length (filter q' (versions_of p'))
counted_same p p' all all' q q' same = same_length (filter q (versions_of p)) (filter q' (versions_of p')) (distinct_filter q (versions_of p) (versions_distinct p all)) (distinct_filter q' (versions_of p') (versions_distinct p' all'))
    (λ v. let f = has_filter q v (versions_of p) in let g = has_filter q' v (versions_of p') in let h = has_versions p all v in let k = has_versions p' all' v in let s = same v in grind (arith, common_steps, and_from, and_parts))

-- the keys of which t has a version
abbrev pub keys_at : List Effect → ℕ → List (List ℕ)
keys_at p t = cond (is_aborted p t) [] (write_set p t)

has_version : (p : List Effect) (t : ℕ) (x : List ℕ) → Has x (keys_at p t) ↔ (is_some (version_of p x t) ≡ true)
has_version p t x = grind (arith, common_steps, has_in x (write_set p t), has_written p t x, has_is x (write_set p t), in_has x (write_set p t))

pub distinct_keys : (p : List Effect) (t : ℕ) → AreDistinct (keys_at p t)
distinct_keys p t = grind (arith, common_steps, rising_distinct, write_set_rises p t)

-- the versions at these keys, at a timestamp by each key
abbrev named : (List ℕ → ℕ) → List (List ℕ) → List VersionName
named at xs = map (λ x. version_name x (at x)) xs

has_named : (at : List ℕ → ℕ) (v : VersionName) (xs : List (List ℕ)) → Has v (named at xs) ↔ ((at v.key ≡ v.ts) × Has v.key xs)
has_named at v [] = (λ i. absurd i, λ i. absurd i.1)
has_named at v (x ∷ xs) = grind (arith, common_steps, has_named at v xs)

distinct_named : (at : List ℕ → ℕ) (xs : List (List ℕ)) → AreDistinct xs → AreDistinct (named at xs)
distinct_named at [] d = tt
distinct_named at (x ∷ xs) d = (λ i. d.0 ((has_named at (version_name x (at x)) xs).0 i).1, distinct_named at xs d.1)

-- as many versions pass the test as there are keys of t that do, where each of those has one
pub counted_by_key : (p : List Effect) → AllAllowed p → (t : ℕ) (at : List ℕ → ℕ) (q : List ℕ → Bool) → ((x : List ℕ) → is_some (version_of p x t) ≡ true → q x ≡ true → is_some (version_of p x (at x)) ≡ true)
    → length (filter (λ (v : VersionName). (v.ts == at v.key) && (is_some (version_of p v.key t) && q v.key)) (versions_of p)) ≡ length (filter q (keys_at p t))
counted_by_key p all t at q stands =
    let test = λ (v : VersionName). (v.ts == at v.key) && (is_some (version_of p v.key t) && q v.key) in
    same_length (filter test (versions_of p)) (named at (filter q (keys_at p t))) (distinct_filter test (versions_of p) (versions_distinct p all)) (distinct_named at (filter q (keys_at p t)) (distinct_filter q (keys_at p t) (distinct_keys p t)))
    (λ v. let f = has_filter test v (versions_of p) in let h = has_versions p all v in let n = has_named at v (filter q (keys_at p t)) in let g = has_filter q v.key (keys_at p t) in let k = has_version p t v.key in
    let s = stands v.key in grind (arith, common_steps, nat_tests, and_from, and_parts))
    ∙ length-map (filter q (keys_at p t)) (λ x. version_name x (at x))

-- ---- the versions at or below a timestamp

abbrev pub versions_through : List Effect → ℕ → ℕ
versions_through p n = length (filter (λ (v : VersionName). nat_le v.ts n) (versions_of p))

-- one timestamp more
pub through_more : (p : List Effect) → AllAllowed p → (n : ℕ) → versions_through p (suc n) ≡ versions_through p n + length (keys_at p (suc n))
through_more p all n =
    counts_three (λ v. nat_le v.ts (suc n)) (λ v. nat_le v.ts n) (λ v. (v.ts == suc n) && (is_some (version_of p v.key (suc n)) && true)) (λ v. false) (versions_of p)
    (λ v i. let stands = (has_versions p all v).0 i in grind (arith, common_steps, nat_tests))
    ∙ omega (arith, counted_by_key p all (suc n) (λ x. suc n) (λ x. true) (λ x is so. is), ap length (all_within key_cmp (keys_at p (suc n))), none_pass (λ v. false) (versions_of p) (λ v. refl))

-- those above another one are those between the two
pub between_are : (p : List Effect) (low high : ℕ) → low ≤ high → versions_through p high ≡ versions_through p low + versions_between p low high
between_are p low high under =
    counts_three (λ v. nat_le v.ts high) (λ v. nat_le v.ts low) (λ v. nat_lt low v.ts && nat_le v.ts high) (λ v. false) (versions_of p) (λ v i. grind (arith, nat_tests)) ∙ omega (arith, none_pass (λ v. false) (versions_of p) (λ v. refl))

-- and there is none where the two don't rise
pub between_none : (p : List Effect) (low high : ℕ) → high ≤ low → versions_between p low high ≡ 0
between_none p low high over = none_pass (λ v. nat_lt low v.ts && nat_le v.ts high) (versions_of p) (λ v. grind (arith, nat_tests))

-- ---- what is closed

-- at or below closed a version stays
pub version_stays : (p : List Effect) (e : Effect) → AllAllowed (e ∷ p) → (x : List ℕ) (i : ℕ) → i ≤ closed_of p → version_of (e ∷ p) x i ≡ version_of p x i
version_stays p e all x i low = let grows = closed_grows p e all.0 in closed_version (e ∷ p) all x i (omega arith) ∙ closed_stays p e all.0 x i low ∙ sym (closed_version p all.1 x i low)

-- and so does how many there are
passed_same : (p : List Effect) (e : Effect) → AllAllowed (e ∷ p) → versions_through (e ∷ p) (closed_of p) ≡ versions_through p (closed_of p)
passed_same p e all = counted_same (e ∷ p) p all all.1 (λ v. nat_le v.ts (closed_of p)) (λ v. nat_le v.ts (closed_of p)) (λ v. grind (arith, common_steps, nat_tests, version_stays p e all v.key v.ts))

-- as many stand at or below closed as the last closing left there
pub passed_is : (p : List Effect) → AllAllowed p → passed_then p ≡ versions_through p (closed_of p)
passed_is [] all = refl
passed_is (Closes at ∷ p) all = refl
passed_is (HardCloses to at ∷ p) all = refl
passed_is (e ∷ p) all = passed_is p all.1 ∙ sym (passed_same p e all)

-- a closing passes those between the old closed timestamp and the new one
pub passed_more : (p : List Effect) (e : Effect) → AllAllowed (e ∷ p) → passed_then (e ∷ p) ≡ passed_then p + versions_between (e ∷ p) (closed_of p) (closed_of (e ∷ p))
passed_more p e all = omega (arith, passed_is (e ∷ p) all, passed_is p all.1, passed_same p e all, between_are (e ∷ p) (closed_of p) (closed_of (e ∷ p)) (closed_grows p e all.0))
