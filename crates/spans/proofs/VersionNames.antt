-- The versions of a history, by their names.
use Rattle.std.proofs.lemmas.Grind.{common_steps}
use Rattle.std.proofs.Common.{arith}
use Rattle.std.proofs.Common.{List, not, subst, true, sym, map, ◌≡◌, ◌∷◌, ℕ, []}
use Rattle.std.specs.Prelude.{filter, flat_map, is_some, ◌↔◌}
use Rattle.spans.specs.Collection.{VersionName, versions_of, version_name}
use Rattle.spans.specs.Effects.{Effect}
use Rattle.spans.specs.Transactions.{is_aborted, begun_of}
use Rattle.spans.specs.Versions.{version_of, write_set}
use Rattle.spans.proofs.Copies.{AllAllowed}
use Rattle.spans.proofs.Open.{begun_among}
use Rattle.spans.proofs.WriteSets.{write_set_rises, has_written, has_in}
use Rattle.spans.proofs.Closed.{wrote_begun}
use Rattle.spans.proofs.Members.{Has, AreDistinct, distinct_append, begun_distinct, distinct_filter, rising_distinct, has_filter, has_append}

-- the version of x that t made
abbrev named : ℕ → List ℕ → VersionName
named t x = version_name x t

-- it is listed for t exactly where its key is among the keys
has_named : (t : ℕ) (v : VersionName) (ks : List (List ℕ)) → Has v (map (named t) ks) ↔ ((t ≡ v.ts) × Has v.key ks)
has_named t v [] = (λ i. absurd i, λ i. absurd i.1)
has_named t v (x ∷ xs) = grind (arith, common_steps, has_named t v xs)

-- distinct keys give distinct versions
distinct_named : (t : ℕ) (ks : List (List ℕ)) → AreDistinct ks → AreDistinct (map (named t) ks)
distinct_named t [] d = tt
distinct_named t (x ∷ xs) d = (λ i. d.0 ((has_named t (named t x) xs).0 i).1, distinct_named t xs d.1)

-- the versions of several transactions
abbrev names_of : List Effect → List ℕ → List VersionName
names_of p ts = flat_map (λ t. map (λ x. version_name x t) (write_set p t)) ts

-- a version is among theirs where its writer and its key are
has_of : (p : List Effect) (v : VersionName) (ts : List ℕ) → Has v (names_of p ts) ↔ (Has v.ts ts × Has v.key (write_set p v.ts))
has_of p v [] = (λ i. absurd i, λ i. absurd i.0)
has_of p v (t ∷ ts) =
    let join = has_append v (map (named t) (write_set p t)) (names_of p ts) in
    let here = has_named t v (write_set p t) in
    grind (arith, common_steps, has_of p v ts)

-- distinct transactions have distinct versions
distinct_of : (p : List Effect) (ts : List ℕ) → AreDistinct ts → AreDistinct (names_of p ts)
distinct_of p [] d = tt
distinct_of p (t ∷ ts) d = distinct_append (map (named t) (write_set p t)) (names_of p ts) (distinct_named t (write_set p t) (rising_distinct (write_set p t) (write_set_rises p t))) (distinct_of p ts d.1)
    (λ v i j. let e = ((has_named t v (write_set p t)).0 i).0 in d.0 (subst (λ n. Has n ts) (sym e) ((has_of p v ts).0 j).0))

-- no version is listed twice
pub versions_distinct : (p : List Effect) → AllAllowed p → AreDistinct (versions_of p)
versions_distinct p all = distinct_of p (filter (λ t. not (is_aborted p t)) (begun_of p)) (distinct_filter (λ t. not (is_aborted p t)) (begun_of p) (begun_distinct p all))

-- a version is listed exactly where there is one
pub has_versions : (p : List Effect) → AllAllowed p → (v : VersionName) → Has v (versions_of p) ↔ (is_some (version_of p v.key v.ts) ≡ true)
has_versions p all v =
    let m = has_of p v (filter (λ t. not (is_aborted p t)) (begun_of p)) in
    let f = has_filter (λ t. not (is_aborted p t)) v.ts (begun_of p) in
    let w = has_written p v.ts v.key in
    let k = has_in v.key (write_set p v.ts) in
    let b = begun_among p v.ts in
    let o = wrote_begun p all v.ts v.key in
    (λ i. grind (arith, common_steps), λ is. m.1 (grind (arith, common_steps, o, b), grind (arith, common_steps)))
