-- Which versions are left: by the committed versions and the horizon alone.
use Rattle.std.proofs.Common.{◌≡◌, ℕ, ◌<◌, ◌≤◌, true, false, List, ◌∷◌, Option, Some, None, refl, sym, ◌∙◌, inl, inr, arith}
use Rattle.std.specs.Prelude.{nat_le, nat_lt}
use Rattle.restarts.proofs.Common.{After, Collects, Effect, by_test, committed_version_of, common_steps, high_live, horizon_of, is_committed, is_dead, left_version_of, nat_tests, newest, newest_fewer, version_name, write_of}
use Rattle.restarts.proofs.Rebuilding.{uncommitted_gone}
use Rattle.spans.proofs.Dead.{dead_is, older_dead}
use Rattle.spans.proofs.Steps.{newest_is, newest_reaches, newest_rises}

-- what is left of alike versions is alike
pub left_like : (p q : List Effect) (x : List ℕ) (t : ℕ) → horizon_of p ≡ horizon_of q → committed_version_of p x t ≡ committed_version_of q x t
    → newest (committed_version_of p x) (horizon_of q) ≡ newest (committed_version_of q x) (horizon_of q) → left_version_of p x t ≡ left_version_of q x t
left_like p q x t horizon same n = by_option (committed_version_of p x t) refl
  where
    by_option : (o : Option After) → committed_version_of p x t ≡ o → left_version_of p x t ≡ left_version_of q x t
    by_option None e = uncommitted_gone p x t e ∙ sym (uncommitted_gone q x t (sym same ∙ e))
    by_option (Some a) e =
        let e' : committed_version_of q x t ≡ Some a = sym same ∙ e in
        let done : is_committed p t ≡ true = grind (arith, common_steps, by_test, e) in
        let done' : is_committed q t ≡ true = grind (arith, common_steps, by_test, e') in
        let w : write_of p t x ≡ Some a = grind (arith, common_steps, done, e) in
        let w' : write_of q t x ≡ Some a = grind (arith, common_steps, done', e') in
        rw (done, done', w, w', horizon, n) refl

-- above the horizon all is left
pub all_left : (p : List Effect) (x : List ℕ) (t : ℕ) → horizon_of p < t → left_version_of p x t ≡ committed_version_of p x t
all_left p x t above = let high : nat_le t (horizon_of p) ≡ false = grind (arith, nat_tests, above) in rw (high_live p x t high) refl

-- what one horizon drops, a later one drops
drops_on : (p : List Effect) (h : ℕ) (x : List ℕ) (t : ℕ) → h ≤ horizon_of p → is_dead (Collects h ∷ p) (version_name x t) ≡ true → is_dead p (version_name x t) ≡ true
drops_on p h x t low dead =
    let d = dead_is (Collects h ∷ p) x t dead in
    let done : is_committed p t ≡ true = d.committed in
    let under : nat_le t (horizon_of p) ≡ true = grind (arith, nat_tests, d.low, low) in
    elim d.why [
      | inl deleted ↦ rw (done, under, deleted) refl
      | inr older ↦ (let older' : nat_lt t (newest (committed_version_of p x) (horizon_of p)).ts ≡ true = grind (arith, nat_tests, older, newest_rises (committed_version_of p x) h (horizon_of p) low) in grind (arith, common_steps, done, under, older'))
    ]

-- what is left by a horizon, and of that by a later one, is what is left by the later one
pub left_twice : (p q : List Effect) (h : ℕ) (x : List ℕ) → h ≤ horizon_of p → horizon_of q ≡ horizon_of p → ((i : ℕ) → committed_version_of q x i ≡ left_version_of (Collects h ∷ p) x i)
    → (t : ℕ) → left_version_of q x t ≡ left_version_of p x t
left_twice p q h x low same are t = by_option (committed_version_of q x t) refl
  where
    gone : (i : ℕ) (a : After) → committed_version_of p x i ≡ Some a → committed_version_of q x i ≡ None → is_dead (Collects h ∷ p) (version_name x i) ≡ true
    gone i a is none = by_test (is_dead (Collects h ∷ p) (version_name x i)) (λ dead. dead) (λ live. let no' : left_version_of (Collects h ∷ p) x i ≡ Some a = rw live is in let e = sym no' ∙ sym (are i) ∙ none in cc)

    here : (a : After) → committed_version_of q x t ≡ Some a → committed_version_of p x t ≡ Some a
    here a is = let left : left_version_of (Collects h ∷ p) x t ≡ Some a = sym (are t) ∙ is in grind (arith, common_steps, left)

    fewer : (newest (committed_version_of q x) (horizon_of p)).ts ≤ (newest (committed_version_of p x) (horizon_of p)).ts
    fewer = newest_fewer (committed_version_of p x) (committed_version_of q x) (horizon_of p) (λ j _ none. are j ∙ uncommitted_gone (Collects h ∷ p) x j none)

    -- the newest that is there is no older than one that is left
    reaches : (a : After) → committed_version_of q x t ≡ Some a → (k : ℕ) → k ≤ horizon_of p → t < k → (b : After) → committed_version_of p x k ≡ Some b → t < (newest (committed_version_of q x) (horizon_of p)).ts
    reaches a is k high above b at = by_version (committed_version_of q x k) refl
      where
        by_version : (o : Option After) → committed_version_of q x k ≡ o → t < (newest (committed_version_of q x) (horizon_of p)).ts
        by_version (Some c) e = omega (arith, above, newest_reaches (committed_version_of q x) (horizon_of p) k c high e)
        by_version None e =
            let d = dead_is (Collects h ∷ p) x k (gone k b at e) in
            let now = here a is in
            let done : is_committed p t ≡ true = grind (arith, common_steps, by_test, now) in
            let dead = older_dead (Collects h ∷ p) x t done (omega (arith, above, d.low)) (omega (arith, above, newest_reaches (committed_version_of p x) h k b d.low at)) in
            let none : left_version_of (Collects h ∷ p) x t ≡ None = rw dead refl in
            let e' = sym is ∙ are t ∙ none in cc

    older : (a : After) → committed_version_of q x t ≡ Some a → nat_lt t (newest (committed_version_of q x) (horizon_of p)).ts ≡ nat_lt t (newest (committed_version_of p x) (horizon_of p)).ts
    older a is = by_test (nat_lt t (newest (committed_version_of p x) (horizon_of p)).ts)
        (λ below.
        let n = newest_is (committed_version_of p x) (horizon_of p) in
        let below' : t < (newest (committed_version_of p x) (horizon_of p)).ts = grind (arith, nat_tests, below) in
        elim n.has [
          | inl zero ↦ absurd (omega (arith, below', zero.0))
          | inr some ↦ (let high = reaches a is (newest (committed_version_of p x) (horizon_of p)).ts n.at_most below' _ some.1 in grind (arith, nat_tests, high, below))
        ])
        (λ above. grind (arith, nat_tests, above, fewer))

    by_option : (o : Option After) → committed_version_of q x t ≡ o → left_version_of q x t ≡ left_version_of p x t
    by_option None e = uncommitted_gone q x t e ∙ sym (by_other (committed_version_of p x t) refl)
      where
        by_other : (o : Option After) → committed_version_of p x t ≡ o → left_version_of p x t ≡ None
        by_other None e' = uncommitted_gone p x t e'
        by_other (Some a) e' = rw (drops_on p h x t low (gone t a e' e)) refl
    by_option (Some a) e =
        let e' : committed_version_of p x t ≡ Some a = here a e in
        let done : is_committed q t ≡ true = grind (arith, common_steps, by_test, e) in
        let done' : is_committed p t ≡ true = grind (arith, common_steps, by_test, e') in
        let w : write_of q t x ≡ Some a = grind (arith, common_steps, done, e) in
        let w' : write_of p t x ≡ Some a = grind (arith, common_steps, done', e') in
        rw (done, done', w, w', same, older a e) refl
