-- What the steps of a draw and of a meeting leave.
use Rattle.std.proofs.lemmas.Grind.{common_steps}
use Rattle.std.proofs.Common.{arith, ◌≡◌, ℕ, ◌<◌, ◌≢◌, List, [], sym, ap, ◌∙◌, subst}
use Rattle.timestamps.proofs.Common.{All, IsStrictlyIncreasing, flat_map}
use Rattle.timestamps.specs.Blocks.{Sat, loads, draws, only_drawn, borrowing, without_lent, only_lent, taking_back, timestamps_of, AreApart}
use Rattle.timestamps.proofs.Numbers.{apart_above, rises_on}

-- after the compare-exchange, whatever it found
pub rests : (n found : ℕ) (m m1 m2 : Sat) → m1 ≡ (loads m.0 n, m.1) → (found ≡ n → (m2 ≡ (draws m1.0 found, m1.1)) × All (λ b. b < found) m1.0.drawn) → (found ≢ n → m2 ≡ (loads m1.0 found, m1.1)) → m.0.lent ≡ [] → IsStrictlyIncreasing m.0.drawn
    → record { nothing_lent : m2.0.lent ≡ []; rising : IsStrictlyIncreasing m2.0.drawn }
rests n found m m1 m2 loaded hit miss alone rising = grind (arith, common_steps, rises_on)

-- the lease of the block that was found has no timestamp of those before
pub fresh_lease : (n found : ℕ) (lease : List ℕ) (m m1 m2 : Sat) → m1 ≡ (loads m.0 n, m.1) → (found ≡ n → (m2 ≡ (draws m1.0 found, m1.1)) × All (λ b. b < found) m1.0.drawn) → found ≡ n → lease ≡ timestamps_of n → AreApart (flat_map timestamps_of m.0.drawn) lease
fresh_lease n found lease m m1 m2 loaded hit e is = subst (AreApart (flat_map timestamps_of m.0.drawn)) (sym is)
    (apart_above m.0.drawn n (subst (λ (z : ℕ × List ℕ). All (λ b. b < z.0) z.1) (λ i. (e i, ap (λ (z : Sat). z.0.drawn) loaded i)) (hit e).1))

-- the two lists of blocks that the load compared are those of the two passes
pub met : (n : ℕ) (one one1 one2 one3 other other1 other2 theirs back : Sat) → one1 ≡ (borrowing one.0 theirs.0, one.1) → one2 ≡ (loads one1.0 n, one1.1) → one3 ≡ (without_lent one2.0, one2.1)
    → theirs ≡ (only_drawn other.0, []) → back ≡ (only_lent one2.0, []) → other2 ≡ (taking_back other1.0 back.0, other1.1) → AreApart one1.0.drawn one1.0.lent → AreApart one3.0.drawn other2.0.drawn
met n one one1 one2 one3 other other1 other2 theirs back borrowed loaded returned handed gave took apart =
    subst (λ (z : List ℕ × List ℕ). AreApart z.0 z.1)
    (λ i. (sym (ap (λ (z : Sat). z.0.drawn) returned ∙ ap (λ (z : Sat). z.0.drawn) loaded) i, sym (ap (λ (z : Sat). z.0.drawn) took ∙ (ap (λ (z : Sat). z.0.drawn) gave ∙ ap (λ (z : Sat). z.0.lent) loaded)) i)) apart
