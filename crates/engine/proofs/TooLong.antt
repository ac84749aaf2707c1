-- What the rules tell of a command's first tests is the history's.
use Rattle.std.proofs.Common.{Bool, Bor, List, None, Option, Some, [], ap, not, refl, true, ℕ, ◌∙◌, ◌∷◌, ◌≡◌}
use Rattle.engine.proofs.Common.{BelowHorizon, Effect, IsKeptOf, Kept, NotClosed, is_some, option_copied, refusal_is, snapshot_tests, transaction_tests}
use Rattle.std.specs.Prelude.{nat_lt, ◌&&◌}
use Rattle.kept.specs.Finding.{refusal}
use Rattle.mvto_rules.specs.Scans.{snapshot_refusal}
use Rattle.engine.specs.Room.{passes}

-- those of a transaction
pub usable_is : (k : Kept) (p : List Effect) → IsKeptOf k p → (seat t : ℕ) (b : Bool) → b ≡ not (is_some (refusal k seat t)) → b ≡ passes (transaction_tests p seat t)
usable_is k p fits seat t b is = is ∙ ap (λ o. not (is_some o)) (refusal_is k p fits seat t)

-- those of a read at a closed timestamp
pub readable_is : (k : Kept) (p : List Effect) → IsKeptOf k p → (t : ℕ) (b : Bool) → b ≡ not (is_some (snapshot_refusal k t)) → b ≡ passes (snapshot_tests p t)
readable_is k p fits t b is = is ∙ (λ i. passes ((nat_lt (fits.closed_at i) t, NotClosed (fits.closed_at i)) ∷ (nat_lt t (fits.horizon_at i), BelowHorizon (fits.horizon_at i)) ∷ []))

there : {X : Type 0} (o : Option (Bor X)) → is_some o ≡ is_some (option_copied o)
there None = refl
there (Some x) = refl

-- past the tests a scan that ends somewhere is too long
pub ends_long : {X : Type 0} (tests : Bool) (found : Option (Bor X)) (end : Option X) → true ≡ tests → option_copied found ≡ end → is_some found ≡ (tests && is_some end)
ends_long tests found end past is = there found ∙ (λ i. past i && is_some (is i))
