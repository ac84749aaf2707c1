-- A change at one timestamp of some keys, one after another.
use Rattle.version_chain.proofs.Common.{common_steps}
use Rattle.std.proofs.Common.{arith, List, Option, ℕ, ◌≡◌, ◌∷◌, []}
use Rattle.std.specs.Prelude.{option_map}
use Rattle.version_chain.specs.declared.chain.Version.{Version}
use Rattle.version_chain.specs.Stores.{AreChangedAt, IsChangedAt, Stored, found_in}
use Rattle.version_chain.specs.Versions.{as_committed}

-- what changes the rest of the keys after fs changes all of them after es
abbrev pub IsChanging : Stored → Stored → List (List ℕ) → List (List ℕ) → ℕ → (Option Version → Option Version) → Type 0
IsChanging es fs keys rest t f = (gs : Stored) → AreChangedAt fs gs rest t f → AreChangedAt es gs keys t f

pub changes_none : (es : Stored) (t : ℕ) (f : Option Version → Option Version) → AreChangedAt es es [] t f
changes_none es t f y i = grind (arith, common_steps)

-- of a change that made twice is made once
pub changes_more : (es fs gs : Stored) (x : List ℕ) (keys : List (List ℕ)) (t : ℕ) (f : Option Version → Option Version) → ((o : Option Version) → f (f o) ≡ f o) → IsChangedAt es fs x t f → AreChangedAt fs gs keys t f → AreChangedAt es gs (x ∷ keys) t f
changes_more es fs gs x keys t f twice one more y i = let first = one y i in let then = more y i in let same = twice (found_in es y i) in grind (arith, common_steps)

-- marking is such a change
pub marked_twice : (o : Option Version) → option_map as_committed (option_map as_committed o) ≡ option_map as_committed o
marked_twice o = grind (arith, common_steps)
