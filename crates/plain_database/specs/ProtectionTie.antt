-- How the protections are tied to the effects of a history, and the horizon that a collection reaches.
use Rattle.std.specs.Prelude.{ℕ, List, ◌∷◌, ◌≡◌, map}
use Rattle.plain_database.specs.Prelude.{Effect, Protection, protections_made, protections_of, closed_of, collection_horizon, horizon_of}
use Rattle.plain_database.specs.FeedTie.{Book, FeedsTied}

-- what is kept: how many protections were made, and those that stand, the newest first
pub record Standing : Type 0 where
  pub made : ℕ
  pub standing : List Protection

-- what is kept is what the effects say of protections. (A record type without a name: what an effect leaves alone is the same by definition)
abbrev pub ProtectionsTied : Standing → List Effect → Type 0
ProtectionsTied kept p = record {
  made : protections_made p ≡ kept.made;
  standing : protections_of p ≡ kept.standing;
}

-- what is kept says this of the effects that it is tied to
abbrev pub Says : Standing → (List Effect → Type 0) → Type 0
Says kept P = (p : List Effect) → ProtectionsTied kept p → P p

-- one more effect leads from what is kept to the other
abbrev pub LeadsTo : Standing → Effect → Standing → Type 0
LeadsTo kept e kept' = (p : List Effect) → ProtectionsTied kept p → ProtectionsTied kept' (e ∷ p)

-- the protected timestamps
abbrev pub timestamps_of : List Protection → List ℕ
timestamps_of xs = map (λ (x : Protection). x.at) xs

-- a collection through to takes the horizon to n, where all that is given is tied to the same effects
abbrev pub IsReached : Book → Standing → ℕ → ℕ → ℕ → ℕ → Type 0
IsReached book kept to closed horizon n =
    (p : List Effect) → FeedsTied book p → ProtectionsTied kept p
    → closed ≡ closed_of p → horizon ≡ horizon_of p → n ≡ collection_horizon p to
