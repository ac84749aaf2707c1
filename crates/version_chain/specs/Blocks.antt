-- Versions in blocks, each of which says how many stand before it.
use Rattle.std.specs.Prelude.{ℕ, List, [], ◌∷◌, ◌++◌, ◌+◌, ◌^◌, ◌<◌, ◌≤◌, ◌≡◌, length, take, slice_index_or}
use Rattle.version_chain.specs.declared.chain.Version.{Version}
use Rattle.version_chain.specs.declared.block.Block.{Block}

-- all versions, those of the first block first
abbrev pub all_in : List Block → List Version
all_in [] = []
all_in (b ∷ bs) = b.versions.items ++ all_in bs

-- each block says how many versions stand before it
abbrev pub AreNumbered : List Block → Type 0
AreNumbered bs = (k : ℕ) (d : Block) → k < length bs → (slice_index_or bs k d).start ≡ length (all_in (take k bs))

-- there is a block, the starts are right, and a machine number can count all versions
pub record IsSound (bs : List Block) : Type 0 where
  pub some : 0 < length bs
  pub numbered : AreNumbered bs
  pub few : length (all_in bs) < 2 ^ 64

-- the place, or the end of all versions, lies in block k
pub record IsBlockOf (bs : List Block) (place k : ℕ) : Type 0 where
  pub within : k < length bs
  pub start : (d : Block) → (slice_index_or bs k d).start ≤ place
  pub end : (d : Block) → place ≤ (slice_index_or bs k d).start + length (slice_index_or bs k d).versions.items
  pub inside : (d : Block) → place < length (all_in bs) → place < (slice_index_or bs k d).start + length (slice_index_or bs k d).versions.items
