-- An edit of one version in blocks, from what the code knows of its block: what it makes of all versions, and that blocks stay as they have to be.
use Rattle.version_chain.proofs.Common.{length-insert, length-remove}
use Rattle.std.proofs.Common.{◌≡◌, ℕ, suc, ◌-◌, ◌^◌, ◌<◌, ◌≤◌, List, length, take, get_or, set, insert, remove, ap, ◌∙◌, arith}
use Rattle.version_chain.specs.declared.chain.Version.{Version}
use Rattle.version_chain.specs.declared.block.Block.{Block}
use Rattle.version_chain.specs.Blocks.{IsBlockOf, IsSound, all_in}
use Rattle.version_chain.proofs.InBlocks.{HasPlace, before_is, has_place, insert_part, read_part, remove_part, same_part, same_sound, set_part, set_sound}

-- block k is b, which has the place, and all versions are vs
module _ (bs ds : List Block) (vs : List Version) (place k : ℕ) (b : Block) (sound : IsSound bs) (same : ds ≡ bs) (all : all_in bs ≡ vs) (found : IsBlockOf ds place k) (is : b ≡ get_or bs k b) where
  here : HasPlace bs place k b
  here = has_place bs ds place k b sound.numbered same found is

  pub start_at : length (all_in (take k bs)) ≡ b.start
  start_at = before_is bs place k b here

  pub read_at : (d : Version) → place < length vs → get_or vs place d ≡ get_or b.versions.items (place - b.start) d
  read_at d lt = rw (← all) (read_part bs place k b d here (rw all lt))

  pub stays_sound : (c : Block) → c.start ≡ b.start → c.versions.items ≡ b.versions.items → IsSound (set bs k c)
  stays_sound c start edit = same_sound bs place k b c sound here start edit

  pub stays_at : (c : Block) → c.versions.items ≡ b.versions.items → all_in (set bs k c) ≡ vs
  stays_at c edit = same_part bs place k b c here edit ∙ all

  pub set_keeps : (c : Block) (v : Version) → place < length vs → c.start ≡ b.start → c.versions.items ≡ set b.versions.items (place - b.start) v → IsSound (set bs k c)
  set_keeps c v lt start edit = set_sound bs place k b c v sound here (rw all lt) start edit

  pub set_at : (c : Block) (v : Version) → place < length vs → c.versions.items ≡ set b.versions.items (place - b.start) v → all_in (set bs k c) ≡ set vs place v
  set_at c v lt edit = set_part bs place k b c v here (rw all lt) edit ∙ ap (λ us. set us place v) all

  pub insert_at : (c : Block) (v : Version) → place ≤ length vs → c.versions.items ≡ insert b.versions.items (place - b.start) v → (all_in (set bs k c) ≡ insert vs place v) × (length (all_in (set bs k c)) ≡ suc (length vs))
  insert_at c v le edit = let at = insert_part bs place k b c v here edit ∙ ap (λ us. insert us place v) all in (at, (let long = ap length at in omega (arith, length-insert vs place v le)))

  pub remove_at : (c : Block) → place < length vs → c.versions.items ≡ remove b.versions.items (place - b.start) → (all_in (set bs k c) ≡ remove vs place) × (length (all_in (set bs k c)) < 2 ^ 64)
  remove_at c lt edit = let at = remove_part bs place k b c here (rw all lt) edit ∙ ap (λ us. remove us place) all in (at, (let long = ap length at in let old = ap length all in omega (arith, sound.few, length-remove vs place lt)))
