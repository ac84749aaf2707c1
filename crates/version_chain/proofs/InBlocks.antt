-- Versions in blocks: which block has a place, and what an edit of one block makes of all versions.
use Rattle.version_chain.proofs.Common.{IsPartitionPoint, IsPartitionedBy, common_steps, get_or-append_right, get_or_append_left, insert-append_left, insert-append_right, length-filter_both, nat_tests, remove-append_left, remove-append_right, set-append_left, set-append_right, set_split, take_more, take_more_set}
use Rattle.std.proofs.Common.{◌≡◌, ℕ, zero, suc, ◌+◌, ◌-◌, ◌^◌, ◌<◌, ◌≤◌, Bool, true, false, List, [], ◌∷◌, ◌++◌, length, take, drop, get_or, set, All, filter, insert, remove, not, refl, sym, ap, subst, ◌∙◌, append_assoc, arith, take-append-drop, take_all, get_or-drop}
use Rattle.std.specs.Prelude.{nat_le}
use Rattle.std.proofs.Math.Seq.{take-suc}
use Rattle.std.proofs.lemmas.List.{set-get_or}
use Rattle.std.proofs.lemmas.List.Elements.{filter-append}
use Rattle.version_chain.specs.declared.chain.Version.{Version}
use Rattle.version_chain.specs.declared.block.Block.{Block}
use Rattle.version_chain.specs.Blocks.{AreNumbered, IsBlockOf, IsSound, all_in}
use Rattle.version_chain.specs.Dead.{is_dead_version}

-- ---- all versions, from those of each block

pub all_append : (bs cs : List Block) → all_in (bs ++ cs) ≡ all_in bs ++ all_in cs
all_append [] cs = refl
all_append (b ∷ bs) cs = ap (λ vs. b.versions.items ++ vs) (all_append bs cs) ∙ sym (append_assoc b.versions.items (all_in bs) (all_in cs))

pub all_split : (bs : List Block) (n : ℕ) → all_in bs ≡ all_in (take n bs) ++ all_in (drop n bs)
all_split bs n = ap all_in (sym (take-append-drop n bs)) ∙ all_append (take n bs) (drop n bs)

-- those before the place of a block, those of the block that is put there, and those after it
pub parted_set : (bs : List Block) (k : ℕ) (b : Block) → k < length bs → all_in (set bs k b) ≡ all_in (take k bs) ++ (b.versions.items ++ all_in (drop (suc k) bs))
parted_set bs k b lt = ap all_in (set_split bs k b lt) ∙ all_append (take k bs) (b ∷ drop (suc k) bs)

-- the same of the block that stands there
pub parted : (bs : List Block) (k : ℕ) (b : Block) → k < length bs → b ≡ get_or bs k b → all_in bs ≡ all_in (take k bs) ++ (b.versions.items ++ all_in (drop (suc k) bs))
parted bs k b lt is = ap all_in (sym (ap (set bs k) is ∙ set-get_or bs k b)) ∙ parted_set bs k b lt

pub all_next : (bs : List Block) (k : ℕ) (d : Block) → k < length bs → length (all_in (take (suc k) bs)) ≡ length (all_in (take k bs)) + length (get_or bs k d).versions.items
all_next bs k d lt = grind (arith, common_steps, take-suc bs k d lt, all_append (take k bs) (get_or bs k d ∷ []))

-- ---- which block has a place

pub starts_rise : (bs : List Block) (place : ℕ) → AreNumbered bs → IsPartitionedBy (λ (b : Block). nat_le b.start place) bs
starts_rise bs place numbered i j d le lt low = grind (arith, common_steps, numbered i d, numbered j d, all_split (take j bs) i)

pub is_block : (bs : List Block) (place p : ℕ) → 0 < length bs → p ≤ length bs → AreNumbered bs → place ≤ length (all_in bs)
    → IsPartitionPoint (λ (b : Block). nat_le b.start place ≡ true) (λ (b : Block). nat_le b.start place ≡ false) bs p → (0 < p) × IsBlockOf bs place (p - 1)
is_block [] place p some bound numbered low at = absurd (omega arith)
is_block (b ∷ bs) place zero some bound numbered low at = grind (arith, common_steps, nat_tests, numbered 0 b, at.1 0 b)
is_block (b ∷ bs) place (suc q) some bound numbered low at =
    let all = take_all (suc q) (b ∷ bs) in (
      omega arith,
      record {
        within = omega arith;
        start = λ d. grind (arith, nat_tests, at.0 q d);
        end = λ d. grind (arith, nat_tests, numbered q d, all_next (b ∷ bs) q d, at.1 (suc q) d, numbered (suc q) d);
        inside = λ d lt. grind (arith, nat_tests, numbered q d, all_next (b ∷ bs) q d, at.1 (suc q) d, numbered (suc q) d);
      },
    )

-- behind the last block stand all
pub last_ends : (bs : List Block) (d : Block) → 0 < length bs → AreNumbered bs → (get_or bs (length bs - 1) d).start + length (get_or bs (length bs - 1) d).versions.items ≡ length (all_in bs)
last_ends bs d some numbered = grind (arith, common_steps, all_next)

-- ---- what an edit of one block makes of all versions

-- block k is b, which has the place
pub record HasPlace (bs : List Block) (place k : ℕ) (b : Block) : Type 0 where
  pub numbered : AreNumbered bs
  pub within : k < length bs
  pub is : b ≡ get_or bs k b
  pub start : b.start ≤ place
  pub end : place ≤ b.start + length b.versions.items
  pub inside : place < length (all_in bs) → place < b.start + length b.versions.items

pub has_place : (bs ds : List Block) (place k : ℕ) (b : Block) → AreNumbered bs → ds ≡ bs → IsBlockOf ds place k → b ≡ get_or bs k b → HasPlace bs place k b
has_place bs ds place k b numbered same at is = grind (arith, common_steps)

pub before_is : (bs : List Block) (place k : ℕ) (b : Block) → HasPlace bs place k b → length (all_in (take k bs)) ≡ b.start
before_is bs place k b at = sym (ap (λ c. c.start) at.is ∙ at.numbered k b at.within)

pub read_part : (bs : List Block) (place k : ℕ) (b : Block) (d : Version) → HasPlace bs place k b → place < length (all_in bs) → get_or (all_in bs) place d ≡ get_or b.versions.items (place - b.start) d
read_part bs place k b d at lt =
    grind (arith, common_steps, parted bs k b at.within at.is, before_is bs place k b at, get_or-append_right, get_or_append_left)

-- an edit of one place that leaves what stands before and behind it makes the same of all versions as of the block's own
edited : (edit : List Version → ℕ → List Version) (bs : List Block) (place k : ℕ) (b c : Block) → HasPlace bs place k b → ((xs ys : List Version) (n i : ℕ) → length xs ≡ n → n ≤ i → edit (xs ++ ys) i ≡ xs ++ edit ys (i - n))
    → edit (b.versions.items ++ all_in (drop (suc k) bs)) (place - b.start) ≡ c.versions.items ++ all_in (drop (suc k) bs)
    → all_in (set bs k c) ≡ edit (all_in bs) place
edited edit bs place k b c at behind front =
    let split = parted bs k b at.within at.is in
    grind (arith, common_steps, parted_set bs k c at.within, split, behind (all_in (take k bs)), before_is bs place k b at)

pub set_part : (bs : List Block) (place k : ℕ) (b c : Block) (v : Version) → HasPlace bs place k b → place < length (all_in bs) → c.versions.items ≡ set b.versions.items (place - b.start) v → all_in (set bs k c) ≡ set (all_in bs) place v
set_part bs place k b c v at lt edit =
    edited (λ vs i. set vs i v) bs place k b c at (λ xs ys n i. set-append_right xs ys n i v) (grind (arith, set-append_left, at.inside lt))

pub insert_part : (bs : List Block) (place k : ℕ) (b c : Block) (v : Version) → HasPlace bs place k b → c.versions.items ≡ insert b.versions.items (place - b.start) v → all_in (set bs k c) ≡ insert (all_in bs) place v
insert_part bs place k b c v at edit =
    edited (λ vs i. insert vs i v) bs place k b c at (λ xs ys n i. insert-append_right xs ys n i v) (grind (arith, insert-append_left))

pub remove_part : (bs : List Block) (place k : ℕ) (b c : Block) → HasPlace bs place k b → place < length (all_in bs) → c.versions.items ≡ remove b.versions.items (place - b.start) → all_in (set bs k c) ≡ remove (all_in bs) place
remove_part bs place k b c at lt edit = edited remove bs place k b c at remove-append_right (grind (arith, remove-append_left, at.inside lt))

-- a block that is as long in place of another
pub long_set : (bs : List Block) (k n : ℕ) (b c : Block) → k < length bs → b ≡ get_or bs k b → length c.versions.items ≡ length b.versions.items → length (all_in (take n (set bs k c))) ≡ length (all_in (take n bs))
long_set bs k zero b c lt is long = refl
long_set [] k (suc n) b c lt is long = absurd (omega arith)
long_set (a ∷ bs) zero (suc n) b c lt is long = grind (arith, common_steps)
long_set (a ∷ bs) (suc k) (suc n) b c lt is long = grind (arith, common_steps, long_set bs k n b c)

pub numbered_set : (bs : List Block) (k : ℕ) (b c : Block) → AreNumbered bs → k < length bs → b ≡ get_or bs k b → c.start ≡ b.start → length c.versions.items ≡ length b.versions.items → AreNumbered (set bs k c)
numbered_set bs k b c numbered lt is start long j d within = grind (arith, common_steps, long_set bs k j b c lt is long, numbered j b, numbered j d)

-- so an edit of one version leaves blocks as they have to be
pub set_sound : (bs : List Block) (place k : ℕ) (b c : Block) (v : Version) → IsSound bs → HasPlace bs place k b → place < length (all_in bs) → c.start ≡ b.start → c.versions.items ≡ set b.versions.items (place - b.start) v → IsSound (set bs k c)
set_sound bs place k b c v sound at lt start edit =
    grind (arith, common_steps, numbered_set, ap length edit, ap length (set_part bs place k b c v at lt edit))

-- and so does a block that is as it was
pub same_part : (bs : List Block) (place k : ℕ) (b c : Block) → HasPlace bs place k b → c.versions.items ≡ b.versions.items → all_in (set bs k c) ≡ all_in bs
same_part bs place k b c at same = grind (arith, common_steps, parted_set, parted)

pub same_sound : (bs : List Block) (place k : ℕ) (b c : Block) → IsSound bs → HasPlace bs place k b → c.start ≡ b.start → c.versions.items ≡ b.versions.items → IsSound (set bs k c)
same_sound bs place k b c sound at start same = grind (arith, common_steps, numbered_set, same_part bs place k b c at same)

-- ---- blocks that are numbered, one after another

-- the first of blocks that are numbered are so too
pub numbered_take : (bs : List Block) (n : ℕ) → AreNumbered bs → AreNumbered (take n bs)
numbered_take bs n numbered k d lt = grind (arith, common_steps)

-- the first i blocks of bs, which have the versions of os, are numbered, and so many versions stand in them
pub record IsNumberedTo (os bs : List Block) (start i : ℕ) : Type 0 where
  pub same : all_in bs ≡ all_in os
  pub long : length bs ≡ length os
  pub sum : start ≡ length (all_in (take i bs))
  pub numbered : (k : ℕ) (d : Block) → k < i → (get_or bs k d).start ≡ length (all_in (take k bs))

pub numbered_fits : (os bs : List Block) (start i : ℕ) → IsNumberedTo os bs start i → start ≤ length (all_in os)
numbered_fits os bs start i p = let all = ap length (sym p.same ∙ all_split bs i) in grind (arith, common_steps)

-- block i is c now, which has the versions of b
pub numbered_next : (os bs : List Block) (start i n : ℕ) (b c : Block) → i < length bs → b ≡ get_or bs i b → c.start ≡ start → c.versions.items ≡ b.versions.items → n ≡ length c.versions.items → IsNumberedTo os bs start i → IsNumberedTo os (set bs i c) (start + n) (i + 1)
numbered_next os bs start i n b c lt is first edit many p =
    grind (arith, common_steps, parted_set bs i c lt, parted bs i b lt is, all_next bs i b, long_set bs i (suc i) b c, long_set bs i)

-- ---- blocks that are halved, or go

pub halved : (bs : List Block) (k : ℕ) (b lower upper : Block) → k < length bs → b ≡ get_or bs k b → lower.versions.items ++ upper.versions.items ≡ b.versions.items → all_in (insert (set bs k lower) (suc k) upper) ≡ all_in bs
halved [] k b lower upper lt is both = absurd (omega arith)
halved (a ∷ bs) zero b lower upper lt is both = grind (arith, common_steps, append_assoc lower.versions.items upper.versions.items (all_in bs))
halved (a ∷ bs) (suc k) b lower upper lt is both = grind (arith, common_steps, halved bs k b lower upper)

pub emptied : (bs : List Block) (k : ℕ) (b : Block) → k < length bs → b ≡ get_or bs k b → b.versions.items ≡ [] → all_in (remove bs k) ≡ all_in bs
emptied bs k b lt is none = grind (arith, common_steps, all_append (take k bs) (drop (suc k) bs), parted bs k b lt is)

-- ---- what is dead goes

-- of the first i blocks of bs, which were those of os, what passes a test is left, and the others are as they were
pub record IsThinnedTo (p : Version → Bool) (os bs : List Block) (i : ℕ) : Type 0 where
  pub long : length bs ≡ length os
  pub before : all_in (take i bs) ≡ filter p (all_in (take i os))
  pub behind : drop i bs ≡ drop i os

pub thinned_next : (p : Version → Bool) (os bs : List Block) (i : ℕ) (b c : Block) → i < length bs → b ≡ get_or bs i b → c.versions.items ≡ filter p b.versions.items → IsThinnedTo p os bs i → IsThinnedTo p os (set bs i c) (i + 1)
thinned_next p os bs i b c lt is less t =
    grind (arith, common_steps, take_more_set, take_more, all_append, filter-append, get_or-drop, ap (λ cs. get_or cs 0 b) t.behind)

-- what stands behind a place of the first part passes the test
filtered_front : (p : Version → Bool) (xs ys : List Version) (n : ℕ) → n ≤ length xs → All (λ (v : Version). p v ≡ true) (drop n (xs ++ ys)) → filter p xs ++ ys ≡ filter p (xs ++ ys)
filtered_front p [] [] n le live = refl
filtered_front p [] (y ∷ ys) (suc n) le live = absurd (omega arith)
filtered_front p [] (y ∷ ys) zero le live =
    rw (live zero y (omega arith)) (ap (λ zs. y ∷ zs) (filtered_front p [] ys 0 le (λ k d lt. live (suc k) d (omega arith))))
filtered_front p (x ∷ xs) ys zero le live =
    rw (live zero x (omega arith)) (ap (λ zs. x ∷ zs) (filtered_front p xs ys 0 (omega arith) (λ k d lt. live (suc k) d (omega arith))))
filtered_front p (x ∷ xs) ys (suc n) le live = grind (arith, common_steps, filtered_front p xs ys n)

place_within : (bs : List Block) (place k : ℕ) → AreNumbered bs → IsBlockOf bs place k → place ≤ length (all_in (take (k + 1) bs))
place_within [] place k numbered at = absurd (omega (arith, at.within))
place_within (b ∷ bs) place k numbered at = grind (arith, numbered k b at.within, all_next (b ∷ bs) k b at.within, at.end b)

pub thinned_end : (p : Version → Bool) (os bs : List Block) (i m : ℕ) → i ≡ m → IsThinnedTo p os bs i → all_in bs ≡ filter p (all_in (take m os)) ++ all_in (drop m os)
thinned_end p os bs i m end t = grind (arith, common_steps, all_split)

pub empty_more : (bs : List Block) (n : ℕ) (b : Block) → n < length bs → b ≡ get_or bs n b → b.versions.items ≡ [] → all_in (take n bs) ≡ [] → all_in (take (n + 1) bs) ≡ []
empty_more bs n b lt is none before = grind (arith, common_steps, take_more, all_append)

-- the first blocks are empty, and gone
ahead_same : (bs ds cs : List Block) (n last : ℕ) → last < length bs → ds ≡ bs → n ≤ length (take last ds) → all_in (take n (take last ds)) ≡ [] → cs ≡ drop n bs → (all_in cs ≡ all_in bs) × (0 < length cs)
ahead_same bs ds cs n last lt read within none left = grind (arith, common_steps, all_split bs n)

-- what a collection leaves in cs: es are the blocks once what is dead has gone from those up to block k
pub record IsCollectedTo (n top : ℕ) (bs cs : List Block) : Type 0 where
  pub left : all_in cs ≡ filter (λ (v : Version). not (is_dead_version n top v)) (all_in bs)
  pub some : 0 < length cs
  pub few : length (all_in cs) < 2 ^ 64

pub collected : (n top place k m : ℕ) (bs cs ds es fs : List Block) → IsSound bs → ds ≡ bs → IsBlockOf ds place k → All (λ (v : Version). is_dead_version n top v ≡ false) (drop place (all_in bs))
    → all_in es ≡ filter (λ (v : Version). not (is_dead_version n top v)) (all_in (take (k + 1) bs)) ++ all_in (drop (k + 1) bs) → length es ≡ length bs
    → fs ≡ es → m ≤ length (take k fs) → all_in (take m (take k fs)) ≡ [] → cs ≡ drop m es → IsCollectedTo n top bs cs
collected n top place k m bs cs ds es fs sound same found live less long read within none rest =
    let at = subst (λ gs. IsBlockOf gs place k) same found in
    let ahead = ahead_same es fs cs m k (omega (arith, at.within)) read within none rest in
    let live' = subst (λ vs. All (λ (v : Version). is_dead_version n top v ≡ false) (drop place vs)) (all_split bs (k + 1)) live in
    let front = filtered_front (λ v. not (is_dead_version n top v)) _ _ place (place_within bs place k sound.numbered at)
    (λ j d lt. ap not (live' j d lt)) in
    let fewer = length-filter_both (is_dead_version n top) (λ v. not (is_dead_version n top v)) (λ v. refl) (all_in bs) in
    grind (arith, common_steps, all_split bs (k + 1))
