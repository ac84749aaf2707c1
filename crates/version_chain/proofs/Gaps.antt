-- Readers of a key and its versions: which reader crosses a write, and the gap of a read.
use Rattle.version_chain.proofs.Common.{After, IsBetween, IsCrossed, IsPiece, and_parts, common_steps, is_kept, is_reader, nat_tests, newest, newest_only, option_copied, until}
use Rattle.std.proofs.Common.{◌≡◌, ℕ, ◌<◌, ◌≤◌, ◌==◌, Bool, false, List, [], ◌∷◌, Option, Some, None, Result, Ok, Err, refl, ap, arith, max, nat_lt, option_map}
use Rattle.std.specs.Prelude.{◌↔◌, IfSome, IsTrue, MatchOption, OnErr, OnOk}
use Rattle.std.specs.Borrow.{Bor}
use Rattle.kept.specs.Finding.{IsNextAbove}
use Rattle.version_chain.specs.declared.chain.Version.{Version}
use Rattle.version_chain.specs.Stores.{Stored, chain_of, marked_in, IsCrossedIn, IsNotedOn}
use Rattle.version_chain.specs.Versions.{afters_of, ts_or, IsLeastAbove, IsNewestOf, IsNoneAbove, IsNoneUpTo}

abbrev ts-of : Option Version → Option ℕ
ts-of o = option_map (λ (v : Version). v.ts) o

-- ---- versions

-- the next version, by what it left
pub next_of : (vs : List Version) (t : ℕ) (o : Option Version) → MatchOption o (IsNoneAbove vs t) (λ v. IsLeastAbove vs t v) → IsNextAbove (afters_of vs) t (ts-of o)
next_of vs t None none = λ n over. ap (option_map (λ (v : Version). v.after)) (none n over)
next_of vs t (Some v) least = grind (arith, common_steps)

-- the newest one
pub newest_of : (vs : List Version) (t : ℕ) (o : Option Version) → IfSome o (λ v. 1 ≤ v.ts) → MatchOption o (IsNoneUpTo vs t) (λ v. IsNewestOf vs t v) → (newest (afters_of vs) t).ts ≡ ts_or o 0
newest_of vs t None some none = ap (λ v. v.ts) (newest_only (afters_of vs) t 0 None (grind (arith, common_steps)))
newest_of vs t (Some v) some one = ap (λ v. v.ts) (newest_only (afters_of vs) t v.ts v.after (grind (arith, common_steps)))

-- ---- a read in its gap

pub match_copied : {X : Type 0} (P : Type 0) (Q : X → Type 0) (o : Option (Bor X)) → MatchOption o P (λ v. Q v.now) → MatchOption (option_copied o) P Q
match_copied P Q None h = h
match_copied P Q (Some v) h = h

until_next : (o : Option Version) → until (ts-of o) ≡ ts_or o 18446744073709551615
until_next None = refl
until_next (Some v) = refl

pub noted_on : (vs : List Version) (m m' : ℕ → Bool) (t above high : ℕ) (first next : Option Version) → MatchOption first (IsNoneUpTo vs t) (λ v. IsNewestOf vs t v) → IfSome first (λ v. 1 ≤ v.ts) → MatchOption next (IsNoneAbove vs t) (λ v. IsLeastAbove vs t v)
    → above ≡ ts_or first 0 → high ≡ ts_or next 18446744073709551615 → (above ≡ t → (j : ℕ) → m' j ≡ m j) → ((above == t) ≡ false → IsPiece m m' t above high) → IsNotedOn (afters_of vs) m m' t
noted_on vs m m' t above high first next one some least at end own other = grind (arith, common_steps, newest_of, next_of, until_next)

-- ---- readers that are the same

pub piece_alike : (m n m' n' : ℕ → Bool) (t above high : ℕ) → ((j : ℕ) → m j ≡ n j) → ((j : ℕ) → m' j ≡ n' j) → IsPiece m m' t above high → IsPiece n n' t above high
piece_alike m n m' n' t above high old new p = grind (arith, common_steps)

pub noted_alike : (g h : ℕ → Option After) (m n m' n' : ℕ → Bool) (t : ℕ) → g ≡ h → ((j : ℕ) → m j ≡ n j) → ((j : ℕ) → m' j ≡ n' j) → IsNotedOn g m m' t → IsNotedOn h n n' t
noted_alike g h m n m' n' t same old new p = grind (arith, common_steps)

-- where there was room a note is made
pub room_there : {A E P R : Type 0} (r : Result A E) → OnOk r P → OnErr r (R → ⊥) → R → P
room_there (Ok x) ok full room = ok
room_there (Err e) ok full room = absurd (full room)

-- ---- what the test of a write answers

pub crosses : (xs : List ℕ) (f : ℕ) (g : ℕ → Option After) (t : ℕ) (next : Option ℕ) (above : ℕ) (b : Bool) → above ≡ max t f → IsNextAbove g t next → IsTrue b ↔ IsBetween (is_reader xs) above next → IsTrue b ↔ IsCrossed (is_kept f xs) g t
crosses xs f g t next above b at is found = grind (arith, common_steps)

-- where no reader at all is above it
pub crosses_not : (xs : List ℕ) (f : ℕ) (g : ℕ → Option After) (t above : ℕ) (b : Bool) → above ≡ max t f → b ≡ false → IsTrue b ↔ IsBetween (is_reader xs) above None → IsTrue false ↔ IsCrossed (is_kept f xs) g t
crosses_not xs f g t above b at off found = grind (arith, common_steps)

-- by the versions and the readers that the record of a key has
pub crossed_like : (s : Stored) (x : List ℕ) (t f : ℕ) (vs : List Version) (xs : List ℕ) → chain_of s x ≡ vs → ((j : ℕ) → marked_in s x j ≡ is_kept f xs j) → IsCrossed (is_kept f xs) (afters_of vs) t ↔ IsCrossedIn s x t
crossed_like s x t f vs xs chain marks = grind (arith, common_steps)

-- where there is no version, a lone reader crosses what is below it, unless it is forgotten
pub lone_crosses : (latest t f : ℕ) → max t f < latest → IsCrossed (is_kept f (latest ∷ [])) (afters_of []) t
lone_crosses latest t f over = record { reader = latest; mark = grind (arith, nat_tests); above = omega arith; none = λ n a b. refl }

pub none_crosses : (latest t f : ℕ) → latest ≤ max t f → IsCrossed (is_kept f (latest ∷ [])) (afters_of []) t → ⊥
none_crosses latest t f low c =
    let both = and_parts (nat_lt f c.reader) (is_reader (latest ∷ []) c.reader) c.mark in
    grind (arith, common_steps, nat_tests, both.0, both.1, c.above)
