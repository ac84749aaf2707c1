-- All keys and values that the database shows were written by commands, so they keep the limits that those keep.
use Rattle.std.proofs.Common.{◌≡◌, ℕ, ◌==◌, ◌&&◌, List, [], ◌∷◌, Option, Some, None, refl, sym, subst, inl, inr}
use Rattle.std.specs.Prelude.{bytes_eq}
use Rattle.pipes.proofs.Common.{After, AllByRecursion, Cmd, Del, Effect, Event, Format, IsAfter, IsCommand, IsIn, IsKey, IsPair, Put, Refused, Reply, TooLate, Writes, Written, and_parts, by_test, committed_value, committed_version_of, effect, effects_of, newest_is, only_in, pairs_of, same_key, version_of, version_wrote, visible, with_value, write_of, written_keys}
use Rattle.spans.specs.Versions.{newest}
use Rattle.spans.proofs.Dead.{committed_is}
use Rattle.pipes.specs.Texts.{KeepsFormat}

module _ (format : Format) where
  -- the key and the value of a write keep the limits
  abbrev pub KeepsWrite : Effect → Type 0
  KeepsWrite (Writes t x a) = IsKey format x × IsAfter format a
  KeepsWrite d = Unit {0}

  -- so do those of a command that keeps them
  effect_keeps : (seat : ℕ) (c : Cmd) (r : Reply) → IsCommand format c → KeepsWrite (effect seat c r)
  unfolding IsCommand
  effect_keeps seat (Put t x v) Written is = (is.1, is.2)
  effect_keeps seat (Del t x) Written is = (is.1, tt)
  effect_keeps seat c (Refused TooLate) is = tt
  effect_keeps seat c r is = tt

  -- all writes of a history do whose commands keep them
  pub effects_keep : (h : List Event) → AllByRecursion (KeepsFormat format) h → AllByRecursion KeepsWrite (effects_of h)
  effects_keep [] keeps = tt
  effects_keep (e ∷ h) keeps = (effect_keeps e.seat e.cmd e.reply keeps.0.1, effects_keep h keeps.1)

  -- what was written
  pub wrote_keeps : (p : List Effect) → AllByRecursion KeepsWrite p → (t : ℕ) (x : List ℕ) (a : After) → write_of p t x ≡ Some a → IsKey format x × IsAfter format a
  wrote_keeps [] keeps t x a is = absurd cc
  wrote_keeps (Writes k y b ∷ p) keeps t x a is = by_test ((k == t) && bytes_eq y x)
      (λ here. let same : Some b ≡ Some a = rw here at is in let e : b ≡ a = cc in
      (subst (IsKey format) (same_key y x (and_parts _ _ here).1) keeps.0.0, subst (IsAfter format) e keeps.0.1))
      (λ other. wrote_keeps p keeps.1 t x a (rw other at is))
  wrote_keeps (_ ∷ p) keeps t x a is = wrote_keeps p keeps.1 t x a is

  -- the keys that were
  pub key_keeps : (p : List Effect) → AllByRecursion KeepsWrite p → (x : List ℕ) → IsIn x (written_keys p) → IsKey format x
  key_keeps [] keeps x i = absurd i
  key_keeps (Writes k y b ∷ p) keeps x i = elim (only_in y x (written_keys p) i) [
    | inl here ↦ subst (IsKey format) here keeps.0.0
    | inr there ↦ key_keeps p keeps.1 x there
  ]
  key_keeps (_ ∷ p) keeps x i = key_keeps p keeps.1 x i

  -- what a read finds
  pub visible_keeps : (p : List Effect) → AllByRecursion KeepsWrite p → (x : List ℕ) (t : ℕ) → IsAfter format (visible p x t).after
  visible_keeps p keeps x t = elim (newest_is (version_of p x) t).has [
    | inl none ↦ subst (IsAfter format) (sym none.1) tt
    | inr some ↦ (wrote_keeps p keeps (visible p x t).ts x _ (version_wrote p x (visible p x t).ts _ some.1).1).1
  ]

  pub committed_keeps : (p : List Effect) → AllByRecursion KeepsWrite p → (x : List ℕ) (t : ℕ) → IsAfter format (committed_value p x t)
  committed_keeps p keeps x t = elim (newest_is (committed_version_of p x) t).has [
    | inl none ↦ subst (IsAfter format) (sym none.1) tt
    | inr some ↦ (let k : ℕ = (newest (committed_version_of p x) t).ts in (wrote_keeps p keeps k x _ (committed_is p x k _ some.1).1).1)
  ]

  -- keys with their values are rows that have a text
  pub pairs_keep : (m : List ℕ → Option (List ℕ)) (ys : List (List ℕ)) → ((x : List ℕ) → IsIn x ys → IsKey format x) → ((x : List ℕ) → IsAfter format (m x)) → AllByRecursion (IsPair format) (pairs_of m ys)
  pairs_keep m [] keys values = tt
  pairs_keep m (y ∷ ys) keys values = by_value (m y) (values y) (pairs_keep m ys (λ x i. keys x (inr i)) values)
    where
      by_value : (o : Option (List ℕ)) → IsAfter format o → AllByRecursion (IsPair format) (pairs_of m ys) → AllByRecursion (IsPair format) (with_value y o (pairs_of m ys))
      by_value None is more = more
      by_value (Some v) is more = ((keys y (inl refl), is), more)
