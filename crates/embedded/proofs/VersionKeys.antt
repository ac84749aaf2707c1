-- The versions of several keys, key by key.
use Rattle.std.proofs.Common.{◌≡◌, ℕ, ◌+◌, ◌<◌, ◌≤◌, List, [], ◌∷◌, ◌++◌, length, drop, set, map, get_or, arith, sym, ap, ◌∙◌, append_assoc, length-append, length-drop, drop-drop}
use Rattle.std.specs.Int.{w16, to_le_bytes}
use Rattle.embedded.proofs.Common.{AllByRecursion, Effect, append-nil, drop_more, flat_map, flat_map-append, length-map, length_push, map_push, set_at, value_version}
use Rattle.embedded.specs.Looks.{IsKey, Leads, version_number, with_length}

-- the versions of keys, as they are told
abbrev pub told_of : List Effect → ℕ → List (List ℕ) → List ℕ
told_of p t keys = map (λ x. version_number (value_version p x t)) keys

-- these keys were told so far
pub record HaveTold (p : List Effect) (t : ℕ) (bytes versions : List ℕ) (at count : ℕ) (versions' : List ℕ) : Type 0 where
  pub keys : List (List ℕ)
  pub each : AllByRecursion IsKey keys
  pub read : bytes ≡ flat_map with_length keys ++ drop at bytes
  pub told : versions' ≡ told_of p t keys ++ drop count versions
  pub counted : count ≡ length keys

-- keys, and one more
keys_more : (keys : List (List ℕ)) (x : List ℕ) → AllByRecursion IsKey keys → IsKey x → AllByRecursion IsKey (keys ++ x ∷ [])
keys_more [] x all is = (is, tt)
keys_more (y ∷ keys) x all is = (all.0, keys_more keys x all.1 is)

-- a key more
pub told_more : (p : List Effect) (t : ℕ) (bytes versions : List ℕ) (at count : ℕ) (versions' rest x : List ℕ) (version : ℕ) → HaveTold p t bytes versions at count versions' → count < length versions
    → rest ≡ drop at bytes → Leads x (drop (2 + length x) rest) rest → version ≡ version_number (value_version p x t) → HaveTold p t bytes versions (at + (2 + length x)) (count + 1) (set versions' count version)
told_more p t bytes versions at count versions' rest x version g low from leads is =
    let behind : drop (2 + length x) rest ≡ drop (at + (2 + length x)) bytes = ap (drop (2 + length x)) from ∙ drop-drop (2 + length x) at bytes in
    let keys : List (List ℕ) = g.keys ++ x ∷ [] in
    let read : flat_map with_length keys ≡ flat_map with_length g.keys ++ with_length x = flat_map-append with_length g.keys (x ∷ []) ∙ ap (λ (l : List ℕ). flat_map with_length g.keys ++ l) (append-nil (with_length x)) in
    record {
      keys = keys;
      each = keys_more g.keys x g.each leads.0;
      read = g.read ∙ ap (λ (l : List ℕ). flat_map with_length g.keys ++ l) (sym from ∙ leads.1 ∙ ap (λ (l : List ℕ). with_length x ++ l) behind)
          ∙ sym (append_assoc (flat_map with_length g.keys) (with_length x) (drop (at + (2 + length x)) bytes)) ∙ ap (λ (l : List ℕ). l ++ drop (at + (2 + length x)) bytes) (sym read);
      told = set_more versions versions' (told_of p t g.keys) version count g.told (g.counted ∙ sym (length-map g.keys (λ y. version_number (value_version p y t)))) low
          ∙ ap (λ (l : List ℕ). l ++ drop (count + 1) versions) (ap (λ (n : ℕ). told_of p t g.keys ++ n ∷ []) is ∙ sym (map_push (λ y. version_number (value_version p y t)) g.keys x));
      counted = omega (arith, g.counted, length_push g.keys x);
    }
  where
    set_more : (versions versions' before : List ℕ) (version n : ℕ) → versions' ≡ before ++ drop n versions → n ≡ length before → n < length versions → set versions' n version ≡ (before ++ version ∷ []) ++ drop (n + 1) versions
    set_more versions versions' before version n is at low =
        let split : versions' ≡ before ++ get_or versions n version ∷ drop (n + 1) versions = is ∙ ap (λ (l : List ℕ). before ++ l) (drop_more versions n version low) in
        ap (λ (l : List ℕ). set l n version) split ∙ (set_at before (get_or versions n version) (drop (n + 1) versions) version n (sym at) ∙ sym (append_assoc before (version ∷ []) (drop (n + 1) versions)))

-- it lies within the bytes
pub key_within : (bytes rest x : List ℕ) (at : ℕ) → at ≤ length bytes → rest ≡ drop at bytes → Leads x (drop (2 + length x) rest) rest → at + (2 + length x) ≤ length bytes
key_within bytes rest x at within from leads =
    let left = drop (2 + length x) rest in
    omega (arith, ap length leads.1, length-append (with_length x) left, length-append (to_le_bytes w16 (length x)) x, ap length from, length-drop at bytes, within)
