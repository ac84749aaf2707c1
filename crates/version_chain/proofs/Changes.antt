-- What is found in the chains of all keys after one of them changed.
use Rattle.std.proofs.Common.{arith, rules, ◌≡◌, ℕ, ◌==◌, cond, List, [], ◌∷◌, Option, Some, None, Result, Ok, Err, ◌∙◌, ap}
use Rattle.std.proofs.lemmas.Grind.{common_steps}
use Rattle.std.specs.Prelude.{OnOk, OnErr}
use Rattle.spans.proofs.Steps.{by_test, same_key}
use Rattle.version_chain.specs.declared.chain.Version.{Version}
use Rattle.version_chain.specs.Versions.{version_of}
use Rattle.version_chain.specs.Stores.{Stored, chain_of, found_in, HaveSameChains, IsChangedAt}
use Rattle.version_chain.specs.Records.{IsPut}

-- what became of the versions of one key
abbrev pub IsEdited : List Version → List Version → ℕ → (Option Version → Option Version) → Type 0
IsEdited vs ws t f = (i : ℕ) → version_of ws i ≡ cond (t == i) (f (version_of vs i)) (version_of vs i)

pub changed : (es fs : Stored) (x : List ℕ) (ws : List Version) (t : ℕ) (f : Option Version → Option Version) → IsPut es fs x ws → IsEdited (chain_of es x) ws t f → IsChangedAt es fs x t f
changed es fs x ws t f put edit y i = search (by_test, same_key, rules, arith)

-- a chain of one version, where there was none
pub edited_one : (vs ws : List Version) (v : Version) → vs ≡ [] → ws ≡ v ∷ [] → IsEdited vs ws v.ts (λ _. Some v)
edited_one vs ws v none one i = grind (arith, common_steps)

-- ---- the same chains

pub found_alike : (s s' : Stored) → HaveSameChains s s' → (y : List ℕ) (i : ℕ) → found_in s' y i ≡ found_in s y i
found_alike s s' same y i = ap (λ vs. version_of vs i) (same y)

pub changed_alike : (s m s' : Stored) (x : List ℕ) (t : ℕ) (f : Option Version → Option Version) → IsChangedAt s m x t f → HaveSameChains m s' → IsChangedAt s s' x t f
changed_alike s m s' x t f change same y i = found_alike m s' same y i ∙ change y i

-- where x has no version, a change of what is there changes nothing
pub unchanged : (s : Stored) (x : List ℕ) (t : ℕ) (f : Option Version → Option Version) → chain_of s x ≡ [] → f None ≡ None → IsChangedAt s s x t f
unchanged s x t f none keeps = search (changed, by_test, same_key, rules, arith)

-- a chain without a version is put where there was none
pub put_nothing : (s s' : Stored) (x : List ℕ) (vs : List Version) → vs ≡ [] → chain_of s x ≡ [] → IsPut s s' x vs → HaveSameChains s s'
put_nothing s s' x vs empty none put y = search (by_test, same_key, rules, arith)

pub by_result : {A E P : Type 0} (r : Result A E) → OnOk r P → OnErr r P → P
by_result (Ok x) ok err = ok
by_result (Err x) ok err = err
