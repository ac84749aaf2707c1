-- The rows of a span at a closed timestamp, one key after another.
use Rattle.mvto_rules.proofs.Common.{AllByRecursion, Entry, RisingKeys, Span, Stored, Version, append-nil, chain_of, common_steps, in_span, is_committed_in, keys_of, version_in, with_value}
use Rattle.std.proofs.Common.{arith, refl, List, Option, ap, sym, true, ℕ, ◌++◌, ◌∷◌, ◌≡◌, ◌∙◌, []}
use Rattle.mvto_rules.specs.Scans.{entries_of, keys_in, rows_in, value_in}
use Rattle.mvto_rules.proofs.Seeing.{IsThere}
use Rattle.mvto_rules.proofs.Walking.{each_found}

-- these entries are left, and the rows of those before are listed
pub record IsListing (s : Stored) (t : ℕ) (span : Span) (rest : List Entry) (rows : List (List ℕ × List ℕ)) : Type 0 where
  pub each : AllByRecursion (λ (e : Entry). (in_span span e.0 ≡ true) × (chain_of s e.0 ≡ e.1)) rest
  pub listed : rows ++ rows_in s t (keys_of rest) ≡ rows_in s t (keys_in s span)

pub list_begins : (s : Stored) (t : ℕ) (span : Span) (found : List Entry) (rows : List (List ℕ × List ℕ)) → found ≡ entries_of s span → RisingKeys (keys_of s.entries) → rows ≡ [] → IsListing s t span found rows
list_begins s t span found rows those rising none = record {
  each = each_found s span found [] found those rising refl;
  listed = ap (λ l. l ++ rows_in s t (keys_of found)) none ∙ ap (λ es. rows_in s t (keys_of es)) those;
}

pub list_goes_on : (s : Stored) (t : ℕ) (span : Span) (x : List ℕ) (vs : List Version) (rest : List Entry) (rows rows' : List (List ℕ × List ℕ)) (o : Option Version) → IsListing s t span ((x, vs) ∷ rest) rows → IsThere (version_in s x) (is_committed_in s x) t o
    → rows' ≡ rows ++ with_value x (value_in o) [] → IsListing s t span rest rows'
list_goes_on s t span x vs rest rows rows' o list there is = grind (arith, common_steps)

pub list_ends : (s : Stored) (t : ℕ) (span : Span) (rows : List (List ℕ × List ℕ)) → IsListing s t span [] rows → rows ≡ rows_in s t (keys_in s span)
list_ends s t span rows list = sym (append-nil rows) ∙ list.listed
