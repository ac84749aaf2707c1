-- A worked example of what a follower tells.
use Rattle.std.specs.Prelude.{◌≡◌, ◌↔◌, ℕ, Bool, true, false, cond, List, [], ◌∷◌, Option, Some, None, refl, codes, bytes_eq}
use Rattle.std.specs.Fmt.{digits}
use Rattle.std.proofs.Common.{sym, ap, subst, ◌∙◌, inl, inr}
use Rattle.follow.specs.Prelude.{AreRowsOf, IsPairIn, Message, put, spelling}
use Rattle.spans.specs.declared.calls.messages.Message.TheVariants as messages
use Rattle.text_format.specs.declared.Format.TheVariants as formats
use Rattle.follow.specs.declared.options.FollowOptions.{FollowOptions}
use Rattle.follow.specs.declared.options.Shown.{Shown}
use Rattle.follow.specs.declared.options.Shown.TheVariants as shown
use Rattle.follow.specs.declared.options.Start.TheVariants as starts
use Rattle.follow.specs.Reports.{IsFollowReport}
use Rattle.spans.proofs.Steps.{same_key, key_itself}

-- all keys, from cursor 0 on
abbrev following : Shown → Bool → FollowOptions
following how complete = record { span = record { lo = None; hi = None }; start = starts.Cursor 0; feed = None; shown = how; complete = complete; format = formats.Two }

-- `a = 1 at 10`, and 10 is resolved
abbrev one_and_resolved : List Message
one_and_resolved = messages.Row (record { ts = 10; key = codes "a"; after = Some (codes "1") }) ∷ messages.Resolved 10 ∷ []

abbrev value_or : Option (List ℕ) → List ℕ
value_or None = []
value_or (Some v) = v

abbrev IsSomething : Option (List ℕ) → Type 0
IsSomething None = ⊥
IsSomething (Some v) = Unit {0}

no_value : {v : List ℕ} → None ≡ Some v → ⊥
no_value e = subst IsSomething (sym e) tt

-- of a map with nothing but this key and value
only_pair : (k w x v : List ℕ) → IsPairIn ((k, w) ∷ []) x v ↔ (cond (bytes_eq k x) (Some w) None ≡ Some v)
only_pair k w x v = (λ i. there i, λ e. by_key (bytes_eq k x) refl e)
  where
    there : IsPairIn ((k, w) ∷ []) x v → cond (bytes_eq k x) (Some w) None ≡ Some v
    there (inl is) = ap (λ (b : Bool). cond b (Some w) None) (subst (λ (y : List ℕ). bytes_eq k y ≡ true) is.0 (key_itself k)) ∙ ap Some is.1
    there (inr none) = absurd none

    value : (w v : List ℕ) → Some w ≡ Some v → w ≡ v
    value w v e = ap (λ (o : Option (List ℕ)). value_or o) e

    by_key : (b : Bool) → bytes_eq k x ≡ b → cond b (Some w) None ≡ Some v → IsPairIn ((k, w) ∷ []) x v
    by_key true is e = inl (same_key k x is, value w v e)
    by_key false isnt e = absurd (no_value e)

one_row : (k w : List ℕ) → AreRowsOf (put (λ x. None) k (Some w)) ((k, w) ∷ [])
one_row k w = record { rising = ((λ x v none. absurd none), tt); each = only_pair k w }

no_row : AreRowsOf (λ x. None) []
no_row = record { rising = tt; each = λ x v. (λ none. absurd none, λ e. absurd (no_value e)) }

-- with the rows shown
pub rows_told : IsFollowReport (following shown.Rows false) one_and_resolved (codes "resolved 10 1\nrow a 1\n")
unfolding spelling digits
rows_told = (
  [],
  codes "resolved 10 1\nrow a 1\n",
  record { first = []; second = []; ready = refl; resolved = refl; text_is = refl },
  (
    codes "resolved 10 1\nrow a 1\n",
    [],
    record { first = []; second = codes "resolved 10 1\nrow a 1\n"; ready = refl; resolved = record { rows = (codes "a", codes "1") ∷ []; all = one_row (codes "a") (codes "1"); text_is = refl }; text_is = refl },
    refl,
    refl,
  ),
  refl,
)

-- with completeness told before the row that shows it, and nothing shown
pub complete_told : IsFollowReport (following shown.Count true) one_and_resolved (codes "complete 9 0\nresolved 10 1\n")
unfolding digits
complete_told = (
  codes "complete 9 0\n",
  codes "resolved 10 1\n",
  record { first = codes "complete 9 0\n"; second = []; ready = record { rows = []; all = no_row; text_is = refl }; resolved = refl; text_is = refl },
  (
    codes "resolved 10 1\n",
    [],
    record { first = []; second = codes "resolved 10 1\n"; ready = refl; resolved = record { rows = (codes "a", codes "1") ∷ []; all = one_row (codes "a") (codes "1"); text_is = refl }; text_is = refl },
    refl,
    refl,
  ),
  refl,
)
