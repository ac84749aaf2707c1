-- What is told at a timestamp, and the keys that are named.
use Rattle.std.proofs.Common.{◌≡◌, ◌∙◌, ℕ, List, [], ◌∷◌, ◌++◌, Some, sym, ap, append-nil, append_assoc}
use Rattle.follow.proofs.Common.{AreRowsOf, IsCountOf, Map, flat_map, row_line}
use Rattle.follow.specs.declared.options.Shown.{Shown}
use Rattle.follow.specs.declared.options.Shown.TheVariants as shown
use Rattle.follow.specs.declared.telling.Telling.{Telling}
use Rattle.follow.specs.Reports.{count_line, shown_lines, unless_told, named_in, ShowsRows, TellsAt}
use Rattle.follow.proofs.Reports.{only_rows}

-- the rows of a map are the same ones, however they were listed
pub shows_listed : (t : Telling) (m : Map) (listed : List (List ℕ × List ℕ)) (before after : List ℕ) → t.shown ≡ shown.Rows → AreRowsOf m listed → after ≡ before ++ flat_map row_line listed → ShowsRows t m before after
shows_listed t m listed before after is all added = λ rows all'.
    added ∙ ap (λ (xs : List ℕ). before ++ xs) (ap (flat_map row_line) (only_rows m listed rows all all') ∙ sym (ap (λ (how : Shown). shown_lines how m rows (named_in t)) is))

-- how many rows there are, and what is shown of them
pub tells_rows : (t t' : Telling) (word : List ℕ) (at n : ℕ) (m : Map) (before counted after : List ℕ) → IsCountOf m n → counted ≡ before ++ count_line word at n → ShowsRows t m counted after → named_in t' ≡ unless_told (Some at) (named_in t) → t'.shown ≡ t.shown
    → TellsAt t t' word (Some at) m before after
tells_rows t t' word at n m before counted after c count shows named same =
    let lines : List ℕ = shown_lines t.shown m c.rows (named_in t) in
    record {
      text = count_line word at n ++ lines;
      is = record { rows = c.rows; all = c.all; text_is = ap (λ (k : ℕ). count_line word at k ++ lines) c.count };
      added = shows c.rows c.all ∙ (ap (λ (xs : List ℕ). xs ++ lines) count ∙ append_assoc before (count_line word at n) lines);
      named = named;
      same = same;
    }

-- ---- lines of a list, one behind the other

module _ {A : Type 0} (line : A → List ℕ) (out whole : List ℕ) (left : List A) (so_far : out ++ flat_map line left ≡ whole) where
  -- the next one
  pub added_more : (out' : List ℕ) (left' : List A) (x : A) → left ≡ x ∷ left' → out' ≡ out ++ line x → out' ++ flat_map line left' ≡ whole
  added_more out' left' x next added = ap (λ (xs : List ℕ). xs ++ flat_map line left') added ∙ (append_assoc out (line x) (flat_map line left') ∙ (ap (λ (ls : List A). out ++ flat_map line ls) (sym next) ∙ so_far))

  -- all of them
  pub added_all : left ≡ [] → out ≡ whole
  added_all none = sym (append-nil out) ∙ (ap (λ (ls : List A). out ++ flat_map line ls) (sym none) ∙ so_far)
