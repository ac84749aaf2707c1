-- A read of one key, noted.
use Rattle.mvto_rules.proofs.Common.{After, HaveSameMarks, IsAlike, IsAsBefore, IsCrossedIn, IsLate, IsMarkedAt, IsNextAbove, IsPiece, IsReadBy, Kept, MAX, Stored, marked_in, seen, until, version_in}
use std.Path.{fun_ext}
use Rattle.std.proofs.Common.{List, None, Option, Some, arith, false, refl, subst, sym, true, ℕ, ◌<◌, ◌≤◌, ◌≡◌, ◌∙◌, ap}
use Rattle.kept.proofs.Noting.{merged_noted, own_noted}
use Rattle.mvto_rules.specs.Holding.{holding, marked_of}
use Rattle.mvto_rules.specs.declared.rules.Rules.{Rules}

-- a read that found the reader's own version is noted by no mark
pub own_is_read : (k : Kept) (x : List ℕ) (t : ℕ) (next : Option ℕ) → IsNextAbove (k.version x) t next → (seen k x t).ts ≡ t → IsReadBy k k t x
own_is_read k x t next above own = record { noted = own_noted k x t next (k.marked x) above own (λ n. refl); others = λ y off n. refl; rest = refl }

pub past_until : (f : ℕ → Option After) (t : ℕ) (next : Option ℕ) → t ≤ MAX → IsNextAbove f t next → t ≤ until next
past_until f t None low next = omega arith
past_until f t (Some s) low next = omega (arith, next.0)

-- each key has the marks that it had
pub same_marks : (s s' : Stored) → HaveSameMarks s s' → marked_in s' ≡ marked_in s
same_marks s s' same = fun_ext (λ x. fun_ext (λ j. same x j))

-- all is as it was
pub stays : (k : Kept) (r : Rules) (s' : Stored) → IsAsBefore r.store s' → HaveSameMarks r.store s' → IsAlike (holding k r) (holding k (record r { store = s' }))
stays k r s' before same = record {
  closed = refl;
  horizon = refl;
  version = before.version;
  committed = λ y i b is. before.committed y i;
  marked = same;
  transaction = λ i. refl;
  protections = refl;
  protections_made = refl;
  feed = λ f. refl;
  feeds_opened = refl;
}

-- where each version is what it was, marks alone have changed
pub only_marks : (k : Kept) (r : Rules) (s' : Stored) → IsAsBefore r.store s' → holding k (record r { store = s' }) ≡ record (holding k r) { marked = marked_in s' }
only_marks k r s' before =
    ap (λ v. record (holding k (record r { store = s' })) { version = v }) (fun_ext (λ y. fun_ext (λ i. before.version y i)))
    ∙ ap (λ c. record (holding k r) { committed = c; marked = marked_in s' }) (fun_ext (λ y. fun_ext (λ i. before.committed y i)))

-- where the store means what it did, the same is kept
pub same_held : (k : Kept) (r : Rules) (s' : Stored) → IsAsBefore r.store s' → HaveSameMarks r.store s' → holding k (record r { store = s' }) ≡ holding k r
same_held k r s' before same = only_marks k r s' before ∙ ap (λ m. record (holding k r) { marked = m }) (same_marks r.store s' same)

-- what a store says of a write is what is kept of it
pub is_late : (k : Kept) (r : Rules) (x : List ℕ) (t : ℕ) → IsCrossedIn r.store x t → IsLate (holding k r) x t true
is_late k r x t crossed = (λ _. crossed, λ _. refl)

pub isnt_late : (k : Kept) (r : Rules) (x : List ℕ) (t : ℕ) → (IsCrossedIn r.store x t → ⊥) → IsLate (holding k r) x t false
isnt_late k r x t free = (λ on. (let no : false ≡ true = on in cc), λ crossed. absurd (free crossed))

-- a read of another's version is noted in its gap
pub gap_read : (k : Kept) (r : Rules) (s' : Stored) (x : List ℕ) (t above : ℕ) (next : Option ℕ) → above < t → t ≤ MAX → IsNextAbove (version_in r.store x) t next → IsAsBefore r.store s' → IsMarkedAt r.store s' x t above (until next)
    → (seen (holding k r) x t).ts ≡ above → IsReadBy (holding k r) (holding k (record r { store = s' })) t x
gap_read k r s' x t above next low high is_next before marked at = record {
  noted = merged_noted (holding k r) x t next (marked_in s' x) is_next (subst (λ n. n < t) (sym at) low) high (subst (λ n. IsPiece (marked_of r x) (marked_in s' x) t n (until next)) (sym at) marked.piece);
  others = marked.others;
  rest = only_marks k r s' before;
}
