-- The rows that are left, gathered from all versions.
use Rattle.catch_up.proofs.Common.{After, Entry, IsRowIn, RisingRows, Row, Span, Stored, Version, after_of, and_from, and_parts, by_test, chain_in, common_steps, found_in, in_span, is_after_place, is_committed, is_committed_in, is_eq-slice_cmp, le-leb, leb-true, same_key, version_in, version_of}
use Rattle.std.proofs.Common.{arith}
use Rattle.std.proofs.Common.{rules}
use Rattle.std.proofs.Common.{Bool, List, None, Option, Some, [], ap, inl, inr, refl, subst, sym, true, ℕ, ◌&&◌, ◌≡◌, ◌∷◌, ◌∙◌}
use Rattle.std.specs.Prelude.{if◌then◌else◌, nat_le}
use Rattle.spans.proofs.Members.{Has}
use Rattle.catch_up.specs.Rows.{AreLeftIn}
use Rattle.catch_up.proofs.Order.{put_in, put_only, put_rises, put_row, put_stays}

-- a key and a timestamp
abbrev Name : Type 0
Name = List ℕ × ℕ

-- those of the versions of x, before others
abbrev names_in : List ℕ → List Version → List Name → List Name
names_in x [] ns = ns
names_in x (v ∷ vs) ns = (x, v.ts) ∷ names_in x vs ns

-- the versions of a store
abbrev names_among : List Entry → List Name
names_among [] = []
names_among (e ∷ es) = names_in e.0 e.1 (names_among es)

named_behind : (n : Name) (x : List ℕ) (vs : List Version) (ns : List Name) → Has n ns → Has n (names_in x vs ns)
named_behind n x [] ns i = i
named_behind n x (v ∷ vs) ns i = inr (named_behind n x vs ns i)

in_chain : (x : List ℕ) (t : ℕ) (vs : List Version) (ns : List Name) → is_committed (version_of vs t) ≡ true → Has (x, t) (names_in x vs ns)
in_chain x t [] ns is = cc
in_chain x t (v ∷ vs) ns is = grind (arith, common_steps, in_chain x t vs ns)

committed_named : (es : List Entry) (x : List ℕ) (t : ℕ) → is_committed (version_of (chain_in es x) t) ≡ true → Has (x, t) (names_among es)
committed_named [] x t is = cc
committed_named (e ∷ es) x t is = search (by_test, same_key, is_eq-slice_cmp, in_chain, named_behind, committed_named es x t, rules, arith)

-- ---- gathering

abbrev value_or : Option After → After
value_or None = None
value_or (Some a) = a

module _ (s : Stored) (span : Span) (ts : ℕ) (key : Option (List ℕ)) (through : ℕ) where
  abbrev passes : Name → Bool
  passes n = is_committed_in s n.0 n.1 && (in_span span n.0 && (is_after_place ts key n.0 n.1 && nat_le n.1 through))

  abbrev row_at : Name → Row
  row_at n = record { ts = n.1; key = n.0; after = value_or (version_in s n.0 n.1) }

  abbrev gather : List Name → List Row
  gather [] = []
  gather (n ∷ ns) = if passes n then put_row (row_at n) (gather ns) else gather ns

  gather_rises : (ns : List Name) → RisingRows (gather ns)
  gather_rises [] = tt
  gather_rises (n ∷ ns) = by_test (passes n)
      (λ is. rw is (put_rises (row_at n) (gather ns) (gather_rises ns)))
      (λ isnt. rw isnt (gather_rises ns))

  gather_only : (ns : List Name) (r : Row) → IsRowIn r (gather ns) → (r ≡ row_at (r.key, r.ts)) × (passes (r.key, r.ts) ≡ true)
  gather_only [] r i = absurd i
  gather_only (n ∷ ns) r i = by_test (passes n)
      (λ is. let j : IsRowIn r (put_row (row_at n) (gather ns)) = rw is at i in elim (put_only (row_at n) r (gather ns) j) [
        | inl here ↦ subst (λ (q : Row). (q ≡ row_at (q.key, q.ts)) × (passes (q.key, q.ts) ≡ true)) here (refl, is)
        | inr there ↦ gather_only ns r there
      ])
      (λ isnt. let j : IsRowIn r (gather ns) = rw isnt at i in gather_only ns r j)

  gather_has : (ns : List Name) (n : Name) → Has n ns → passes n ≡ true → IsRowIn (row_at n) (gather ns)
  gather_has [] n i is = absurd i
  gather_has (m ∷ ns) n i is = elim i [
    | inl here ↦ (let is' : passes m ≡ true = ap passes here ∙ is in
        rw is' (subst (λ k. IsRowIn (row_at k) (put_row (row_at m) (gather ns))) here (put_in (row_at m) (gather ns) (λ q j at of. (gather_only ns q j).0 ∙ ap (λ k. row_at (k, q.ts)) (sym of) ∙ ap (λ t. row_at (m.0, t)) (sym at)))))
    | inr there ↦ by_test (passes m)
        (λ on. rw on (put_stays (row_at m) (row_at n) (gather ns) (gather_has ns n there is)))
        (λ off. rw off (gather_has ns n there is))
  ]

  value_is : (o : Option Version) → is_committed o ≡ true → after_of o ≡ Some (value_or (after_of o))
  value_is None e = cc
  value_is (Some v) e = refl

  -- the rows that are left
  pub are_left : (rows : List Row) × AreLeftIn s span ts key through rows
  are_left = (
    gather (names_among s.entries),
    record {
      rising = gather_rises (names_among s.entries);
      each = λ r. (
        λ i. let g = gather_only (names_among s.entries) r i in
            let a = and_parts _ _ g.1 in let b = and_parts _ _ a.1 in let d = and_parts _ _ b.1 in record {
              there = value_is (found_in s r.key r.ts) a.0 ∙ ap (λ (q : Row). Some q.after) (sym g.0);
              done = a.0;
              inside = b.0;
              later = d.0;
              low = leb-true _ _ d.1;
            },
        λ h. let n : Name = (r.key, r.ts) in
            let is : passes n ≡ true = and_from _ _ h.done (and_from _ _ h.inside (and_from _ _ h.later (le-leb r.ts through h.low))) in
            let same : row_at n ≡ r = ap (λ a. record { ts = r.ts; key = r.key; after = value_or a }) h.there in
            subst (λ q. IsRowIn q (gather (names_among s.entries))) same (gather_has (names_among s.entries) n (committed_named s.entries r.key r.ts h.done) is),
      );
    },
  )
