-- What is told of messages, one behind the other.
use Rattle.std.proofs.Common.{◌≡◌, ℕ, inl, inr, List, [], ◌∷◌, ◌++◌, Option, Some, None, refl, sym, ap, ◌∙◌, subst, append-nil, append_assoc}
use Rattle.std.specs.Prelude.{◌↔◌}
use Rattle.std.specs.declared.cmp.Ordering.TheVariants.{Less}
use Rattle.timestamps.specs.Bytes.{key_cmp}
use Rattle.follow.proofs.Common.{AreRowsOf, IsPairIn, KeysRise, Map, Message, resolved_at}
use Rattle.spans.specs.declared.calls.messages.Message.TheVariants as messages
use Rattle.spans.proofs.Keyed.{key_clash}
use Rattle.follow.specs.declared.options.FollowOptions.{FollowOptions}
use Rattle.follow.specs.declared.options.Shown.{Shown}
use Rattle.follow.specs.declared.options.Shown.TheVariants as shown
use Rattle.follow.specs.Reports.{IsTold, IsToldAt, IsMessageTold, AreTold, named_after, resolved_by}
use Rattle.follow.specs.Steps.{named_through}

-- ---- rows that rise are determined by the map

rows_same : (rs ss : List (List ℕ × List ℕ)) → KeysRise rs → KeysRise ss → ((x v : List ℕ) → IsPairIn rs x v ↔ IsPairIn ss x v) → rs ≡ ss
rows_same [] [] h k same = refl
rows_same [] (s ∷ ss) h k same = absurd ((same s.0 s.1).1 (inl (refl, refl)))
rows_same (r ∷ rs) [] h k same = absurd ((same r.0 r.1).0 (inl (refl, refl)))
rows_same (r ∷ rs) (s ∷ ss) h k same =
    let rest : rs ≡ ss = rows_same rs ss h.1 k.1 (λ x v. (
      λ i. elim ((same x v).0 (inr i)) [
        | inl here ↦ absurd (let b : key_cmp r.0 r.0 ≡ Less = subst (λ (z : List ℕ). key_cmp r.0 z ≡ Less) (sym here.0 ∙ sym (ap (λ (p : List ℕ × List ℕ). p.0) heads)) (h.0 x v i) in key_clash r.0 r.0 b b)
        | inr there ↦ there
      ],
      λ i. elim ((same x v).1 (inr i)) [
        | inl here ↦ absurd (let b : key_cmp s.0 s.0 ≡ Less = subst (λ (z : List ℕ). key_cmp s.0 z ≡ Less) (sym here.0 ∙ ap (λ (p : List ℕ × List ℕ). p.0) heads) (k.0 x v i) in key_clash s.0 s.0 b b)
        | inr there ↦ there
      ],
    )) in
    λ i. heads i ∷ rest i
  where
    heads : r ≡ s
    heads = elim ((same r.0 r.1).0 (inl (refl, refl))) [
      | inl e ↦ λ i. (sym e.0 i, sym e.1 i)
      | inr later ↦ elim ((same s.0 s.1).1 (inl (refl, refl))) [
        | inl e ↦ λ i. (e.0 i, e.1 i)
        | inr later' ↦ absurd (key_clash r.0 s.0 (h.0 s.0 s.1 later') (k.0 r.0 r.1 later))
      ]
    ]

pub only_rows : (m : Map) (rs ss : List (List ℕ × List ℕ)) → AreRowsOf m rs → AreRowsOf m ss → rs ≡ ss
only_rows m rs ss are are' = rows_same rs ss are.rising are'.rising (λ x v. (λ i. (are'.each x v).1 ((are.each x v).0 i), λ i. (are.each x v).1 ((are'.each x v).0 i)))

-- ---- one message more

pub told_more : (o : FollowOptions) (before : List Message) (named : List (List ℕ)) (ms : List Message) (m : Message) (text more : List ℕ)
    → AreTold o before named ms text → IsMessageTold o (before ++ ms) (named_through o before named ms) m more → AreTold o before named (ms ++ m ∷ []) (text ++ more)
told_more o before named [] m text more none told =
    (more, [], subst (λ (xs : List Message). IsMessageTold o xs named m more) (append-nil before) told, refl, ap (λ (xs : List ℕ). xs ++ more) none ∙ sym (append-nil more))
told_more o before named (x ∷ ms) m text more h told = (
  h.0,
  h.1 ++ more,
  h.2,
  told_more o (before ++ x ∷ []) (named_after o before named x) ms m h.1 more h.3
      (subst (λ (xs : List Message). IsMessageTold o xs (named_through o (before ++ x ∷ []) (named_after o before named x) ms) m more) (sym (append_assoc before (x ∷ []) ms)) told),
  ap (λ (xs : List ℕ). xs ++ more) h.4 ∙ append_assoc h.0 h.1 more,
)

pub named_more : (o : FollowOptions) (before : List Message) (named : List (List ℕ)) (ms : List Message) (m : Message) → named_through o before named (ms ++ m ∷ []) ≡ named_after o (before ++ ms) (named_through o before named ms) m
named_more o before named [] m = ap (λ (xs : List Message). named_after o xs named m) (sym (append-nil before))
named_more o before named (x ∷ ms) m =
    let named' = named_after o before named x in
    named_more o (before ++ x ∷ []) named' ms m ∙ ap (λ (xs : List Message). named_after o xs (named_through o (before ++ x ∷ []) named' ms) m) (append_assoc before (x ∷ []) ms)

-- ---- what is told at a timestamp, whichever keys are named where changes aren't shown

told_named : (how : Shown) (word : List ℕ) (at : Option ℕ) (m : Map) (named named' : List (List ℕ)) (text : List ℕ) → (how ≡ shown.Changes → named ≡ named') → IsToldAt how word at m named text → IsToldAt how word at m named' text
told_named how word None m named named' text same is = is
told_named shown.Count word (Some at) m named named' text same is = record { rows = is.rows; all = is.all; text_is = is.text_is }
told_named shown.Rows word (Some at) m named named' text same is = record { rows = is.rows; all = is.all; text_is = is.text_is }
told_named shown.Changes word (Some at) m named named' text same is = subst (λ (xs : List (List ℕ)). IsTold shown.Changes word at m xs text) (same refl) is

-- what is told by the options of what goes by them
pub told_by : (how how' : Shown) (word : List ℕ) (at : Option ℕ) (m : Map) (named named' : List (List ℕ)) (text : List ℕ) → how ≡ how' → (how' ≡ shown.Changes → named ≡ named') → IsToldAt how word at m named text → IsToldAt how' word at m named' text
told_by how how' word at m named named' text by same is =
    subst (λ (h : Shown). IsToldAt h word at m named' text) by (told_named how word at m named named' text (λ e. same (sym by ∙ e)) is)

-- ---- the timestamps

-- at which timestamp rows are complete behind a message
pub resolved_last : (first : Option ℕ) (ms : List Message) (m : Message) → resolved_at first (ms ++ m ∷ []) ≡ resolved_by m
resolved_last first [] (messages.Row r) = refl
resolved_last first [] (messages.Resolved t) = refl
resolved_last first (messages.Row r ∷ ms) m = resolved_last None ms m
resolved_last first (messages.Resolved t ∷ ms) m = resolved_last (Some t) ms m
