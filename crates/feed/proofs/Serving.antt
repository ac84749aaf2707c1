-- What the calls change is what the crate `kept` wants of an open and a poll.
use Rattle.std.proofs.Common.{List, Some, ap, arith, refl, suc, sym, ℕ, ◌==◌, ◌≡◌, ◌≤◌, ◌∙◌}
use Rattle.std.specs.Prelude.{if◌then◌else◌}
use Rattle.feed.proofs.Common.{Kept, Message, Place, Span, by_test, eqb-true, moved}
use Rattle.timestamps.specs.declared.ts.TheConstants.{MAX}
use Rattle.spans.specs.declared.kind.Kind.{Kind}
use Rattle.kept.specs.Changes.{IsMovedBy, IsOpenedAt}
use Rattle.feed.specs.Standing.{cut_at_max, opened_at, IsPut, Standing, place_in}

-- what is in the range of timestamps stays as it is
pub uncut : (n : ℕ) → n ≤ MAX → cut_at_max n ≡ n
uncut n low = omega arith

pub is_opened : (k : Kept) (s s' : Standing) (f seat : ℕ) (kind : Kind) (span : Span) (cursor : ℕ) → ((g : ℕ) → k.feed g ≡ place_in s g) → IsPut s s' f (Some (opened_at seat kind span cursor))
    → IsOpenedAt k (record k { feed = place_in s'; feeds_opened = suc k.feeds_opened }) f seat kind span cursor
is_opened k s s' f seat kind span cursor fits put = record {
  feed = λ g. put g ∙ ap (λ o. if f == g then Some (opened_at seat kind span cursor) else o) (sym (fits g));
  rest = refl;
}

pub is_moved : (k : Kept) (s s' : Standing) (f : ℕ) (ms : List Message) (place : Place) → ((g : ℕ) → k.feed g ≡ place_in s g) → place_in s f ≡ Some place → IsPut s s' f (Some (moved ms place))
    → IsMovedBy k (record k { feed = place_in s' }) f ms
is_moved k s s' f ms place fits stood put = record {
  feed = λ g. put g ∙ by_test (f == g)
      (λ here.
      let at : k.feed g ≡ Some place = fits g ∙ ap (place_in s) (sym (eqb-true f g here)) ∙ stood in
      rw (here, at) refl)
      (λ there. rw there (sym (fits g)));
  rest = refl;
}
