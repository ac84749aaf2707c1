-- What follows a text of which these messages are taken reports them.
use Rattle.std.proofs.Common.{◌≡◌, ℕ, Bool, true, false, List, ◌++◌, refl, sym, ap, subst, ◌∙◌, inl, inr}
use Rattle.std.specs.Prelude.{is_some}
use Rattle.pipes.proofs.Common.{FollowOptions, Followed, IsFollowReport, MayHold, Message, StartsWith, append-nil, followed_at, followed_through}
use Rattle.follow.specs.declared.ending.FollowEnd.{FollowEnd}
use Rattle.follow.specs.declared.ending.FollowEnd.TheVariants as ends
use Rattle.follow.specs.declared.fault.FollowFault.{FollowFault}
use Rattle.follow.specs.Ends.{EndsBy, IsFaultAt}
use Rattle.pipes.specs.Followers.{ReportsAll, TakesAll}

module _ (o : FollowOptions) (text : List ℕ) (ms : List Message) (takes : TakesAll o text ms) where
  -- a text that was read to its end
  all_taken : (input : List ℕ) (took : List Message) → MayHold input true text → followed_at o input ≡ followed_through took → took ≡ ms
  all_taken input took holds is =
      let whole : text ≡ input = holds.goes_on ∙ ap (λ (xs : List ℕ). input ++ xs) (holds.stops refl) ∙ append-nil input in
      ap (λ (x : Followed). x.messages) (sym is ∙ ap (followed_at o) (sym whole) ∙ takes)

  -- no line of the text is at fault
  before_lines : (input : List ℕ) (ended : Bool) (took : List Message) (line : ℕ) (fault : FollowFault) → MayHold input ended text → IsFaultAt o input ended took line fault → line ≡ 0
  before_lines input ended took line fault holds is = elim is [
    | inl begun ↦ begun.0
    | inr stops ↦ absurd (let clash : false ≡ true = ap (λ (x : Followed). is_some x.stop) (sym takes ∙ stops text holds) in cc)
  ]

  pub takes_report : ReportsAll o text ms
  takes_report r r' w w' e s holds =
      let ends_by : FollowEnd → Type 0 = λ x. EndsBy o s.input r'.ended s.messages s.output x in record {
        begins = subst (λ (l : List Message). StartsWith l s.messages) (ap (λ (x : Followed). x.messages) takes) (s.begins text holds);
        whole = λ done.
            let is : ends_by ends.Done = subst ends_by done s.ends in
            let all : s.messages ≡ ms = all_taken s.input s.messages (subst (λ (b : Bool). MayHold s.input b text) is.0.0 holds) is.0.1 in
            (all, subst (λ (l : List Message). IsFollowReport o l s.output) all (subst (IsFollowReport o s.messages) (sym (is.1.2 ∙ append-nil is.1.0)) is.1.1));
        faultless = λ line fault at. let is : ends_by (ends.Fault line fault) = subst ends_by at s.ends in before_lines s.input r'.ended s.messages line fault holds is.0;
      }
