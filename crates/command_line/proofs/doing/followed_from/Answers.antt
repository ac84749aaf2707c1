use Rattle.std.proofs.Common.{List, ℕ, inl, inr, refl, subst}
use Rattle.std.specs.Process.{exit_status}
use Rattle.follow.specs.Seeds.{IsSeedOf, IsUnseeded}
use Rattle.follow.specs.declared.options.FollowOptions.{FollowOptions}
use Rattle.command_line.specs.Doing.{HasFollowed, options_from}
use Rattle.command_line.proofs.doing.followed_from.Goals as goal

-- the options are those of the seed that was found
pub returns-in-Ok : goal.returns-in-Ok
returns-in-Ok g c = let S = g.S.Source in let K = g.K.Sink in
    let Followed : FollowOptions → Type 0 = λ options. HasFollowed options (S.reads c.args.input.now) (S.reads c.follow_io.new.input)
    (K.writes c.args.output.now) (K.writes c.follow_io.new.output) (exit_status c.told_of_follower.result) in
    inl (
      c.in-Ok.found,
      subst (λ (text : List ℕ). IsSeedOf text c.in-Ok.found) c.as_slice.ensures.value c.in-Ok.ensures.found,
      subst Followed {y = options_from c.args.asked.now c.in-Ok.found} c.options.ensures (c.follow_io.result, c.follow_io.ensures.followed, c.follow_io.ensures.begun, c.told_of_follower.ensures),
    )

-- the text has no seed
pub returns-in-Err : goal.returns-in-Err
returns-in-Err g c = inr (c.in-Err.error, subst (λ (text : List ℕ). IsUnseeded text c.in-Err.error) c.as_slice.ensures.value c.in-Err.ensures.refused, refl, refl, c.unseeded.ensures)
