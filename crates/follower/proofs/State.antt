-- A state in range stays so where a flag is raised, a member is marked or a round is begun.
use mathlib.Core.Path.{◌≡◌}
use mathlib.Core.Bool.{true}
use Prim.Native.Nat.{ℕ, ◌-◌}
use lib.Dec.{leb}
use Rattle.config.specs.Limits.{members}
use Rattle.config.proofs.Facts.{and_five}
use Rattle.quorum.specs.Marks.{flags}
use Rattle.quorum.proofs.Marks.{flags_mark, flags_none}
use Rattle.follower.specs.declared.Follower.{Follower}
use Rattle.follower.specs.State.{good_follower, in_round}
use Rattle.follower.specs.Rules.{now_signed, now_completed, now_kept, now_marked}

-- the parts of a state in range
pub record Good (s : Follower) : Type 0 where
  pub live : leb s.live 1 ≡ true
  pub signed : leb s.signed 1 ≡ true
  pub completed : leb s.completed 1 ≡ true
  pub kept : leb s.kept 1 ≡ true
  pub marks : flags s.marks ≡ true

pub good_parts : (s : Follower) → good_follower s ≡ true → Good s
unfolding good_follower
good_parts s g =
    let p = and_five (leb s.live 1) (leb s.signed 1) (leb s.completed 1) (leb s.kept 1) (flags s.marks) g in
    record { live = p.0; signed = p.1; completed = p.2; kept = p.3; marks = p.4 }

pub good_round : (live round : ℕ) → leb live 1 ≡ true → good_follower (in_round live round) ≡ true
unfolding good_follower
good_round live round h = rw h (flags_none members)

module _ (s : Follower) (g : good_follower s ≡ true) where
  pub good_signed : good_follower (now_signed s) ≡ true
  unfolding good_follower
  good_signed = let p = good_parts s g in rw (p.live, p.completed, p.kept) p.marks

  pub good_completed : good_follower (now_completed s) ≡ true
  unfolding good_follower
  good_completed = let p = good_parts s g in rw (p.live, p.signed, p.kept) p.marks

  pub good_kept_lem : good_follower (now_kept s) ≡ true
  unfolding good_follower
  good_kept_lem = let p = good_parts s g in rw (p.live, p.signed, p.completed) p.marks

  pub good_marked : (j : ℕ) → good_follower (now_marked s j) ≡ true
  unfolding good_follower
  good_marked j =
      let p = good_parts s g in
      rw (p.live, p.signed, p.completed, p.kept) (flags_mark s.marks (j - 1) p.marks)
