-- Turns that are taken one after another, by calls of `turn` at references to `rt`.
use Rattle.std.specs.Prelude.{ℕ, ◌+◌, Bool, true, false, Result, Ok, Err}
use Rattle.std.specs.Fn.{CalledAt, Mut}
use denote.Ref.{Bor}

module _ {F R E : Type 0} (turn : Mut F (Bor R × Unit {0}) (Result Bool E)) (rt : R) where
  -- n turns from f to g, each of which answered that there is another
  pub data Turned : ℕ → F → F → Type 0 where
    None : (f : F) → Turned 0 f f
    More : (n : ℕ) (f g h : F) → Turned n f g → CalledAt turn g rt (Ok true) h → Turned (n + 1) f h

  -- turns of which the last answered that there is no other, or as many as there may be
  pub data Ends : ℕ → F → Type 0 where
    Last : (most n : ℕ) (f g h : F) → Turned n f g → CalledAt turn g rt (Ok false) h → Ends most f
    All : (most : ℕ) (f g : F) → Turned most f g → Ends most f

  -- turns of which the last failed with e
  pub data Fails : F → E → Type 0 where
    Failed : (n : ℕ) (f g h : F) (e : E) → Turned n f g → CalledAt turn g rt (Err e) h → Fails f e
