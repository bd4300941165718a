-- How turns follow each other, and how they end.
use Rattle.std.proofs.Common.{ℕ, refl, ◌≡◌, ◌+◌, Bool, true, false, Result, Ok, Err}
use Rattle.std.specs.Fn.{Called, CalledAt, Mut}
use mathlib.Core.Bool.{false≢true}
use denote.Ref.{Bor}
use Rattle.show.specs.Turns.{Turned, Ends, Fails}

module _ {F R E : Type 0} (turn : Mut F (Bor R × Unit {0}) (Result Bool E)) where
  pub turned_none : (rt : R) (f : F) → Turned turn rt 0 f f
  turned_none rt f = Turned.None f

  at : {f g : F} {a : Result Bool E} (r : Bor R) → Called turn f (r, tt) a g → CalledAt turn f r.now a g
  at r c = record { shown = r; shows = refl; called = c }

  pub turned_more : (r : Bor R) (n : ℕ) (f g h : F) (b : Bool) → Turned turn r.now n f g → Called turn g (r, tt) (Ok b) h → b ≡ true → Turned turn r.now (n + 1) f h
  turned_more r n f g h true t c e = Turned.More n f g h t (at r c)
  turned_more r n f g h false t c e = absurd (false≢true e)

  pub ends_last : (r : Bor R) (most n : ℕ) (f g h : F) → Turned turn r.now n f g → Called turn g (r, tt) (Ok false) h → Ends turn r.now most f
  ends_last r most n f g h t c = Ends.Last most n f g h t (at r c)

  pub ends_all : (rt : R) (most : ℕ) (f g : F) → Turned turn rt most f g → Ends turn rt most f
  ends_all rt most f g t = Ends.All most f g t

  pub fails_last : (r : Bor R) (n : ℕ) (f g h : F) (e : E) → Turned turn r.now n f g → Called turn g (r, tt) (Err e) h → Fails turn r.now f e
  fails_last r n f g h e t c = Fails.Failed n f g h e t (at r c)
