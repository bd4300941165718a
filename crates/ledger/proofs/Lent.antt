-- An account in a local, lent for a call: it is lent for a lifetime that is made for the call, and comes back, once that is ended, at its last value. No field is named.
use Prim.Native.Nat.{ℕ}
use mathlib.Core.List.{[], ◌∷◌, List}
use seplogic.Ra.Ura.{Ura}
use base.Fraction.{full_share}
use mir.Syntax.{named}
use mir.Val.{Val, vptr}
use base.Logic.{ent, sep, ex, id⊢}
use base.Fml.{GName, fsep, fat, flft, flent, fres}
use types.Logic.{Logic, sem}
use types.Kit.{Item, Goal, Soaks, Seq, ‵, some, later, ◌⊛◌, ◌$◌, ◌∵◌, !, qed, move, use1, use2, use3, split, pick, fjoin, fpack, await, done}
use types.SemTy.{Body}
use types.Tokens.{lft_new, lft_end}
use denote.Laws.{Is, shows}
use denote.Lend.{lends_ref, ref_back}
use denote.Memory.{mem, cell_at, part_at, part_of}
use denote.Ref.{MutBor, MutRef}
use denote.Steps.{only, owned, peeks}
use denote.Struct.Steps.{spelt}
use denote.Struct.Laws as LL
use Rattle.ledger.specs.declared.Account.{Account}
use Rattle.ledger.specs.contracts.Account as T
use Rattle.ledger.proofs.Account.TheLaws as T'

-- an account's machine value, and a reference to a local that holds one
abbrev pub mach : Account → Val
mach z = only (LL.vals T.the_type T'.the_laws z)

abbrev pub lent : Account → ℕ → GName → MutBor Account
lent h l γ = record { ref_ptr = (l, 0); ghost_name = γ; now = h }

module _ {M : Type 1} {𝓤 : Ura M} (𝓛 : Logic 𝓤) where
  -- a cell and what its value owns, as one thing that can be lent, and back
  lie : (h : Account) (v : Val) (b o : ℕ) → ent 𝓤 (sep 𝓤 (sem 𝓛 (cell_at full_share (T.the_row).mir (v ∷ []) b o)) (sem 𝓛 ((T.the_row).own_val h (v ∷ [])))) (sem 𝓛 (part_at T.the_row full_share h b o))
  unfolding part_of
  lie h v b o = qed 𝓛 (‵ (cell_at full_share (T.the_row).mir (v ∷ []) b o) ∷ ‵ ((T.the_row).own_val h (v ∷ [])) ∷ []) ∵ fjoin ! $ fpack ! (List Val) (λ us. fsep (cell_at full_share (T.the_row).mir us b o) ((T.the_row).own_val h us)) (v ∷ []) $ done !

  unlie : (h : Account) (b o : ℕ) → ent 𝓤 (sem 𝓛 (part_at T.the_row full_share h b o)) (ex 𝓤 (λ (vs : List Val). sep 𝓤 (sem 𝓛 (cell_at full_share (T.the_row).mir vs b o)) (sem 𝓛 ((T.the_row).own_val h vs))))
  unfolding part_of
  unlie h b o = id⊢ 𝓤 _

module _ {M : Type 1} {𝓤 : Ura M} {𝓛 : Logic 𝓤} {K : Type 0} {Γ : List (Item 𝓤)} {G : Goal 𝓤 𝓛.H} where
  pub lends : K → Soaks G → (h : Account) (l : ℕ) → Is T.the_row h (mach h ∷ [])
      → ((α : ℕ) (γ : GName) → Seq K 𝓛 (‵ ((MutRef (named 0) (α ∷ []) T.the_row).own_val (lent h l γ) (vptr l 0 ∷ [])) ∷ ‵ (flent (α ∷ []) (Body (mem T.the_row) l 0 γ)) ∷ ‵ (flft (α ∷ []) full_share) ∷ Γ) G)
      → Seq K 𝓛 (‵ (fat full_share T'.mir l 0 (mach h)) ∷ Γ) G
  lends t z h l is k =
      use1 𝓛 (‵ (cell_at full_share (T.the_row).mir (mach h ∷ []) l 0)) (𝓛.laws.at_raw full_share T'.mir l 0 (mach h)) $
      owned t T.the_row (Is T.the_row) ((LL.makes T.the_type T'.the_plain) 𝓛) h _ is $ move t (1 ∷ 0 ∷ []) $ use2 𝓛 (‵ (part_at T.the_row full_share h l 0)) (lie 𝓛 h (mach h) l 0) $
      lft_new t z (λ α. move t (1 ∷ []) $
      use1 𝓛 (later (some (λ (γ : GName). ‵ ((MutRef (named 0) (α ∷ []) T.the_row).own_val (lent h l γ) (vptr l 0 ∷ [])) ⊛ ‵ (flent (α ∷ []) (Body (mem T.the_row) l 0 γ))))) (lends_ref 𝓛 T.the_row (named 0) (α ∷ []) h l 0) $
      await t z $ pick t (λ γ. split t $ k α γ))

  pub comes_back : K → Soaks G → (α : ℕ) (γ : GName) (z : Account) (l : ℕ)
      → (Is T.the_row z (mach z ∷ []) → Seq K 𝓛 (‵ (fat full_share T'.mir l 0 (mach z)) ∷ ‵ ((T.the_row).own_val z (mach z ∷ [])) ∷ Γ) G)
      → Seq K 𝓛 (‵ (flft (α ∷ []) full_share) ∷ ‵ (flent (α ∷ []) (Body (mem T.the_row) l 0 γ)) ∷ ‵ (fres γ ((T.the_row).coded.code z)) ∷ Γ) G
  comes_back t s α γ z l k =
      lft_end t s $ use3 𝓛 (later (‵ (part_at T.the_row full_share z l 0))) (ref_back 𝓛 T.the_row (α ∷ []) γ z l 0) $ await t s $
      use1 𝓛 (some (λ (vs : List Val). ‵ (cell_at full_share (T.the_row).mir vs l 0) ⊛ ‵ ((T.the_row).own_val z vs))) (unlie 𝓛 z l 0) $ pick t (λ vs. split t $
      spelt t T.the_row (Is T.the_row) (shows 𝓛 T.the_row) (LL.vals T.the_type T'.the_laws) (LL.tells T.the_type T'.the_laws) full_share z vs l 0 $
      move t (1 ∷ []) $ peeks t T.the_row (Is T.the_row) (shows 𝓛 T.the_row) z (mach z ∷ []) (λ last.
      move t (1 ∷ []) $ use1 𝓛 (‵ (fat full_share T'.mir l 0 (mach z))) (𝓛.laws.raw_at full_share T'.mir l 0 (mach z)) $ k last))
