-- The laws of what is printed: numbers put one behind the other.
use mathlib.Core.List.{List, [], ◌∷◌, ◌++◌, append_assoc}
use mathlib.Core.Path.{◌≡◌, ap, ◌∙◌}
use Prim.Native.Nat.{ℕ, ◌+◌}
use native.Mathlib.Omega.{arith}
use lib.ListN.{length, length-append}
use Rattle.wire.specs.Overlay.{over}
use Rattle.wire.proofs.Overlay.{over_then}
use Rattle.epochline.specs.Decimal.{decimal}
use Rattle.epochline.specs.Output.{four_numbers}

-- bs stand at the start of s, which was l, up to the place at
pub record Stands (l s : List ℕ) (at : ℕ) (bs : List ℕ) : Type 0 where
  pub bytes : s ≡ over l 0 bs
  pub long : at ≡ length bs

abbrev ended : ℕ → ℕ → List ℕ
ended x then = decimal x ++ (then ∷ [])

-- a number is put behind them
pub stands_then : (l s t : List ℕ) (at to : ℕ) (a b : List ℕ) → Stands l s at a → t ≡ over s at b → to ≡ at + length b → Stands l t to (a ++ b)
stands_then l s t at to a b h e q = record {
  bytes = e ∙ rw h.bytes (over_then l 0 a at b (omega (arith, h.long)));
  long = omega (arith, h.long, length-append a b);
}

pub stands_four : (l s : List ℕ) (at a b c d : ℕ) → Stands l s at (((ended a 32 ++ ended b 32) ++ ended c 32) ++ ended d 10) → (s ≡ over l 0 (four_numbers a b c d)) × (at ≡ length (four_numbers a b c d))
stands_four l s at a b c d h =
    let e : (((ended a 32 ++ ended b 32) ++ ended c 32) ++ ended d 10) ≡ four_numbers a b c d = simp append_assoc in
    (h.bytes ∙ ap (over l 0) e, h.long ∙ ap length e)
