-- Lists of entries laid over a slice one after another: how long they are, and the turn of every loop that writes one.
use mathlib.Core.Path.{◌≡◌, refl, sym, ap, ◌∙◌}
use mathlib.Core.List.{List, [], ◌∷◌, ◌++◌, map, append_assoc, append-nil}
use Prim.Native.Nat.{ℕ, suc, ◌+◌, ◌*◌, ◌≤◌, ◌<◌}
use native.Mathlib.Nat.{add_comm, zero-mul, suc-mul}
use native.Mathlib.Numerals.{add-one}
use native.Mathlib.Omega.{arith}
use lib.ListN.{length, get_or, take, set, length-append, length-map, get_or-map}
use lib.Seq.{take-suc, take_all, get_or-take, length-take-le}
use Rattle.wire.specs.Overlay.{over}
use Rattle.wire.proofs.Overlay.{over_none, over_one, over_then, length_over}
use Rattle.frame.specs.Encode.{flat, counted_bytes}
use Rattle.frame.proofs.Ranges.{members_each}
use Rattle.outbox.specs.Written.{Members}

-- ---- one after another

-- a store, and what is laid over behind it
pub laid_behind : (l l' : List ℕ) (at x : ℕ) (bs : List ℕ) → l' ≡ over (set l at x) (at + 1) bs → l' ≡ over l at (x ∷ bs)
laid_behind l l' at x bs e = e ∙ rw (over_one l at x) (over_then l at (x ∷ []) (at + 1) bs refl)

-- bytes, and others behind them
pub laid_two : (l l1 l2 : List ℕ) (at : ℕ) (a : List ℕ) (p : ℕ) (b : List ℕ) → l1 ≡ over l at a → l2 ≡ over l1 p b → p ≡ at + length a → l2 ≡ over l at (a ++ b)
laid_two l l1 l2 at a p b e1 e2 ep = e2 ∙ ap (λ (m : List ℕ). over m p b) e1 ∙ over_then l at a p b ep

pub laid_three : (l l1 l2 l3 : List ℕ) (at : ℕ) (a : List ℕ) (p : ℕ) (b : List ℕ) (q : ℕ) (c : List ℕ) → l1 ≡ over l at a → l2 ≡ over l1 p b → l3 ≡ over l2 q c → p ≡ at + length a → q ≡ p + length b → l3 ≡ over l at (a ++ (b ++ c))
laid_three l l1 l2 l3 at a p b q c e1 e2 e3 ep eq = laid_two l l1 l3 at a p (b ++ c) e1 (laid_two l1 l2 l3 p b q c e2 e3 eq) ep

-- how many, and then the entries
pub laid_counted : {A : Type 0} (bytes : A → List ℕ) (xs : List A) (l l' : List ℕ) (at many : ℕ) → length xs ≡ many → l' ≡ over (set l at many) (at + 1) (flat bytes xs) → l' ≡ over l at (counted_bytes bytes xs)
unfolding counted_bytes
laid_counted bytes xs l l' at many e el = laid_behind l l' at (length xs) (flat bytes xs) (rw e el)

-- ---- members

pub member_at : (n : ℕ) (order : List ℕ) (i : ℕ) → Members n order → i < length order → (1 ≤ get_or order i 0) × (get_or order i 0 ≤ n)
member_at n order i h k = let m = members_each n (λ x. x) order h i 0 k in (m.least, m.most)

-- ---- entries of one length

module _ {A : Type 0} (bytes : A → List ℕ) (stride : ℕ) (none : A) where
  -- each entry of a list has the stride's length
  abbrev pub Even : List A → Type 0
  Even xs = (k : ℕ) → k < length xs → length (bytes (get_or xs k none)) ≡ stride

  pub length_flat : (xs : List A) → Even xs → length (flat bytes xs) ≡ length xs * stride
  unfolding flat
  length_flat [] h = sym (zero-mul stride)
  length_flat (a ∷ xs) h =
      length-append (bytes a) (flat bytes xs)
      ∙ rw (h 0 (omega arith), length_flat xs (λ k l. h (suc k) (omega arith)), suc-mul) (add_comm stride (length xs * stride))

  length_taken : (xs : List A) (i : ℕ) → i ≤ length xs → Even xs → length (flat bytes (take i xs)) ≡ i * stride
  length_taken xs i w h =
      let l : length (take i xs) ≡ i = length-take-le i xs w in
      length_flat (take i xs) (λ k j. rw (get_or-take i xs k none (omega arith)) (h k (omega arith))) ∙ rw l

  flat_snoc : (xs : List A) (a : A) → flat bytes (xs ++ (a ∷ [])) ≡ flat bytes xs ++ bytes a
  unfolding flat
  flat_snoc [] a = append-nil (bytes a)
  flat_snoc (x ∷ xs) a = rw (flat_snoc xs a, append_assoc)

  -- what a loop has written when it stands at the place p, behind i entries of a list of `many`
  pub record Run (xs : List A) (many at : ℕ) (start now : List ℕ) (p i : ℕ) : Type 0 where
    pub all : length xs ≡ many
    pub within : i ≤ many
    pub place : p ≡ at + i * stride
    pub long : length now ≡ length start
    pub laid : now ≡ over start at (flat bytes (take i xs))

module _ {A : Type 0} {bytes : A → List ℕ} {stride : ℕ} {none : A} {xs : List A} {many at : ℕ} {start : List ℕ} where
  pub run_start : length xs ≡ many → Run bytes stride none xs many at start start at 0
  unfolding flat
  run_start e =
      record { all = e; within = omega arith; place = omega arith; long = refl; laid = sym (over_none start at) }

  -- one entry more
  pub run_next : {l l' : List ℕ} {p p' i : ℕ} {a : A} → Run bytes stride none xs many at start l p i → Even bytes stride none xs → i < many → get_or xs i none ≡ a → l' ≡ over l p (bytes a) → p' ≡ p + stride → Run bytes stride none xs many at start l' p' (i + 1)
  run_next {l} {l'} {p} {p'} {i} {a} r h k ea e ep =
      let written = flat bytes (take i xs) in
      let here : p ≡ at + length written = r.place ∙ ap (λ (n : ℕ). at + n) (sym (length_taken bytes stride none xs i (omega arith) h)) in
      let more : written ++ bytes a ≡ flat bytes (take (i + 1) xs) = rw (add-one, take-suc xs i none (omega arith), ea, flat_snoc bytes stride none (take i xs) a) in
      record {
        all = r.all;
        within = omega arith;
        place = rw (add-one, suc-mul) (omega arith);
        long = ap length e ∙ length_over l p (bytes a) ∙ r.long;
        laid = laid_two start l l' at written p (bytes a) r.laid e here ∙ ap (over start at) more;
      }

  pub run_end : {l : List ℕ} {p i : ℕ} → Run bytes stride none xs many at start l p i → many ≤ i → (l ≡ over start at (flat bytes xs)) × (p ≡ at + many * stride)
  run_end {l} {p} {i} r k =
      let e : i ≡ many = omega arith in (
        r.laid ∙ ap (λ (ys : List A). over start at (flat bytes ys)) (take_all i xs (omega arith)),
        r.place ∙ ap (λ (n : ℕ). at + n * stride) e,
      )

-- the entries of members, in some order, where each member's entry has the stride's length
pub even_map : {A : Type 0} (bytes : A → List ℕ) (stride : ℕ) (g : ℕ → A) (n : ℕ) (order : List ℕ) → Members n order → ((j : ℕ) → 1 ≤ j → j ≤ n → length (bytes (g j)) ≡ stride) → Even bytes stride (g 0) (map g order)
even_map bytes stride g n order h e k l =
    let m = member_at n order k h (rw length-map at l) in
    rw (get_or-map g order k 0) (e (get_or order k 0) m.0 m.1)
