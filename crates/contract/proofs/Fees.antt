-- Laws of the fees, for any list of members: what is left of the fund, and of the list.
use mathlib.Core.List.{List, [], ◌∷◌}
use mathlib.Core.Path.{◌≡◌, ap, ◌∙◌}
use Prim.Native.Nat.{ℕ, suc, ◌+◌, ◌-◌, ◌*◌, ◌≤◌, ◌<◌}
use native.Mathlib.Nat.{suc-mul, zero-mul}
use native.Mathlib.Omega.{arith}
use native.Mathlib.Numerals.{add-one}
use lib.ListN.{length, get_or, drop, drop_of_length-le}
use lib.Seq.{drop-cons}
use Rattle.frame.specs.Message.{Observation}
use Rattle.frame.specs.Table.{shape_of}
use Rattle.frame.specs.Decode.{count_in, list_place, observation_at, attested_in}
use Rattle.report.specs.Stands.{members_of}
use Rattle.report.proofs.Whole.{length_each}
use Rattle.ledger.specs.declared.Ledger.{Ledger}
use Rattle.ledger.specs.Ledger.{earning}
use Rattle.contract.specs.State.{place_of}
use Rattle.contract.specs.Calls.{earning_all}

-- the members that a body lists
abbrev pub listed_in : List ℕ → List ℕ
listed_in body = members_of (attested_in body).list

pub listed_count : (body : List ℕ) → length (listed_in body) ≡ count_in body
listed_count body = length_each (λ (o : Observation). o.member) observation_at (shape_of 6).entry (count_in body) (drop list_place body)

-- the fee of one more member
pub fees_next : (m i a : ℕ) → i < m → (m - i) * a ≡ (m - (i + 1)) * a + a
fees_next m i a h =
    let e : m - i ≡ suc (m - (i + 1)) = omega arith in
    ap (λ (k : ℕ). k * a) e ∙ suc-mul (m - (i + 1)) a

-- each listed member's fee is out of the fund
pub fund_all : (l : Ledger) (listed : List ℕ) (a : ℕ) → length listed * a ≤ l.fund → (earning_all l listed a).fund + length listed * a ≡ l.fund
unfolding earning_all earning
fund_all l [] a h = omega (arith, zero-mul a)
fund_all l (member ∷ listed) a h =
    let next = suc-mul (length listed) a in
    let r = fund_all (earning l (place_of member) a) listed a (omega arith) in
    omega arith

-- the members from place i on are the one there and those behind it
pub earn_next : (l : Ledger) (listed : List ℕ) (i a member : ℕ) → i < length listed → member ≡ get_or listed i 0 → earning_all (earning l (place_of member) a) (drop (i + 1) listed) a ≡ earning_all l (drop i listed) a
unfolding earning_all
earn_next l listed i a member h e = rw (e, add-one i, drop-cons listed i 0 h)

-- and past its end there are none
pub earn_end : (l : Ledger) (listed : List ℕ) (i a : ℕ) → length listed ≤ i → earning_all l (drop i listed) a ≡ l
unfolding earning_all
earn_end l listed i a h = rw (drop_of_length-le listed {i = i} h)
