-- `Follower::follow` meets its contract: each kind with a rule has an arm that promises it, and a body that is kept is the bytes of the
-- report that it carries.
use Rattle.std.proofs.Common.{◌≡◌, ℕ, ◌≤◌, List, get_or, map, sym, ap, ◌∙◌, Fits, w8, w64, arith, rules}
use Rattle.std.proofs.lemmas.Int.{to_z-of_z}
use Rattle.config.specs.Answers.{Done}
use Rattle.price.specs.Median.{median_of}
use Rattle.frame.specs.Message.{Signed}
use Rattle.frame.specs.Decode.{signed_in, attested_in, message_of}
use Rattle.frame.specs.Encode.{attested_bytes}
use Rattle.frame.specs.Check.{body_answer}
use Rattle.frame.specs.Kinds.{number_of}
use Rattle.frame.proofs.Numbers.{number_high}
use Rattle.frame.proofs.RoundTrip.{final_forth}
use Rattle.frame.proofs.Checked.{said_in}
use Rattle.report.specs.Stands.{values_of}
use Rattle.follower.specs.Rules.{asked}
use Rattle.follower.proofs.Bodies.{checked_attested, fits_kept}
use Rattle.follower.proofs.Follower.follow.Goals as goal

-- a body of kind 6 or 7 is the bytes of the report that it carries
bytes : (n kind : ℕ) (b : List ℕ) → 6 ≤ kind → kind ≤ 7 → body_answer n kind b ≡ Done → ((k : ℕ) → Fits w8 (get_or b k 0)) → attested_bytes (attested_in b) ≡ b
bytes n kind b low high e fit = final_forth b (λ k. (fit k).fits) (sym (checked_attested n kind b low high e).whole)

pub keep-requires : goal.keep-requires
keep-requires c =
    let r = c.requires in
    (fits_kept c.args.config.n (number_of c.args.kind) c.args.body.now (omega (arith, c.number-kind.ensures, c.in-6.is)) (number_high c.args.kind) r.0 r.3, search rules)

pub keep_unless-requires : goal.keep_unless-requires
keep_unless-requires c =
    let r = c.requires in
    (fits_kept c.args.config.n (number_of c.args.kind) c.args.body.now (omega (arith, c.number-kind.ensures, c.in-7.is)) (number_high c.args.kind) r.0 r.3, search rules)

-- the median of what the list says; its signatures are passed over
pub returns-in-4 : goal.returns-in-4
unfolding message_of
returns-in-4 c =
    let a = c.args in
    let said : c.median-median.result ≡ median_of (values_of (map (λ (x : Signed). x.said) (signed_in a.body.now))) = rw (said_in a.body.now, ← c.stride.ensures) c.median-median.ensures in
    let value = to_z-of_z w64 c.median-median.result (search rules) in
    let fourth : number_of a.kind ≡ 4 = sym c.number-kind.ensures ∙ c.in-4.is in
    (rw fourth (c.asked.ensures ∙ ap (asked a.config a.self a.time a.commit) (value ∙ said)), rw fourth)

pub returns-in-6 : goal.returns-in-6
unfolding message_of
returns-in-6 c =
    let a = c.args in
    let sixth : number_of a.kind ≡ 6 = sym c.number-kind.ensures ∙ c.in-6.is in
    let same = bytes a.config.n (number_of a.kind) a.body.now (omega (arith, sixth)) (number_high a.kind) c.requires.0 c.type_inv.body in
    (rw sixth c.received.ensures, rw (sixth, same) c.keep.ensures)

pub returns-in-7 : goal.returns-in-7
unfolding message_of
returns-in-7 c =
    let a = c.args in
    let seventh : number_of a.kind ≡ 7 = sym c.number-kind.ensures ∙ c.in-7.is in
    let same = bytes a.config.n (number_of a.kind) a.body.now (omega (arith, seventh)) (number_high a.kind) c.requires.0 c.type_inv.body in
    (rw seventh c.echoed.ensures, rw (seventh, same) c.keep_unless.ensures)
