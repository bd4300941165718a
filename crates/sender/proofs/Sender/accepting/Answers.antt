-- `Sender::accepting` meets its contract: a body in range fits the free slot that the checks leave, and no time wraps.
use Rattle.std.proofs.Common.{◌≡◌, sym, ◌∙◌, ◌*◌, ◌≤◌, ◌<◌, length, le_refl, mul-le-mul, leb-true, to_z-of_z, to_z, of_z, w64, arith}
use borrow.Rule.Slice.PartMut.{mid_len}
use Rattle.config.specs.Limits.{most_stages, kept_size, slots}
use Rattle.config.proofs.Facts.{good_facts}
use Rattle.frame.proofs.Checked.{checked_final}
use Rattle.std.specs.Prelude.{Some}
use Rattle.sender.specs.Stage.{stage_for}
use Rattle.sender.specs.Waiting.{IsSlot, free_in}
use Rattle.sender.specs.Calls.{accepting, accepting_bytes}
use Rattle.sender.proofs.Slots.{body_fits, slot_keep}
use Rattle.sender.proofs.Sender.accepting.Goals as goal

pub median-requires : goal.median-requires
median-requires c =
    let h = (checked_final c.args.self.config.n c.args.body.now c.requires.body_good).list in
    (record { wide = omega (arith, c.stride.ensures); within = rw c.stride.ensures h.within }, omega (arith, h.count))

pub epoch_of-requires : goal.epoch_of-requires
epoch_of-requires c =
    let long = (checked_final c.args.self.config.n c.args.body.now c.requires.body_good).head.long in
    omega arith

pub round_of-requires : goal.round_of-requires
round_of-requires c = (checked_final c.args.self.config.n c.args.body.now c.requires.body_good).head.long

pub keep-requires : goal.keep-requires
keep-requires c =
    let few = (good_facts c.args.self.config c.requires.config).feed.members.most in
    let w = c.args.waiting.now in
    let found : IsSlot (Some c.unwrap-slot.result) (free_in c.args.self.taken) = rw c.unwrap-slot.ensures at c.free_in.ensures in
    let slot = c.unwrap-slot.result in
    let free : slot < slots = found.1 in
    let long = mid_len (slot * kept_size) (length w) w (le_refl (length w)) in
    (body_fits c.args.self.config.n c.args.body.now few c.requires.body_good, omega (arith, c.requires.room))

pub stage_for-requires : goal.stage_for-requires
stage_for-requires c = (good_facts c.args.self.config c.requires.config).feed.schedule.most

pub delay_of-requires : goal.delay_of-requires
delay_of-requires c =
    let feed = (good_facts c.args.self.config c.requires.config).feed in
    let within = leb-true (stage_for c.args.self.config c.args.place) c.args.self.config.stages (sym c.if-not-waits.ensures) in
    (omega (arith, c.stage_for.ensures.0, feed.schedule.most), feed.stage)

pub overflow_add-time : goal.overflow_add-time
overflow_add-time c =
    let feed = (good_facts c.args.self.config c.requires.config).feed in
    let within = leb-true (stage_for c.args.self.config c.args.place) c.args.self.config.stages (sym c.if-not-waits.ensures) in
    let most : c.stage_for.result ≤ most_stages = omega (arith, c.stage_for.ensures.0, feed.schedule.most) in
    omega (arith, c.delay_of.ensures, c.requires.time_good, mul-le-mul most feed.stage)

pub returns : goal.returns
unfolding accepting accepting_bytes
returns c =
    let few = (good_facts c.args.self.config c.requires.config).feed.members.most in
    let fits = body_fits c.args.self.config.n c.args.body.now few c.requires.body_good in
    let held = sym c.if-not-waits.ensures in
    let found : IsSlot (Some c.unwrap-slot.result) (free_in c.args.self.taken) = rw c.unwrap-slot.ensures at c.free_in.ensures in
    let lowest = found.0 in
    let median : to_z w64 (of_z w64 c.median.result) ≡ c.median.result = to_z-of_z {w = w64} (record { sfits = c.median.type_inv }) in (
      rw (c.with_slot.ensures, c.delay_of.ensures, c.stage_for.ensures.0, lowest, held, c.round_of.ensures, c.epoch_of.ensures, median, c.median.ensures, c.stride.ensures),
      slot_keep c.args.waiting.now _ c.args.body.now c.unwrap-slot.result c.requires.room found.1 fits c.keep.ensures ∙ rw (lowest, held),
    )
