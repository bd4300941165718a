-- Document 01, "Sender" and "Numbers": what a sender holds, what its slots' bytes say, and which states are in range.
use Rattle.std.specs.Prelude.{Bool, true, not, ◌&&◌, ◌||◌, List, ℕ, zero, suc, ◌+◌, ◌*◌, eqb, leb, pos, length, get_or, replicate}
use Rattle.config.specs.Limits.{last_time, longest_delay, kept_size, slots, waiting_size}
use Rattle.config.specs.Bounds.{good_config, paired}
use Rattle.config.specs.declared.Config.{Config}
use Rattle.wire.specs.Numbers.{part}
use Rattle.quorum.specs.Counts.{every}
use Rattle.quorum.specs.Marks.{flags, marked}
use Rattle.frame.specs.Message.{Attested}
use Rattle.frame.specs.Decode.{attested_in}
use Rattle.frame.specs.Range.{good_attested}
use Rattle.sender.specs.declared.Sender.{Sender}
use Rattle.sender.specs.declared.Accepted.{Accepted}

-- the bytes of a slot, and the report they say: "A FINAL body kept or queued stands at the start"
abbrev pub slot_in : List ℕ → ℕ → List ℕ
slot_in waiting slot = part waiting (slot * kept_size) kept_size

abbrev pub report_in : List ℕ → ℕ → Attested
report_in waiting slot = attested_in (slot_in waiting slot)

-- whether a report waits in a slot, and its time
abbrev pub taken : Sender → ℕ → Bool
taken s slot = marked s.taken slot

abbrev pub time_of : Sender → ℕ → ℕ
time_of s slot = get_or s.times slot 0

-- nothing accepted yet
abbrev pub none_accepted : Accepted
none_accepted = record { median = pos 0; epoch = 0; round = 0 }

-- "none was accepted yet"
abbrev pub none_yet : Accepted → Bool
none_yet a = eqb a.epoch 0 && eqb a.round 0

-- a sender that has accepted nothing, with every slot free
abbrev pub fresh_sender : Config → Sender
fresh_sender c = record { config = c; accepted = none_accepted; taken = replicate slots 0; times = replicate slots 0 }

-- "Times .. are at most 2^53 (a waiting report's time 691,200,000 more)"
unfoldable pub good_times : List ℕ → Bool
unfolding every
good_times times = every (λ t. leb t (last_time + longest_delay)) times

-- each of the first slots is free, or holds a body in range
unfoldable pub good_slots : ℕ → Sender → List ℕ → Bool
good_slots zero s waiting = true
good_slots (suc k) s waiting = good_slots k s waiting && (not (taken s k) || good_attested s.config.n (report_in waiting k))

-- ROOM: "a buffer below its size"
abbrev pub roomy : List ℕ → Bool
roomy waiting = leb waiting_size (length waiting)

-- STATE: "a field out of its range, the configuration's included"
unfoldable pub good_fields : Sender → Bool
good_fields s = good_config s.config && paired s.accepted.epoch s.accepted.round && flags s.taken && good_times s.times

-- "or a body .. waiting (in a buffer of full size) that fails RANGE"
unfoldable pub good_sender : Sender → List ℕ → Bool
good_sender s waiting = good_fields s && (not (roomy waiting) || good_slots slots s waiting)
