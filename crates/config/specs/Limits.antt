-- The fixed numbers of document 01, "Numbers", each named once. `Config::limits` promises that the code's constants are these.
use Rattle.std.specs.Prelude.{ℕ, ◌*◌, ◌^◌}
use Rattle.config.specs.declared.Limits.{Limits}

-- "Members n: 1 to 31"
abbrev pub members : ℕ
members = 31

-- "Epoch 1 to 4,294,967,295"
abbrev pub last_epoch : ℕ
last_epoch = 4294967295

-- "Round 1 to 255"
abbrev pub last_round : ℕ
last_round = 255

-- "r_max 1 to 254"
abbrev pub most_rounds : ℕ
most_rounds = 254

-- "Alpha: 0 to 1,000,000,000 parts per billion"
abbrev pub most_alpha : ℕ
most_alpha = 1000000000

-- "Times are milliseconds; they and Delta_C are at most 2^53"
abbrev pub last_time : ℕ
last_time = 2 ^ 53

-- "Delta_stage at most 86,400,000"
abbrev pub longest_stage : ℕ
longest_stage = 86400000

-- "Schedule: 1 to 8 stages"
abbrev pub most_stages : ℕ
most_stages = 8

-- "a waiting report's time 691,200,000 more": the last stage of the longest schedule
abbrev pub longest_delay : ℕ
longest_delay = most_stages * longest_stage

-- "Fees at most 1,000,000,000 each"
abbrev pub most_fee : ℕ
most_fee = 1000000000

-- "All deposits ever made: at most 2^53 together"
abbrev pub most_deposits : ℕ
most_deposits = 2 ^ 53

-- "outbox at least 2,400 bytes from the given position"
abbrev pub outbox_size : ℕ
outbox_size = 2400

-- "kept report 2,304", which is also the size of a slot
abbrev pub kept_size : ℕ
kept_size = 2304

-- the signatures of document 01, "Frames", have 64 bytes
abbrev pub signature_size : ℕ
signature_size = 64

-- "its REPORT signature at 1,984+64(j−1)": behind the OBSERVE signatures of all members
abbrev pub report_signatures : ℕ
report_signatures = members * signature_size

-- "leader's signatures 3,968"
abbrev pub signatures_size : ℕ
signatures_size = 2 * report_signatures

-- "waiting reports 16 slots of 2,304"
abbrev pub slots : ℕ
slots = 16

abbrev pub waiting_size : ℕ
waiting_size = slots * kept_size

-- "The epoch program's frame buffer is 4,096 zero bytes at its start"
abbrev pub frame_size : ℕ
frame_size = 4096

-- all of them in one
abbrev pub limits : Limits
limits =
    record {
      members = members;
      epoch = last_epoch;
      round = last_round;
      rounds = most_rounds;
      alpha = most_alpha;
      time = last_time;
      stage = longest_stage;
      stages = most_stages;
      delay = longest_delay;
      fee = most_fee;
      deposits = most_deposits;
      outbox = outbox_size;
      kept = kept_size;
      signature = signature_size;
      reports = report_signatures;
      signatures = signatures_size;
      slots = slots;
      waiting = waiting_size;
      frame = frame_size;
    }
