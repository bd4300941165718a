-- Document 01, "Sender" (000, Algorithm 5) and "Codes": what each call answers, in the order of its codes, and what it does.
use Rattle.std.specs.Prelude.{Bool, not, cond, ◌&&◌, ◌||◌, List, [], ℕ, ◌+◌, ◌*◌, eqb, ltb, ℤ, set}
use Rattle.std.specs.declared.option.Option.{Option}
use Rattle.std.specs.declared.option.Option.TheVariants.{Some, None}
use Rattle.config.specs.Limits.{kept_size, slots}
use Rattle.config.specs.Bounds.{good_config, good_time, good_commit}
use Rattle.config.specs.Codes.{is_done, making}
use Rattle.config.specs.Answers.{Answer}
use Rattle.config.specs.Answers as answer
use Rattle.config.specs.declared.Config.{Config}
use Rattle.config.specs.declared.Commit.{Commit}
use Rattle.wire.specs.Overlay.{over}
use Rattle.price.specs.Deviation.{deviates}
use Rattle.price.specs.Median.{median_of}
use Rattle.frame.specs.Message.{Attested}
use Rattle.frame.specs.Decode.{attested_in}
use Rattle.frame.specs.Check.{body_answer}
use Rattle.report.specs.Stands.{values_of}
use Rattle.report.specs.Newer.{newer}
use Rattle.report.specs.Kept.{kept_bytes}
use Rattle.report.specs.Whole.{final_length, part_of}
use Rattle.sender.specs.declared.Sender.{Sender}
use Rattle.sender.specs.declared.Accepted.{Accepted}
use Rattle.sender.specs.declared.Made.{Made}
use Rattle.sender.specs.declared.Transmit.TheVariants as transmit
use Rattle.sender.specs.declared.Queued.{Queued}
use Rattle.sender.specs.declared.Part.{Part}
use Rattle.sender.specs.declared.Released.{Released}
use Rattle.sender.specs.State.{none_yet, fresh_sender, roomy, good_sender, slot_in, report_in, time_of}
use Rattle.sender.specs.Stage.{permutes, place_in, stage_for, waits, delay_of}
use Rattle.sender.specs.Waiting.{earliest, free_in, transmit_at}

-- ---- making one: "Making a fresh state: 12."

unfoldable pub made_of : Config → Made
made_of c = record { answer = making (good_config c); sender = fresh_sender c }

-- ---- transmission: 2, 3, 8, 9, 12, 13, 19, 20

-- the median of a report
abbrev pub median_in : Attested → ℤ
median_in a = median_of (values_of a.list)

-- 20: "all 16 slots taken"; "Beyond the last stage .. QUEUE can't occur."
unfoldable pub after_similar : Sender → ℕ → Answer
after_similar s p = cond (waits s.config p && eqb (free_in s.taken) slots) answer.Queue answer.Done

-- 19: "SIMILAR unless none was accepted yet, or the median deviates from the accepted one, or the commit has reached it."
abbrev pub similar : Sender → Commit → ℤ → Bool
similar s commit median =
    not (none_yet s.accepted || deviates s.config s.accepted.median median || not (newer s.accepted.epoch s.accepted.round commit.epoch commit.round))

-- 13: "OLD if (epoch, round) is not above the commit, or not above the last accepted report."
abbrev pub old : Sender → Commit → Attested → Bool
old s commit a =
    not (newer a.epoch a.round commit.epoch commit.round) || not (newer a.epoch a.round s.accepted.epoch s.accepted.round)

unfoldable pub after_config : Sender → Commit → Attested → ℕ → Answer
after_config s commit a p =
    cond (old s commit a) answer.Old (cond (similar s commit (median_in a)) answer.Similar (after_similar s p))

-- 9 of the time and the commit, then 12: "a permutation that isn't one"
unfoldable pub after_body : Sender → List ℕ → ℕ → Commit → List ℕ → Answer
after_body s body time commit permutation =
    cond (not (good_time time && good_commit commit)) answer.Range
    (cond (not (permutes s.config.n permutation)) answer.Config (after_config s commit (attested_in body) (place_in s.config permutation)))

-- 2, 3, then 8 and 9 of the body
unfoldable pub transmit_answer : Sender → List ℕ → ℕ → Commit → List ℕ → List ℕ → Answer
transmit_answer s body time commit permutation waiting =
    cond (not (good_sender s waiting)) answer.State
    (cond (not (roomy waiting)) answer.Room
    (cond (not (is_done (body_answer s.config.n 6 body))) (body_answer s.config.n 6 body) (after_body s body time commit permutation)))

-- "Otherwise it becomes the accepted one."
abbrev pub accepted_of : Attested → Accepted
accepted_of a = record { median = median_in a; epoch = a.epoch; round = a.round }

abbrev pub with_accepted : Sender → Accepted → Sender
with_accepted s a = record { config = s.config; accepted = a; taken = s.taken; times = s.times }

-- a slot that is taken (1) until a time, or free (0)
abbrev pub with_slot : Sender → ℕ → ℕ → ℕ → Sender
with_slot s slot flag time =
    record { config = s.config; accepted = s.accepted; taken = set s.taken slot flag; times = set s.times slot time }

-- a sender with a report in its lowest free slot, and the slots' bytes with its body there, zeros after it
abbrev pub queueing : Sender → ℕ → Sender
queueing s due = with_slot s (free_in s.taken) 1 due

abbrev pub queued : Sender → List ℕ → List ℕ → List ℕ
queued s waiting body = over waiting (free_in s.taken * kept_size) (kept_bytes body)

-- when a report of place p is due: its stage's delay after now
abbrev pub due_at : Sender → ℕ → ℕ → ℕ
due_at s time p = time + delay_of s.config (stage_for s.config p)

-- the sender, and its slots' bytes, after a report is accepted by the node of place p
unfoldable pub accepting : Sender → Attested → ℕ → ℕ → Sender
accepting s a time p =
    let t = with_accepted s (accepted_of a) in
    cond (waits s.config p) (queueing t (due_at s time p)) t

unfoldable pub accepting_bytes : Sender → List ℕ → ℕ → List ℕ → List ℕ
accepting_bytes s body p waiting = cond (waits s.config p) (queued s waiting body) waiting

-- a call's result with the slots' bytes it leaves
pub record Sent : Type 0 where
  pub result : Queued
  pub slots : List ℕ

abbrev pub sent : Queued → List ℕ → Sent
sent r bytes = record { result = r; slots = bytes }

abbrev pub refused_transmission : Answer → Sender → Queued
refused_transmission a s = record { answer = a; sender = s; transmit = transmit.Leave }

-- the rule: DONE also says what becomes of T_transmit
unfoldable pub transmitted : Sender → List ℕ → ℕ → ℕ → List ℕ → Sent
transmitted s body time p waiting =
    let t = accepting s (attested_in body) time p in
    let bytes = accepting_bytes s body p waiting in
    sent (record { answer = answer.Done; sender = t; transmit = transmit_at t bytes time }) bytes

unfoldable pub transmit_of : Sender → List ℕ → ℕ → Commit → List ℕ → List ℕ → Sent
transmit_of s body time commit permutation waiting =
    let a = transmit_answer s body time commit permutation waiting in
    cond (is_done a) (transmitted s body time (place_in s.config permutation) waiting) (sent (refused_transmission a s) waiting)

-- ---- its timeout: 2, 3, 9, 1

-- IGNORED: "a sender timeout early or with nothing waiting"
unfoldable pub early : Sender → ℕ → List ℕ → Bool
early s time waiting = eqb (earliest s waiting) slots || ltb time (time_of s (earliest s waiting))

unfoldable pub timeout_answer : Sender → ℕ → Commit → List ℕ → Answer
timeout_answer s time commit waiting =
    cond (not (good_sender s waiting)) answer.State
    (cond (not (roomy waiting)) answer.Room
    (cond (not (good_time time && good_commit commit)) answer.Range
    (cond (early s time waiting) answer.Ignored answer.Done)))

-- no part of the slots
abbrev pub nothing : Option Part
nothing = None

-- "hands it out if newer than the commit": where in the slots' bytes the report lies
unfoldable pub releasing : List ℕ → Commit → ℕ → Option Part
releasing waiting commit slot =
    cond (newer (report_in waiting slot).epoch (report_in waiting slot).round commit.epoch commit.round)
    (Some (record { start = slot * kept_size; len = final_length (slot_in waiting slot) }))
    nothing

abbrev pub refused_timeout : Answer → Sender → Released
refused_timeout a s = record { answer = a; sender = s; transmit = transmit.Leave; handed = nothing }

-- "A timeout .. removes that report, frees its slot, and hands it out if newer than the commit."
unfoldable pub released : Sender → ℕ → Commit → List ℕ → Released
released s time commit waiting =
    let t = with_slot s (earliest s waiting) 0 0 in
    record { answer = answer.Done; sender = t; transmit = transmit_at t waiting time; handed = releasing waiting commit (earliest s waiting) }

unfoldable pub timeout_of : Sender → ℕ → Commit → List ℕ → Released
timeout_of s time commit waiting =
    let a = timeout_answer s time commit waiting in
    cond (is_done a) (released s time commit waiting) (refused_timeout a s)

-- the report that is handed out, as a part of the slots' bytes; an empty part where none is
abbrev pub handed_part : Option Part → List ℕ → List ℕ
handed_part None waiting = []
handed_part (Some p) waiting = part_of waiting p.start p.len
