-- The bytes that a script works on: how many there are, and how long each buffer among them can be.
use Rattle.std.specs.Prelude.{cond, ℕ, ◌+◌, ◌≤◌, eqb}
use Rattle.image.specs.declared.memory.Buffer.{Buffer}
use Rattle.image.specs.declared.memory.Buffer.TheVariants.{Outbox, Kept, Signatures, Waiting}
use Rattle.image.specs.declared.memory.Lengths.{Lengths}
use Rattle.image.specs.Image.{node_size, sender_size, contract_size}

abbrev pub outbox_room : ℕ
outbox_room = 8192

abbrev pub kept_room : ℕ
kept_room = 4096

abbrev pub signatures_room : ℕ
signatures_room = 8192

abbrev pub waiting_room : ℕ
waiting_room = 40960

-- by the letter of the buffer: o, k, g or w
abbrev pub room_of : ℕ → ℕ
room_of letter = cond (eqb letter 111) outbox_room (cond (eqb letter 107) kept_room (cond (eqb letter 103) signatures_room waiting_room))

-- by the same letters
abbrev pub buffer_of : ℕ → Buffer
buffer_of letter = cond (eqb letter 111) Outbox (cond (eqb letter 107) Kept (cond (eqb letter 103) Signatures Waiting))

abbrev pub buffer_room : Buffer → ℕ
buffer_room Outbox = outbox_room
buffer_room Kept = kept_room
buffer_room Signatures = signatures_room
buffer_room Waiting = waiting_room

abbrev pub memory_size : ℕ
memory_size = node_size + sender_size + contract_size + outbox_room + kept_room + signatures_room + waiting_room

abbrev pub Within : Lengths → Type 0
Within l = (l.outbox ≤ outbox_room) × (l.kept ≤ kept_room) × (l.signatures ≤ signatures_room) × (l.waiting ≤ waiting_room)

-- the buffers lie behind the images, one behind the other
abbrev pub outbox_place : ℕ
outbox_place = node_size + sender_size + contract_size

abbrev pub kept_place : ℕ
kept_place = outbox_place + outbox_room

abbrev pub signatures_place : ℕ
signatures_place = kept_place + kept_room

abbrev pub waiting_place : ℕ
waiting_place = signatures_place + signatures_room

abbrev pub place_of : Buffer → ℕ
place_of Outbox = outbox_place
place_of Kept = kept_place
place_of Signatures = signatures_place
place_of Waiting = waiting_place

abbrev pub no_lengths : Lengths
no_lengths = record { outbox = 0; kept = 0; signatures = 0; waiting = 0 }

-- the lengths with that of one buffer changed
abbrev pub resized_to : Lengths → Buffer → ℕ → Lengths
resized_to l Outbox n = record l { outbox = n }
resized_to l Kept n = record l { kept = n }
resized_to l Signatures n = record l { signatures = n }
resized_to l Waiting n = record l { waiting = n }
