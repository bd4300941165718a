-- How many bytes the image of each thing has, and each part of it.
use Rattle.std.specs.Prelude.{ℕ, ◌+◌, ◌*◌}
use Rattle.config.specs.Limits.{members, most_stages, slots}

abbrev pub config_size : ℕ
config_size = 33 + most_stages

abbrev pub commit_size : ℕ
commit_size = 21

abbrev pub pace_size : ℕ
pace_size = 11 + 4 * members

abbrev pub follower_size : ℕ
follower_size = 5 + members

abbrev pub leader_size : ℕ
leader_size = 10 * members + 4

abbrev pub node_size : ℕ
node_size = config_size + pace_size + follower_size + leader_size

abbrev pub accepted_size : ℕ
accepted_size = 13

abbrev pub sender_size : ℕ
sender_size = config_size + accepted_size + 9 * slots

abbrev pub account_size : ℕ
account_size = 16

abbrev pub ledger_size : ℕ
ledger_size = 16 + account_size * members

abbrev pub terms_size : ℕ
terms_size = 18

abbrev pub contract_size : ℕ
contract_size = ledger_size + commit_size + terms_size
