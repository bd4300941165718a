-- What a call answers, by the names that document 01, "Codes", gives the codes.
use Rattle.std.specs.Prelude.{Result, Ok, Err}
use Rattle.config.specs.declared.Refusal.{Refusal}
use Rattle.config.specs.declared.Refusal.TheVariants as refusal

-- that its rule ran, or why it was refused
abbrev pub Answer : Type 0
Answer = Result (Unit {0}) Refusal

abbrev pub Done : Answer
Done = Ok tt

abbrev pub Ignored : Answer
Ignored = Err refusal.Ignored

abbrev pub State : Answer
State = Err refusal.State

abbrev pub Room : Answer
Room = Err refusal.Room

abbrev pub Short : Answer
Short = Err refusal.Short

abbrev pub Version : Answer
Version = Err refusal.Version

abbrev pub Kind : Answer
Kind = Err refusal.Kind

abbrev pub Sender : Answer
Sender = Err refusal.Sender

abbrev pub Length : Answer
Length = Err refusal.Length

abbrev pub Range : Answer
Range = Err refusal.Range

abbrev pub Proof : Answer
Proof = Err refusal.Proof

abbrev pub End : Answer
End = Err refusal.End

abbrev pub Config : Answer
Config = Err refusal.Config

abbrev pub Old : Answer
Old = Err refusal.Old

abbrev pub Few : Answer
Few = Err refusal.Few

abbrev pub Order : Answer
Order = Err refusal.Order

abbrev pub Twice : Answer
Twice = Err refusal.Twice

abbrev pub Signers : Answer
Signers = Err refusal.Signers

abbrev pub Funds : Answer
Funds = Err refusal.Funds

abbrev pub Similar : Answer
Similar = Err refusal.Similar

abbrev pub Queue : Answer
Queue = Err refusal.Queue
