-- A frame that brings a report: the report's body stands at its start.
use mathlib.Core.Path.{◌≡◌, refl, sym, ap, ◌∙◌}
use mathlib.Core.Bool.{true}
use mathlib.Core.List.{List, [], ◌++◌, append-nil}
use Prim.Native.Nat.{ℕ, ◌-◌}
use lib.ListN.{length}
use Rattle.wire.specs.Numbers.{Bytes}
use Rattle.frame.specs.Message.{Attested, Message, new_epoch, observe_req, observe, report_req, report, final, final_echo, kind_of}
use Rattle.frame.specs.Table.{version_of}
use Rattle.frame.specs.Encode.{attested_bytes, body_bytes, trailer_bytes, frame_bytes}
use Rattle.frame.specs.Decode.{length_in, trailer_place, kind_in, body_in, message_in}
use Rattle.frame.specs.Range.{good_attested, good_message}
use Rattle.frame.specs.Claims.{WritableAttested, Writable}
use Rattle.frame.proofs.Entries.{bytes_part}
use Rattle.frame.proofs.Fronts.{Stands}
use Rattle.frame.proofs.Framed.{checked_frame}
use Rattle.frame.proofs.Claims.{read_is_written, body_is_one}
use Rattle.follower.specs.Claims.{Carries}
use Rattle.node.specs.declared.Node.{Node}
use Rattle.node.specs.Event.{Delivery}
use Rattle.node.proofs.Ruled.{Says, said_range, said_well}

-- only a report and its echo carry one
carried_each : (P : Message → Type 0) (m : Message) (a : Attested) → Carries m a → P (final a) → P (final_echo a) → P m
carried_each P (final b) a c p q = rw c p
carried_each P (final_echo b) a c p q = rw c q
carried_each P (new_epoch _) a c p q = elim c [ ]
carried_each P (observe_req _ _) a c p q = elim c [ ]
carried_each P (observe _ _ _ _) a c p q = elim c [ ]
carried_each P (report_req _ _ _) a c p q = elim c [ ]
carried_each P (report _ _ _ _) a c p q = elim c [ ]

carried_bytes : (m : Message) (a : Attested) → Carries m a → body_bytes m ≡ attested_bytes a
unfolding body_bytes
carried_bytes m a c = carried_each (λ (x : Message). body_bytes x ≡ attested_bytes a) m a c refl refl

carried_good : (n : ℕ) (m : Message) (a : Attested) → Carries m a → good_message n m ≡ true → good_attested n a ≡ true
carried_good n m a c = carried_each (λ (x : Message). good_message n x ≡ true → good_attested n a ≡ true) m a c (λ h. h) (λ h. h)

carried_writable : (m : Message) (a : Attested) → Carries m a → Writable m → WritableAttested a
carried_writable m a c = carried_each (λ (x : Message). Writable x → WritableAttested a) m a c (λ w. w) (λ w. w)

module _ (n : Node) (d : Delivery) (m : Message) (a : Attested) (s : Says n d m) (c : Carries m a) (typed : Bytes d.frame) where
  pub brought_good : good_attested n.config.n a ≡ true
  brought_good = carried_good n.config.n m a c (said_range n d s)

  pub brought_writable : WritableAttested a
  brought_writable = carried_writable m a c (said_well n d s typed).writable

  pub frame_stands : Stands n.config.n a d.frame
  unfolding frame_bytes
  frame_stands =
      let f = d.frame in
      let written = read_is_written f n.config.n n.config.number d.link typed s.passes in
      let body : body_bytes (message_in f) ≡ attested_bytes a = ap body_bytes s.says ∙ carried_bytes m a c in
      let t = trailer_bytes (kind_of (message_in f)) d.link (version_of n.config.n) (length (body_bytes (message_in f))) n.config.number in
      record { good = brought_good; writable = brought_writable; rest = t; bytes = written ∙ ap (λ (l : List ℕ). l ++ t) body }

  pub body_stands : Stands n.config.n a (body_in d.frame)
  body_stands =
      let f = d.frame in
      let p = checked_frame f n.config.n n.config.number d.link s.passes in
      let b = body_is_one n.config.n (kind_in f) (body_in f) p.kind (bytes_part f (trailer_place f - length_in f) (length_in f) typed) p.answer in
      record { good = brought_good; writable = brought_writable; rest = []; bytes = b ∙ ap body_bytes s.says ∙ carried_bytes m a c ∙ sym (append-nil (attested_bytes a)) }
