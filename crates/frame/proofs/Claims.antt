-- The claims of `specs/Claims.antt`, each by the body's law and the trailer's; and one small message of each kind.
use mathlib.Core.Path.{◌≡◌, refl, sym, ap, ap₂, ◌∙◌}
use mathlib.Core.Bool.{Bool, true, ◌&&◌}
use mathlib.Core.List.{List, [], ◌∷◌, ◌++◌, map, map-map}
use Prim.Native.Nat.{ℕ, ◌+◌, ◌-◌}
use native.Mathlib.Omega.{arith}
use borrow.Author.Tests.{eq-eqb, eqb-true}
use lib.Dec.{lit<, lit≤}
use lib.IntN.{negsuc}
use lib.ListN.{length, take, drop, replicate, length-append, length-map}
use lib.Seq.{take_at}
use mir.Syntax.{w64}
use mir.Val.{SFits}
use Rattle.config.specs.Limits.{signature_size}
use Rattle.wire.specs.Numbers.{Bytes, be_from, be_number, be_bytes}
use Rattle.wire.proofs.Numbers.{bytes_cons, bytes_append, bytes_replicate, bytes_be_bytes}
use Rattle.frame.specs.Message.{Observation, Signed, Signer, Attested, Message, new_epoch, observe_req, observe, report_req, report, final, final_echo, kind_of, blank, bare_signed, bare_signer, bare_attested, bare}
use Rattle.frame.specs.Table.{good_kind, version_of, shape_of, body_length}
use Rattle.frame.specs.Encode.{attested_bytes, body_bytes, trailer_bytes, frame_bytes}
use Rattle.frame.specs.Decode.{observation_at, signer_at, count_in, list_place, list_end, signer_count_in, attested_in, trailer_place, length_in, kind_in, body_in, message_of, message_in}
use Rattle.frame.specs.Range.{all_members, good_epoch, good_round, good_observations, good_message}
use Rattle.frame.specs.Check.{body_answer, after_sender, after_kind, after_version, after_short, frame_answer}
use Rattle.frame.specs.Claims.{WritableSignature, Each, WritableSigned, WritableAttested, Writable, ReadAs, WrittenIsRead, ReadIsWritten, ReadAlikeIsOne, FinalAtTheStart, FinalIsOne, BodyIsOne, Bared, BareIsBare, ReadWell, ReadIsGood}
use Rattle.frame.proofs.Ranges.{good_entries_map, good_attested_facts}
use Rattle.frame.proofs.Entries.{each_map, length_entries, bytes_part, signed_entry}
use Rattle.frame.proofs.RoundTrip.{length_counted, length_attested, attested_front, attested_forth, attested_good, body_back, Said, body_forth}
use Rattle.frame.proofs.Checked.{checked_length}
use Rattle.frame.proofs.Framed.{Passed, checked_frame, frame_forth, kind_framed, body_framed, frame_back}

good_kind_lem : (m : Message) → good_kind (kind_of m) ≡ true
good_kind_lem (new_epoch e) = refl
good_kind_lem (observe_req e r) = refl
good_kind_lem (observe e r v g) = refl
good_kind_lem (report_req e r xs) = refl
good_kind_lem (report e r xs g) = refl
good_kind_lem (final a) = refl
good_kind_lem (final_echo a) = refl

pub written_is_read : WrittenIsRead
unfolding frame_bytes body_answer
written_is_read n number sender m small k s t good w =
    let b = body_back n m small good w in
    let kind = kind_framed (body_bytes m) (kind_of m) sender n number in
    let body = body_framed (body_bytes m) (kind_of m) sender n number b.fits in
    let range = ap (good_message n) b.says ∙ good in
    record {
      passes = frame_back (body_bytes m) (kind_of m) sender n number b.fits (good_kind_lem m) s t k ∙ simp (eq-eqb _ _ b.long, range);
      says = ap₂ message_of kind body ∙ b.says;
    }

-- what a frame that passes says, and that its body is the one for it
said : (f : List ℕ) (n number link : ℕ) → Bytes f → Passed f n number link → Said (kind_in f) (body_in f)
said f n number link h p =
    body_forth (kind_in f) p.kind (body_in f) (bytes_part f (trailer_place f - length_in f) (length_in f) h) (eqb-true _ _ p.body)

pub read_is_written : ReadIsWritten
unfolding frame_bytes
read_is_written f n number link h e =
    let p = checked_frame f n number link e in
    let s = said f n number link h p in
    frame_forth f n number link h p
    ∙ ap₂ (λ (kind : ℕ) (b : List ℕ). b ++ trailer_bytes kind link (version_of n) (length b) number) (sym s.same) (sym s.bytes)

pub read_alike_is_one : ReadAlikeIsOne
read_alike_is_one f g n number link hf hg ef eg e =
    read_is_written f n number link hf ef ∙ ap (frame_bytes n number link) e ∙ sym (read_is_written g n number link hg eg)

pub read_is_good : ReadIsGood
read_is_good f n number link h e =
    let p = checked_frame f n number link e in
    record { range = p.range; writable = (said f n number link h p).writable }

-- ---- bodies alone

pub final_at_the_start : FinalAtTheStart
final_at_the_start n a rest small good w = attested_front a w rest (good_attested_facts n a good).head.epoch.most

pub final_is_one : FinalIsOne
final_is_one b h l =
    let a = attested_in b in
    let k = body_length 6 (count_in b) (signer_count_in b) in
    let m = length_entries observation_at (shape_of 6).entry (count_in b) (drop list_place b) in
    let s = length_entries signer_at (shape_of 6).signer (signer_count_in b) (drop (list_end b + 1) b) in
    let long : length (attested_bytes a) ≡ k = length_attested a (attested_good b h l) ∙ ap₂ (body_length 6) m s in
    ap (take k) (sym (attested_forth b h l)) ∙ take_at (attested_bytes a) (drop k b) k long

pub body_is_one : BodyIsOne
body_is_one n kind b k h e = sym (body_forth kind k b h (checked_length n kind b e)).bytes

-- ---- signatures left out

pub blank_writable : WritableSignature blank
blank_writable = record { long = refl; bytes = bytes_replicate signature_size }

signed_bare : (xs : List Signed) → Each WritableSigned xs → Each WritableSigned (map bare_signed xs)
signed_bare xs w = each_map WritableSigned WritableSigned bare_signed (λ x u. record { value = u.value; signature = blank_writable }) xs w

attested_bare : (a : Attested) → WritableAttested a → WritableAttested (bare_attested a)
attested_bare a w =
    let Good : Signer → Type 0 = λ x. WritableSignature x.signature in
    record { values = w.values; signatures = each_map Good Good bare_signer (λ x u. blank_writable) a.signers w.signatures }

final_bare : (n : ℕ) (a : Attested) → Bared n (final a)
unfolding body_bytes
final_bare n a =
    let others = good_epoch a.epoch && good_round a.round && good_observations n a.list in
    record {
      range = ap (λ (t : Bool). others && t) (good_entries_map n (λ (x : Signer). x.member) bare_signer a.signers);
      writable = attested_bare a;
      once = ap (λ (ss : List Signer). final (record { epoch = a.epoch; round = a.round; list = a.list; signers = ss })) (map-map bare_signer bare_signer a.signers);
      long = λ w. length_attested (bare_attested a) (attested_bare a w) ∙ ap (body_length 6 (length a.list)) (length-map a.signers bare_signer) ∙ sym (length_attested a w);
    }

pub bare_is_bare : BareIsBare
unfolding body_bytes
bare_is_bare n (new_epoch e) = record { range = refl; writable = λ w. w; once = refl; long = λ w. refl }
bare_is_bare n (observe_req e r) = record { range = refl; writable = λ w. w; once = refl; long = λ w. refl }
bare_is_bare n (observe e r v g) =
    record { range = refl; writable = λ w. (w.0, blank_writable); once = refl; long = λ w. simp (length-append, w.1.long) }
bare_is_bare n (report_req e r xs) =
    record {
      range = ap (λ (t : Bool). good_epoch e && good_round r && t) (good_entries_map n (λ (x : Signed). x.said.member) bare_signed xs);
      writable = signed_bare xs;
      once = ap (report_req e r) (map-map bare_signed bare_signed xs);
      long = λ w. simp (length-append, length_counted signed_entry xs w, length_counted signed_entry (map bare_signed xs) (signed_bare xs w), length-map);
    }
bare_is_bare n (report e r xs g) =
    record { range = refl; writable = λ w. (w.0, blank_writable); once = refl; long = λ w. simp (length-append, w.1.long) }
bare_is_bare n (final a) = final_bare n a
bare_is_bare n (final_echo a) =
    let f = final_bare n a in
    let once : bare_attested (bare_attested a) ≡ bare_attested a = cc f.once in
    record { range = f.range; writable = f.writable; once = ap final_echo once; long = f.long }

-- ---- instances: member 2 of 4, in configuration 5

abbrev seven : List ℕ
seven = 0 ∷ 0 ∷ 0 ∷ 7 ∷ 1 ∷ 2 ∷ 0 ∷ 1 ∷ 0 ∷ 0 ∷ 0 ∷ 4 ∷ 0 ∷ 0 ∷ 0 ∷ 0 ∷ 0 ∷ 0 ∷ 0 ∷ 5 ∷ []

new_epoch_seven : (frame_bytes 4 5 2 (new_epoch 7) ≡ seven) × ReadAs seven 4 5 2 (new_epoch 7)
unfolding frame_bytes body_bytes trailer_bytes be_bytes be_number be_from frame_answer after_short after_version after_kind after_sender body_answer body_length message_of
new_epoch_seven = (refl, record { passes = refl; says = refl })

-- it is the one frame that says so, and what it says is in range
seven_bytes : Bytes seven
unfolding be_bytes
seven_bytes =
    let behind = be_bytes 4 4 ++ be_bytes 8 5 in
    let numbers = be_bytes 2 1 ++ behind in
    bytes_append (be_bytes 4 7) (1 ∷ 2 ∷ numbers) (bytes_be_bytes 4 7)
    (bytes_cons 1 (2 ∷ numbers) (lit< tt)
    (bytes_cons 2 numbers (lit< tt) (bytes_append (be_bytes 2 1) behind (bytes_be_bytes 2 1) (bytes_append (be_bytes 4 4) (be_bytes 8 5) (bytes_be_bytes 4 4) (bytes_be_bytes 8 5)))))

seven_is_one : seven ≡ frame_bytes 4 5 2 (new_epoch 7)
seven_is_one = read_is_written seven 4 5 2 seven_bytes new_epoch_seven.1.passes ∙ ap (frame_bytes 4 5 2) new_epoch_seven.1.says

alone : (f : List ℕ) → Bytes f → ReadAs f 4 5 2 (new_epoch 7) → f ≡ seven
alone f h r = read_alike_is_one f seven 4 5 2 h seven_bytes r.passes new_epoch_seven.1.passes (r.says ∙ sym new_epoch_seven.1.says)

seven_read_well : ReadWell 4 (message_in seven)
seven_read_well = read_is_good seven 4 5 2 seven_bytes new_epoch_seven.1.passes

abbrev ReadBack : Message → Type 0
ReadBack m = ReadAs (frame_bytes 4 5 2 m) 4 5 2 m

read_back : (m : Message) → good_message 4 m ≡ true → Writable m → ReadBack m
read_back m = written_is_read 4 5 2 m (lit< tt) (lit< tt) (omega arith) (omega arith)

-- member 3 observed -2
abbrev observed : Observation
observed = record { member = 3; value = negsuc 1 }

fits : SFits w64 (negsuc 1)
fits = record { sfits = lit< tt }

-- two signers of a list of one
abbrev attested : Attested
attested = record { epoch = 7; round = 1; list = observed ∷ []; signers = record { member = 2; signature = blank } ∷ record { member = 4; signature = blank } ∷ [] }

attested_writable : WritableAttested attested
attested_writable = record { values = (fits, tt); signatures = (blank_writable, (blank_writable, tt)) }

observe_req_back : ReadBack (observe_req 7 1)
observe_req_back = read_back (observe_req 7 1) refl tt

observe_back : ReadBack (observe 7 1 (negsuc 1) blank)
observe_back = read_back (observe 7 1 (negsuc 1) blank) refl (fits, blank_writable)

report_req_back : ReadBack (report_req 7 1 (record { said = observed; signature = blank } ∷ []))
unfolding all_members
report_req_back = read_back (report_req 7 1 (record { said = observed; signature = blank } ∷ [])) refl (record { value = fits; signature = blank_writable }, tt)

report_back : ReadBack (report 7 1 (observed ∷ []) blank)
unfolding all_members
report_back = read_back (report 7 1 (observed ∷ []) blank) refl ((fits, tt), blank_writable)

final_back : ReadBack (final attested)
unfolding all_members
final_back = read_back (final attested) refl attested_writable

final_echo_back : ReadBack (final_echo attested)
unfolding all_members
final_echo_back = read_back (final_echo attested) refl attested_writable

-- a byte behind a FINAL body is not read
final_then_nine : attested_in (attested_bytes attested ++ (9 ∷ [])) ≡ attested
unfolding all_members
final_then_nine = final_at_the_start 4 attested (9 ∷ []) (lit< tt) refl attested_writable

-- a FINAL body with neither observations nor signers has seven bytes
seven_of_eight : take 7 (replicate 8 0) ≡ attested_bytes (attested_in (replicate 8 0))
unfolding body_length
seven_of_eight = final_is_one (replicate 8 0) (bytes_replicate 8) (lit≤ tt)

body_of_seven : be_bytes 4 7 ≡ body_bytes (message_of 1 (be_bytes 4 7))
unfolding body_answer body_length message_of be_bytes be_number be_from
body_of_seven = body_is_one 4 1 (be_bytes 4 7) refl (bytes_be_bytes 4 7) refl

bare_as_long : length (body_bytes (bare (final attested))) ≡ length (body_bytes (final attested))
bare_as_long = (bare_is_bare 4 (final attested)).long attested_writable
