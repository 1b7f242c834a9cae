-- Demand 1, capture: "7, the PDU's 1 to 5, 6, 8. Each is given exactly then." Before them 9 for a day above 65,535 (document 02, 2026-05). With 7
-- its entry and place, with the PDU's its place.
use Rattle.std.specs.Prelude.{◌≡◌, refl, List, [], ◌∷◌, ◌++◌, ℕ, suc, ◌≤◌, ◌<◌, length, replicate, Ok, Err, Option, Some, None}
use Rattle.reader.specs.Read.{read_is, answer_of, found_in}
use Rattle.archive.specs.Model.{Held, bytes_of}
use Rattle.archive.specs.Keeping.{stored_refusal, over, captured, capture_is, capture_out}
use Rattle.archive.specs.Refusals.{plain, of_pdu, of_body}
use Rattle.archive.specs.Filing.{filing_of, body_agrees}
use Rattle.archive.specs.Examples.{calls, profile_a}
use Rattle.archive.specs.declared.refusal.Refusal.{Refusal}
use Rattle.archive.specs.declared.contents.Entry.{Entry}
use Rattle.promises.specs.Answers.{Exactly}
use Rattle.promises.specs.Held.{Holdable}
use Rattle.promises.specs.Archive.{Agrees, IsArchive, HeldFor}
use Rattle.promises.specs.Broken.{number_of, Broken}
use Rattle.promises.specs.Demand1.Reading as read

abbrev pub answer : List ℕ → List ℕ → ℕ → ℕ → ℕ → Refusal
answer b s n day room = stored_refusal (capture_is b s n day room)

-- a day, an archive, and a legal PDU that it may hold
pub record Offered (b s : List ℕ) (n day : ℕ) : Type 0 where
  pub dated : day < 65536
  pub archive : IsArchive b
  pub accepted : answer_of (read_is s n) ≡ Ok tt
  pub may : Holdable (found_in (read_is s n))

-- a new key with 512 held: the PDU agrees with an entry of its bit length, and none of the 512 is of that network, SSI and part
pub record Full (b s : List ℕ) (n : ℕ) (k : IsArchive b) : Type 0 where
  pub entry : Entry
  pub bits : (entry).bits.0 ≡ n
  pub agrees : Agrees k.archive.home (record { entry = entry; body = s }) (found_in (read_is s n))
  pub new : (h : Held) → HeldFor k.archive.held (entry).key h → ⊥
  pub count : length k.archive.held ≡ 512

-- the bytes of the result: the archive with the PDU in its place, instead of the one that it held for that user and part
abbrev pub result : List ℕ → List ℕ → ℕ → ℕ → List ℕ
result b s n day = bytes_of (captured b s n day)

-- the table of refusals, as far as capture goes
pub data Given (b s : List ℕ) (n day room : ℕ) : Refusal → Type 0 where
  success : (o : Offered b s n day) → (Full b s n o.archive → ⊥) → length (result b s n day) ≤ 65536 → length (result b s n day) ≤ room
      → Given b s n day room (plain 0)
  -- 9: a day above 65,535
  undated : 65535 < day → Given b s n day room (plain 9)
  -- 7: the archive breaks a rule
  damaged : (f : Refusal) → day < 65536 → Broken b f → Given b s n day room f
  -- 1 to 5: those of reading
  unread : (k : ℕ) (p : Option ℕ) → day < 65536 → IsArchive b → answer_of (read_is s n) ≡ Err (read.told (suc k) p)
      → Given b s n day room (record { number = suc k; entry = None; place = p })
  -- 6: a legal PDU that no archive entry may hold
  not-kept : day < 65536 → IsArchive b → answer_of (read_is s n) ≡ Ok tt → (Holdable (found_in (read_is s n)) → ⊥)
      → Given b s n day room (plain 6)
  -- 8: a new key with 512 held, or the result exceeds 65,536 bytes or the lent buffer
  full : (o : Offered b s n day) → Full b s n o.archive → Given b s n day room (plain 8)
  too_long : Offered b s n day → 65536 < length (result b s n day) → Given b s n day room (plain 8)
  no_room : Offered b s n day → room < length (result b s n day) → Given b s n day room (plain 8)

-- an archive that holds nothing, and an INTERROGATE; 49 b0 is a CALL BARRED
abbrev nothing : List ℕ
nothing = replicate 5 0

abbrev asking : List ℕ
asking = 0x49 ∷ 0x62 ∷ 0x00 ∷ 0x00 ∷ 0x0a ∷ 0x40 ∷ []

-- an entry for user 0/0, part 1, whose body has no bits
abbrev empty_body : List ℕ
empty_body = replicate 4 0 ++ (0x01 ∷ replicate 6 0 ++ (0x01 ∷ replicate 4 0))

-- each is met
met : (answer nothing profile_a 138 65535 34 ≡ plain 0)
    × (answer [] [] 0 65536 0 ≡ plain 9)
    × (answer [] [] 0 300 0 ≡ plain 7)
    × (answer empty_body [] 0 300 0 ≡ of_body 0 (Some 0))
    × (answer nothing [] 1 300 0 ≡ plain 1)
    × (answer nothing [] 0 300 0 ≡ of_pdu (read.told 2 (Some 0)))
    × (answer nothing (0x00 ∷ []) 6 300 0 ≡ of_pdu (read.told 3 (Some 0)))
    × (answer nothing (0x49 ∷ 0x72 ∷ 0x00 ∷ 0x01 ∷ 0x90 ∷ 0x00 ∷ 0x00 ∷ 0xc7 ∷ 0x00 ∷ []) 65 300 0 ≡ of_pdu (read.told 4 (Some 40)))
    × (answer nothing asking 43 300 0 ≡ of_pdu (read.told 5 (Some 42)))
    × (answer nothing (0x48 ∷ 0x80 ∷ []) 11 300 0 ≡ of_pdu (read.told 3 (Some 6)))
    × (answer nothing asking 42 300 0 ≡ plain 6)
    × (answer nothing (0x49 ∷ 0xb0 ∷ []) 13 300 0 ≡ plain 6)
    × (answer nothing profile_a 138 300 33 ≡ plain 8)
unfolding calls body_agrees filing_of
met = (refl, refl, refl, refl, refl, refl, refl, refl, refl, refl, refl, refl, refl)

-- Proved in proofs/Demand1/Capture.antt.
pub record Promise : Type 0 where
  pub table : (b s : List ℕ) (n day room : ℕ)
      → Exactly number_of (answer b s n day room) (read.numbers ++ (9 ∷ 7 ∷ 6 ∷ 8 ∷ [])) (Given b s n day room)
  -- "Success returns the length written; output bytes after those that hold that length stay."
  pub success : (b s : List ℕ) (n day : ℕ) (out : List ℕ) → (answer b s n day (length out)).number ≡ 0
      → (capture_is b s n day (length out) ≡ Ok (length (result b s n day))) × (capture_out b s n day out ≡ over (result b s n day) out)
  -- a refusal changes no byte
  pub refusal : (b s : List ℕ) (n day : ℕ) (out : List ℕ) (f : Refusal) → capture_is b s n day (length out) ≡ Err f → capture_out b s n day out ≡ out
