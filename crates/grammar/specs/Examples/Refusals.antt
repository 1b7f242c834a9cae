-- Refusals with their places: PDU types that have no PDU, reserved values, range types and range ends, what is left over; and values that are
-- wider than their element.
use Rattle.std.specs.Prelude.{◌≡◌, refl, [], ◌∷◌, ◌++◌, ℕ, replicate}
use Rattle.bits.proofs.Table.{values}
use Rattle.codec.specs.Codec.{Outcome, ok, no}
use Rattle.codec.specs.Whole.{whole_parse}
use Rattle.grammar.specs.Grammar.{pdu, grammar}
use Rattle.grammar.specs.Zero.{zero_lists}
use Rattle.grammar.specs.Samples.{near, far, list, services}
use Rattle.grammar.specs.Samples as a
use Rattle.grammar.specs.Examples.Layouts.{Elements, in_turn, head, definition, user_definition, empty_part_laid}
use Rattle.grammar.specs.declared.record.Identity.{Identity}
use Rattle.grammar.specs.declared.record.Identities.{Identities}
use Rattle.grammar.specs.declared.record.Services.{Services}
use Rattle.grammar.specs.declared.record.Record.{Record}

abbrev reading : Elements → Outcome Record
reading l = whole_parse pdu (in_turn l)

-- affected user 5, in the bits 11 to 39; service 2, of one
abbrev user : Elements
user = (4, 1) ∷ (24, 5) ∷ (1, 0) ∷ []

abbrev service : Elements
service = (3, 1) ∷ (3, 2) ∷ []

abbrev covered : Services
covered = services (2 ∷ [])

-- ---- PDU types: 0 to 4 and 14 to 31 give 3 at the PDU type; after the others more is due

no-pdu : (values (λ v. reading (head v)) 0 5 ≡ replicate 5 (no 3 6))
    × (values (λ v. reading (head v)) 14 18 ≡ replicate 18 (no 3 6))
    × (values (λ v. reading (head v)) 5 9 ≡ replicate 9 (no 2 11))
unfolding grammar
no-pdu = (refl, refl, refl)

-- ---- reserved values

-- an acknowledgement without delivery, in tables 10 and 12
acknowledged : (reading (head 5 ++ user ++ definition 0 1 2 ++ service) ≡ no 3 41)
    × (reading (head 7 ++ user ++ definition 0 1 2 ++ service) ≡ no 3 41)
unfolding grammar
acknowledged = (refl, refl)

-- in tables 13 and 15 it is free
acknowledged_freely : (reading (head 8 ++ user_definition 1 2 ++ service) ≡ ok (a.define_user 1 2 covered zero_lists) 20 [])
    × (reading (head 10 ++ user_definition 1 2 ++ service) ≡ ok (a.define_external_user 1 2 covered zero_lists) 20 [])
unfolding grammar
acknowledged_freely = (refl, refl)

reserved-definition : (reading (head 5 ++ user ++ definition 1 0 3 ++ service) ≡ no 3 42)
    × (reading (head 7 ++ user ++ definition 1 0 3 ++ service) ≡ no 3 42)
    × (reading (head 8 ++ user_definition 0 3 ++ service) ≡ no 3 12)
    × (reading (head 10 ++ user_definition 0 3 ++ service) ≡ no 3 12)
unfolding grammar
reserved-definition = (refl, refl, refl, refl)

-- definition result 5; distribution results 2 to 5; rejection cause 3
reserved-outcome : (reading (head 6 ++ user ++ (3, 5) ∷ []) ≡ no 3 40)
    × (values (λ v. reading (head 9 ++ (3, v) ∷ [])) 2 4 ≡ replicate 4 (no 3 11))
    × (reading (head 13 ++ (2, 3) ∷ []) ≡ no 3 11)
unfolding grammar
reserved-outcome = (refl, refl, refl)

-- interrogation type 0; interrogation result 5
reserved_interrogation : (reading (head 11 ++ user ++ (2, 0) ∷ []) ≡ no 3 40)
    × (reading (head 12 ++ user ++ (3, 5) ∷ (2, 0) ∷ service) ≡ no 3 40)
unfolding grammar
reserved_interrogation = (refl, refl)

-- no service; service 4
reserved-service : (reading (head 7 ++ user ++ definition 0 0 2 ++ (3, 0) ∷ []) ≡ no 3 44)
    × (reading (head 8 ++ user_definition 0 2 ++ (3, 0) ∷ []) ≡ no 3 14)
    × (reading (head 10 ++ user_definition 0 2 ++ (3, 0) ∷ []) ≡ no 3 14)
    × (reading (head 7 ++ user ++ definition 0 0 2 ++ (3, 1) ∷ (3, 4) ∷ []) ≡ no 3 47)
    × (reading (head 8 ++ user_definition 0 2 ++ (3, 1) ∷ (3, 4) ∷ []) ≡ no 3 17)
    × (reading (head 10 ++ user_definition 0 2 ++ (3, 1) ∷ (3, 4) ∷ []) ≡ no 3 17)
unfolding grammar
reserved-service = (refl, refl, refl, refl, refl, refl)

-- no affected user, in tables 11 and 12
nobody-affected : (reading (head 6 ++ (4, 0) ∷ (3, 1) ∷ []) ≡ no 3 11)
    × (reading (head 7 ++ (4, 0) ∷ definition 0 0 2 ++ service) ≡ no 3 11)
unfolding grammar
nobody-affected = (refl, refl)

-- range type 10 for closed user groups
reserved-range : (reading (head 7 ++ user ++ definition 0 0 0 ++ service ++ (4, 10) ∷ []) ≡ no 3 50)
    × (reading (head 8 ++ user_definition 0 0 ++ service ++ (4, 10) ∷ []) ≡ no 3 20)
    × (reading (head 10 ++ user_definition 0 0 ++ service ++ (4, 10) ∷ []) ≡ no 3 20)
unfolding grammar
reserved-range = (refl, refl, refl)

-- a restricted external number in table 12: of 0 and of 25 digits; its second digit is 13
abbrev dialled : Elements → Elements
dialled number = head 7 ++ user ++ definition 0 0 0 ++ service ++ (4, 0) ∷ (4, 1) ∷ number

no_number : (reading (dialled ((5, 0) ∷ [])) ≡ no 3 58)
    × (reading (dialled ((5, 25) ∷ [])) ≡ no 3 58)
    × (reading (dialled ((5, 2) ∷ (4, 1) ∷ (4, 13) ∷ [])) ≡ no 3 67)
unfolding grammar
no_number = (refl, refl, refl)

-- a range of external numbers in table 12: restricted, excepted
number-range : (reading (head 7 ++ user ++ definition 0 0 0 ++ service ++ (4, 0) ∷ (4, 9) ∷ (4, 0) ∷ []) ≡ no 3 54)
    × (reading (head 7 ++ user ++ definition 0 0 0 ++ service ++ (4, 0) ∷ (4, 0) ∷ (4, 9) ∷ []) ≡ no 3 58)
unfolding grammar
number-range = (refl, refl)

-- ---- what is left over: lists under removal; a bit behind a result or a cause

list_left : (reading (head 5 ++ user ++ definition 1 0 2 ++ service ++ empty_part_laid) ≡ no 5 50)
    × (reading (head 7 ++ user ++ definition 1 0 2 ++ service ++ empty_part_laid) ≡ no 5 50)
    × (reading (head 8 ++ user_definition 1 2 ++ service ++ empty_part_laid) ≡ no 5 20)
    × (reading (head 10 ++ user_definition 1 2 ++ service ++ empty_part_laid) ≡ no 5 20)
unfolding grammar
list_left = (refl, refl, refl, refl)

bit-left : (reading (head 6 ++ user ++ (3, 1) ∷ (1, 0) ∷ []) ≡ no 5 43)
    × (reading (head 9 ++ (3, 1) ∷ (1, 0) ∷ []) ≡ no 5 14)
    × (reading (head 13 ++ (2, 1) ∷ (1, 0) ∷ []) ≡ no 5 13)
unfolding grammar
bit-left = (refl, refl, refl)

-- ---- range ends

-- as affected users of a failed ACK
abbrev between : Identity → Identity → ℕ
between first last = pdu.fault (a.interrogate_ack (list 9 (first ∷ last ∷ [])) 0 0 covered zero_lists)

-- 199 to 199 is legal, also with the same extension; 200 to 199 gives 4, and so do a missing and another extension
range-ends : (between (near 199) (near 199) ≡ 0)
    × (between (far 1 199) (far 1 199) ≡ 0)
    × (between (near 200) (near 199) ≡ 4)
    × (between (far 1 100) (near 199) ≡ 4)
    × (between (far 0 100) (near 199) ≡ 4)
    × (between (far 1 100) (far 2 199) ≡ 4)
unfolding grammar
range-ends = (refl, refl, refl, refl, refl, refl)

-- 200 to 199: 4, where the second end begins; restricted in table 17, excepted in table 15
abbrev backwards : Elements
backwards = (4, 9) ∷ (24, 200) ∷ (1, 0) ∷ (24, 199) ∷ (1, 0) ∷ []

reversed : (reading (head 12 ++ user ++ (3, 1) ∷ (2, 0) ∷ service ++ (4, 0) ∷ backwards ++ (4, 0) ∷ []) ≡ no 4 84)
    × (reading (head 10 ++ user_definition 0 0 ++ service ++ (4, 0) ∷ (4, 0) ∷ backwards) ≡ no 4 57)
unfolding grammar
reversed = (refl, refl)

-- ---- a figure that is wider than its element gives 3 in writing

abbrev written : Record → ℕ
written r = pdu.fault r

abbrev one : Identities
one = list 1 (near 5 ∷ [])

too_wide : (written (a.define one 2 0 2 covered zero_lists) ≡ 3)
    × (written (a.define one 1 2 2 covered zero_lists) ≡ 3)
    × (written (a.define one 1 1 4 covered zero_lists) ≡ 3)
    × (written (a.define_ack one 8) ≡ 3)
    × (written (a.define_user 2 2 covered zero_lists) ≡ 3)
    × (written (a.define_user 1 4 covered zero_lists) ≡ 3)
    × (written (a.define_user_ack 8) ≡ 3)
    × (written (a.interrogate one 4) ≡ 3)
    × (written (a.interrogate_ack one 8 0 covered zero_lists) ≡ 3)
    × (written (a.interrogate_ack one 0 4 covered zero_lists) ≡ 3)
    × (written (a.call_barred 4) ≡ 3)
unfolding grammar
too_wide = (refl, refl, refl, refl, refl, refl, refl, refl, refl, refl, refl)
